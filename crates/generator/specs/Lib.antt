pub mod Contract
pub mod Generated
