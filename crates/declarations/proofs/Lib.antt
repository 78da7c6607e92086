pub mod DueLaws
pub mod IndexLaws
pub mod EntryLaws
pub mod RowLaws
pub mod ListLaws
