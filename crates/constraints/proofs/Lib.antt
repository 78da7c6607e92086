pub mod TokenLaws
pub mod SideLaws
pub mod DomainLaws
pub mod FloorLaws
pub mod ComparisonLaws
pub mod RowLaws
pub mod ListLaws
