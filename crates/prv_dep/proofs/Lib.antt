pub mod DependenceLaws
pub mod MaskLaws
pub mod OverwriteLaws
pub mod RowLaws
