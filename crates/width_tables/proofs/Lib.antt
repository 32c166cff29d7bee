pub mod OrderLaws
pub mod PartLaws
pub mod ListLaws
pub mod FillLaws
pub mod TableSizes
pub mod CutLaws
