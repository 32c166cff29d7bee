pub mod SecantRows
pub mod StageSizes
pub mod RowLaws
pub mod FrameSizes
pub mod StageLaws
pub mod PartLaws
pub mod ChainLaws
