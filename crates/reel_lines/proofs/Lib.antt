pub mod LineLaws
pub mod SumLaws
