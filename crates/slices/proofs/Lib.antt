pub mod FourLaws
pub mod MoveLaws
pub mod Parts
