pub mod NumLaws
pub mod FourLaws
pub mod MoveLaws
