pub mod Widths
pub mod Angles
pub mod Numbers
pub mod Boxes
pub mod BoxEnds
pub mod Statement
