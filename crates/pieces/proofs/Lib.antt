pub mod GatherLaws
pub mod SliceLaws
pub mod FedLaws
pub mod PieceLaws
pub mod RunLaws
pub mod TurnLaws
