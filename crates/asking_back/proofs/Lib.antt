pub mod FrameCounts
pub mod PlacedLaws
pub mod RoomLaws
pub mod Undoing
