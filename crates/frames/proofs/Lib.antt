pub mod FrameLaws
pub mod RoomLaws
pub mod RoomSizes
pub mod StepLaws
pub mod UndoLaws
pub mod UnstagedLaws
