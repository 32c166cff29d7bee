pub mod ValveLaws
pub mod CallLaws
