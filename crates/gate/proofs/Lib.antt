pub mod LimitLaws
pub mod GateLaws
pub mod BlockLaws
pub mod PartLaws
pub mod ReadyLaws
pub mod AskedLaws
pub mod CallFacts
pub mod FaultLaws
