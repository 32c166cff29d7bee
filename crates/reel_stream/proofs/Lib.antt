pub mod ReelLaws
