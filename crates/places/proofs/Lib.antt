pub mod LayingLaws
pub mod Outcomes
