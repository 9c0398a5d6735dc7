pub mod TextLaws
pub mod Outcomes
