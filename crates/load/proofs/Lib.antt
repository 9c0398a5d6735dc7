pub mod FindingH
pub mod ListLaws
pub mod LoadedLaws
pub mod Rules
pub mod Outcomes
