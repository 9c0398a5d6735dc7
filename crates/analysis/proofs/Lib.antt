pub mod ByteLaws
pub mod EntryLaws
pub mod HowAnAnalysisEnds
pub mod Outcomes
pub mod Demands
pub mod BytesAgree
pub mod EdgesInBytes
