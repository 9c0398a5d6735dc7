pub mod LeastLaws
pub mod MoveLaws
pub mod NextLaws
pub mod Outcomes
pub mod RowLaws
pub mod VisitLaws
pub mod WalkLaws
