pub mod PrintedLaws
pub mod Outcomes
pub mod Printout
pub mod FirstBytesDecide
