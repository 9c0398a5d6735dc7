pub mod WritingLaws
pub mod WritingASet
pub mod WriterIsDecided
pub mod RoundTrip
pub mod NothingPastTheCount
pub mod EdgesOfTheWriter
pub mod Outcomes
