pub mod Format
pub mod Reading
pub mod FunctionContracts
pub mod Outcomes
