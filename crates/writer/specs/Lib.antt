pub mod Writing
pub mod FunctionContracts
pub mod Outcomes
