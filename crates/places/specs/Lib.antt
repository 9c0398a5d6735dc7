pub mod Dates
pub mod FunctionContracts
