pub mod Segments
pub mod FunctionContracts
