pub mod Load
pub mod FunctionContracts
