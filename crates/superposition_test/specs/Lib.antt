pub mod Walk
pub mod FunctionContracts
