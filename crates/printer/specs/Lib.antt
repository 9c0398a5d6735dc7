pub mod Text
pub mod Answered
pub mod Growing
pub mod FunctionContracts
