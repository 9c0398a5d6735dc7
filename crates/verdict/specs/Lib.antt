pub mod Printed
pub mod FunctionContracts
