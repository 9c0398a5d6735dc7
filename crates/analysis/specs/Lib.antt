pub mod InBytes
pub mod LegalSets
pub mod FunctionContracts
pub mod Demands
