pub mod Multiples
pub mod TestLengths
pub mod Exactness
pub mod Approximation
pub mod Growth
pub mod Sizes
