-- Laws for the proofs of the trees, and for those of building and margin above them.
pub mod Ratios
pub mod Ready
pub mod Joined
pub mod Preparing
pub mod Along
pub mod Walk
pub mod Unique
