-- Laws for the proofs of the functions that say things in numbers. `Fronts` is what the functions for C stand on too.
pub mod Fronts
pub mod Floats
