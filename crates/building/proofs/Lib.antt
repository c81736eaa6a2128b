-- Laws for the proofs of building.
pub mod Ways
pub mod Unique
pub mod Meaning
