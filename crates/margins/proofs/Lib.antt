-- Laws for the proofs of margin.
pub mod Margins
pub mod Unique
pub mod Meaning
