-- Laws for the proofs of the functions on records, and what their contracts come to.
pub mod Given
pub mod Unique
pub mod Room
