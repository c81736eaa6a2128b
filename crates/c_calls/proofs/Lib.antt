-- Laws for the proofs of the functions for C, and what their contracts come to.
pub mod Table
pub mod Answered
pub mod Unique
pub mod Worked
