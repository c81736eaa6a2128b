-- The laws of the printed lines, each file above only what it needs; the proofs of the functions stand beside them in folders.
pub mod Placing
pub mod Digits
pub mod Lengths
pub mod Entries
pub mod Meaning
pub mod Worked
