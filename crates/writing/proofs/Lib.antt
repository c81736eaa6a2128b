-- The laws of writing a record, from bytes put one behind the other to the answer. `Outcomes` and `RuledWriting` are
-- what promises cite; the others are what the proofs of the functions, those two and the laws of `reading` stand on.
pub mod Lines
pub mod Puts
pub mod Posts
pub mod Sizes
pub mod RuledWriting
pub mod Outcomes
pub mod Writes
