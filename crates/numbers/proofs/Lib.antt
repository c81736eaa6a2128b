-- The laws of a number in the record. `Runs`, `RuledNumbers` and `Outcomes` are what promises cite; `Readers` and `ReaderCalls` are the steps
-- of a walk that carries a reader; the others are what the proofs of the functions and those stand on.
pub mod Lists
pub mod Groups
pub mod Loops
pub mod Parts
pub mod Readers
pub mod ReaderCalls
pub mod Runs
pub mod RuledNumbers
pub mod Outcomes
