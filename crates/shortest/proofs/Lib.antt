-- The laws of this crate, one idea a file; the folder of a function has the proof that it meets its contract.
pub mod Settling
pub mod Ladder
pub mod Rows
pub mod Sides
pub mod Running
pub mod Alike
pub mod Trees
pub mod Apart
