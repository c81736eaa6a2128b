-- The laws of this crate, one idea a file; the folder of a function has the proof that it meets its contract.
pub mod Lists
pub mod Filling
pub mod Sides
pub mod Hanging
pub mod Measures
pub mod Paths
