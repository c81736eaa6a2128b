-- The laws of the walk's code, over plain lists; the proofs of the functions stand beside them in folders and hold plumbing only.
pub mod Lists
pub mod Trying
pub mod Links
pub mod Legs
pub mod Turns
pub mod Counting
pub mod Starting
pub mod Nets
