-- Laws for the program's proofs, and what they come to: the text on the whole input, and document 01's runs.
pub mod Printing
pub mod Whole
pub mod Worked
