-- What the contracts of margin cite. Definitions only.
pub mod Answers
