-- What the contracts of building cite. Definitions only.
pub mod Answers
