-- What the contracts of the functions for C cite. Definitions only.
pub mod Numbers
pub mod Left
pub mod Worked
