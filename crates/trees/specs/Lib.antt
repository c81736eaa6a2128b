-- What the contracts of the trees, and the inner contracts of building and margin, cite. Definitions only.
pub mod Ratios
pub mod Worked
pub mod Along
