-- What the contracts of the functions on records cite. Definitions only.
pub mod Asked
pub mod Says
