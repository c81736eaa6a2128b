-- What the contracts of the functions that say things in numbers cite. Definitions only.
pub mod Named
pub mod Lists
