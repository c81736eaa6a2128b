-- What the contracts over lent lists cite. Definitions only.
pub mod Reading
