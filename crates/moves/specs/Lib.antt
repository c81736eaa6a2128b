-- What the contracts of the moves cite. Definitions only.
pub mod Moves
pub mod Rules
pub mod Worked
