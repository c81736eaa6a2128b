-- Laws for the proofs of the moves, and what their contracts come to. `Ruled`, `There`, `Outcomes`, `Alike` and `Worked` are what promises cite.
pub mod Forms
pub mod Tests
pub mod Ruled
pub mod Given
pub mod There
pub mod Outcomes
pub mod Alike
pub mod Worked
