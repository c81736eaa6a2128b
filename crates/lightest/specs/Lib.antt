-- What the functions of this crate promise, in document 01's words. Definitions only; what is proved of them stands in
-- proofs/.
pub mod Order
pub mod Parts
pub mod Marks
pub mod Worked
