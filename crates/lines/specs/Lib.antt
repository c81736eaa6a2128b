-- What the program prints, as bytes, in document 01's words. Definitions only; what is proved of them stands in
-- proofs/.
pub mod Text
pub mod Reading
pub mod Putting
pub mod Worked
