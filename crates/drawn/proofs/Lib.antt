-- The laws of `drawn`. From numbers to bits: Zeros, Measured, Fields, Bits. What the definitions say: Rules, Lengths, Worked.
pub mod Zeros
pub mod Measured
pub mod Fields
pub mod Bits
pub mod Rules
pub mod Lengths
pub mod Worked
