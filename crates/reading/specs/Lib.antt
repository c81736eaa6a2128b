-- What document 01 says of reading a record, in its words and its order, and its worked examples both ways; of
-- writing, the crate `writing`. Definitions only; what is proved of them stands in proofs/.
pub mod Reading
pub mod Answers
pub mod Rules
pub mod Longest
pub mod Worked
pub mod Carrying
