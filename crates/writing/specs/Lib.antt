-- What document 01 says of writing a record, in its words and its order. Definitions only; what is proved of them
-- stands in proofs/.
pub mod Writing
pub mod Answers
pub mod Rules
pub mod Putting
