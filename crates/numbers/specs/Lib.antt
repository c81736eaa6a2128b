-- What document 01 says of a number in the record, in its words and its order. Definitions only; what is proved of them
-- stands in proofs/.
pub mod Numbers
pub mod Putting
pub mod Answers
pub mod Rules
