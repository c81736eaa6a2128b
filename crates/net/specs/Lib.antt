-- What document 01 says of a net, in its words and its order. Definitions only; what is proved of them stands in
-- proofs/.
pub mod Words
pub mod Net
pub mod Refusals
pub mod Rules
pub mod Ready
pub mod Trees
pub mod Walk
pub mod WalkRules
pub mod Building
pub mod Worked
