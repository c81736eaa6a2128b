-- What the contracts of this crate cite beside the definitions of `net` and `hanging`. `OneProof` has the law by which
-- a net with its index may carry a fact of `Rows`.
pub mod Notes
pub mod Ladder
pub mod Rows
pub mod OneProof
