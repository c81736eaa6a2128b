-- What the proofs of the checks cite; they stand beside it in folders.
pub mod Ways
pub mod Says
