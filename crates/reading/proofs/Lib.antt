-- The laws of the record, from a few numbers to whole records, over those of the crates `numbers` and `writing`. `Outcomes`, `RoundTrip`, `Lengths` and `Ruled` are what
-- promises cite; the others are what the proofs of the functions and those four stand on.
pub mod Steps
pub mod Carrying
pub mod Carried
pub mod OneByOne
pub mod Passes
pub mod Owned
pub mod Stored
pub mod Laid
pub mod Stands
pub mod Parsed
pub mod RoundTrip
pub mod Kept
pub mod Lengths
pub mod Longest
pub mod Ruled
pub mod Outcomes
pub mod Worked
