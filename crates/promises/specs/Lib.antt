-- What is promised: the three demands, one file each, and the one table of worked examples.
pub mod Promised
pub mod Entries
pub mod Tied
pub mod Moves
pub mod Demand1
pub mod Ratios
pub mod Records
pub mod Demand2
pub mod Demand3
pub mod Worked
pub mod Unique
