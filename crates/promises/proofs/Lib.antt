-- That it holds: a theorem for each file of specs/.
pub mod Taken
pub mod Moves
pub mod Demand1
pub mod Records
pub mod Ratios
pub mod Demand2
pub mod Demand3
pub mod Worked
pub mod Tied
pub mod Unique
