-- The definitions of `drawn`: what the contract cites (Drawn), document 01's number and place for each answer (Says),
-- its rules one by one (Rules), and its worked examples (Worked).
pub mod Drawn
pub mod Says
pub mod Rules
pub mod Worked
