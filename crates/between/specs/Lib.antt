-- What the contracts of the walk's code cite, over the definitions of `net`. Definitions only.
pub mod Given
pub mod Laying
pub mod Children
pub mod Asked
