-- What is proved of what is handed on.
pub mod Given
pub mod Whole
pub mod Room
