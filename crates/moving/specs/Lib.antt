-- What is handed on for a record that is to be moved. Definitions only.
pub mod Handing
