-- How a function that the checker does not follow is proved by a short walk of its code: what it takes and gives (`Params`, `Types`), from a walk to a contract
-- (`Thin`, and `Held` for types that hold a lent slice), the steps of a walk (`Steps`, `Loops`), and all names that a walk takes in one place (`Walk`).
pub mod Params
pub mod Types
pub mod Thin
pub mod Steps
pub mod Held
pub mod Loops
pub mod Walk
