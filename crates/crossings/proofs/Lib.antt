-- The laws of the crossings: of lists (`Lists`), and of `take_in`'s loop (`Taking`).
pub mod Lists
pub mod Taking
