-- The laws of `lightest`. The order: Ordering, and in code Counting, Spreading, Digits, Keys. Parts by labels: Renaming, Members, Rings, Along, Joining, Seldom,
-- Parts, and rows worked by hand, Worked. Belonging: Passing, Marked, Presence. Lists as a net: Fitting. Loops that store, and three lists side by side, are
-- `net`'s (its Blend and Segments).
pub mod Ordering
pub mod Renaming
pub mod Counting
pub mod Spreading
pub mod Digits
pub mod Keys
pub mod Fitting
pub mod Members
pub mod Rings
pub mod Along
pub mod Joining
pub mod Seldom
pub mod Worked
pub mod Parts
pub mod Passing
pub mod Marked
pub mod Presence
