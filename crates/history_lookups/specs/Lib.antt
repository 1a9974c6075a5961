-- The definitions of `history_lookups`, by subject.
pub mod Pasts
pub mod Pairs
pub mod Sought
pub mod Bounds
pub mod Closings
pub mod Ledgers
