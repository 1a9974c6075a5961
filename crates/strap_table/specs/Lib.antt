-- The definitions of `strap_table`, by subject.
pub mod Limits
pub mod Capacity
pub mod Faults
pub mod Roofs
