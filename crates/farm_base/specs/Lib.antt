-- The definitions of `farm_base`, by subject.
pub mod Counts
pub mod Known
pub mod Appended
pub mod Steps
pub mod Options
pub mod Bytes
pub mod Laws
