-- The definitions of `farm_site`, by subject.
pub mod Limits
pub mod Texts
pub mod Names
pub mod Numbers
pub mod Products
pub mod Parties
pub mod Tanks
pub mod Formats
pub mod Facts
pub mod Lines
pub mod Typed
pub mod Described
pub mod Sites
