-- The definitions of `site_toml`, by subject.
pub mod Formats
pub mod Names
pub mod Rounding
pub mod Parties
pub mod Products
pub mod Shells
pub mod Tanks
