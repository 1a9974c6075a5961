-- The definitions of `http_heads`, by subject.
pub mod Limits
pub mod Lines
pub mod Fields
pub mod Rows
pub mod Fronts
pub mod Laws
pub mod Gathered
