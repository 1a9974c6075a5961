-- The definitions of `farm_fixed`, by subject.
pub mod Limits
pub mod Range
pub mod Text
pub mod Parsing
pub mod Numerals
pub mod Printing
pub mod Whole
pub mod Shells
