-- The definitions of `desk_access`, by subject.
pub mod Access
pub mod Spans
pub mod Sole
