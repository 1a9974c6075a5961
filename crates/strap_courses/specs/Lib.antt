-- The definitions of `strap_courses`, by subject.
pub mod Limits
pub mod Courses
pub mod Faults
pub mod Rows
pub mod Passes
