-- The definitions of `desk_turns`, by subject.
pub mod Jobs
pub mod Tallies
pub mod Turns
pub mod Closing
