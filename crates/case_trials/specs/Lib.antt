-- The definitions of `case_trials`, by subject.
pub mod Calls
pub mod Patches
pub mod Visits
