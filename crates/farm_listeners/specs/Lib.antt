-- The definitions of `farm_listeners`, by subject.
pub mod Listeners
pub mod Objects
pub mod Visits
