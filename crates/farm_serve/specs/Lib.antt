-- The definitions of `farm_serve`, by subject.
pub mod Sharing
pub mod Ends
