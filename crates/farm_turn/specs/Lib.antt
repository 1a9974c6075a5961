-- The definitions of `farm_turn`, by subject.
pub mod Chronicles
pub mod Views
pub mod Turning
pub mod Steps
pub mod Sharing
