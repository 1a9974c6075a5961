-- The definitions of `farm_drill`, by subject.
pub mod Numbers
pub mod Commands
pub mod Drills
pub mod Laws
