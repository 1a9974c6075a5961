-- The definitions of `farm_movement`, by subject.
pub mod Movements
pub mod Balance
pub mod Closing
