-- The definitions of `farm_indexes`, by subject.
pub mod Keys
pub mod TankStates
pub mod Notes
pub mod OpenMoves
pub mod Issuing
pub mod LastFigures
pub mod Following
pub mod Indexing
pub mod Figured
