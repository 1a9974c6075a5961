-- The definitions of `farm_disk`, by subject.
pub mod Images
pub mod Calls
pub mod Laws
pub mod Memory
pub mod Rebuilt
pub mod Files
pub mod Runs
