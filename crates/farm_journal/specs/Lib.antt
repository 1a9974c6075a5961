-- The definitions of `farm_journal`, by subject.
pub mod Limits
pub mod Layout
pub mod Buffers
pub mod Recovery
pub mod Windows
pub mod Progress
pub mod Steps
pub mod Standing
pub mod Creating
pub mod Laws
