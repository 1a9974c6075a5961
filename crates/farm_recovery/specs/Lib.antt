-- The definitions of `farm_recovery`, by subject.
pub mod Accepting
pub mod Recovery
pub mod Laws
