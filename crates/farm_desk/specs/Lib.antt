-- The definitions of `farm_desk`, by subject.
pub mod States
pub mod Asking
