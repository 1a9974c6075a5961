-- The definitions of `farm_batch`, by subject.
pub mod Limits
pub mod LineAnswers
pub mod Puts
pub mod Batches
pub mod Desks
pub mod Outcomes
