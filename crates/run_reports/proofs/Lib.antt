-- The lemmas of `run_reports`, by topic.
pub mod Known
pub mod Printing
pub mod Refusals
pub mod NoDesks
pub mod DisksLeft
