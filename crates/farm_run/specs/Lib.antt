-- The definitions of `farm_run`, by subject.
pub mod Texts
pub mod OutputTexts
pub mod Runs
pub mod BatchRuns
pub mod ReportRuns
pub mod DrillRuns
pub mod InitRuns
