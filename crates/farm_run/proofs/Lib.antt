-- The lemmas of `farm_run`, by topic.
pub mod Runs
pub mod CalcRuns
pub mod Saying
pub mod BatchRuns
pub mod BatchEnds
pub mod DisksLeft
pub mod NoDesks
pub mod InitRuns
pub mod ReportRuns
pub mod DrillRuns
