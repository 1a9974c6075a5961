-- The definitions of `serve_run`, by subject.
pub mod Summaries
pub mod Endings
pub mod ServeRuns
