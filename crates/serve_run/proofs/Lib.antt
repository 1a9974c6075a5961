-- The lemmas of `serve_run`, by subject.
pub mod SummariesPut
pub mod Cuts
pub mod Failing
pub mod DisksLeft
pub mod PostsServed
