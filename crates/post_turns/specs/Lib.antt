-- The definitions of `post_turns`, by subject.
pub mod Running
