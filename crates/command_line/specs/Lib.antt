-- The definitions of `command_line`, by subject.
pub mod Limits
pub mod Options
pub mod Numbers
pub mod Names
pub mod Serve
pub mod Drill
pub mod Commands
pub mod Forms
pub mod Tests
pub mod Reading
