-- The lemmas of `command_line`, by topic.
pub mod Parsing
pub mod Fronts
pub mod Beginnings
pub mod Forms
pub mod Spellings
pub mod Names
pub mod Serving
pub mod Arguments
pub mod ClapWalks
pub mod Testing
pub mod ReadValues
