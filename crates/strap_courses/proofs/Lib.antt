-- The lemmas of `strap_courses`, by topic.
pub mod Climbs
pub mod Deadwoods
pub mod Faultless
pub mod Points
pub mod Quotients
pub mod Rises
pub mod Segments
pub mod Spans
pub mod Table
pub mod FirstPoint
pub mod FirstFault
pub mod FirstRow
