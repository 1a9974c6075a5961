-- The lemmas of `line_posts`, by subject.
pub mod Longer
pub mod Requesting
pub mod Proceeding
pub mod Dues
pub mod OnePoll
pub mod OneRound
pub mod Remembering
pub mod OneRun
pub mod Continuing
