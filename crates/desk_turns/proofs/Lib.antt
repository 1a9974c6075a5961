-- The lemmas of `desk_turns`, by subject.
pub mod Counting
pub mod Seeing
pub mod Growing
pub mod Turning
pub mod Opening
pub mod Accounts
