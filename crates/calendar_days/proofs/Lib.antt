-- What the prover couldn't find by itself, by subject.
pub mod Days
pub mod JiffCalendar
pub mod Texts
