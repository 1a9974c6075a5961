-- The lemmas of `case_trials`, by topic.
mod Calls
mod Lists
mod Visits
