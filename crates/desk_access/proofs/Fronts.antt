-- Histories that continue others, and their prefixes: the lemmas of `farm_desk`.
pub use Rattle.farm_desk.proofs.Fronts.{continues_on, entries_of_longer, front_of_front, front_of_longer, front_whole, no_shorter}
pub use Rattle.farm_desk.proofs.Continuing.{grown_continues}
