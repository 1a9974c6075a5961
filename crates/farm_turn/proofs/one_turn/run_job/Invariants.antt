-- The invariants of the loops of `run_job`.
use Rattle.std.proofs.Common.{◌-◌}
use Rattle.farm_turn.specs.Sharing.{only}
use Rattle.farm_turn.proofs.one_turn.run_job.Given as goal

-- what the job left
abbrev pub ghosts-count_entry : goal.ghosts-count_entry
ghosts-count_entry g a = record {
  past = g.V.Chronicle.past a.value.now;
  raised = g.V.Chronicle.tally a.value.now - (only a.seat.now.me).level;
  mark = g.V.Chronicle.mark a.value.now;
}
