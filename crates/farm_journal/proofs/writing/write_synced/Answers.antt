-- Answers to the open goals of `write_synced`.
use Rattle.std.proofs.Common.{refl}
use Rattle.farm_journal.proofs.Steps.{both_done, one_write, sync_failed, write_failed}
use Rattle.farm_journal.proofs.writing.write_synced.Goals as goal

pub returns-in_err-write_at-clause-step : goal.returns-in_err-write_at-clause-step
returns-in_err-write_at-clause-step g c =
    write_failed c.args.at c.args.bytes.now _ _ c.from_residual.result c.from_residual.ensures.0 c.in_err-write_at.ensures.states

pub returns-in_err-sync-clause-step : goal.returns-in_err-sync-clause-step
returns-in_err-sync-clause-step g c =
    sync_failed c.args.at c.args.bytes.now _ (g.D.Disk.trace c.write_at.new.self) _ c.from_residual-in_err-sync.result c.from_residual-in_err-sync.ensures.0
    c.in_ok-write_at.ensures.states c.in_err-sync.ensures.states

pub returns-clause-step : goal.returns-clause-step
returns-clause-step g c =
    both_done c.args.at c.args.bytes.now _ (g.D.Disk.trace c.write_at.new.self) _ _ refl c.in_ok-write_at.ensures.states c.in_ok-sync.ensures.states

pub returns-clause-one_write : goal.returns-clause-one_write
returns-clause-one_write g c =
    one_write c.args.at c.args.bytes.now _ (g.D.Disk.trace c.write_at.new.self) _ c.in_ok-write_at.ensures.states c.in_ok-sync.ensures.states
