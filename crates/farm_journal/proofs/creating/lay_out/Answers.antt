-- Answers to the open goals of `lay_out`.
use Rattle.std.proofs.Common.{arith, refl}
use Rattle.farm_journal.proofs.LaidOut.{extends_three, three_rests, three_safe, two_safe}
use Rattle.farm_journal.proofs.MakingSteps.{extends_of, first_each, on_ok}
use Rattle.farm_journal.proofs.creating.lay_out.Goals as goal

pub returns-in_err-write_synced-clause-crash_safe : goal.returns-in_err-write_synced-clause-crash_safe
returns-in_err-write_synced-clause-crash_safe g c = λ header opening_is none short.
    first_each header _ _ _ none short c.write_synced.ensures.step

pub returns-in_err-write_synced-2-clause-crash_safe : goal.returns-in_err-write_synced-2-clause-crash_safe
returns-in_err-write_synced-2-clause-crash_safe g c = λ header opening_is none.
    two_safe header c.args.bytes.now opening_is _ (g.D.Disk.trace c.write_synced.new.disk) _ _ _ none refl
    c.in_ok-write_synced.ensures.step c.write_synced-2.ensures.step

pub returns-clause-crash_safe : goal.returns-clause-crash_safe
returns-clause-crash_safe g c = λ header opening_is none.
    three_safe header c.args.bytes.now opening_is _ (g.D.Disk.trace c.write_synced.new.disk) (g.D.Disk.trace c.write_synced-2.new.disk) _ _ none refl
    c.in_ok-write_synced.ensures.step c.in_ok-write_synced-2.ensures.step _ _ refl c.write_synced-3.ensures.step

pub returns-clause-rests : goal.returns-clause-rests
returns-clause-rests g c = λ header opening_is none.
    on_ok c.write_synced-3.result _ (λ done.
    three_rests header c.args.bytes.now opening_is _ (g.D.Disk.trace c.write_synced.new.disk) (g.D.Disk.trace c.write_synced-2.new.disk) _ _ none refl
    c.in_ok-write_synced.ensures.step c.in_ok-write_synced-2.ensures.step _ _ refl c.write_synced-3.ensures.step done)

pub returns-clause-moves : goal.returns-clause-moves
returns-clause-moves g c =
    record {
      extends = extends_three _ (g.D.Disk.trace c.write_synced.new.disk) (g.D.Disk.trace c.write_synced-2.new.disk) _
          (extends_of _ _ _ _ _ c.write_synced.ensures.step) (extends_of _ _ _ _ _ c.write_synced-2.ensures.step) (extends_of _ _ _ _ _ c.write_synced-3.ensures.step);
      moment = omega (arith, c.write_synced.ensures.moment, c.write_synced-2.ensures.moment, c.write_synced-3.ensures.moment);
    }
