-- What a batch keeps of a desk over one line after another.
use Rattle.std.proofs.Common.{ℕ, List, Option, refl, ◌∙◌, arith}
use Rattle.farm_disk.specs.Images.{State}
use Rattle.farm_disk.proofs.Extending.{extends_more}
use Rattle.journaled_book.proofs.Traces.{extends_same}
use Rattle.farm_desk.specs.States.{DeskState}
use Rattle.farm_batch.specs.Desks.{KeepsDesk}

module _ {D : Type 0} (trace : D → Option (List State)) (moment faults : D → ℕ) (limit : ℕ) where
  -- a desk on which nothing was done is kept
  pub keeps_same : (desk : DeskState D) → KeepsDesk trace moment faults limit desk desk
  keeps_same desk = record {
    opened = refl;
    surer = omega arith;
    acknowledged = λ from count fewer each. each;
    extends = extends_same (trace desk.disk);
    moment_on = omega arith;
    never_falls = omega arith;
  }

  -- what is kept over a line and over the next is kept over both
  pub keeps_more : (before middle after : DeskState D) → KeepsDesk trace moment faults limit before middle →
      KeepsDesk trace moment faults limit middle after → KeepsDesk trace moment faults limit before after
  keeps_more before middle after first second = record {
    opened = second.opened ∙ first.opened;
    surer = omega (arith, first.surer, second.surer);
    acknowledged = λ from count fewer each.
        second.acknowledged from count (omega (arith, fewer, first.surer)) (first.acknowledged from count fewer each);
    extends = extends_more (trace before.disk) (trace middle.disk) (trace after.disk) first.extends second.extends;
    moment_on = omega (arith, first.moment_on, second.moment_on);
    never_falls = omega (arith, first.never_falls, second.never_falls);
  }
