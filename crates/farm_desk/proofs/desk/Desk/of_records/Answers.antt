-- Answers to the open goals of `of_records`.
use Rattle.std.proofs.Common.{◌≡◌, ◌∙◌, length, sym, ap, subst, arith, rules}
use Rattle.farm_disk.specs.Runs.{Extends}
use Rattle.journaled_book.proofs.Traces.{extends_same}
use Rattle.farm_desk.proofs.Made.{images_from, images_now}
use Rattle.farm_desk.proofs.desk.Desk.of_records.Goals as goal

pub invariant_of-result : goal.invariant_of-result
invariant_of-result g c =
    let counted : length c.entries.result.now ≡ length c.args.book.history.entries = ap length c.entries.ensures.entries in
    let found : c.of-found.result.value ≡ c.args.journal.disk = c.of-found.ensures ∙ c.disk.ensures.disk in
    record {
      records = c.requires.kept;
      since = images_from g.D.Disk.trace g.row.LIMIT c.args.book.history c.args.journal c.stand-stand.result.moment (length c.entries.result.now)
          c.requires.kept c.stand-stand.ensures.states (omega arith);
      extends = subst (λ disk. Extends (g.D.Disk.trace disk) (g.D.Disk.trace c.args.journal.disk)) (sym found) (extends_same (g.D.Disk.trace c.args.journal.disk));
      moment_is = c.stand-stand.ensures.moment ∙ ap g.D.Disk.moment (sym found);
      faults_is = c.stand-stand.ensures.faults ∙ ap g.D.Disk.faults (sym found);
      moment_on = omega (arith, c.stand-stand.ensures.moment);
      counted = sym c.stand-stand.ensures.faults;
      least = omega arith;
      small = search rules;
    }

pub returns-clause-durable : goal.returns-clause-durable
returns-clause-durable g c =
    let counted : length c.entries.result.now ≡ length c.args.book.history.entries = ap length c.entries.ensures.entries in
    let found : c.of-found.result.value ≡ c.args.journal.disk = c.of-found.ensures ∙ c.disk.ensures.disk in
    record {
      since = images_from g.D.Disk.trace g.row.LIMIT c.args.book.history c.args.journal c.stand-stand.result.moment (length c.entries.result.now)
          c.requires.kept c.stand-stand.ensures.states (omega arith);
      now = images_now g.D.Disk.trace g.row.LIMIT c.args.book.history c.args.journal c.requires.kept;
      begins = omega arith;
      extends = subst (λ disk. Extends (g.D.Disk.trace disk) (g.D.Disk.trace c.args.journal.disk)) (sym found) (extends_same (g.D.Disk.trace c.args.journal.disk));
      moment_is = c.stand-stand.ensures.moment ∙ ap g.D.Disk.moment (sym found);
      faults_is = c.stand-stand.ensures.faults ∙ ap g.D.Disk.faults (sym found);
      moment_on = omega (arith, c.stand-stand.ensures.moment);
      counted = sym c.stand-stand.ensures.faults;
    }
