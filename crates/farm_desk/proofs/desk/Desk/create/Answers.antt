-- Answers to the open goals of `create`.
use Rattle.std.proofs.Common.{◌∙◌, sym, subst, rules}
use Rattle.farm_site.specs.Sites.{described}
use Rattle.farm_desk.specs.Asking.{IsCrashSafe}
use Rattle.farm_desk.proofs.Made.{crash_safe, created_records, untouched_safe}
use Rattle.journaled_book.proofs.Traces.{extends_same}
use Rattle.farm_desk.proofs.desk.Desk.create.Goals as goal

pub returns-in-Err-clause-crash_safe : goal.returns-in-Err-clause-crash_safe
returns-in-Err-clause-crash_safe g c = untouched_safe g.row.LIMIT (described c.args.site) (g.D.Disk.trace c.args.disk)

pub returns-in-Err-clause-moves : goal.returns-in-Err-clause-moves
returns-in-Err-clause-moves g c =
    record {
      extends = extends_same (g.D.Disk.trace c.args.disk);
      moment = search rules;
    }

pub of_records-requires : goal.of_records-requires
of_records-requires g c =
    let kept =
    created_records g.D.Disk.trace g.row.LIMIT (described c.args.site) c.deref.result.now c.in-Ok.prepared.1.history c.in-Ok-create.journal
    (c.deref.ensures.value ∙ c.in-Ok.ensures.header) c.in-Ok.ensures.book c.in-Ok.ensures.sound c.in-Ok-create.ensures.stands in
    (search rules, (search rules, (c.requires.limit, kept)))

pub returns-in-Ok-create-clause-crash_safe : goal.returns-in-Ok-create-clause-crash_safe
returns-in-Ok-create-clause-crash_safe g c =
    subst (λ disk. IsCrashSafe g.row.LIMIT (described c.args.site) (g.D.Disk.trace c.args.disk) (g.D.Disk.trace disk)) (sym c.of_records.ensures.disk)
    (crash_safe g.row.LIMIT (described c.args.site) c.deref.result.now (g.D.Disk.trace c.args.disk) (g.D.Disk.trace c.in-Ok-create.journal.disk)
    (c.deref.ensures.value ∙ c.in-Ok.ensures.header) c.in-Ok.ensures.sound c.in-Ok-create.ensures.crash_safe)

pub returns-clause-crash_safe : goal.returns-clause-crash_safe
returns-clause-crash_safe g c =
    crash_safe g.row.LIMIT (described c.args.site) c.deref.result.now (g.D.Disk.trace c.args.disk) (g.D.Disk.trace c.in-Err-create.refusal.0)
    (c.deref.ensures.value ∙ c.in-Ok.ensures.header) c.in-Ok.ensures.sound c.in-Err-create.ensures.crash_safe
