-- Answers to the open goals of `laid_out`.
use Rattle.farm_journal.proofs.Measured.{gives_none, is_opening, safe_from, was_empty}
use Rattle.farm_journal.proofs.creating.laid_out.Goals as goal

pub returns-clause-rests : goal.returns-clause-rests
returns-clause-rests g c =
    c.in_ok-lay_out.ensures.rests c.args.header.now (is_opening _ _ _ c.deref.ensures.value c.in_ok-bytes.ensures c.requires.short)
    (gives_none _ (g.D.Disk.trace c.len.new.self) _ c.in_ok-len.ensures.size c.if-branch-gt0.false)

pub returns-clause-was_empty : goal.returns-clause-was_empty
returns-clause-was_empty g c =
    was_empty (g.D.Disk.trace c.args.disk.now) (g.D.Disk.trace c.len.new.self) (g.D.Disk.trace c.lay_out.new.disk) c.in_ok-len.ensures.size.stays
    (gives_none _ (g.D.Disk.trace c.len.new.self) _ c.in_ok-len.ensures.size c.if-branch-gt0.false) c.lay_out.ensures.moves.extends

pub returns-clause-crash_safe : goal.returns-clause-crash_safe
returns-clause-crash_safe g c =
    safe_from c.args.header.now (g.D.Disk.trace c.args.disk.now) (g.D.Disk.trace c.len.new.self) (g.D.Disk.trace c.lay_out.new.disk) c.in_ok-len.ensures.size.stays
    (c.lay_out.ensures.crash_safe c.args.header.now (is_opening _ _ _ c.deref.ensures.value c.in_ok-bytes.ensures c.requires.short)
    (gives_none _ (g.D.Disk.trace c.len.new.self) _ c.in_ok-len.ensures.size c.if-branch-gt0.false))

pub returns-in_err-lay_out-clause-crash_safe : goal.returns-in_err-lay_out-clause-crash_safe
returns-in_err-lay_out-clause-crash_safe g c =
    safe_from c.args.header.now (g.D.Disk.trace c.args.disk.now) (g.D.Disk.trace c.len.new.self) (g.D.Disk.trace c.lay_out.new.disk) c.in_ok-len.ensures.size.stays
    (c.lay_out.ensures.crash_safe c.args.header.now (is_opening _ _ _ c.deref.ensures.value c.in_ok-bytes.ensures c.requires.short)
    (gives_none _ (g.D.Disk.trace c.len.new.self) _ c.in_ok-len.ensures.size c.if-branch-gt0.false))
