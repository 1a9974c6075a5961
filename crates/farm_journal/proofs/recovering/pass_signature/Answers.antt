-- Answers to the open goals of `pass_signature`.
use Rattle.std.proofs.Common.{◌≡◌, ◌≤◌, length, true, false, nat_eq, sym, ap, ◌∙◌, subst}
use Rattle.std.specs.List.{starts_with}
use Rattle.farm_base.specs.Known.{WhereKnown}
use Rattle.farm_disk.specs.Images.{present}
use Rattle.farm_journal.specs.Layout.{signature}
use Rattle.farm_journal.specs.Recovery.{IsNotJournal}
use Rattle.farm_journal.proofs.RecoverySteps.{has_signature_seen, looked_true, no_signature_seen}
use Rattle.farm_journal.proofs.recovering.pass_signature.Goals as goal

pub returns-then-not-starts_with-clause-refused : goal.returns-then-not-starts_with-clause-refused
unfolding signature
returns-then-not-starts_with-clause-refused g c =
    let window = c.look.new.self in
    let within : 13 ≤ length window.ahead = looked_true _ _ 13 window.ahead _ c.if-not-branch.false c.in_ok-look.ensures.looked in
    let other : false ≡ starts_with nat_eq window.ahead signature =
    c.if-not-starts_with.ensures.value ∙ ap (λ ahead. starts_with nat_eq ahead signature) c.ahead.ensures in
    no_signature_seen (g.D.Disk.trace window.disk) window.offset window.ahead (c.look.ensures.offset ∙ c.requires.start) within
    c.look.ensures.shows other

pub returns-clause-is_journal : goal.returns-clause-is_journal
unfolding signature
returns-clause-is_journal g c =
    let window = c.look.new.self in
    let within : 13 ≤ length window.ahead = looked_true _ _ 13 window.ahead _ c.if-not-branch.false c.in_ok-look.ensures.looked in
    let same : true ≡ starts_with nat_eq window.ahead signature =
    c.if-not-starts_with.ensures.value ∙ ap (λ ahead. starts_with nat_eq ahead signature) c.ahead.ensures in
    subst (λ disk. WhereKnown (g.D.Disk.trace disk) (λ states. IsNotJournal (present states).seen → ⊥)) (sym c.pass.ensures.disk)
    (has_signature_seen (g.D.Disk.trace window.disk) window.offset window.ahead (c.look.ensures.offset ∙ c.requires.start) within
    c.look.ensures.shows same)
