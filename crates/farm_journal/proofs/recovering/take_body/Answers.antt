-- Answers to the open goals of `take_body`.
use Rattle.std.proofs.Common.{◌≡◌, ◌+◌, [], ◌∷◌, ap, sym, ◌∙◌, subst, arith, rules, Err}
use Rattle.std.specs.Prelude.{IfErr}
use Rattle.farm_base.specs.Known.{Stays}
use Rattle.farm_journal.specs.Progress.{HasTaken, IsDamageOr, IsGate, IsRefusedWith}
use Rattle.farm_journal.specs.Recovery.{IsJudged, IsWhole, TakesNext}
use Rattle.farm_journal.specs.Windows.{BeginsWith, WhereLeft}
use Rattle.farm_base.proofs.Known.{stays_then}
use Rattle.farm_journal.proofs.Known.{known_still}
use Rattle.farm_journal.proofs.Records.{counting_within}
use Rattle.farm_journal.proofs.Refusing.{gave_up, refused_cut, refused_no_gate}
use Rattle.farm_journal.proofs.Taking.{ahead_of, given_is, taken_still, went_on}
use Rattle.farm_journal.proofs.recovering.take_body.Goals as goal

pub is_open-requires-clause-offset : goal.is_open-requires-clause-offset
is_open-requires-clause-offset g c =
    omega (arith, counting_within (g.T.Taker.taken c.args.taker.now) c.requires.before.short, c.requires.before.reached, c.requires.place, c.ranges.place)

pub pass-requires-clause-offset : goal.pass-requires-clause-offset
pass-requires-clause-offset g c =
    omega (arith, counting_within (g.T.Taker.taken c.args.taker.now) c.requires.before.short, c.requires.before.reached, c.requires.place, c.ranges.place)

pub counted_at-requires-clause-offset : goal.counted_at-requires-clause-offset
counted_at-requires-clause-offset g c =
    omega (arith, counting_within (g.T.Taker.taken c.args.taker.now) c.requires.before.short, c.requires.before.reached, c.requires.place, c.ranges.place)

pub pass-requires-2-clause-offset : goal.pass-requires-2-clause-offset
pass-requires-2-clause-offset g c =
    omega (arith, counting_within (g.T.Taker.taken c.args.taker.now) c.requires.before.short, c.requires.before.reached, c.requires.place, c.ranges.place)

-- there is no gate
pub returns-in_err-is_open-clause-refused : goal.returns-in_err-is_open-clause-refused
returns-in_err-is_open-clause-refused g c =
    let known = g.D.Disk.trace c.is_open.new.window.disk in
    let fault = c.in_err-is_open.field-0.0 in
    let is : c.from_residual.result ≡ Err fault = search rules in
    let has = taken_still g.T.Taker.accepts (g.T.Taker.taken c.args.taker.now) (g.D.Disk.trace c.args.window.now.disk) known
    c.args.window.now.offset c.is_open.ensures.keeps.stays c.requires.before in
    subst (λ result. IfErr result (IsRefusedWith g.T.Taker.accepts (g.T.Taker.taken c.args.taker.now) known)) (sym is)
    (refused_no_gate g.T.Taker.accepts (g.T.Taker.taken c.args.taker.now) known c.args.window.now.offset c.args.place fault has
    c.requires.place c.in_err-is_open.ensures.refused)

-- the gate is open, and what is left after it isn't whole
pub returns-in_err-size-clause-refused : goal.returns-in_err-size-clause-refused
returns-in_err-size-clause-refused g c =
    let trace = g.D.Disk.trace in
    let first = c.is_open.new.window in
    let offset = c.args.window.now.offset in
    let known = trace c.counted_at.new.window.disk in
    let taken = g.T.Taker.taken c.args.taker.now in
    let fault = c.in_err-size.field-0.0 in
    let is : c.from_residual-in_err-size.result ≡ Err fault = search rules in
    let then : Stays (trace first.disk) known = subst (λ disk. Stays (trace disk) known) c.pass.ensures.disk c.counted_at.ensures.keeps.stays in
    let stays = stays_then (trace c.args.window.now.disk) (trace first.disk) known c.is_open.ensures.keeps.stays then in
    let is_open : BeginsWith (1 ∷ []) first.ahead =
    subst (λ there. IsGate (trace first.disk) offset first.ahead there) c.if-not-branch.false c.in_ok-is_open.ensures.gate in
    let gate : WhereLeft (trace first.disk) offset (BeginsWith first.ahead) =
    subst (λ offset. WhereLeft (trace first.disk) offset (BeginsWith first.ahead)) c.is_open.ensures.offset c.is_open.ensures.shows in
    let after : c.pass.new.self.offset ≡ offset + 1 = c.pass.ensures.offset ∙ ap (λ offset. offset + 1) c.is_open.ensures.offset in
    subst (λ result. IfErr result (IsRefusedWith g.T.Taker.accepts taken known)) (sym is)
    (refused_cut g.T.Taker.accepts taken known offset c.args.place first.ahead fault
    (taken_still g.T.Taker.accepts taken (trace c.args.window.now.disk) known offset stays c.requires.before)
    c.requires.place is_open (known_still (trace first.disk) known _ then gate)
    (subst (λ offset. IsDamageOr known offset c.args.place (λ left. IsWhole left → ⊥) fault) after c.in_err-size.ensures.refused))

-- the taker hasn't taken the body
pub returns-in_err-or_refused-clause-refused : goal.returns-in_err-or_refused-clause-refused
returns-in_err-or_refused-clause-refused g c =
    let trace = g.D.Disk.trace in
    let first = c.is_open.new.window in
    let second = c.counted_at.new.window in
    let offset = c.args.window.now.offset in
    let known = trace second.disk in
    let taken = g.T.Taker.taken c.args.taker.now in
    let now = g.T.Taker.taken c.body-answer.new.self in
    let size = c.in_ok-size.size in
    let fault = c.in_err-or_refused.field-0.0 in
    let is : c.from_residual-in_err-or_refused.result ≡ Err fault = search rules in
    let then : Stays (trace first.disk) known = subst (λ disk. Stays (trace disk) known) c.pass.ensures.disk c.counted_at.ensures.keeps.stays in
    let stays = stays_then (trace c.args.window.now.disk) (trace first.disk) known c.is_open.ensures.keeps.stays then in
    let is_ahead =
    ahead_of trace first c.pass.new.self second offset size c.in_ok-is_open.field-0 c.is_open.ensures.shows c.is_open.ensures.offset
    c.if-not-branch.false c.in_ok-is_open.ensures.gate c.pass.ensures.disk c.pass.ensures.offset c.counted_at.ensures.keeps.stays
    c.counted_at.ensures.offset c.counted_at.ensures.shows c.in_ok-size.ensures.counted in
    let body = given_is size c.ahead.result.now second.ahead c.ahead.ensures in
    subst (λ result. IfErr result (IsRefusedWith g.T.Taker.accepts now (trace c.pass-2.new.self.disk))) (sym is)
    (subst (λ disk. IsRefusedWith g.T.Taker.accepts now (trace disk) fault) (sym c.pass-2.ensures.disk)
    (gave_up g.T.Taker.accepts taken now known offset c.args.place size first.ahead second.ahead c.body-answer.result fault
    (taken_still g.T.Taker.accepts taken (trace c.args.window.now.disk) known offset stays c.requires.before) c.requires.place is_ahead
    (subst (λ body. IsJudged (g.T.Taker.accepts taken body) c.body-answer.result) body c.body-answer.ensures.judged)
    (subst (λ body. TakesNext taken now body c.body-answer.result) body c.body-answer.ensures.taken)
    c.in_err-or_refused.ensures))

-- the taker has taken the body
pub returns-clause-taken : goal.returns-clause-taken
returns-clause-taken g c =
    let trace = g.D.Disk.trace in
    let first = c.is_open.new.window in
    let second = c.counted_at.new.window in
    let offset = c.args.window.now.offset in
    let known = trace second.disk in
    let taken = g.T.Taker.taken c.args.taker.now in
    let now = g.T.Taker.taken c.body-answer.new.self in
    let size = c.in_ok-size.size in
    let then : Stays (trace first.disk) known = subst (λ disk. Stays (trace disk) known) c.pass.ensures.disk c.counted_at.ensures.keeps.stays in
    let stays = stays_then (trace c.args.window.now.disk) (trace first.disk) known c.is_open.ensures.keeps.stays then in
    let after : second.offset ≡ offset + 1 =
    c.counted_at.ensures.offset ∙ c.pass.ensures.offset ∙ ap (λ offset. offset + 1) c.is_open.ensures.offset in
    let is_ahead =
    ahead_of trace first c.pass.new.self second offset size c.in_ok-is_open.field-0 c.is_open.ensures.shows c.is_open.ensures.offset
    c.if-not-branch.false c.in_ok-is_open.ensures.gate c.pass.ensures.disk c.pass.ensures.offset c.counted_at.ensures.keeps.stays
    c.counted_at.ensures.offset c.counted_at.ensures.shows c.in_ok-size.ensures.counted in
    let body = given_is size c.ahead.result.now second.ahead c.ahead.ensures in
    let went = went_on g.T.Taker.accepts taken now known offset c.args.place size first.ahead second.ahead c.body-answer.result c.in_ok-or_refused.field-0
    (taken_still g.T.Taker.accepts taken (trace c.args.window.now.disk) known offset stays c.requires.before) is_ahead
    (subst (λ body. IsJudged (g.T.Taker.accepts taken body) c.body-answer.result) body c.body-answer.ensures.judged)
    (subst (λ body. TakesNext taken now body c.body-answer.result) body c.body-answer.ensures.taken)
    c.in_ok-or_refused.ensures in
    let end : offset + 1 + (4 + size) ≡ c.pass-2.new.self.offset = sym (c.pass-2.ensures.offset ∙ ap (λ offset. offset + (4 + size)) after) in (
      subst (λ offset. HasTaken g.T.Taker.accepts now (trace c.pass-2.new.self.disk) offset) end
          (subst (λ disk. HasTaken g.T.Taker.accepts now (trace disk) (offset + 1 + (4 + size))) (sym c.pass-2.ensures.disk) went.1),
      omega (arith, went.2, c.requires.place),
      c.body-answer.ensures.last_place went.0,
    )
