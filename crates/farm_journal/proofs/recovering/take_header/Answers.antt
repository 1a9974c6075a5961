-- Answers to the open goals of `take_header`.
use Rattle.std.proofs.Common.{◌≡◌, ◌+◌, [], take, drop, ap, sym, ◌∙◌, subst, rules, Err}
use Rattle.std.specs.Prelude.{IfErr, OnOk}
use Rattle.farm_journal.specs.Progress.{HasTaken, IsDamageOr, IsRefusedWith}
use Rattle.farm_journal.specs.Recovery.{IsJudged, IsWhole, TakesNext}
use Rattle.farm_journal.specs.Windows.{BeginsWith, WhereLeft}
use Rattle.farm_journal.proofs.Known.{known_still}
use Rattle.farm_journal.proofs.Refusing.{header_answered, refused_no_header}
use Rattle.farm_journal.proofs.Taking.{given_is}
use Rattle.farm_journal.proofs.recovering.take_header.Goals as goal

-- the header is cut short
pub returns-in_err-size-clause-refused : goal.returns-in_err-size-clause-refused
returns-in_err-size-clause-refused g c =
    let trace = g.D.Disk.trace in
    let known = trace c.counted_at.new.window.disk in
    let taken = g.T.Taker.taken c.args.taker.now in
    let fault = c.in_err-size.field-0.0 in
    let is : c.from_residual-in_err-size.result ≡ Err fault = search rules in
    subst (λ result. IfErr result (IsRefusedWith g.T.Taker.accepts taken known)) (sym is)
    (refused_no_header g.T.Taker.accepts known taken fault c.requires.fresh
    (known_still (trace c.pass_signature.new.window.disk) known _ c.counted_at.ensures.keeps.stays c.in_ok-pass_signature.ensures.is_journal)
    (subst (λ offset. IsDamageOr known offset 0 (λ left. IsWhole left → ⊥) fault) c.in_ok-pass_signature.ensures.offset c.in_err-size.ensures.refused))

pub returns-clause-taken : goal.returns-clause-taken
returns-clause-taken g c =
    let trace = g.D.Disk.trace in
    let first = c.pass_signature.new.window in
    let second = c.counted_at.new.window in
    let known = trace second.disk in
    let now = g.T.Taker.taken c.header-answer.new.self in
    let size = c.in_ok-size.size in
    let after : second.offset ≡ 9 = c.counted_at.ensures.offset ∙ c.in_ok-pass_signature.ensures.offset in
    let header = given_is size c.ahead.result.now second.ahead c.ahead.ensures in
    let judged : IsJudged (g.T.Taker.accepts [] (take size (drop 4 second.ahead))) c.header-answer.result =
    subst (λ taken. IsJudged (g.T.Taker.accepts taken (take size (drop 4 second.ahead))) c.header-answer.result) c.requires.fresh
    (subst (λ header. IsJudged (g.T.Taker.accepts (g.T.Taker.taken c.args.taker.now) header) c.header-answer.result) header c.header-answer.ensures.judged) in
    let takes : TakesNext [] now (take size (drop 4 second.ahead)) c.header-answer.result =
    subst (λ taken. TakesNext taken now (take size (drop 4 second.ahead)) c.header-answer.result) c.requires.fresh
    (subst (λ header. TakesNext (g.T.Taker.taken c.args.taker.now) now header c.header-answer.result) header c.header-answer.ensures.taken) in
    let answered = header_answered g.T.Taker.accepts now known size second.ahead c.header-answer.result c.or_refused.result
    (known_still (trace first.disk) known _ c.counted_at.ensures.keeps.stays c.in_ok-pass_signature.ensures.is_journal)
    c.in_ok-size.ensures.counted (subst (λ offset. WhereLeft known offset (BeginsWith second.ahead)) after c.counted_at.ensures.shows)
    judged takes c.or_refused.ensures in
    let end : 9 + (4 + size) ≡ c.pass.new.self.offset = sym (c.pass.ensures.offset ∙ ap (λ offset. offset + (4 + size)) after) in
    subst (λ offset. OnOk c.or_refused.result (HasTaken g.T.Taker.accepts now (trace c.pass.new.self.disk) offset)) end
    (subst (λ disk. OnOk c.or_refused.result (HasTaken g.T.Taker.accepts now (trace disk) (9 + (4 + size)))) (sym c.pass.ensures.disk) answered.0)

pub returns-clause-refused : goal.returns-clause-refused
returns-clause-refused g c =
    let trace = g.D.Disk.trace in
    let first = c.pass_signature.new.window in
    let second = c.counted_at.new.window in
    let known = trace second.disk in
    let now = g.T.Taker.taken c.header-answer.new.self in
    let size = c.in_ok-size.size in
    let after : second.offset ≡ 9 = c.counted_at.ensures.offset ∙ c.in_ok-pass_signature.ensures.offset in
    let header = given_is size c.ahead.result.now second.ahead c.ahead.ensures in
    let judged : IsJudged (g.T.Taker.accepts [] (take size (drop 4 second.ahead))) c.header-answer.result =
    subst (λ taken. IsJudged (g.T.Taker.accepts taken (take size (drop 4 second.ahead))) c.header-answer.result) c.requires.fresh
    (subst (λ header. IsJudged (g.T.Taker.accepts (g.T.Taker.taken c.args.taker.now) header) c.header-answer.result) header c.header-answer.ensures.judged) in
    let takes : TakesNext [] now (take size (drop 4 second.ahead)) c.header-answer.result =
    subst (λ taken. TakesNext taken now (take size (drop 4 second.ahead)) c.header-answer.result) c.requires.fresh
    (subst (λ header. TakesNext (g.T.Taker.taken c.args.taker.now) now header c.header-answer.result) header c.header-answer.ensures.taken) in
    let answered = header_answered g.T.Taker.accepts now known size second.ahead c.header-answer.result c.or_refused.result
    (known_still (trace first.disk) known _ c.counted_at.ensures.keeps.stays c.in_ok-pass_signature.ensures.is_journal)
    c.in_ok-size.ensures.counted (subst (λ offset. WhereLeft known offset (BeginsWith second.ahead)) after c.counted_at.ensures.shows)
    judged takes c.or_refused.ensures in
    subst (λ disk. IfErr c.or_refused.result (IsRefusedWith g.T.Taker.accepts now (trace disk))) (sym c.pass.ensures.disk) answered.1
