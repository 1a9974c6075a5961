-- Answers to the open goals of `append_all`.
use Rattle.std.proofs.Common.{◌≡◌, ℕ, ◌+◌, List, [], ◌∷◌, ◌∙◌, length, inl, inr, ap, arith, length-append, length-drop}
use Rattle.farm_turn.specs.Chronicles.{GrowsBy, since}
use Rattle.shared_log.proofs.callers.append_all.Goals as goal

-- the entries after a job are those before, and those that it appended
length_since : {E : Type 0} (caller_of : E → ℕ) (n : ℕ) (old new : List E) → GrowsBy caller_of n old new → length (since old new) + length old ≡ length new
length_since caller_of n old new (inl same) = omega (arith, length-drop (length old) new, ap length same)
length_since caller_of n old new (inr (e, bears, is)) = omega (arith, length-drop (length old) new, ap length is, length-append old (e ∷ []))

pub loop-preserved : goal.loop-preserved
loop-preserved g c =
    let i = c.loop.invariant in
    let e = c.turn.ensures in
    let t = e.turned in
    let more = length_since (λ x. x) t.caller t.before.callers.items t.after.callers.items t.grows in
    let own = ap length t.own_entries ∙ length-append c.loop.pass.known.own (since t.before.callers.items t.after.callers.items) in (
      e.same_turn ∙ i.0,
      e.numbers.number ∙ i.1,
      e.numbers_in_all ∙ i.2,
      omega (arith, t.ran),
    )
