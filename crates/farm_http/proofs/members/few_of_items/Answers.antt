-- Answers to the open goals of `few_of_items`.
use Rattle.std.proofs.Common.{◌≡◌, ℕ, ◌<◌, ◌≤◌, length, map, Some, sym, subst, ◌∙◌, ap, arith, rules, to_z, of_z, w64}
use Rattle.std.proofs.lemmas.Int.{to_z-of_z}
use Rattle.std.proofs.lemmas.List.{length-map}
use Rattle.serde_json.specs.View.{view}
use Rattle.farm_http.specs.Members.{whole_of}
use Rattle.farm_http.proofs.ShortLists.{IsFilled, filled_first, filled_last, filled_never, filled_next, filled_short, too_many, viewed}
use Rattle.farm_http.proofs.members.few_of_items.Goals as goal

pub returns-then-items-clause-value : goal.returns-then-items-clause-value
returns-then-items-clause-value c = sym (too_many (map view c.args.items.now) (omega (arith, length-map c.args.items.now view)))

pub loop-index-init : goal.loop-index-init
loop-index-init c = filled_first (map view c.args.items.now)

pub returns-in_err-values-clause-value : goal.returns-in_err-values-clause-value
returns-in_err-values-clause-value c =
    let found = viewed c.args.items.now c.loop-index.index c.index-items-index.result c.index-items-index.is in
    let within : c.loop-index.index < length (map view c.args.items.now) = omega (arith, length-map c.args.items.now view) in
    let none = filled_never (map view c.args.items.now) c.loop-index.index c.loop-index.values (view c.index-items-index.result) c.loop-index.invariant within found (sym c.in_err-values.ensures) in
    c.from_residual.ensures ∙ sym none

pub loop-index-preserved : goal.loop-index-preserved
loop-index-preserved c =
    let found = viewed c.args.items.now c.loop-index.index c.index-items-index.result c.index-items-index.is in
    let within : c.loop-index.index < length (map view c.args.items.now) = omega (arith, length-map c.args.items.now view) in
    let few : c.loop-index.index < 8 = omega arith in
    let kept = to_z-of_z w64 c.in_ok-values.field-0 (search rules) in
    let read : whole_of (view c.index-items-index.result) ≡ Some (to_z w64 (of_z w64 c.in_ok-values.field-0)) = sym (ap Some kept ∙ c.in_ok-values.ensures) in
    filled_next (map view c.args.items.now) c.loop-index.index c.loop-index.values (view c.index-items-index.result) (to_z w64 (of_z w64 c.in_ok-values.field-0))
    c.loop-index.invariant within few found read

pub returns-clause-value : goal.returns-clause-value
returns-clause-value c =
    let end : c.loop-index.index ≡ length c.args.items.now = omega arith in
    let few : length c.args.items.now ≤ 8 = omega arith in
    let filled = subst (λ (n : ℕ). IsFilled (map view c.args.items.now) n c.loop-index.values) end c.loop-index.invariant in
    sym (filled_last (map view c.args.items.now) (length c.args.items.now) c.loop-index.values filled (sym (length-map c.args.items.now view)) few)

pub returns-clause-short : goal.returns-clause-short
returns-clause-short c =
    let end : c.loop-index.index ≡ length c.args.items.now = omega arith in
    let few : length c.args.items.now ≤ 8 = omega arith in
    let filled = subst (λ (n : ℕ). IsFilled (map view c.args.items.now) n c.loop-index.values) end c.loop-index.invariant in
    filled_short (map view c.args.items.now) (length c.args.items.now) c.loop-index.values filled few
