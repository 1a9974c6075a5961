-- Bytes that are put a part at a time.
use Rattle.std.proofs.Common.{◌≡◌, ℕ, ◌+◌, ◌-◌, List, ◌++◌, length, take, drop, sym, ap, subst, ◌∙◌, Option, Result, Ok, Err, OnErr}
use Rattle.std.proofs.Math.Seq.{take-add}
use Rattle.std.proofs.lemmas.List.{take_rest}
use Rattle.farm_base.specs.Known.{Adds}
use Rattle.farm_base.proofs.Additions.{additions_add_up}

-- a prefix of a text, and then a prefix of its rest, are a prefix of it
pub fronts_join : (text : List ℕ) (done count : ℕ) →
    take done text ++ take count (take (length text - done) (drop done text)) ≡ take (done + count) text
fronts_join text done count =
    ap (λ t. take done text ++ take count t) (take_rest text done) ∙ sym (take-add done count text)

-- one put more
pub adds_on : (old middle new : Option (List ℕ)) (text : List ℕ) (done count : ℕ) →
    Adds old middle (take done text) →
    Adds middle new (take count (take (length text - done) (drop done text))) →
    Adds old new (take (done + count) text)
adds_on old middle new text done count before then =
    let P : List ℕ → Type 0 = λ t. Adds old new t in
    subst P (fronts_join text done count)
    (additions_add_up old middle new (take done text)
    (take count (take (length text - done) (drop done text))) before then)

-- what holds in any case holds of a failed call
pub on_err : {T E P : Type 0} (result : Result T E) → P → OnErr result P
on_err (Ok x) p = tt
on_err (Err e) p = p
