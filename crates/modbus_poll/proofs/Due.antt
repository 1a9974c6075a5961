-- The test whether a reading is due is the rule in words.
use Rattle.std.proofs.Common.{◌≡◌, ◌↔◌, ◌⊎◌, inl, inr, ℕ, ◌≤◌, ◌||◌, nat_le, Bool, true, false, Option, Some, None, refl, sym, subst, ◌∙◌}
use Rattle.std.proofs.lemmas.Bool.{leb-true, le-leb}
use Rattle.farm_fixed.specs.Range.{distance}
use Rattle.gauge_maps.specs.declared.map.GaugeMap.{GaugeMap}
use Rattle.modbus_poll.specs.declared.raw.Raw.{Raw}
use Rattle.modbus_poll.specs.Deadbands.{Differs, IsDue, differs, is_due}

-- one of three tests holds
one_of : (a b c : Bool) → ((a || b) || c) ≡ true → (a ≡ true) ⊎ ((b ≡ true) ⊎ (c ≡ true))
one_of true b c is = inl refl
one_of false true c is = inr (inl refl)
one_of false false c is = inr (inr is)

-- and back
first_of : (a b c : Bool) → a ≡ true → ((a || b) || c) ≡ true
first_of true b c is = refl
first_of false b c is = cc

-- likewise the second
second_of : (a b c : Bool) → b ≡ true → ((a || b) || c) ≡ true
second_of true b c is = refl
second_of false b c is = rw is refl

-- likewise the third
third_of : (a b : Bool) (c : Bool) → c ≡ true → ((a || b) || c) ≡ true
third_of true b c is = refl
third_of false true c is = refl
third_of false false c is = is

-- one of three tests of at least holds
one_at_least : (a b c d e f : ℕ) → (nat_le a b ≡ true) ⊎ ((nat_le c d ≡ true) ⊎ (nat_le e f ≡ true)) → (a ≤ b) ⊎ ((c ≤ d) ⊎ (e ≤ f))
one_at_least a b c d e f (inl x) = inl (leb-true a b x)
one_at_least a b c d e f (inr (inl y)) = inr (inl (leb-true c d y))
one_at_least a b c d e f (inr (inr z)) = inr (inr (leb-true e f z))

-- the test of a difference says that there is one
differs_then : (gauge : GaugeMap) (last raw : Raw) → differs gauge last raw ≡ true → Differs gauge last raw
differs_then gauge last raw is =
    one_at_least gauge.deadband_mm (distance last.level raw.level) gauge.deadband_mm (distance last.water raw.water)
    gauge.deadband_centi (distance last.temperature raw.temperature)
    (one_of (nat_le gauge.deadband_mm (distance last.level raw.level)) (nat_le gauge.deadband_mm (distance last.water raw.water))
    (nat_le gauge.deadband_centi (distance last.temperature raw.temperature)) is)

-- and a difference passes the test
differs_since : (gauge : GaugeMap) (last raw : Raw) → Differs gauge last raw → differs gauge last raw ≡ true
differs_since gauge last raw (inl a) =
    first_of (nat_le gauge.deadband_mm (distance last.level raw.level)) (nat_le gauge.deadband_mm (distance last.water raw.water))
    (nat_le gauge.deadband_centi (distance last.temperature raw.temperature)) (le-leb gauge.deadband_mm (distance last.level raw.level) a)
differs_since gauge last raw (inr (inl b)) =
    second_of (nat_le gauge.deadband_mm (distance last.level raw.level)) (nat_le gauge.deadband_mm (distance last.water raw.water))
    (nat_le gauge.deadband_centi (distance last.temperature raw.temperature)) (le-leb gauge.deadband_mm (distance last.water raw.water) b)
differs_since gauge last raw (inr (inr c)) =
    third_of (nat_le gauge.deadband_mm (distance last.level raw.level)) (nat_le gauge.deadband_mm (distance last.water raw.water))
    (nat_le gauge.deadband_centi (distance last.temperature raw.temperature)) (le-leb gauge.deadband_centi (distance last.temperature raw.temperature) c)

-- a reading that passes the test is due
due_then : (gauge : GaugeMap) (last : Option Raw) (raw : Raw) → is_due gauge last raw ≡ true → IsDue gauge last raw
due_then gauge None raw is = inl refl
due_then gauge (Some last) raw is = inr (last, refl, differs_then gauge last raw is)

-- a reading that is due passes the test
due_since : (gauge : GaugeMap) (last : Option Raw) (raw : Raw) → IsDue gauge last raw → is_due gauge last raw ≡ true
due_since gauge None raw due = refl
due_since gauge (Some last) raw (inl none) = cc
due_since gauge (Some last) raw (inr found) =
    let same : found.0 ≡ last = cc in
    let P : Raw → Type 0 = λ x. Differs gauge x raw in
    differs_since gauge last raw (subst P same found.2)

-- so the test, under any name, is the rule
pub due_means : (gauge : GaugeMap) (last : Option Raw) (raw : Raw) (answer : Bool) → answer ≡ is_due gauge last raw →
    (answer ≡ true) ↔ IsDue gauge last raw
due_means gauge last raw answer value = (λ is. due_then gauge last raw (sym value ∙ is), λ due. value ∙ due_since gauge last raw due)
