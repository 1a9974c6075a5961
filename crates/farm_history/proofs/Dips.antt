-- A dip has no reading exactly where something is wrong with its tapes in the words of the rule, and has the number of the first.
use Rattle.std.proofs.Common.{◌≡◌, ◌≢◌, ◌⊎◌, ◌↔◌, inl, inr, ℕ, Bool, true, false, List, [], ◌∷◌, Result, Ok, Err, ℤ, ◌-ℤ◌, int_lt, refl, ap, sym, ◌∙◌, subst}
use Rattle.farm_base.proofs.BoolTests.{int_lt-true}
use Rattle.farm_base.specs.Steps.{◌>>=◌}
use Rattle.farm_fixed.specs.declared.records.Reading.{Reading}
use Rattle.farm_readings.specs.declared.tapes.TapeFault.{TapeFault}
use Rattle.farm_readings.specs.declared.tapes.TapeFault.TheVariants.{Count, Spread}
use Rattle.farm_readings.specs.Readings.{mean_temperature, tape_reading}
use Rattle.farm_rounding.specs.Table.{Row}
use Rattle.farm_history.specs.declared.rule.TheConstants.{BELOW_DATUM, TAPE_COUNT, TAPE_SPREAD, WATER_TAPE_COUNT, WATER_TAPE_SPREAD}
use Rattle.farm_history.specs.Gauging.{IsBelowDatum, IsDipFault, IsTapeNumber, dip_level, dip_reading, dip_water, tapes_numbered}
use Rattle.farm_history.proofs.GaugingRules.{not_less}

-- tapes have no reading exactly where they have the number of their count or of their spread
tapes_mean : (count spread : ℕ) (rounding : List Row) (tapes : List ℤ) (number : ℕ) →
    (tapes_numbered count spread (tape_reading rounding tapes) ≡ Err number) ↔ IsTapeNumber count spread rounding tapes number
tapes_mean count spread rounding tapes number = by (tape_reading rounding tapes) refl
  where
    by : (t : Result ℤ TapeFault) → tape_reading rounding tapes ≡ t →
        (tapes_numbered count spread t ≡ Err number) ↔ IsTapeNumber count spread rounding tapes number
    by (Ok reading) e = (λ none. cc, λ w. elim w [ inl p ↦ let bad = p.0 in cc | inr p ↦ let bad = p.0 in cc ])
    by (Err Count) e = (
      λ f. let same : number ≡ count = cc in inl (e, same),
      λ w. elim w [ inl p ↦ ap {B = Result ℤ ℕ} Err (sym p.1) | inr p ↦ let bad = p.0 in cc ],
    )
    by (Err Spread) e = (
      λ f. let same : number ≡ spread = cc in inr (e, same),
      λ w. elim w [ inl p ↦ let bad = p.0 in cc | inr p ↦ ap {B = Result ℤ ℕ} Err (sym p.1) ],
    )

-- water tapes have no reading exactly where there are some, and they have the number of their count or of their spread
water_means : (rounding : List Row) (water : List ℤ) (number : ℕ) →
    (dip_water rounding water ≡ Err number) ↔ ((water ≢ []) × IsTapeNumber WATER_TAPE_COUNT WATER_TAPE_SPREAD rounding water number)
water_means rounding [] number = (λ none. cc, λ w. absurd (w.0 refl))
water_means rounding (tape ∷ tapes) number =
    let means = tapes_mean WATER_TAPE_COUNT WATER_TAPE_SPREAD rounding (tape ∷ tapes) number in
    (λ f. (λ (e : tape ∷ tapes ≡ []). cc, means.0 f), λ w. means.1 w.1)

-- what a level is: an innage, or the number of what is wrong with it
record IsLevel (height : ℤ) (outage : Bool) (tape : ℤ) (level : Result ℤ ℕ) : Type 0 where
  fault : (number : ℕ) → level ≡ Err number → IsBelowDatum height outage tape × (number ≡ BELOW_DATUM)
  below : IsBelowDatum height outage tape → level ≡ Err BELOW_DATUM

-- a level is missing exactly where the tape is an outage above the reference height
level_is : (height : ℤ) (outage : Bool) (tape : ℤ) → IsLevel height outage tape (dip_level height outage tape)
level_is height false tape = record {
  fault = λ number none. cc;
  below = λ low. let is = low.0 in cc;
}
level_is height true tape = by (int_lt height tape) refl
  where
    by : (b : Bool) → int_lt height tape ≡ b → IsLevel height true tape (dip_level height true tape)
    by true e = record {
      fault = λ number f.
          let low : dip_level height true tape ≡ Err BELOW_DATUM = rw e refl in
          let same : number ≡ BELOW_DATUM = cc in
          ((refl, int_lt-true height tape e), same);
      below = λ low. rw e refl;
    }
    by false e = record {
      fault = λ number f.
          let level : dip_level height true tape ≡ Ok (height -ℤ tape) = rw e refl in
          cc;
      below = λ low. absurd (not_less height tape e low.1);
    }

-- the steps after the tapes' reading, as they have a fault
record IsAfter (rounding : List Row) (height : ℤ) (outage : Bool) (tape : ℤ) (water : List ℤ) (number : ℕ) (answer : Result Reading ℕ) : Type 0 where
  fault : answer ≡ Err number →
      (IsBelowDatum height outage tape × (number ≡ BELOW_DATUM))
      ⊎ ((¬ (IsBelowDatum height outage tape)) × (water ≢ []) × IsTapeNumber WATER_TAPE_COUNT WATER_TAPE_SPREAD rounding water number)
  low : IsBelowDatum height outage tape → number ≡ BELOW_DATUM → answer ≡ Err number
  wet : ¬ (IsBelowDatum height outage tape) → water ≢ [] →
      IsTapeNumber WATER_TAPE_COUNT WATER_TAPE_SPREAD rounding water number → answer ≡ Err number

-- the steps after the tapes' reading, where the last makes some reading
abbrev after_tape : List Row → ℤ → Bool → ℤ → List ℤ → (ℤ → ℤ → Reading) → Result Reading ℕ
after_tape rounding height outage tape water make = do
  level ← dip_level height outage tape
  water ← dip_water rounding water
  Ok (make level water)

-- they have the first fault
after_is : (rounding : List Row) (height : ℤ) (outage : Bool) (tape : ℤ) (water : List ℤ) (number : ℕ) (make : ℤ → ℤ → Reading) →
    IsAfter rounding height outage tape water number (after_tape rounding height outage tape water make)
after_is rounding height outage tape water number make =
    by (dip_level height outage tape) (dip_water rounding water) refl refl
  where
    by : (l w : Result ℤ ℕ) → dip_level height outage tape ≡ l → dip_water rounding water ≡ w →
        IsAfter rounding height outage tape water number (do
          level ← l
          water ← w
          Ok (make level water))
    by (Err n) w level wet = record {
      fault = λ f.
          let known = (level_is height outage tape).fault n level in
          let same : number ≡ n = cc in
          inl (known.0, same ∙ known.1);
      low = λ below is. let known = (level_is height outage tape).below below in cc;
      wet = λ above some faulty. absurd (above ((level_is height outage tape).fault n level).0);
    }
    by (Ok l) (Err n) level wet = record {
      fault = λ f.
          let same : n ≡ number = cc in
          let moved : dip_water rounding water ≡ Err number = wet ∙ ap {B = Result ℤ ℕ} Err same in
          let known = (water_means rounding water number).0 moved in
          inr (λ below. let bad = (level_is height outage tape).below below in cc, known.0, known.1);
      low = λ below is. let known = (level_is height outage tape).below below in cc;
      wet = λ above some faulty.
          let known = (water_means rounding water number).1 (some, faulty) in
          let same : n ≡ number = cc in
          ap {B = Result Reading ℕ} Err same;
    }
    by (Ok l) (Ok w) level wet = record {
      fault = λ f. cc;
      low = λ below is. let known = (level_is height outage tape).below below in cc;
      wet = λ above some faulty. let known = (water_means rounding water number).1 (some, faulty) in cc;
    }

-- a dip has no reading exactly where something is wrong with its tapes
pub dip_faults_mean : (rounding : List Row) (height : ℤ) (outage : Bool) (tapes water temperatures : List ℤ) (ambient : ℤ) (number : ℕ) →
    (dip_reading rounding height outage tapes water temperatures ambient ≡ Err number) ↔ IsDipFault rounding height outage tapes water number
unfolding dip_reading
dip_faults_mean rounding height outage tapes water temperatures ambient number = by (tape_reading rounding tapes) refl
  where
    make : ℤ → ℤ → Reading
    make level water = record { level = level; water = water; liquid = mean_temperature rounding temperatures; ambient = ambient }

    by : (t : Result ℤ TapeFault) → tape_reading rounding tapes ≡ t →
        ((do
          tape ← tapes_numbered TAPE_COUNT TAPE_SPREAD t
          level ← dip_level height outage tape
          water ← dip_water rounding water
          Ok (make level water)) ≡ Err number) ↔ IsDipFault rounding height outage tapes water number
    by (Err Count) e = (
      λ f. let same : number ≡ TAPE_COUNT = cc in inl (inl (e, same)),
      λ w. elim w [
        | inl p ↦ elim p [ inl q ↦ ap {B = Result Reading ℕ} Err (sym q.1) | inr q ↦ let bad = q.0 in cc ]
        | inr p ↦ elim p [ inl q ↦ let bad = q.0.given in cc | inr q ↦ let bad = q.0.given in cc ]
      ],
    )
    by (Err Spread) e = (
      λ f. let same : number ≡ TAPE_SPREAD = cc in inl (inr (e, same)),
      λ w. elim w [
        | inl p ↦ elim p [ inl q ↦ let bad = q.0 in cc | inr q ↦ ap {B = Result Reading ℕ} Err (sym q.1) ]
        | inr p ↦ elim p [ inl q ↦ let bad = q.0.given in cc | inr q ↦ let bad = q.0.given in cc ]
      ],
    )
    by (Ok tape) e =
        let after = after_is rounding height outage tape water number make in (
          λ f. elim (after.fault f) [
            | inl p ↦ inr (inl (record { tape = tape; given = e; below = p.0 }, p.1))
            | inr p ↦ inr (inr (record { tape = tape; given = e; above = p.0 }, p.1, p.2))
          ],
          λ w. elim w [
            | inl p ↦ elim p [ inl q ↦ let bad = q.0 in cc | inr q ↦ let bad = q.0 in cc ]
            | inr p ↦ elim p [
              | inl q ↦
                  let given = q.0.given in
                  let same : q.0.tape ≡ tape = cc in
                  after.low (subst (IsBelowDatum height outage) same q.0.below) q.1
              | inr q ↦
                  let given = q.0.given in
                  let same : q.0.tape ≡ tape = cc in
                  let Above : ℤ → Type 0 = λ other. ¬ (IsBelowDatum height outage other) in
                  after.wet (subst Above same q.0.above) q.1 q.2
            ]
          ],
        )
