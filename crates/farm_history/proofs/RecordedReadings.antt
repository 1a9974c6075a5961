-- A reading that a legal history records is one that the tank's table covers: its water from 0 to its level, its level up to the top.
use Rattle.std.proofs.Common.{◌≡◌, ℕ, ◌==◌, ◌&&◌, not, Bool, true, false, IsFalse, if◌then◌else◌, List, [], ◌∷◌, length, Option, Some, None, option_and_then, option_map, Result, Ok, Err, ℤ, pos, negsuc, ◌+ℤ◌, ◌≤ℤ◌, int_lt, refl, ap, sym, ◌∙◌, subst, arith}
use Rattle.std.specs.List.{list_all, list_any}
use Rattle.std.specs.Ordering.{int_eq}
use Rattle.std.proofs.lemmas.Bool.{and_parts, eqb-true, not-false, not-true, or_parts}
use Rattle.std.proofs.lemmas.Int.{ints}
use Rattle.std.proofs.lemmas.List.Elements.{All-head, All-tail}
use Rattle.farm_base.specs.Steps.{◌>>=◌}
use Rattle.farm_fixed.specs.Range.{is_within}
use Rattle.farm_fixed.specs.declared.records.Reading.{Reading}
use Rattle.farm_fixed.specs.declared.limits.TheConstants.{MOST_HEIGHT}
use Rattle.farm_readings.specs.Readings.{are_close, mean_temperature, tape_reading}
use Rattle.farm_readings.specs.declared.tapes.TapeFault.{TapeFault}
use Rattle.farm_readings.specs.declared.tapes.TapeFault.TheVariants.{Count, Spread}
use Rattle.farm_rounding.specs.Multiple.{nearest_multiple}
use Rattle.farm_rounding.specs.Table.{Row, rounded, row_at}
use Rattle.farm_rounding.specs.declared.mode.Mode.{Mode}
use Rattle.farm_rounding.specs.declared.table.TheConstants.{TAPE_MEAN}
use Rattle.farm_site.specs.declared.items.Tank.{Tank}
use Rattle.strap_table.specs.Capacity.{top_of}
use Rattle.farm_history.specs.declared.command.Command.{Command}
use Rattle.farm_history.specs.declared.command.Command.TheVariants.{Gauge, Dip}
use Rattle.farm_history.specs.declared.few.Few.{Few}
use Rattle.farm_history.specs.declared.rule.Rule.TheVariants.{AboveTable, OutOfRange, Tape, UnknownTank, WaterAboveLevel}
use Rattle.farm_history.specs.declared.rule.TheConstants.{TAPE_COUNT, TAPE_SPREAD, WATER_TAPE_COUNT, WATER_TAPE_SPREAD}
use Rattle.farm_history.specs.Commands.{is_gauging_of, numbers_of, tanks_given}
use Rattle.farm_history.specs.Fields.{Field, fields_of, first_bad_field, heights, is_out_of_range, temperatures}
use Rattle.farm_history.specs.Gauging.{dip_level, dip_reading, dip_water, gauge_reading, gauging_after, gauging_in, tapes_numbered}
use Rattle.farm_history.specs.History.{History, tank_after}
use Rattle.farm_history.specs.Places.{first_place}
use Rattle.farm_history.specs.Rules.{is_missing, out_of_range, refused_gauging, refused_reading, unknown_tank}
use Rattle.farm_history.proofs.Accepted.{IsKept, test_fails}
use Rattle.farm_history.proofs.Places.{none_before}

-- a rounding of what isn't below zero isn't
nearest_low : (mode : Mode) (n : ℤ) (d step : ℕ) → pos 0 ≤ℤ n → pos 0 ≤ℤ nearest_multiple mode n d step
unfolding nearest_multiple
nearest_low mode (pos n) d step low = omega (arith, ints)
nearest_low mode (negsuc n) d step low = absurd (omega (arith, ints, low))

-- each number of a list is from 0 to 50,000
abbrev are_heights : List ℤ → Bool
are_heights numbers = list_all (λ number. is_within (pos 0) MOST_HEIGHT number) numbers

-- a height isn't below zero
height_low : (n : ℤ) → is_within (pos 0) MOST_HEIGHT n ≡ true → pos 0 ≤ℤ n
height_low n e =
    let parts = and_parts (not (int_lt n (pos 0))) (not (int_lt (pos 50000) n)) e in
    let low = not-true (int_lt n (pos 0)) parts.0 in
    grind (arith, ints)

-- a reading of tapes, or that they are too far apart
abbrev taped : Bool → ℤ → Result ℤ TapeFault
taped close reading = if close then Ok reading else Err Spread

-- where it is one that isn't below zero, it isn't
taped_low : (close : Bool) (tape reading : ℤ) → pos 0 ≤ℤ tape → taped close tape ≡ Ok reading → pos 0 ≤ℤ reading
taped_low true tape reading low e = let same : tape ≡ reading = cc in subst (λ (r : ℤ). pos 0 ≤ℤ r) same low
taped_low false tape reading low e = cc

-- the mean of three tapes that aren't below zero isn't
mean_low : (rounding : List Row) (first second third : ℤ) → pos 0 ≤ℤ first → pos 0 ≤ℤ second → pos 0 ≤ℤ third →
    pos 0 ≤ℤ rounded rounding TAPE_MEAN (first +ℤ second +ℤ third) 3
mean_low rounding first second third a b c =
    let row : Row = row_at rounding TAPE_MEAN in
    nearest_low row.1 (first +ℤ second +ℤ third) 3 row.0 (omega (arith, ints, a, b, c))

-- the reading of tapes that are heights isn't below zero
tapes_low : (rounding : List Row) (tapes : List ℤ) (reading : ℤ) → are_heights tapes ≡ true → tape_reading rounding tapes ≡ Ok reading →
    pos 0 ≤ℤ reading
tapes_low rounding (first ∷ second ∷ []) reading heights e =
    let parts = and_parts (is_within (pos 0) MOST_HEIGHT first) (are_heights (second ∷ [])) heights in
    taped_low (int_eq first second) first reading (height_low first parts.0) e
tapes_low rounding (first ∷ second ∷ third ∷ []) reading heights e =
    let parts = and_parts (is_within (pos 0) MOST_HEIGHT first) (are_heights (second ∷ third ∷ [])) heights in
    let others = and_parts (is_within (pos 0) MOST_HEIGHT second) (are_heights (third ∷ [])) parts.1 in
    let last = and_parts (is_within (pos 0) MOST_HEIGHT third) (are_heights []) others.1 in
    taped_low (are_close first second third) (rounded rounding TAPE_MEAN (first +ℤ second +ℤ third) 3) reading
    (mean_low rounding first second third (height_low first parts.0) (height_low second others.0) (height_low third last.0)) e
tapes_low rounding [] reading heights e = cc
tapes_low rounding (first ∷ []) reading heights e = cc
tapes_low rounding (first ∷ second ∷ third ∷ fourth ∷ tapes) reading heights e = cc

-- the water of a dip isn't below zero
water_low : (rounding : List Row) (tapes : List ℤ) (water : ℤ) → are_heights tapes ≡ true → dip_water rounding tapes ≡ Ok water →
    pos 0 ≤ℤ water
water_low rounding [] water heights e = let same : pos 0 ≡ water = cc in subst (λ (w : ℤ). pos 0 ≤ℤ w) same (omega (arith, ints))
water_low rounding (tape ∷ tapes) water heights e =
    by (tape_reading rounding (tape ∷ tapes)) (tapes_low rounding (tape ∷ tapes) water heights) e
  where
    by : (r : Result ℤ TapeFault) → (r ≡ Ok water → pos 0 ≤ℤ water) →
        tapes_numbered WATER_TAPE_COUNT WATER_TAPE_SPREAD r ≡ Ok water → pos 0 ≤ℤ water
    by (Ok reading) low e = let same : reading ≡ water = cc in low (ap {B = Result ℤ TapeFault} Ok same)
    by (Err Count) low e = cc
    by (Err Spread) low e = cc

-- the reading of a dip of its level and its water
abbrev dip_made : List Row → List ℤ → ℤ → ℤ → ℤ → Result Reading ℕ
dip_made rounding temps ambient level water =
    Ok (record { level = level; water = water; liquid = mean_temperature rounding temps; ambient = ambient })

-- a dip's reading has the water of its water tapes
dip_has_water : (rounding : List Row) (height : ℤ) (outage : Bool) (tapes water temps : List ℤ) (ambient : ℤ) (reading : Reading) →
    dip_reading rounding height outage tapes water temps ambient ≡ Ok reading → dip_water rounding water ≡ Ok reading.water
unfolding dip_reading
dip_has_water rounding height outage tapes water temps ambient reading e =
    by (tapes_numbered TAPE_COUNT TAPE_SPREAD (tape_reading rounding tapes)) e
  where
    watered : (level : ℤ) (w : Result ℤ ℕ) → dip_water rounding water ≡ w → (w >>= dip_made rounding temps ambient level) ≡ Ok reading →
        dip_water rounding water ≡ Ok reading.water
    watered level (Ok value) h e =
        let there : Reading = record { level = level; water = value; liquid = mean_temperature rounding temps; ambient = ambient } in
        let same : there ≡ reading = cc in
        let water_of : Reading → Result ℤ ℕ = λ r. Ok r.water in
        h ∙ ap water_of same
    watered level (Err fault) h e = cc

    levelled : (l : Result ℤ ℕ) → (l >>= (λ level. dip_water rounding water >>= dip_made rounding temps ambient level)) ≡ Ok reading →
        dip_water rounding water ≡ Ok reading.water
    levelled (Ok level) e = watered level (dip_water rounding water) refl e
    levelled (Err fault) e = cc

    by : (t : Result ℤ ℕ) →
        (t >>= (λ tape. dip_level height outage tape >>= (λ level. dip_water rounding water >>= dip_made rounding temps ambient level))) ≡ Ok reading →
        dip_water rounding water ≡ Ok reading.water
    by (Ok tape) e = levelled (dip_level height outage tape) e
    by (Err fault) e = cc

-- where no field is out of range, the second isn't
second_in_range : (command : Command) (first second : Field) (fields : List Field) → out_of_range command ≡ None →
    fields_of command ≡ first ∷ second ∷ fields → is_out_of_range second ≡ false
unfolding out_of_range first_bad_field
second_in_range command first second fields none are =
    let no : first_place is_out_of_range (fields_of command) ≡ None = by (first_place is_out_of_range (fields_of command)) none in
    let all = none_before is_out_of_range (first ∷ second ∷ fields) (sym (ap (first_place is_out_of_range) are) ∙ no) in
    let Fine : Field → Type 0 = λ field. IsFalse (is_out_of_range field) in
    All-head Fine second fields (All-tail Fine first (second ∷ fields) all)
  where
    by : (o : Option ℕ) → option_map OutOfRange o ≡ None → o ≡ None
    by None e = refl
    by (Some field) e = cc

-- the numbers of a field of heights that isn't out of range are heights
field_heights : (needed : Bool) (numbers : List ℤ) → is_out_of_range (heights needed numbers) ≡ false → are_heights numbers ≡ true
field_heights needed numbers e =
    not-false (are_heights numbers) (or_parts (not (are_heights numbers)) (needed && length numbers == 0) e).0

-- a tank covers a reading: its water is from 0 to its level, and its level isn't above the table
pub record Covers (tank : Tank) (reading : Reading) : Type 0 where
  pub low : pos 0 ≤ℤ reading.water
  pub order : reading.water ≤ℤ reading.level
  pub top : reading.level ≤ℤ pos (top_of tank.table)

-- a reading that isn't refused is covered
covered : (tank : Tank) (reading : Reading) → refused_reading tank.table reading ≡ None → pos 0 ≤ℤ reading.water → Covers tank reading
covered tank reading e low = by (int_lt (pos (top_of tank.table)) reading.level) (int_lt reading.level reading.water) refl refl e
  where
    by : (a b : Bool) → int_lt (pos (top_of tank.table)) reading.level ≡ a → int_lt reading.level reading.water ≡ b →
        (if a then Some AboveTable else (if b then Some WaterAboveLevel else None)) ≡ None → Covers tank reading
    by true b h k e = cc
    by false true h k e = cc
    by false false h k e = record { low = low; order = grind (arith, ints); top = grind (arith, ints) }

-- a command is a gauging of a tank of the site, with a reading that the tank covers
pub record IsCovered (history : History) (tank : ℕ) (command : Command) : Type 0 where
  pub of_site : Tank
  pub tank_is : tank_after history tank ≡ Some of_site
  pub reading : Reading
  pub gauged : gauging_after history command ≡ Some (record { tank = of_site; reading = Ok reading })
  pub covers : Covers of_site reading

-- the one tank that a command gives is of the site, where it breaks no rule
found_tank : (history : History) (command : Command) (number : ℕ) → tanks_given command ≡ number ∷ [] →
    unknown_tank history command ≡ None → (tank : Tank) × (tank_after history number ≡ Some tank)
unfolding unknown_tank
found_tank history command number given none =
    let test : ℕ → Bool = λ n. is_missing (tank_after history n) in
    let fails = test_fails (list_any (λ n. is_missing (tank_after history n)) (tanks_given command)) UnknownTank none in
    let here = or_parts (is_missing (tank_after history number)) false (sym (ap (list_any test) given) ∙ fails) in
    by (tank_after history number) refl here.0
  where
    by : (o : Option Tank) → tank_after history number ≡ o → is_missing o ≡ false → (tank : Tank) × (tank_after history number ≡ Some tank)
    by None h e = cc
    by (Some tank) h e = (tank, h)

-- a gauging that isn't refused, and whose water isn't below zero, is covered
gauging_covered : (history : History) (number : ℕ) (tank : Tank) (r : Result Reading ℕ) (command : Command) →
    tank_after history number ≡ Some tank → gauging_after history command ≡ Some (record { tank = tank; reading = r }) →
    option_and_then refused_gauging (gauging_after history command) ≡ None →
    ((reading : Reading) → r ≡ Ok reading → pos 0 ≤ℤ reading.water) → IsCovered history number command
unfolding refused_gauging
gauging_covered history number tank (Ok reading) command there given none low =
    let unrefused = sym (ap (option_and_then refused_gauging) given) ∙ none in
    record {
      of_site = tank;
      tank_is = there;
      reading = reading;
      gauged = given;
      covers = covered tank reading unrefused (low reading refl);
    }
gauging_covered history number tank (Err fault) command there given none low =
    let unrefused : Some (Tape fault) ≡ None = sym (ap (option_and_then refused_gauging) given) ∙ none in cc

-- a gauge's reading that breaks no rule is covered
gauge_covered : (history : History) (number : ℕ) (level water temperature ambient : ℤ) →
    IsKept history (Gauge number level water temperature ambient) → IsCovered history number (Gauge number level water temperature ambient)
unfolding gauging_after gauge_reading
gauge_covered history number level water temperature ambient kept =
    let command = Gauge number level water temperature ambient in
    let tank = found_tank history command number refl kept.tank in
    let reading = gauge_reading history.site.rounding level water temperature ambient in
    let fine = second_in_range command (heights true (level ∷ [])) (heights true (water ∷ []))
    (temperatures (temperature ∷ []) ∷ temperatures (ambient ∷ []) ∷ []) kept.range refl in
    let within = and_parts (is_within (pos 0) MOST_HEIGHT water) true (field_heights true (water ∷ []) fine) in
    gauging_covered history number tank.0 (Ok reading) command tank.1
    (ap (option_and_then (gauging_in history.site.rounding command)) tank.1) kept.gauging
    (λ other same. let one : reading ≡ other = cc in subst (λ (r : Reading). pos 0 ≤ℤ r.water) one (height_low water within.0))

-- a dip that breaks no rule is covered
dip_covered : (history : History) (number : ℕ) (outage : Bool) (tapes water temps : Few) (ambient : ℤ) →
    IsKept history (Dip number outage tapes water temps ambient) → IsCovered history number (Dip number outage tapes water temps ambient)
unfolding gauging_after
dip_covered history number outage tapes water temps ambient kept =
    let command = Dip number outage tapes water temps ambient in
    let rounding = history.site.rounding in
    let tank = found_tank history command number refl kept.tank in
    let fine = second_in_range command (heights false (numbers_of tapes)) (heights false (numbers_of water))
    (temperatures (numbers_of temps) ∷ temperatures (ambient ∷ []) ∷ []) kept.range refl in
    let within = field_heights false (numbers_of water) fine in
    let height = tank.0.spec.height in
    gauging_covered history number tank.0
    (dip_reading rounding height outage (numbers_of tapes) (numbers_of water) (numbers_of temps) ambient) command tank.1
    (ap (option_and_then (gauging_in rounding command)) tank.1) kept.gauging
    (λ reading e.
    water_low rounding (numbers_of water) reading.water within
    (dip_has_water rounding height outage (numbers_of tapes) (numbers_of water) (numbers_of temps) ambient reading e))

-- a gauging of a tank that breaks no rule is covered
pub covered_gauging : (history : History) (tank : ℕ) (command : Command) → is_gauging_of tank command ≡ true → IsKept history command →
    IsCovered history tank command
covered_gauging history tank (Gauge number level water temperature ambient) is kept =
    let same : number ≡ tank = eqb-true number tank is in
    subst (λ n. IsCovered history n (Gauge number level water temperature ambient)) same
    (gauge_covered history number level water temperature ambient kept)
covered_gauging history tank (Dip number outage tapes water temps ambient) is kept =
    let same : number ≡ tank = eqb-true number tank is in
    subst (λ n. IsCovered history n (Dip number outage tapes water temps ambient)) same
    (dip_covered history number outage tapes water temps ambient kept)
covered_gauging history tank command is kept = cc
