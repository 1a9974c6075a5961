-- The rules of gaugings: the definition answers exactly where the entry breaks one of them in its own words.
use Rattle.std.proofs.Common.{◌≡◌, ℕ, ◌<◌, ◌≤◌, Bool, true, false, if◌then◌else◌, Option, Some, None, option_and_then, Result, Ok, Err, ℤ, pos, ◌<ℤ◌, int_lt, refl, ap, subst, arith}
use Rattle.std.proofs.lemmas.Int.{ints}
use Rattle.farm_base.proofs.BoolTests.{int_lt-true}
use Rattle.farm_fixed.specs.declared.records.Reading.{Reading}
use Rattle.strap_table.specs.Capacity.{top_of}
use Rattle.farm_history.specs.declared.entry.Entry.{Entry}
use Rattle.farm_history.specs.declared.rule.Rule.{Rule}
use Rattle.farm_history.specs.declared.rule.Rule.TheVariants.{Tape, AboveTable, WaterAboveLevel}
use Rattle.farm_history.specs.Gauging.{Gauging, gauging_after}
use Rattle.farm_history.specs.History.{History}
use Rattle.farm_history.specs.RuleTable.{rule_number}
use Rattle.farm_history.specs.Rules.{refused_gauging, refused_in, refused_reading}
use Rattle.farm_history.specs.Breaking.{Breaks, HasFaultyTapes, HasReading}
use Rattle.farm_history.proofs.Says.{Says}

-- one number doesn't test as less than another: it isn't
pub not_less : (a b : ℤ) → int_lt a b ≡ false → ¬ (a <ℤ b)
not_less a b test less = grind (arith, ints)

-- the rules of gaugings are kept where there is no gauging
none_kept : (limit : ℕ) (history : History) (entry : Entry) (rule : Rule) → gauging_after history entry.cmd ≡ None →
    5 < rule_number rule → rule_number rule ≤ 8 → ¬ (Breaks limit history entry rule)
none_kept limit history entry (Tape fault) none above within broken = let there = broken.of_command in cc
none_kept limit history entry AboveTable none above within broken = let there = broken.of_command in cc
none_kept limit history entry WaterAboveLevel none above within broken = let there = broken.of_command in cc
none_kept limit history entry rule none above within broken = absurd (omega arith)

-- a gauging that an entry's command is, and its reading
record IsRead (history : History) (entry : Entry) (gauging : Gauging) (reading : Reading) : Type 0 where
  of_command : gauging_after history entry.cmd ≡ Some gauging
  given : gauging.reading ≡ Ok reading

-- the gauging of a command is one
one_gauging : (history : History) (entry : Entry) (gauging other : Gauging) (reading : Reading) → IsRead history entry gauging reading →
    gauging_after history entry.cmd ≡ Some other → other ≡ gauging
one_gauging history entry gauging other reading read of_command = let mine = read.of_command in cc

-- a gauging with a reading has no faulty tapes
no_fault : (history : History) (entry : Entry) (gauging : Gauging) (reading : Reading) (fault : ℕ) → IsRead history entry gauging reading →
    ¬ (HasFaultyTapes history entry fault)
no_fault history entry gauging reading fault read faulty =
    let same = one_gauging history entry gauging faulty.gauging reading read faulty.of_command in
    let mine : gauging.reading ≡ Ok reading = read.given in
    let other : faulty.gauging.reading ≡ Err fault = faulty.faulty in
    let moved : faulty.gauging.reading ≡ gauging.reading = ap (λ (g : Gauging). g.reading) same in
    cc

-- what holds of a gauging and its reading holds of this gauging and this reading
there_of : (history : History) (entry : Entry) (gauging : Gauging) (reading : Reading) (holds : Gauging → Reading → Type 0) →
    IsRead history entry gauging reading → HasReading history entry holds → holds gauging reading
there_of history entry gauging reading holds read other =
    let same : other.gauging ≡ gauging = one_gauging history entry gauging other.gauging reading read other.of_command in
    let moved : other.gauging.reading ≡ gauging.reading = ap (λ (g : Gauging). g.reading) same in
    let mine : gauging.reading ≡ Ok reading = read.given in
    let theirs : other.gauging.reading ≡ Ok other.reading = other.given in
    let equal : other.reading ≡ reading = cc in
    subst (λ (g : Gauging). holds g reading) same (subst (λ (r : Reading). holds other.gauging r) equal other.there)

-- the level is above the table's last row
abbrev is_above : Gauging → Reading → Type 0
is_above gauging reading = pos (top_of gauging.tank.table) <ℤ reading.level

-- the water is above the level
abbrev is_water_above : Gauging → Reading → Type 0
is_water_above gauging reading = reading.level <ℤ reading.water

-- the rules are kept by a reading that isn't above the table, and whose water isn't above its level
reading_kept : (limit : ℕ) (history : History) (entry : Entry) (gauging : Gauging) (reading : Reading) (rule : Rule) →
    IsRead history entry gauging reading → ¬ (is_above gauging reading) → ¬ (is_water_above gauging reading) →
    5 < rule_number rule → rule_number rule ≤ 8 → ¬ (Breaks limit history entry rule)
reading_kept limit history entry gauging reading (Tape fault) read low dry above within broken =
    no_fault history entry gauging reading fault read broken
reading_kept limit history entry gauging reading AboveTable read low dry above within broken =
    low (there_of history entry gauging reading is_above read broken)
reading_kept limit history entry gauging reading WaterAboveLevel read low dry above within broken =
    dry (there_of history entry gauging reading is_water_above read broken)
reading_kept limit history entry gauging reading rule read low dry above within broken = absurd (omega arith)

-- the rules before that of the water are kept by a reading that isn't above the table
before_water : (limit : ℕ) (history : History) (entry : Entry) (gauging : Gauging) (reading : Reading) (rule : Rule) →
    IsRead history entry gauging reading → ¬ (is_above gauging reading) →
    5 < rule_number rule → rule_number rule < 8 → ¬ (Breaks limit history entry rule)
before_water limit history entry gauging reading (Tape fault) read low above within broken =
    no_fault history entry gauging reading fault read broken
before_water limit history entry gauging reading AboveTable read low above within broken =
    low (there_of history entry gauging reading is_above read broken)
before_water limit history entry gauging reading rule read low above within broken = absurd (omega arith)

-- and those before that of the table by any reading
before_table : (limit : ℕ) (history : History) (entry : Entry) (gauging : Gauging) (reading : Reading) (rule : Rule) →
    IsRead history entry gauging reading → 5 < rule_number rule → rule_number rule < 7 → ¬ (Breaks limit history entry rule)
before_table limit history entry gauging reading (Tape fault) read above within broken =
    no_fault history entry gauging reading fault read broken
before_table limit history entry gauging reading rule read above within broken = absurd (omega arith)

-- rules 7 and 8 of a gauging that has a reading
reading_says : (limit : ℕ) (history : History) (entry : Entry) (gauging : Gauging) (reading : Reading) → IsRead history entry gauging reading →
    Says (Breaks limit history entry) 5 8 (refused_reading gauging.tank.table reading)
reading_says limit history entry gauging reading read =
    by (int_lt (pos (top_of gauging.tank.table)) reading.level) (int_lt reading.level reading.water) refl refl
  where
    by : (high wet : Bool) → int_lt (pos (top_of gauging.tank.table)) reading.level ≡ high → int_lt reading.level reading.water ≡ wet →
        Says (Breaks limit history entry) 5 8 (if high then Some AboveTable else (if wet then Some WaterAboveLevel else None))
    by true wet high_is wet_is = record {
      broken = record {
        gauging = gauging;
        of_command = read.of_command;
        reading = reading;
        given = read.given;
        there = int_lt-true (pos (top_of gauging.tank.table)) reading.level high_is;
      };
      above = omega arith;
      within = omega arith;
      before = λ earlier above within. before_table limit history entry gauging reading earlier read above within;
    }
    by false true high_is wet_is = record {
      broken = record {
        gauging = gauging;
        of_command = read.of_command;
        reading = reading;
        given = read.given;
        there = int_lt-true reading.level reading.water wet_is;
      };
      above = omega arith;
      within = omega arith;
      before = λ earlier above within.
          before_water limit history entry gauging reading earlier read (not_less (pos (top_of gauging.tank.table)) reading.level high_is) above within;
    }
    by false false high_is wet_is = record {
      kept = λ rule above within.
          reading_kept limit history entry gauging reading rule read (not_less (pos (top_of gauging.tank.table)) reading.level high_is)
          (not_less reading.level reading.water wet_is) above within;
    }

-- rules 6 to 8 of a gauging
result_says : (limit : ℕ) (history : History) (entry : Entry) (gauging : Gauging) (result : Result Reading ℕ) →
    gauging_after history entry.cmd ≡ Some gauging → gauging.reading ≡ result →
    Says (Breaks limit history entry) 5 8 (refused_in gauging.tank.table result)
result_says limit history entry gauging (Ok reading) of_command given =
    reading_says limit history entry gauging reading (record { of_command = of_command; given = given })
result_says limit history entry gauging (Err fault) of_command given = record {
  broken = record { gauging = gauging; of_command = of_command; faulty = given };
  above = omega arith;
  within = omega arith;
  before = λ earlier above within. absurd (omega arith);
}

-- rules 6 to 8: the tapes, the table, the water
pub gauging_says : (limit : ℕ) (history : History) (entry : Entry) →
    Says (Breaks limit history entry) 5 8 (option_and_then refused_gauging (gauging_after history entry.cmd))
unfolding refused_gauging
gauging_says limit history entry = by (gauging_after history entry.cmd) refl
  where
    by : (o : Option Gauging) → gauging_after history entry.cmd ≡ o →
        Says (Breaks limit history entry) 5 8 (option_and_then refused_gauging o)
    by None e = record { kept = λ rule above within. none_kept limit history entry rule e above within }
    by (Some gauging) e = result_says limit history entry gauging gauging.reading e refl
