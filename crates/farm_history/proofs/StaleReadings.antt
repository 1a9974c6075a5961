-- The rule on stale readings: its definition answers exactly where the entry breaks the rule in its own words.
use Rattle.std.proofs.Common.{◌≡◌, ◌↔◌, ℕ, ◌<◌, ◌≤◌, nat_le, nat_lt, if◌then◌else◌, Bool, true, false, Option, Some, None, refl, ap, subst, ◌∙◌, arith}
use Rattle.std.proofs.lemmas.Bool.{le-leb, leb-true, lt-ltb, ltb-true}
use Rattle.farm_history.specs.declared.command.Command.{Command}
use Rattle.farm_history.specs.declared.command.Command.TheVariants.{Closing, Opening, Settle}
use Rattle.farm_history.specs.declared.entry.Entry.{Entry}
use Rattle.farm_history.specs.declared.plan.Named.{Named}
use Rattle.farm_history.specs.declared.rule.Rule.TheVariants.{StaleReading}
use Rattle.farm_history.specs.Breaking.{Breaks, IsStale}
use Rattle.farm_history.specs.Figures.{named_by}
use Rattle.farm_history.specs.Given.{first_given}
use Rattle.farm_history.specs.History.{History}
use Rattle.farm_history.specs.MovementRules.{stale_for, stale_reading, used_later}
use Rattle.farm_history.specs.Movements.{IsUsedLast, used_reading}
use Rattle.farm_history.proofs.Given.{found_such, such_of}
use Rattle.farm_history.proofs.OneRule.{value_says}
use Rattle.farm_history.proofs.Says.{Says}
use Rattle.farm_history.proofs.Uses.{uses_mean}

-- a number that is kept where another is below it: what is kept is that number, and the other is below it
pub later_is : (low number place : ℕ) → (if nat_lt low number then Some number else None) ≡ Some place → (Some number ≡ Some place) × (low < place)
later_is low number place kept = by (nat_lt low number) refl kept
  where
    by : (b : Bool) → nat_lt low number ≡ b → (if b then Some number else None) ≡ Some place → (Some number ≡ Some place) × (low < place)
    by true e found = let same : number ≡ place = cc in (found, subst (λ number. low < number) same (ltb-true low number e))
    by false e found = cc

-- a number is kept where another is below it
pub later_of : (low place : ℕ) → low < place → (if nat_lt low place then Some place else None) ≡ Some place
later_of low place later = let e : nat_lt low place ≡ true = lt-ltb low place later in rw e refl

-- a reading that was used later than another is the one used last, and later
used_later_is : (reading place : ℕ) (o : Option ℕ) → used_later reading o ≡ Some place → (o ≡ Some place) × (reading < place)
used_later_is reading place None later = cc
used_later_is reading place (Some used) later = later_is reading used place later

-- a movement that is kept where a reading isn't later than its place: what is kept is that movement, and the reading isn't later
reached_is : (reading movement place : ℕ) → (if nat_le reading movement then Some movement else None) ≡ Some place → (place ≡ movement) × (reading ≤ movement)
reached_is reading movement place found = by (nat_le reading movement) refl found
  where
    by : (b : Bool) → nat_le reading movement ≡ b → (if b then Some movement else None) ≡ Some place → (place ≡ movement) × (reading ≤ movement)
    by true e found = (cc, leb-true reading movement e)
    by false e found = cc

-- a reading that is found earlier than the one used last for a tank is so in the words of the rule
used_later_means : (history : History) (pair : Named) (place : ℕ) →
    (used_later pair.gauged.reading (used_reading history pair.tank) ≡ Some place)
    ↔ (IsUsedLast history pair.tank place × (pair.gauged.reading < place))
used_later_means history pair place =
    let used = used_reading history pair.tank in (
      λ found.
          let is = used_later_is pair.gauged.reading place used found in
          ((uses_mean history pair.tank place).0 is.0, is.1),
      λ stale.
          ap (used_later pair.gauged.reading) ((uses_mean history pair.tank place).1 stale.0)
          ∙ later_of pair.gauged.reading place stale.1,
    )

-- the place for which a reading is stale is the one in the words of the rule
pub stale_means : (history : History) (command : Command) (pair : Named) (place : ℕ) →
    (stale_for history command pair ≡ Some place) ↔ IsStale history command pair place
stale_means history (Opening plan) pair place = used_later_means history pair place
stale_means history (Settle tank gauged) pair place = used_later_means history pair place
stale_means history (Closing movement first second) pair place = (
  λ found. reached_is pair.gauged.reading movement place found,
  λ stale. let e : nat_le pair.gauged.reading movement ≡ true = le-leb pair.gauged.reading movement stale.1 in let same : place ≡ movement = stale.0 in rw (e, same) refl,
)
stale_means history command pair place = (λ found. cc, λ stale. absurd stale)

-- rule 15: a named reading is stale, the first tank's first
pub stale_says : (limit : ℕ) (history : History) (entry : Entry) →
    Says (Breaks limit history entry) 14 15 (stale_reading history entry.cmd)
unfolding stale_reading
stale_says limit history entry =
    value_says (Breaks limit history entry) 14 (omega arith) StaleReading (first_given (stale_for history entry.cmd) (named_by history entry.cmd))
    (λ place. refl) (λ place. refl)
    (found_such (stale_for history entry.cmd) (IsStale history entry.cmd) (stale_means history entry.cmd) (named_by history entry.cmd))
    (such_of (stale_for history entry.cmd) (IsStale history entry.cmd) (stale_means history entry.cmd) (named_by history entry.cmd))
