-- The nearest of listed values, with the rule for two at the same distance. All are numbers of one unit.
use Rattle.std.specs.Prelude.{◌≡◌, ℕ, ◌+◌, ◌-◌, ◌<◌, ◌≤◌, Bool, ◌&&◌, ◌||◌, not, ◌==◌, nat_lt, if◌then◌else◌, List, [], ◌∷◌, length, slice_index_or, ℤ, pos, ◌<ℤ◌, ◌≤ℤ◌}
use Rattle.std.specs.Int.RustNames.{unsigned_abs, int_lt}
use Rattle.farm_fixed.specs.Range.{distance}
use Rattle.farm_rounding.specs.declared.mode.Mode.{Mode}
use Rattle.farm_rounding.specs.declared.mode.Mode.TheVariants.{HalfAway, TowardZero, HalfEven}

-- the listed value at an index from 0
abbrev pub listed_at : List ℤ → ℕ → ℤ
listed_at listed index = slice_index_or listed index (pos 0)

-- each listed value is greater than the one before
pub record Rises (listed : List ℤ) : Type 0 where
  pub steps : (index : ℕ) → index + 1 < length listed → listed_at listed index <ℤ listed_at listed (index + 1)

-- a value is the one of greater magnitude, and of equal magnitudes the greater value
abbrev pub IsGreaterOf : ℤ → ℤ → Type 0
IsGreaterOf taken other =
    (unsigned_abs other ≤ unsigned_abs taken) × (unsigned_abs other ≡ unsigned_abs taken → other ≤ℤ taken)

-- Of two values at the same distance: half away and half even take the one of greater magnitude, toward zero the one of
-- lesser, and of equal magnitudes all take the greater value.
abbrev pub WinsTie : Mode → ℤ → ℤ → Type 0
WinsTie HalfAway taken other = IsGreaterOf taken other
WinsTie TowardZero taken other =
    (unsigned_abs taken ≤ unsigned_abs other) × (unsigned_abs other ≡ unsigned_abs taken → other ≤ℤ taken)
WinsTie HalfEven taken other = IsGreaterOf taken other

-- one listed value is taken and not another: it is nearer, or as near and the rule for ties takes it
pub record IsTakenOver (mode : Mode) (value taken other : ℤ) : Type 0 where
  pub near : distance value taken ≤ distance value other
  pub tie : distance value other ≡ distance value taken → WinsTie mode taken other

-- the value listed at an index is taken, whichever other is listed
pub record IsClosest (mode : Mode) (value : ℤ) (listed : List ℤ) (index : ℕ) : Type 0 where
  pub within : index < length listed
  pub taken : (other : ℕ) → other < length listed → IsTakenOver mode value (listed_at listed index) (listed_at listed other)

-- the tests of these
abbrev pub is_greater_of : ℤ → ℤ → Bool
is_greater_of taken other =
    nat_lt (unsigned_abs other) (unsigned_abs taken) || (unsigned_abs other == unsigned_abs taken && int_lt other taken)

abbrev pub wins_tie : Mode → ℤ → ℤ → Bool
wins_tie HalfAway taken other = is_greater_of taken other
wins_tie TowardZero taken other =
    nat_lt (unsigned_abs taken) (unsigned_abs other) || (unsigned_abs other == unsigned_abs taken && int_lt other taken)
wins_tie HalfEven taken other = is_greater_of taken other

-- one listed value is taken and not another
abbrev pub is_taken_over : Mode → ℤ → ℤ → ℤ → Bool
is_taken_over mode value taken other =
    nat_lt (distance value taken) (distance value other) || (distance value other == distance value taken && wins_tie mode taken other)

-- the index of the value that is taken of one and those after it, where it is `later` among those
abbrev pub first_or_later : Mode → ℤ → ℤ → List ℤ → ℕ → ℕ
first_or_later mode value first [] later = 0
first_or_later mode value first (next ∷ rest) later =
    if is_taken_over mode value first (listed_at (next ∷ rest) later) then 0 else later + 1

-- the index of the listed value that is taken, each compared in turn
unfoldable pub closest : Mode → ℤ → List ℤ → ℕ
closest mode value [] = 0
closest mode value (first ∷ rest) = first_or_later mode value first rest (closest mode value rest)

-- a value is neither below the first listed one nor above the last
pub record IsCovered (value : ℤ) (listed : List ℤ) : Type 0 where
  pub from_first : listed_at listed 0 ≤ℤ value
  pub to_last : value ≤ℤ listed_at listed (length listed - 1)

-- the test of a covered value
abbrev pub is_covered : ℤ → List ℤ → Bool
is_covered value listed = not (int_lt value (listed_at listed 0)) && not (int_lt (listed_at listed (length listed - 1)) value)

-- an index is that of the first listed value that isn't below this one, or the length of the list where all are
pub record IsFirstNotBelow (value : ℤ) (listed : List ℤ) (index : ℕ) : Type 0 where
  pub within : index ≤ length listed
  pub below : (other : ℕ) → other < index → listed_at listed other <ℤ value
  pub not_below : (other : ℕ) → index ≤ other → other < length listed → value ≤ℤ listed_at listed other
