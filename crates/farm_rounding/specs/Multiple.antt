-- Rounding n / d to a multiple of a step. n is signed, d and the step are positive.
use Rattle.std.specs.Prelude.{◌≡◌, ◌⊎◌, ℕ, ◌+◌, ◌*◌, ◌/◌, ◌%◌, ◌≤◌, Bool, false, IsTrue, ◌==◌, ◌||◌, ◌&&◌, if◌then◌else◌, nat_le, nat_lt, ℤ, pos, negsuc, neg_ℤ, ◌*ℤ◌, ◌-ℤ◌, ◌≤ℤ◌}
use Rattle.std.specs.Int.RustNames.{unsigned_abs}
use Rattle.farm_rounding.specs.declared.mode.Mode.{Mode}
use Rattle.farm_rounding.specs.declared.mode.Mode.TheVariants.{HalfAway, TowardZero, HalfEven}

-- the steps that a rounding table may have
abbrev pub is_step : ℕ → Bool
is_step n = n == 1 || n == 2 || n == 5 || n == 10 || n == 20 || n == 50 || n == 100

-- the same, of a signed number
abbrev pub IsAllowedStep : ℤ → Type 0
IsAllowedStep step = (pos 0 ≤ℤ step) × IsTrue (is_step (unsigned_abs step))

-- Whether what is left over the whole steps makes one step more; whole is the step times d.
abbrev pub rounds_up : Mode → ℕ → ℕ → ℕ → Bool
rounds_up HalfAway steps left whole = nat_le whole (2 * left)
rounds_up TowardZero steps left whole = false
rounds_up HalfEven steps left whole = nat_lt whole (2 * left) || (2 * left == whole && steps % 2 == 1)

-- this magnitude with the sign of n
abbrev pub with_sign_of : ℤ → ℕ → ℤ
with_sign_of (pos n) m = pos m
with_sign_of (negsuc n) m = neg_ℤ (pos m)

-- how many wholes the magnitude n is rounded to
unfoldable pub steps_to : Mode → ℕ → ℕ → ℕ
steps_to mode n whole = n / whole + (if rounds_up mode (n / whole) (n % whole) whole then 1 else 0)

-- the multiple of the step that n / d is rounded to
unfoldable pub nearest_multiple : Mode → ℤ → ℕ → ℕ → ℤ
nearest_multiple mode n d step = with_sign_of n (steps_to mode (unsigned_abs n) (step * d) * step)

-- a magnitude differs from that of the quotient, its fraction dropped, by at most a step
pub record IsWithinAStep (quotient step magnitude : ℕ) : Type 0 where
  pub above : magnitude ≤ quotient + step
  pub below : quotient ≤ magnitude + step

-- m is a multiple of the step
abbrev pub IsMultiple : ℕ → ℤ → Type 0
IsMultiple step m = (k : ℤ) × (m ≡ k *ℤ pos step)

-- how far m lies from n / d, times d
abbrev pub distance : ℤ → ℕ → ℤ → ℕ
distance n d m = unsigned_abs (m *ℤ pos d -ℤ n)

-- m is at the least distance from n / d, and of two multiples at that distance the one of greater magnitude
pub record IsNearestHalfAway (n : ℤ) (d step : ℕ) (m : ℤ) : Type 0 where
  pub multiple : IsMultiple step m
  pub nearest : (other : ℤ) → IsMultiple step other → distance n d m ≤ distance n d other
  pub ties : (other : ℤ) → IsMultiple step other → distance n d other ≡ distance n d m → unsigned_abs other ≤ unsigned_abs m

-- m is an even number of steps: a multiple of twice the step
abbrev pub IsEvenMultiple : ℕ → ℤ → Type 0
IsEvenMultiple step m = IsMultiple (2 * step) m

-- m is at the least distance from n / d, and of two multiples at that distance the one that is an even number of steps
pub record IsNearestHalfEven (n : ℤ) (d step : ℕ) (m : ℤ) : Type 0 where
  pub multiple : IsMultiple step m
  pub nearest : (other : ℤ) → IsMultiple step other → distance n d m ≤ distance n d other
  pub ties : (other : ℤ) → IsMultiple step other → distance n d other ≡ distance n d m → ¬ (other ≡ m) → IsEvenMultiple step m

-- m lies between 0 and n / d, both included
abbrev pub IsBetween : ℤ → ℕ → ℤ → Type 0
IsBetween n d m = ((pos 0 ≤ℤ m) × ((m *ℤ pos d) ≤ℤ n)) ⊎ ((n ≤ℤ (m *ℤ pos d)) × (m ≤ℤ pos 0))

-- m is the multiple of greatest magnitude between 0 and n / d
pub record IsTruncated (n : ℤ) (d step : ℕ) (m : ℤ) : Type 0 where
  pub multiple : IsMultiple step m
  pub between : IsBetween n d m
  pub greatest : (other : ℤ) → IsMultiple step other → IsBetween n d other → unsigned_abs other ≤ unsigned_abs m

-- m is what the mode rounds n / d to
abbrev pub IsNearest : Mode → ℤ → ℕ → ℕ → ℤ → Type 0
IsNearest HalfAway n d step m = IsNearestHalfAway n d step m
IsNearest TowardZero n d step m = IsTruncated n d step m
IsNearest HalfEven n d step m = IsNearestHalfEven n d step m
