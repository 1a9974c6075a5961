-- What an answer says of the lines of an input.
use Rattle.std.proofs.Common.{◌≡◌, ℕ, ◌<◌, ◌≤◌, true, false, Option, Some, None, List, Result, Ok, Err, refl}
use Rattle.std.specs.Option.{IsSome}
use Rattle.farm_base.specs.Steps.{or_fault}
use Rattle.calc_input.specs.Lines.{is_blank_line}

-- None is no value
pub none_there : (A : Type 0) → IsSome {T = A} None → ⊥
none_there A is = cc

-- Some is a value
pub some_there : {A : Type 0} (o : Option A) (x : A) → o ≡ Some x → IsSome o
some_there o x is = rw is refl

-- a line that isn't blank
pub not_blank : (line : List ℕ) → is_blank_line line ≡ false → is_blank_line line ≡ true → ⊥
not_blank line used blank = cc

-- a step that was taken, or its fault
step_taken : {A : Type 0} (number : ℕ) (o : Option A) (x : A) → or_fault number o ≡ Ok x → o ≡ Some x
step_taken number None x is = cc
step_taken number (Some y) x is = cc

-- one number is another count
pub same_count : (o : Option ℕ) (known other : ℕ) → o ≡ Some known → o ≡ Some other → known ≡ other
same_count o known other first second = cc

-- The first number at which something doesn't hold: it holds at each before it.
pub record IsFirstFailing (P : ℕ → Type 0) (number : ℕ) : Type 0 where
  pub from_one : 1 ≤ number
  pub before : (earlier : ℕ) → 1 ≤ earlier → earlier < number → P earlier
  pub here : ¬ (P number)

-- what an answer says of the lines: each is expected, or the first that isn't has this number
abbrev pub Judges : {A : Type 0} → (ℕ → Type 0) → Result A ℕ → Type 0
Judges P (Ok form) = (number : ℕ) → 1 ≤ number → P number
Judges P (Err number) = IsFirstFailing P number
