-- Steps that may fail, one after another, and the first of two faults.
use Rattle.std.specs.Prelude.{◌≡◌, Option, Some, None, Result, Ok, Err}

infixl 10 ◌>>=◌
-- the next step on what the first one gives; the first fault ends them
abbrev pub ◌>>=◌ : {A B E : Type 0} → Result A E → (A → Result B E) → Result B E
(Ok value) >>= next = next value
(Err fault) >>= next = Err fault

-- the first of two that is there
abbrev pub or_else : {A : Type 0} → Option A → Option A → Option A
or_else None second = second
or_else (Some first) second = Some first

-- what is there, or this fault
abbrev pub or_fault : {A E : Type 0} → E → Option A → Result A E
or_fault fault None = Err fault
or_fault fault (Some value) = Ok value

-- A call is refused with the fault of the definition. A refusal that no definition has (None: out of memory, or a port
-- that failed) may come at any time.
abbrev pub IsRefusedAs : {A E : Type 0} → Option E → Result A E → Type 0
IsRefusedAs None answer = Unit {0}
IsRefusedAs (Some fault) answer = answer ≡ Err fault
