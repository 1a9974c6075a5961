-- What the passes of one turn know: what each has seen, its caller numbers, and what its jobs did.
use Rattle.std.specs.Prelude.{◌≡◌, ℕ, ◌+◌, ◌-◌, ◌≤◌, ◌==◌, nat_le, nat_lt, ◌&&◌, if◌then◌else◌, false, List, [], ◌∷◌, ◌++◌, map, Option, Some, None}
pub use Rattle.atomic_table.specs.Seated.{TableId}
use Rattle.farm_turn.specs.declared.views.Known.{Known}
use Rattle.farm_turn.specs.declared.views.View.{View}
use Rattle.farm_turn.specs.Chronicles.{Features}

-- the caller numbers are those below it
abbrev pub number_limit : ℕ
number_limit = 4294967295

-- what nobody knows
abbrev pub blank : {E R : Type 0} → Known E R
blank = record { seen = []; own = []; number = None; next = 0; end = 0; root = None; tally = 0; mark = 0; level = 0; holds = false }

-- the view of one pass
abbrev pub one : {E R : Type 0} → Known E R → View E R
one k = record { known = k ∷ [] }

-- a view that no pass stands for any more
abbrev pub spent : {E R : Type 0} → View E R
spent = record { known = [] }

-- what is known in all views, one after another
abbrev pub all_known : {E R : Type 0} → List (View E R) → List (Known E R)
all_known [] = []
all_known (v ∷ vs) = v.known ++ all_known vs

-- the view after each pass that it stands for changed in the same way
abbrev pub every : {E R : Type 0} → (Known E R → Known E R) → View E R → View E R
every change v = record { known = map change v.known }

-- two views as one
abbrev pub joined : {E R : Type 0} → View E R → View E R → View E R
joined v w = record { known = v.known ++ w.known }

-- what the first of these knows
abbrev pub first_or_blank : {E R : Type 0} → List (Known E R) → Known E R
first_or_blank [] = blank
first_or_blank (k ∷ ks) = k

-- what the one pass of a badge knows
abbrev pub known_of : {E R : Type 0} → List (View E R) → Known E R
known_of [] = blank
known_of (v ∷ vs) = first_or_blank v.known

-- 1 where a pass has the turn
abbrev pub turns : {E R : Type 0} → Known E R → ℕ
turns k = if k.holds then 1 else 0

-- 1 where x is the number
abbrev pub number_is : ℕ → Option ℕ → ℕ
number_is x None = 0
number_is x (Some n) = if n == x then 1 else 0

-- 1 where x is the pass's own number
abbrev pub owns : {E R : Type 0} → ℕ → Known E R → ℕ
owns x k = number_is x k.number

-- 1 where x is among the numbers that the pass has left
abbrev pub leaves : {E R : Type 0} → ℕ → Known E R → ℕ
leaves x k = if nat_le k.next x && nat_lt x k.end then 1 else 0

-- 1 where x is a number of the pass, its own or left
abbrev pub has : {E R : Type 0} → ℕ → Known E R → ℕ
has x k = owns x k + leaves x k

-- x is among the numbers that the pass has left, and none of these is less
pub record IsLeastLeft {E R : Type 0} (x : ℕ) (k : Known E R) : Type 0 where
  pub is_left : leaves x k ≡ 1
  pub least : (y : ℕ) → leaves y k ≡ 1 → x ≤ y

-- how many numbers a pass has left
abbrev pub left_of : {E R : Type 0} → Known E R → ℕ
left_of k = k.end - k.next

-- 1 where there is a number
abbrev pub number_count : Option ℕ → ℕ
number_count None = 0
number_count (Some n) = 1

-- how many numbers a pass has, own and left
abbrev pub numbers_of : {E R : Type 0} → Known E R → ℕ
numbers_of k = number_count k.number + left_of k

-- 1 where x is a caller number
abbrev pub is_number : ℕ → ℕ
is_number x = if nat_lt x number_limit then 1 else 0

-- the pass after its least number left became its own
abbrev pub enrolled : {E R : Type 0} → Known E R → Known E R
enrolled k = record k { number = Some k.next; next = k.next + 1 }

-- the pass after its least number left went to another one
abbrev pub without_least : {E R : Type 0} → Known E R → Known E R
without_least k = record k { next = k.next + 1 }

-- a new pass, which has seen what this one has, and has this one's least number left
abbrev pub split_off : {E R : Type 0} → Known E R → Known E R
split_off k = record { seen = k.seen; own = []; number = None; next = k.next; end = k.next + 1; root = k.root; tally = 0; mark = k.mark; level = k.level; holds = false }

module _ {V E R : Type 0} (f : Features V E R) where
  -- the first pass of a turn
  abbrev pub first_known : V → Known E R
  first_known value = record { seen = f.past value; own = []; number = None; next = 0; end = number_limit; root = Some (f.root value); tally = 0; mark = f.mark value; level = f.tally value; holds = false }

-- what a pass shows: which turn it is of, and what it knows
pub record PassView (E R : Type 0) : Type 0 where
  pub turn : TableId
  pub known : Known E R

-- all that these passes know, as one view
abbrev pub together : {E R : Type 0} → List (PassView E R) → View E R
together passes = record { known = map (λ p. p.known) passes }

-- what a turn shows: which it is, and the value that it was opened with
pub record TurnView (V : Type 0) : Type 0 where
  pub turn : TableId
  pub opening : V
