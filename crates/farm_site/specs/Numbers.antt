-- Items of their own number, and lists of them in rising order of it.
use Rattle.std.specs.Prelude.{ℕ, ◌==◌, ◌&&◌, Bool, true, nat_lt, if◌then◌else◌, List, [], ◌∷◌, map, Option, Some, None}
use Rattle.std.specs.List.{list_all, list_any}

-- a number is among others
abbrev pub is_among : ℕ → List ℕ → Bool
is_among n numbers = list_any (λ other. other == n) numbers

-- the first item with a number
abbrev pub item_numbered : {A : Type 0} → (A → ℕ) → ℕ → List A → Option A
item_numbered number n [] = None
item_numbered number n (item ∷ items) = if number item == n then Some item else item_numbered number n items

-- numbers rise, each greater than the one before
abbrev pub rises_from : ℕ → List ℕ → Bool
rises_from before [] = true
rises_from before (n ∷ numbers) = nat_lt before n && rises_from n numbers

-- Whether numbers rise, each greater than the one before it.
abbrev pub rises : List ℕ → Bool
rises [] = true
rises (n ∷ numbers) = rises_from n numbers

-- each item is sound, and their numbers rise
abbrev pub are_numbered : {A : Type 0} → (A → ℕ) → (A → Bool) → List A → Bool
are_numbered number is_sound items = list_all is_sound items && rises (map number items)
