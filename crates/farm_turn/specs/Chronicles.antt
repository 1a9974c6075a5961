-- What a shared value shows of itself, and how a job may change it.
use Rattle.std.specs.Prelude.{◌≡◌, ◌⊎◌, ℕ, ◌==◌, List, [], ◌∷◌, ◌++◌, length, drop, filter, Option, Some, None}

-- what a value shows: its past, the caller of an entry, its root, its tally and its mark
pub record Features (V E R : Type 0) : Type 0 where
  pub past : V → List E
  pub caller_of : E → ℕ
  pub root : V → R
  pub tally : V → ℕ
  pub mark : V → ℕ

-- the features of a chronicle, by its members
abbrev pub features : {V E R : Type 0} → (V → List E) → (E → ℕ) → (V → R) → (V → ℕ) → (V → ℕ) → Features V E R
features past caller_of root tally mark = record { past = past; caller_of = caller_of; root = root; tally = tally; mark = mark }

-- the new past is the old one, or has one entry more, of this caller
abbrev pub GrowsBy : {E : Type 0} → (E → ℕ) → ℕ → List E → List E → Type 0
GrowsBy {E} caller_of caller old new = (new ≡ old) ⊎ ((entry : E) × (caller_of entry ≡ caller) × (new ≡ old ++ entry ∷ []))

-- the entries that a past has after an earlier one
abbrev pub since : {E : Type 0} → List E → List E → List E
since earlier past = drop (length earlier) past

-- the entries of a caller among these, in their order; none for one without a number
abbrev pub entries_of : {E : Type 0} → (E → ℕ) → Option ℕ → List E → List E
entries_of caller_of None entries = []
entries_of caller_of (Some number) entries = filter (λ entry. caller_of entry == number) entries
