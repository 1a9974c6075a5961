-- The closest of rising values: each compared in turn, and by a binary search.
use Rattle.std.proofs.Common.{◌≡◌, inl, inr, ℕ, zero, suc, ◌+◌, ◌-◌, ◌<◌, ◌≤◌, Bool, true, false, List, [], ◌∷◌, length, get_or, refl, subst, add-one, ◌∙◌, arith}
use Rattle.std.proofs.lemmas.Bool.Decides.{leb_tells}
use Rattle.std.proofs.lemmas.Int.{ints}
use Rattle.std.proofs.lemmas.List.{get_or_default}
use Rattle.std.specs.List.Sorted.{IsPartitionedBy, IsPartitionPoint}
use Rattle.std.specs.Int.RustNames.{int_lt}
use Rattle.std.specs.Prelude.{ℤ, pos, ◌≤ℤ◌, ◌<ℤ◌}
use Rattle.farm_rounding.specs.declared.mode.Mode.{Mode}
use Rattle.farm_vcf.specs.Closest.{IsClosest, IsCovered, IsFirstNotBelow, IsTakenOver, Rises, closest, first_or_later, is_taken_over, listed_at}
use Rattle.farm_vcf.proofs.Taking.{over_itself, over_on, over_tells, over_fails, over_both, over_above, over_below}

-- of rising values each is below those after it
rises_by : (listed : List ℤ) → Rises listed → (k i j : ℕ) → j ≡ i + k + 1 → j < length listed → listed_at listed i <ℤ listed_at listed j
rises_by listed up zero i j far within =
    let P : ℕ → Type 0 = λ m. listed_at listed i <ℤ listed_at listed m in
    let next : i + 1 ≡ j = omega arith in
    subst P next (up.steps i (omega arith))
rises_by listed up (suc k) i j far within =
    let before : listed_at listed i <ℤ listed_at listed (i + k + 1) = rises_by listed up k i (i + k + 1) refl (omega arith) in
    let step : listed_at listed (i + k + 1) <ℤ listed_at listed (i + k + 1 + 1) = up.steps (i + k + 1) (omega arith) in
    let P : ℕ → Type 0 = λ m. listed_at listed i <ℤ listed_at listed m in
    let next : i + k + 1 + 1 ≡ j = omega arith in
    subst P next (omega (arith, ints))

-- of two listed values the later is the greater
pub rises_later : (listed : List ℤ) → Rises listed → (i j : ℕ) → i < j → j < length listed → listed_at listed i <ℤ listed_at listed j
rises_later listed up i j later within = rises_by listed up (j - i - 1) i j (omega arith) within

-- and at most each from it on
pub rises_on : (listed : List ℤ) → Rises listed → (i j : ℕ) → i ≤ j → j < length listed → listed_at listed i ≤ℤ listed_at listed j
rises_on listed up i j later within = elim (leb_tells j i) [
  | inl t ↦
      let P : ℕ → Type 0 = λ m. listed_at listed i ≤ℤ listed_at listed m in
      let same : i ≡ j = omega (arith, t.1) in
      subst P same (omega (arith, ints))
  | inr t ↦ let above : listed_at listed i <ℤ listed_at listed j = rises_later listed up i j (omega (arith, t.1)) within in omega (arith, ints)
]

-- only one of rising values is the closest
pub one_closest : (mode : Mode) (value : ℤ) (listed : List ℤ) → Rises listed → (i j : ℕ) → IsClosest mode value listed i → IsClosest mode value listed j → i ≡ j
one_closest mode value listed up i j first second =
    let same : listed_at listed i ≡ listed_at listed j = over_both mode value _ _ (first.taken j second.within) (second.taken i first.within) in
    elim (leb_tells j i) [
      | inl t ↦ elim (leb_tells i j) [
        | inl u ↦ omega (arith, t.1, u.1)
        | inr u ↦ let above : listed_at listed j <ℤ listed_at listed i = rises_later listed up j i (omega (arith, u.1)) first.within in absurd (omega (arith, ints))
      ]
      | inr t ↦ let above : listed_at listed i <ℤ listed_at listed j = rises_later listed up i j (omega (arith, t.1)) second.within in absurd (omega (arith, ints))
    ]

-- the first of the list is taken over those after it
first_taken : (mode : Mode) (value first : ℤ) (rest : List ℤ) (later : ℕ) → IsClosest mode value rest later → IsTakenOver mode value first (listed_at rest later) → (other : ℕ) → other < length (first ∷ rest) → IsTakenOver mode value first (listed_at (first ∷ rest) other)
first_taken mode value first rest later law over zero within = over_itself mode value first
first_taken mode value first rest later law over (suc other) within = over_on mode value first _ _ over (law.taken other (omega arith))

-- or a later one is
later_taken : (mode : Mode) (value first : ℤ) (rest : List ℤ) (later : ℕ) → IsClosest mode value rest later → IsTakenOver mode value (listed_at rest later) first → (other : ℕ) → other < length (first ∷ rest) → IsTakenOver mode value (listed_at rest later) (listed_at (first ∷ rest) other)
later_taken mode value first rest later law over zero within = over
later_taken mode value first rest later law over (suc other) within = law.taken other (omega arith)

-- the one that is taken of a value and those after it
taken_of : (mode : Mode) (value first next : ℤ) (rest : List ℤ) (later : ℕ) (b : Bool) → is_taken_over mode value first (listed_at (next ∷ rest) later) ≡ b → IsClosest mode value (next ∷ rest) later → IsClosest mode value (first ∷ next ∷ rest) (first_or_later mode value first (next ∷ rest) later)
taken_of mode value first next rest later true e law =
    rw e (record { within = omega arith; taken = first_taken mode value first (next ∷ rest) later law (over_tells mode value _ _ e) })
taken_of mode value first next rest later false e law =
    rw (e, add-one) (record { within = omega (arith, law.within); taken = later_taken mode value first (next ∷ rest) later law (over_fails mode value _ _ e) })

-- a single listed value is taken
only : (mode : Mode) (value first : ℤ) (other : ℕ) → other < length (first ∷ []) → IsTakenOver mode value first (listed_at (first ∷ []) other)
only mode value first zero within = over_itself mode value first
only mode value first (suc other) within = absurd (omega arith)

-- the value that is taken, each compared in turn, is the closest
pub closest_is : (mode : Mode) (value : ℤ) (listed : List ℤ) → 0 < length listed → IsClosest mode value listed (closest mode value listed)
unfolding closest
closest_is mode value [] some = absurd (omega arith)
closest_is mode value (first ∷ []) some = record { within = omega arith; taken = only mode value first }
closest_is mode value (first ∷ next ∷ rest) some =
    taken_of mode value first next rest (closest mode value (next ∷ rest)) _ refl (closest_is mode value (next ∷ rest) (omega arith))

-- the first that isn't below the value, where it is taken over the one before
pub closest_above : (mode : Mode) (value : ℤ) (listed : List ℤ) (index : ℕ) → Rises listed → IsFirstNotBelow value listed index → index < length listed → (0 < index → IsTakenOver mode value (listed_at listed index) (listed_at listed (index - 1))) → IsClosest mode value listed index
closest_above mode value listed index up found within over = record {
  within = within;
  taken = λ other there. elim (leb_tells index other) [
    | inl t ↦ over_above mode value _ _ (found.not_below index (omega arith) within) (rises_on listed up index other t.1 there)
    | inr t ↦
        let before : listed_at listed (index - 1) <ℤ value = found.below (index - 1) (omega (arith, t.1)) in
        over_on mode value _ _ _ (over (omega (arith, t.1))) (over_below mode value _ _ (omega (arith, ints)) (rises_on listed up other (index - 1) (omega (arith, t.1)) (omega (arith, t.1))))
  ];
}

-- the one before, where it is taken
pub closest_below : (mode : Mode) (value : ℤ) (listed : List ℤ) (index : ℕ) → Rises listed → IsFirstNotBelow value listed index → 0 < index → index < length listed → IsTakenOver mode value (listed_at listed (index - 1)) (listed_at listed index) → IsClosest mode value listed (index - 1)
closest_below mode value listed index up found some within over = record {
  within = omega arith;
  taken = λ other there. elim (leb_tells index other) [
    | inl t ↦ over_on mode value _ _ _ over (over_above mode value _ _ (found.not_below index (omega arith) within) (rises_on listed up index other t.1 there))
    | inr t ↦
        let before : listed_at listed (index - 1) <ℤ value = found.below (index - 1) (omega (arith, t.1)) in
        over_below mode value _ _ (omega (arith, ints)) (rises_on listed up other (index - 1) (omega (arith, t.1)) (omega arith))
  ];
}

-- a value in a list is the same for any default
at_default : (listed : List ℤ) (i : ℕ) (d : ℤ) → i < length listed → get_or listed i d ≡ listed_at listed i
at_default listed i d within = get_or_default listed i d (pos 0) within

-- what the binary search asks of rising values
pub partitioned : (value : ℤ) (listed : List ℤ) → Rises listed → IsPartitionedBy (λ other. int_lt other value) listed
partitioned value listed up i j d later within below =
    let first = at_default listed i d (omega arith) in
    let second = at_default listed j d within in
    let over : listed_at listed i ≤ℤ listed_at listed j = rises_on listed up i j later within in
    rw first (let less : int_lt (listed_at listed j) value ≡ true = (rw second at below) in grind (arith, ints))

-- and what it answers
pub first_from_point : (value : ℤ) (listed : List ℤ) (index : ℕ) → index ≤ length listed → IsPartitionPoint (λ other. int_lt other value ≡ true) (λ other. int_lt other value ≡ false) listed index → IsFirstNotBelow value listed index
first_from_point value listed index within point = record {
  within = within;
  below = λ other there. let less : int_lt (listed_at listed other) value ≡ true = point.0 other (pos 0) (omega arith) there in grind (arith, ints);
  not_below = λ other from there. let less : int_lt (listed_at listed other) value ≡ false = point.1 other (pos 0) from there in grind (arith, ints);
}

-- a covered value isn't above each listed one
pub found_there : (value : ℤ) (listed : List ℤ) (index : ℕ) → IsCovered value listed → 0 < length listed → IsFirstNotBelow value listed index → index < length listed
found_there value listed index covered some found = elim (leb_tells (length listed) index) [
  | inl t ↦
      let last : listed_at listed (length listed - 1) <ℤ value = found.below (length listed - 1) (omega (arith, t.1)) in
      let high : value ≤ℤ listed_at listed (length listed - 1) = covered.to_last in
      absurd (omega (arith, ints))
  | inr t ↦ t.1
]

-- a value that was read is the one listed at its index
pub read_at : (listed : List ℤ) (i : ℕ) (x : ℤ) → x ≡ get_or listed i x → i < length listed → x ≡ listed_at listed i
read_at listed i x read within = read ∙ at_default listed i x within

-- the answers of a binary search
pub searched_below : (mode : Mode) (value : ℤ) (listed : List ℤ) (index : ℕ) (low high : ℤ) → Rises listed → IsCovered value listed → 0 < length listed → IsFirstNotBelow value listed index → 0 < index →
    low ≡ get_or listed (index - 1) low → high ≡ get_or listed index high → is_taken_over mode value low high ≡ true → index - 1 ≡ closest mode value listed
searched_below mode value listed index low high up covered some found above low_is high_is over =
    let within : index < length listed = found_there value listed index covered some found in
    let low_at : low ≡ listed_at listed (index - 1) = read_at listed (index - 1) low low_is (omega arith) in
    let high_at : high ≡ listed_at listed index = read_at listed index high high_is within in
    let taken : IsTakenOver mode value (listed_at listed (index - 1)) (listed_at listed index) = over_tells mode value _ _ (rw (low_at, high_at) at over) in
    one_closest mode value listed up _ _ (closest_below mode value listed index up found above within taken) (closest_is mode value listed some)

-- the answer where the search stops at the value that is taken
pub searched_above : (mode : Mode) (value : ℤ) (listed : List ℤ) (index : ℕ) (low high : ℤ) → Rises listed → IsCovered value listed → 0 < length listed → IsFirstNotBelow value listed index → 0 < index →
    low ≡ get_or listed (index - 1) low → high ≡ get_or listed index high → is_taken_over mode value low high ≡ false → index ≡ closest mode value listed
searched_above mode value listed index low high up covered some found above low_is high_is over =
    let within : index < length listed = found_there value listed index covered some found in
    let low_at : low ≡ listed_at listed (index - 1) = read_at listed (index - 1) low low_is (omega arith) in
    let high_at : high ≡ listed_at listed index = read_at listed index high high_is within in
    let taken : IsTakenOver mode value (listed_at listed index) (listed_at listed (index - 1)) = over_fails mode value _ _ (rw (low_at, high_at) at over) in
    one_closest mode value listed up _ _ (closest_above mode value listed index up found within (λ some_below. taken)) (closest_is mode value listed some)

-- and where it stops at the first value
pub searched_first : (mode : Mode) (value : ℤ) (listed : List ℤ) (index : ℕ) → Rises listed → IsCovered value listed → 0 < length listed → IsFirstNotBelow value listed index → index ≤ 0 → index ≡ closest mode value listed
searched_first mode value listed index up covered some found none =
    one_closest mode value listed up _ _ (closest_above mode value listed index up found (found_there value listed index covered some found) (λ some_below. absurd (omega arith))) (closest_is mode value listed some)
