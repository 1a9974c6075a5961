-- Roundings and volumes rise: what is more is rounded to no less, and the volume at a greater height of a tank is no less.
use Rattle.std.proofs.Common.{◌≡◌, inl, inr, ℕ, zero, suc, ◌+◌, ◌-◌, ◌*◌, ◌/◌, ◌%◌, ◌<◌, ◌≤◌, ◌==◌, Bool, true, false, cond, if◌then◌else◌, List, length, Some, ℤ, pos, ◌+ℤ◌, ◌-ℤ◌, ◌*ℤ◌, ◌≤ℤ◌, refl, ap, ap₂, sym, ◌∙◌, subst, mul_assoc, arith}
use Rattle.std.proofs.Math.Nat.{mul-le-mul_left, mul-le-mul_right}
use Rattle.std.proofs.lemmas.Nat.{div-add-mod', mod_below, le-div, div-mul-add, mod-mul-add}
use Rattle.std.proofs.lemmas.Bool.Decides.{nat_tests}
use Rattle.std.proofs.lemmas.Int.{ints}
use Rattle.std.specs.Int.RustNames.{unsigned_abs}
use Rattle.farm_rounding.specs.declared.mode.Mode.{Mode}
use Rattle.farm_rounding.specs.declared.mode.Mode.TheVariants.{HalfAway, TowardZero, HalfEven}
use Rattle.farm_rounding.specs.Multiple.{nearest_multiple, rounds_up, steps_to}
use Rattle.farm_rounding.proofs.Steps.{either_side}
use Rattle.strap_table.specs.Capacity.{IsCapTable, row_at, table_volume, tenths_between, volume_at}
use Rattle.strap_table.proofs.Rows.{of_covered}

-- where more is left over the same wholes, one is still added
still_up : (mode : Mode) (q r s w : ℕ) → r ≤ s → rounds_up mode q r w ≡ true → rounds_up mode q s w ≡ true
still_up HalfAway q r s w more up = grind (arith, nat_tests)
still_up TowardZero q r s w more up = up
still_up HalfEven q r s w more up = grind (arith, nat_tests)

-- what is added where one test passes is no more than where it and maybe another does
added_rises : (b c : Bool) → (b ≡ true → c ≡ true) → cond b 1 0 ≤ cond c 1 0
added_rises true true on = omega arith
added_rises true false on = let up : false ≡ true = on refl in cc
added_rises false c on = omega arith

-- where more is left over the same wholes, no less is added
left_rises : (mode : Mode) (q r s w : ℕ) → r ≤ s → cond (rounds_up mode q r w) 1 0 ≤ cond (rounds_up mode q s w) 1 0
left_rises mode q r s w more = added_rises (rounds_up mode q r w) (rounds_up mode q s w) (still_up mode q r s w more)

-- one whole is added at most
one_more : (b : Bool) → cond b 1 0 ≤ 1
one_more true = omega arith
one_more false = omega arith

-- more is rounded to no fewer wholes
steps_rise : (mode : Mode) (n m w : ℕ) → 0 < w → n ≤ m → steps_to mode n w ≤ steps_to mode m w
unfolding steps_to
steps_rise mode n m w positive below =
    let first = div-add-mod' n w in
    let second = div-add-mod' m w in
    let fewer : n / w ≤ m / w = le-div (n / w) m w positive (omega (arith, first)) in
    elim (either_side (m / w) (n / w)) [
      | inl reached ↦
          let same : n / w ≡ m / w = omega arith in
          let wholes = ap (λ k. k * w) same in
          let left : n % w ≤ m % w = omega (arith, first, second, wholes) in
          let P : ℕ → Type 0 = λ q. cond (rounds_up mode (n / w) (n % w) w) 1 0 ≤ cond (rounds_up mode q (m % w) w) 1 0 in
          let added = subst P same (left_rises mode (n / w) (n % w) (m % w) w left) in
          omega (arith, same, added)
      | inr short ↦
          let b : Bool = rounds_up mode (n / w) (n % w) w in
          omega (arith, one_more b)
    ]

-- tenths of what is left over the same wholes make as much as it
left_scaled : (mode : Mode) (q r w : ℕ) → rounds_up mode q (10 * r) (w * 10) ≡ rounds_up mode q r w
left_scaled HalfAway q r w = grind (arith, nat_tests)
left_scaled TowardZero q r w = refl
left_scaled HalfEven q r w = grind (arith, nat_tests)

-- ten times as much is rounded to as many of wholes that are ten times as great
steps_scaled : (mode : Mode) (n w : ℕ) → 0 < w → steps_to mode (10 * n) (w * 10) ≡ steps_to mode n w
unfolding steps_to
steps_scaled mode n w positive =
    let parts = div-add-mod' n w in
    let part : n % w < w = mod_below n w positive in
    let bound : 10 * (n % w) < w * 10 = omega arith in
    let wholes : n / w * (w * 10) ≡ 10 * (n / w * w) = omega (arith, mul_assoc (n / w) w 10) in
    let split : n / w * (w * 10) + 10 * (n % w) ≡ 10 * n = omega (arith, wholes, parts) in
    let quotient : 10 * n / (w * 10) ≡ n / w =
    ap (λ k. k / (w * 10)) (sym split) ∙ div-mul-add (n / w) (w * 10) (10 * (n % w)) bound in
    let left : 10 * n % (w * 10) ≡ 10 * (n % w) =
    ap (λ k. k % (w * 10)) (sym split) ∙ mod-mul-add (n / w) (w * 10) (10 * (n % w)) bound in
    let up : rounds_up mode (10 * n / (w * 10)) (10 * n % (w * 10)) (w * 10) ≡ rounds_up mode (n / w) (n % w) w =
    ap₂ (λ q k. rounds_up mode q k (w * 10)) quotient left ∙ left_scaled mode (n / w) (n % w) w in
    ap₂ (λ k b. k + cond b 1 0) quotient up

-- numbers that rise one by one rise
rise_chain : (a : ℕ → ℕ) (n : ℕ) → ((i : ℕ) → i + 1 < n → a i ≤ a (i + 1)) → (i k : ℕ) → i + k < n → a i ≤ a (i + k)
rise_chain a n rising i zero short =
    let same : i ≡ i + 0 = omega arith in
    subst (λ j. a i ≤ a j) same (omega arith)
rise_chain a n rising i (suc k) short =
    let before = rise_chain a n rising i k (omega arith) in
    let next = rising (i + k) (omega arith) in
    let same : i + k + 1 ≡ i + suc k = omega arith in
    subst (λ j. a i ≤ a j) same (omega (arith, before, next))

-- the tenths at a height, of numbers at each ten
tenths_at : (ℕ → ℕ) → ℕ → ℕ
tenths_at a h = 10 * a (h / 10) + (a (h / 10 + 1) - a (h / 10)) * (h % 10)

-- the tenths rise
tenths_rise : (a : ℕ → ℕ) (n : ℕ) → ((i : ℕ) → i + 1 < n → a i ≤ a (i + 1)) → (h l : ℕ) → h ≤ l → l ≤ 10 * (n - 1) → 0 < n →
    tenths_at a h ≤ tenths_at a l
unfolding tenths_at
tenths_rise a n rising h l below within some = elim (either_side (l / 10) (h / 10)) [
  | inl reached ↦
      let same : h / 10 ≡ l / 10 = omega arith in
      let left : h % 10 ≤ l % 10 = omega arith in
      let more = mul-le-mul_left (a (h / 10 + 1) - a (h / 10)) left in
      let P : ℕ → Type 0 = λ i. 10 * a (h / 10) + (a (h / 10 + 1) - a (h / 10)) * (h % 10) ≤ 10 * a i + (a (i + 1) - a i) * (l % 10) in
      subst P same (omega (arith, more))
  | inr short ↦
      let next : a (h / 10) ≤ a (h / 10 + 1) = rising (h / 10) (omega arith) in
      let part = mul-le-mul_left (a (h / 10 + 1) - a (h / 10)) (let less : h % 10 ≤ 10 = omega arith in less) in
      let chain = rise_chain a n rising (h / 10 + 1) (l / 10 - (h / 10 + 1)) (omega arith) in
      let there : h / 10 + 1 + (l / 10 - (h / 10 + 1)) ≡ l / 10 = omega arith in
      let rows : a (h / 10 + 1) ≤ a (l / 10) = subst (λ j. a (h / 10 + 1) ≤ a j) there chain in
      omega (arith, next, part, rows)
]

-- the litres of a row
litres : List ℤ → ℕ → ℕ
litres rows i = unsigned_abs (row_at rows i)

-- a row of a table isn't below zero
row_is : (rows : List ℤ) → IsCapTable rows → (i : ℕ) → row_at rows i ≡ pos (litres rows i)
unfolding litres
row_is rows table i = let low = (table.volumes i).low in omega (arith, ints, low)

-- the litres of rows rise
litres_rise : (rows : List ℤ) → IsCapTable rows → (i : ℕ) → i + 1 < length rows → litres rows i ≤ litres rows (i + 1)
litres_rise rows table i short =
    let up = table.rising i short in
    let first = row_is rows table i in
    let second = row_is rows table (i + 1) in
    omega (arith, ints, up, first, second)

-- the tenths between two rows of which the second isn't less
between_is : (a b t : ℕ) → a ≤ b → tenths_between (pos a) (pos b) (pos t) ≡ pos (10 * a + (b - a) * t)
between_is a b t more =
    let rise : pos b -ℤ pos a ≡ pos (b - a) = omega (arith, ints) in
    ap (λ x. pos 10 *ℤ pos a +ℤ x *ℤ pos t) rise

-- what a number of tenths is rounded to
rounded_tenths : Mode → ℕ → ℕ → ℕ
rounded_tenths mode step tenths = steps_to mode tenths (step * 10) * step

-- the rounding of a whole number of litres is that of its tenths
whole_rounded : (mode : Mode) (step a : ℕ) → steps_to mode a (step * 1) * step ≡ rounded_tenths mode step (10 * a)
unfolding rounded_tenths
whole_rounded mode zero a = omega arith
whole_rounded mode (suc s) a =
    let one : suc s * 1 ≡ suc s = omega arith in
    ap (λ w. steps_to mode a w * suc s) one ∙ ap (λ k. k * suc s) (sym (steps_scaled mode a (suc s) (omega arith)))

-- the volume at a height of a table is the rounding of the tenths there
volume_is : (mode : Mode) (step : ℕ) (rows : List ℤ) (h : ℕ) → IsCapTable rows → h ≤ 10 * (length rows - 1) →
    volume_at mode step rows h ≡ pos (rounded_tenths mode step (tenths_at (litres rows) h))
unfolding volume_at rounded_tenths tenths_at nearest_multiple
volume_is mode step rows h table within = by (h % 10 == 0) refl
  where
    by : (b : Bool) → (h % 10 == 0) ≡ b →
        (if b then nearest_multiple mode (row_at rows (h / 10)) 1 step
        else nearest_multiple mode (tenths_between (row_at rows (h / 10)) (row_at rows (h / 10 + 1)) (pos (h % 10))) 10 step)
        ≡ pos (rounded_tenths mode step (tenths_at (litres rows) h))
    by true e =
        let none : h % 10 ≡ 0 = grind (arith, nat_tests) in
        let tenths : 10 * litres rows (h / 10) ≡ 10 * litres rows (h / 10) + (litres rows (h / 10 + 1) - litres rows (h / 10)) * (h % 10) =
        rw none (omega arith) in
        ap (λ row. nearest_multiple mode row 1 step) (row_is rows table (h / 10))
        ∙ ap pos (whole_rounded mode step (litres rows (h / 10)) ∙ ap (rounded_tenths mode step) tenths)
    by false e =
        let some : 0 < h % 10 = grind (arith, nat_tests) in
        let long = table.fewest in
        let short : h / 10 + 1 < length rows = omega (arith, some, long) in
        let up = litres_rise rows table (h / 10) short in
        ap₂ (λ row next. nearest_multiple mode (tenths_between row next (pos (h % 10))) 10 step)
        (row_is rows table (h / 10)) (row_is rows table (h / 10 + 1))
        ∙ ap (λ x. nearest_multiple mode x 10 step) (between_is (litres rows (h / 10)) (litres rows (h / 10 + 1)) (h % 10) up)

-- the rounding of tenths rises
rounded_rise : (mode : Mode) (step n m : ℕ) → n ≤ m → rounded_tenths mode step n ≤ rounded_tenths mode step m
unfolding rounded_tenths
rounded_rise mode zero n m below = omega arith
rounded_rise mode (suc s) n m below = mul-le-mul_right (suc s) (steps_rise mode n m (suc s * 10) (omega arith) below)

-- the volume at a greater height of a table is no less
volumes_rise : (mode : Mode) (step : ℕ) (rows : List ℤ) (h l : ℕ) → IsCapTable rows → h ≤ l → l ≤ 10 * (length rows - 1) →
    volume_at mode step rows h ≤ℤ volume_at mode step rows l
volumes_rise mode step rows h l table below within =
    let long = table.fewest in
    let first = volume_is mode step rows h table (omega arith) in
    let second = volume_is mode step rows l table within in
    let tenths = tenths_rise (litres rows) (length rows) (litres_rise rows table) h l below within (omega (arith, long)) in
    let more = rounded_rise mode step (tenths_at (litres rows) h) (tenths_at (litres rows) l) tenths in
    omega (arith, ints, first, second, more)

-- two levels of a table have volumes, of which that of the upper one is no less
pub record HaveVolumes (mode : Mode) (step : ℕ) (rows : List ℤ) (lower upper : ℤ) : Type 0 where
  pub low : ℤ
  pub high : ℤ
  pub low_is : table_volume mode step rows lower ≡ Some low
  pub high_is : table_volume mode step rows upper ≡ Some high
  pub rise : low ≤ℤ high

-- two levels from 0 up to the top of a table do
pub have_volumes : (mode : Mode) (step : ℕ) (rows : List ℤ) (lower upper : ℤ) → IsCapTable rows → pos 0 ≤ℤ lower → lower ≤ℤ upper →
    upper ≤ℤ pos (10 * (length rows - 1)) → HaveVolumes mode step rows lower upper
have_volumes mode step rows lower upper table some below within =
    let order : unsigned_abs lower ≤ unsigned_abs upper = omega (arith, ints) in
    let top : unsigned_abs upper ≤ 10 * (length rows - 1) = omega (arith, ints) in
    record {
      low = volume_at mode step rows (unsigned_abs lower);
      high = volume_at mode step rows (unsigned_abs upper);
      low_is = of_covered mode step rows lower (omega arith);
      high_is = of_covered mode step rows upper top;
      rise = volumes_rise mode step rows (unsigned_abs lower) (unsigned_abs upper) table order top;
    }
