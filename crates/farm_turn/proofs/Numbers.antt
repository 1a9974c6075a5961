-- The caller numbers of passes.
use Rattle.std.proofs.Common.{◌≡◌, ℕ, ◌+◌, ◌<◌, ◌≤◌, ◌≢◌, ◌==◌, true, false, ◌&&◌, refl, sym, ap, ◌∙◌, arith}
use Rattle.std.specs.Prelude.{Option, Some, None, nat_le, nat_lt, if◌then◌else◌}
use Rattle.std.proofs.lemmas.Bool.Decides.{nat_tests}
use Rattle.farm_turn.specs.declared.views.Known.{Known}
use Rattle.farm_turn.specs.Views.{turns, number_is, owns, has, is_number, numbers_of, number_count, enrolled, without_least, split_off}

-- a number is that of a pass with this number once
pub number_is_self : (n : ℕ) → number_is n (Some n) ≡ 1
number_is_self n = let t : (n == n) ≡ true = grind (arith, nat_tests) in rw t refl

-- a number that is not that of a pass differs from the number which the pass has
pub number_is-apart : (n : ℕ) (number : Option ℕ) → number_is n number ≡ 0 → (m : ℕ) → number ≡ Some m → n ≢ m
number_is-apart n number e m is same = let h : number_is n (Some n) ≡ 0 = ap (number_is n) (ap Some same ∙ sym is) ∙ e in let one = number_is_self n in omega arith

-- a pass has one number at most
pub is_number-le : (x : ℕ) → is_number x ≤ 1
is_number-le x = grind (arith, nat_tests)

-- the numbers from one on are that one, and those from the next on
pub range_split : (x from end : ℕ) → from < end → (if nat_le from x && nat_lt x end then 1 else 0) ≡ (if from == x then 1 else 0) + (if nat_le (from + 1) x && nat_lt x end then 1 else 0)
range_split x from end h = grind (arith, nat_tests)

-- the only number from one up to the next
pub range_one : (x from : ℕ) → number_is x (Some from) ≡ (if nat_le from x && nat_lt x (from + 1) then 1 else 0)
range_one x from = grind (arith, nat_tests)

module _ {E R : Type 0} where
  -- a pass that has the turn has one
  pub turns_true : (k : Known E R) → k.holds ≡ true → turns k ≡ 1
  turns_true k h = rw h refl

  -- a pass that hasn't has none
  pub turns_false : (k : Known E R) → k.holds ≡ false → turns k ≡ 0
  turns_false k h = rw h refl

  -- so a pass with no turn doesn't hold it
  pub holds_false : (k : Known E R) → turns k ≡ 0 → k.holds ≡ true → ⊥
  holds_false k e h = let t = turns_true k h in omega arith

  -- a pass that enrols has the numbers that it had
  pub has_enrolled : (x : ℕ) (k : Known E R) → k.number ≡ None → k.next < k.end → has x (enrolled k) ≡ has x k
  has_enrolled x k none left = let s = range_split x k.next k.end left in let o : owns x k ≡ 0 = ap (number_is x) none in omega arith

  -- and as many
  pub numbers_of_enrolled : (k : Known E R) → k.number ≡ None → k.next < k.end → numbers_of (enrolled k) ≡ numbers_of k
  numbers_of_enrolled k none left = let o : number_count k.number ≡ 0 = ap number_count none in omega arith

  -- a pass that splits and the one split off have the numbers that it had
  pub has_split : (x : ℕ) (k : Known E R) → k.next < k.end → has x (without_least k) + has x (split_off k) ≡ has x k
  has_split x k left = let s = range_split x k.next k.end left in let t = range_one x k.next in omega arith

  -- and together as many
  pub numbers_of_split : (k : Known E R) → k.next < k.end → numbers_of (without_least k) + numbers_of (split_off k) ≡ numbers_of k
  numbers_of_split k left = omega arith
