-- How many bytes a response still needs.
use Rattle.std.proofs.Common.{◌≡◌, ◌⊎◌, ℕ, ◌+◌, ◌-◌, ◌*◌, ◌≤◌, Bool, true, false, ◌||◌, nat_lt, List, length, Option, Some, None, refl, arith}
use Rattle.std.specs.Prelude.{if◌then◌else◌}
use Rattle.std.proofs.lemmas.Bool.Decides.{nat_tests}
use Rattle.farm_base.proofs.Steps.{or_else-none}
use Rattle.modbus_frame.specs.declared.expect.Expect.{Expect}
use Rattle.modbus_frame.specs.declared.frame.Frame.{Frame}
use Rattle.modbus_frame.specs.declared.frame.Frame.TheVariants.{Need, Words, Exception}
use Rattle.modbus_frame.specs.declared.frame.Registers.{Registers}
use Rattle.modbus_frame.specs.Frames.{length_given, still_needed}
use Rattle.modbus_frame.specs.Fields.{frame_answer, is_wrong_length, right_frame, whole_frame, wrong_field, wrong_or}
use Rattle.modbus_frame.specs.Requests.{IsExpect}
use Rattle.modbus_frame.proofs.Due.{length_agrees}
use Rattle.modbus_frame.proofs.FirstWrong.{wrong_where-none}

-- a response still needs at least one byte, and ends within 259
pub record NeedsFew (bytes : List ℕ) (needed : ℕ) : Type 0 where
  pub some : 1 ≤ needed
  pub fits : length bytes + needed ≤ 259

-- bytes of which a field disagrees need none
none_wrong : (found : Option ℕ) (frame : Frame) (needed : ℕ) → wrong_or found frame ≡ Need needed → (found ≡ None) × (frame ≡ Need needed)
none_wrong None frame needed is = (refl, is)
none_wrong (Some field) frame needed is = cc

-- a whole response needs none
whole_needs_none : (test : Bool) (registers : Registers) (used code end needed : ℕ) →
    (if test then Words registers used else Exception code end) ≡ Need needed → ⊥
whole_needs_none true registers used code end needed is = cc
whole_needs_none false registers used code end needed is = cc

-- what needs bytes isn't whole
isnt_whole : (test : Bool) (a needed : ℕ) (whole : Frame) → (whole ≡ Need needed → ⊥) → (if test then Need a else whole) ≡ Need needed →
    (test ≡ true) × (needed ≡ a)
isnt_whole true a needed whole none is = (refl, cc)
isnt_whole false a needed whole none is = absurd (none is)

-- how many they are
numbers : (size given needed quantity : ℕ) → quantity ≤ 125 → (6 ≤ size → (given ≡ 3) ⊎ (given ≡ 3 + 2 * quantity)) →
    (nat_lt size 6 || nat_lt size (6 + given)) ≡ true → needed ≡ (if nat_lt size 6 then 9 - size else 6 + given - size) →
    (1 ≤ needed) × (size + needed ≤ 259)
numbers size given needed quantity most sizes short is = grind (arith, nat_tests)

-- the length that bytes give agrees where it is there
given_agrees : (expect : Expect) (bytes : List ℕ) → wrong_field expect bytes ≡ None → 6 ≤ length bytes →
    (length_given bytes ≡ 3) ⊎ (length_given bytes ≡ 3 + 2 * expect.quantity)
unfolding wrong_field
given_agrees expect bytes none there =
    let a = or_else-none _ _ none in
    let b = or_else-none _ _ a.1 in
    let c = or_else-none _ _ b.1 in
    length_agrees expect (length_given bytes) (wrong_where-none 3 6 bytes (is_wrong_length expect (length_given bytes)) c.0 there)

-- bytes that aren't decided need a few more
pub needs_few : (expect : Expect) (bytes : List ℕ) (needed : ℕ) → IsExpect expect → frame_answer expect bytes ≡ Need needed → NeedsFew bytes needed
unfolding frame_answer
needs_few expect bytes needed asked is =
    let right = none_wrong (wrong_field expect bytes) (right_frame expect bytes) needed is in
    let cut = isnt_whole (nat_lt (length bytes) 6 || nat_lt (length bytes) (6 + length_given bytes)) (still_needed bytes) needed (whole_frame expect bytes)
    (λ whole. whole_needs_none _ _ _ _ _ needed whole) right.1 in
    let both = numbers (length bytes) (length_given bytes) needed expect.quantity asked.most (λ there. given_agrees expect bytes right.0 there) cut.0 cut.1 in
    record { some = both.0; fits = both.1 }
