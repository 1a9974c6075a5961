-- What bytes are as a response stays as it is when bytes follow.
use Rattle.std.proofs.Common.{◌≡◌, ℕ, ◌+◌, ◌*◌, ◌≤◌, List, ◌++◌, length, drop, refl, sym, ◌∙◌, ap, ap₂, subst, arith, Option, Some, None, ◌⊎◌, inl, inr, length-append, length-drop, lit≤}
use Rattle.std.specs.Prelude.{◌==◌, if◌then◌else◌}
use Rattle.std.proofs.lemmas.Bool.{cases_order}
use Rattle.std.proofs.lemmas.Bool.Decides.{eqb_tells}
use Rattle.std.proofs.lemmas.List.{drop-append-le, get_or_append_left}
use Rattle.modbus_frame.specs.declared.expect.Expect.{Expect}
use Rattle.modbus_frame.specs.declared.frame.Frame.{Frame}
use Rattle.modbus_frame.specs.declared.frame.Frame.TheVariants.{Words, Exception}
use Rattle.modbus_frame.specs.Frames.{field_end, length_given, registers_of}
use Rattle.modbus_frame.specs.Fields.{IsDecided, byte_at, frame_answer, right_frame, whole_frame, words_of, wrong_field, wrong_or}
use Rattle.modbus_frame.specs.Requests.{IsExpect}
use Rattle.modbus_frame.proofs.Fields.{disagrees-append, ends-before, field_end-nine, number_at-append}
use Rattle.modbus_frame.proofs.FirstWrong.{IsFirstFrom, first_wrong, first_wrong-none, first_wrong-some}
use Rattle.modbus_frame.proofs.Right.{decided-whole, right-whole}
use Rattle.modbus_frame.proofs.Due.{function_agrees, length_agrees}
use Rattle.modbus_frame.proofs.Words.{words_of-append}

-- bytes with others after them are as many and more
longer : (bytes more : List ℕ) (end : ℕ) → end ≤ length bytes → end ≤ length (bytes ++ more)
longer bytes more end within = omega (arith, length-append bytes more)

-- the first field that disagrees is the same when bytes follow
same-first : (expect : Expect) (bytes more : List ℕ) (field other : ℕ) → IsFirstFrom expect bytes 1 6 field → IsFirstFrom expect (bytes ++ more) 1 6 other → other ≡ field
same-first expect bytes more field other first again = elim (cases_order other field) [
  | inl same ↦ same
  | inr (inl before) ↦
      let whole : field_end other ≤ length bytes = omega (arith, ends-before other field (omega arith), first.whole) in
      let agrees = first.before other again.low before whole in
      let stays = disagrees-append other expect bytes more again.high whole in
      let wrong = again.wrong in
      absurd (cc)
  | inr (inr after) ↦
      let agrees = again.before field first.low after (longer bytes more (field_end field) first.whole) in
      let stays = disagrees-append field expect bytes more first.high first.whole in
      let wrong = first.wrong in
      absurd (cc)
]

-- nothing is found, or something
found_or_none : (found : Option ℕ) → (found ≡ None) ⊎ ((field : ℕ) × (found ≡ Some field))
found_or_none None = inl refl
found_or_none (Some field) = inr (field, refl)

-- a field that disagrees is found when bytes follow, too
some-stays : (expect : Expect) (bytes more : List ℕ) (field : ℕ) → first_wrong 5 1 expect bytes ≡ Some field → first_wrong 5 1 expect (bytes ++ more) ≡ Some field
some-stays expect bytes more field some =
    let first = first_wrong-some 5 1 field expect bytes some in
    elim (found_or_none (first_wrong 5 1 expect (bytes ++ more))) [
      | inl none ↦
          let agrees = first_wrong-none 5 1 expect (bytes ++ more) none field first.low first.high (longer bytes more (field_end field) first.whole) in
          let stays = disagrees-append field expect bytes more first.high first.whole in
          let wrong = first.wrong in
          absurd (cc)
      | inr (other, again) ↦ again ∙ ap Some (same-first expect bytes more field other first (first_wrong-some 5 1 other expect (bytes ++ more) again))
    ]

-- where all fields are whole and agree, they do when bytes follow, too
none-stays : (expect : Expect) (bytes more : List ℕ) → 9 ≤ length bytes → first_wrong 5 1 expect bytes ≡ None → first_wrong 5 1 expect (bytes ++ more) ≡ None
none-stays expect bytes more all none = elim (found_or_none (first_wrong 5 1 expect (bytes ++ more))) [
  | inl again ↦ again
  | inr (other, some) ↦
      let again = first_wrong-some 5 1 other expect (bytes ++ more) some in
      let whole : field_end other ≤ length bytes = omega (arith, field_end-nine other) in
      let agrees = first_wrong-none 5 1 expect bytes none other again.low again.high whole in
      let stays = disagrees-append other expect bytes more again.high whole in
      let wrong = again.wrong in
      absurd (cc)
]

-- a whole frame by its function, its code, its length and its registers
abbrev frame_of : Expect → ℕ → ℕ → ℕ → List ℕ → Frame
frame_of expect function code size words = if function == expect.function then Words (registers_of words) (6 + size) else Exception code (6 + size)

-- a frame with an exception has nothing to do with registers
same-registers : (expect : Expect) (function code size : ℕ) (words others : List ℕ) → (function ≡ expect.function → others ≡ words) →
    frame_of expect function code size others ≡ frame_of expect function code size words
same-registers expect function code size words others same = elim (eqb_tells function expect.function) [
  | inl asked ↦ ap (frame_of expect function code size) (same asked.1)
  | inr other ↦ rw other.0
]

-- a whole frame stays as it is when bytes follow
whole-stays : (expect : Expect) (bytes more : List ℕ) → 9 ≤ length bytes → (byte_at 7 bytes ≡ expect.function → 9 + 2 * expect.quantity ≤ length bytes) →
    whole_frame expect (bytes ++ more) ≡ whole_frame expect bytes
whole-stays expect bytes more all registers =
    let words : List ℕ = words_of expect.quantity (drop 9 bytes) in
    let others : List ℕ = words_of expect.quantity (drop 9 (bytes ++ more)) in
    let function = get_or_append_left bytes more 0 7 (omega arith) in
    let code = get_or_append_left bytes more 0 8 (omega arith) in
    let size : length_given (bytes ++ more) ≡ length_given bytes = number_at-append 4 bytes more (omega arith) in
    let same : byte_at 7 bytes ≡ expect.function → others ≡ words = λ asked.
    let there : 2 * expect.quantity ≤ length (drop 9 bytes) = omega (arith, registers asked, length-drop 9 bytes) in
    ap (words_of expect.quantity) (drop-append-le 9 bytes more all) ∙ words_of-append expect.quantity (drop 9 bytes) more there in
    ap (λ n. frame_of expect n (byte_at 8 (bytes ++ more)) (length_given (bytes ++ more)) others) function
    ∙ ap₂ (λ c n. frame_of expect (byte_at 7 bytes) c n others) code size
    ∙ same-registers expect (byte_at 7 bytes) (byte_at 8 bytes) (length_given bytes) words others same

-- where all fields agree, a frame that is decided has nine bytes, and those of all its registers
agreeing-whole : (expect : Expect) (bytes : List ℕ) → IsExpect expect → first_wrong 5 1 expect bytes ≡ None → IsDecided (right_frame expect bytes) →
    (9 ≤ length bytes) × (byte_at 7 bytes ≡ expect.function → 9 + 2 * expect.quantity ≤ length bytes)
agreeing-whole expect bytes asked none decided =
    let whole = decided-whole expect bytes decided in
    let agree = first_wrong-none 5 1 expect bytes none in
    let due = length_agrees expect (length_given bytes) (agree 3 (lit≤ tt) (lit≤ tt) whole.0) in
    let all : 9 ≤ length bytes = elim due [ inl exception ↦ omega arith | inr registers ↦ omega arith ] in
    let registers : byte_at 7 bytes ≡ expect.function → 9 + 2 * expect.quantity ≤ length bytes = λ same.
    elim (function_agrees expect (length_given bytes) (byte_at 7 bytes) (agree 5 (lit≤ tt) (lit≤ tt) (omega arith))) [
      | inl words ↦ omega arith
      | inr exception ↦ absurd (omega arith)
    ] in
    (all, registers)

-- a frame that is decided stays as it is when bytes follow
right-stays : (expect : Expect) (bytes more : List ℕ) → IsExpect expect → first_wrong 5 1 expect bytes ≡ None → IsDecided (right_frame expect bytes) →
    right_frame expect (bytes ++ more) ≡ right_frame expect bytes
right-stays expect bytes more asked none decided =
    let whole = decided-whole expect bytes decided in
    let all = agreeing-whole expect bytes asked none decided in
    let size : length_given (bytes ++ more) ≡ length_given bytes = number_at-append 4 bytes more (omega arith) in
    let long : 6 + length_given (bytes ++ more) ≤ length (bytes ++ more) = omega (arith, longer bytes more (6 + length_given bytes) whole.1) in
    right-whole expect (bytes ++ more) (longer bytes more 6 whole.0, long)
    ∙ whole-stays expect bytes more all.0 all.1
    ∙ sym (right-whole expect bytes whole)

-- an answer that is decided stays as it is when bytes follow, whatever was found
found-stays : (expect : Expect) (bytes more : List ℕ) (found : Option ℕ) → IsExpect expect → first_wrong 5 1 expect bytes ≡ found →
    IsDecided (wrong_or found (right_frame expect bytes)) →
    wrong_or (first_wrong 5 1 expect (bytes ++ more)) (right_frame expect (bytes ++ more)) ≡ wrong_or found (right_frame expect bytes)
found-stays expect bytes more (Some field) asked some decided =
    ap (λ found. wrong_or found (right_frame expect (bytes ++ more))) (some-stays expect bytes more field some)
found-stays expect bytes more None asked none decided =
    ap₂ wrong_or (none-stays expect bytes more (agreeing-whole expect bytes asked none decided).0 none) (right-stays expect bytes more asked none decided)

-- a decided answer stays as it is when bytes follow
pub frame_stays : (expect : Expect) (bytes more : List ℕ) (frame : Frame) → IsExpect expect → frame ≡ frame_answer expect bytes → IsDecided frame →
    frame_answer expect (bytes ++ more) ≡ frame
unfolding frame_answer wrong_field
frame_stays expect bytes more frame asked is decided =
    found-stays expect bytes more (first_wrong 5 1 expect bytes) asked refl (subst IsDecided is decided) ∙ sym is
