-- What bytes are as a response means what the rule says.
use Rattle.std.proofs.Common.{◌≡◌, ℕ, ◌+◌, ◌*◌, ◌^◌, ◌<◌, ◌≤◌, List, length, refl, ap, sym, ◌∙◌, subst, arith, Option, Some, None, get_or, inl, inr, lit≤, length-append}
use Rattle.modbus_frame.specs.declared.expect.Expect.{Expect}
use Rattle.modbus_frame.specs.declared.frame.Frame.{Frame}
use Rattle.modbus_frame.specs.Frames.{IsCut, IsFrame, IsRight, IsWrongField, length_given}
use Rattle.modbus_frame.specs.Fields.{byte_at, frame_answer, number_at, right_frame, whole_frame, wrong_field, wrong_or}
use Rattle.modbus_frame.specs.Requests.{IsExpect}
use Rattle.modbus_frame.proofs.Agreeing.{agree-to, right-agrees}
use Rattle.modbus_frame.proofs.Fields.{number_at-append}
use Rattle.modbus_frame.proofs.FirstWrong.{AgreeFrom, IsFirstFrom, first_wrong, first_wrong-none, first_wrong-some}
use Rattle.modbus_frame.proofs.Fronts.{AreBytes}
use Rattle.modbus_frame.proofs.Right.{IsLong, IsShort, one-needed, right-need, right-whole, short-or-long, whole-exception, whole-words}
use Rattle.modbus_frame.proofs.Shapes.{agrees-right, good-length}
use Rattle.modbus_frame.proofs.Due.{function_agrees, length_agrees}
use Rattle.modbus_frame.proofs.Whole.{begins-exception, begins-words}

-- the first field that disagrees is wrong in the words of the rule
wrong-means : (expect : Expect) (bytes : List ℕ) (field : ℕ) → IsExpect expect → expect.transaction < 2 ^ 16 → AreBytes bytes → IsFirstFrom expect bytes 1 6 field →
    IsWrongField expect bytes field
wrong-means expect bytes field asked fits small first = record {
  here = record {
    first = first.low;
    last = first.high;
    whole = first.whole;
    none = λ agrees.
        let right = agrees-right expect bytes field asked fits first.high agrees in
        let wrong = first.wrong in
        absurd (cc);
  };
  before = λ earlier below wrong. wrong.none
      (right-agrees expect bytes earlier asked small wrong.last wrong.whole
      (λ field low high whole. first.before field low (omega arith) whole));
}

-- where no whole field disagrees, bytes are right in the words of the rule
right-means : (expect : Expect) (bytes : List ℕ) → IsExpect expect → AreBytes bytes → AgreeFrom expect bytes 1 6 → IsRight expect bytes
right-means expect bytes asked small agree field wrong =
    let to : AgreeFrom expect bytes 1 field = λ earlier low high whole. agree earlier low (omega (arith, wrong.last)) whole in
    wrong.none (right-agrees expect bytes field asked small wrong.last wrong.whole to)

-- bytes that are too few begin with no whole good response
cut-means : (expect : Expect) (bytes : List ℕ) → IsExpect expect → IsShort bytes → IsCut expect bytes
cut-means expect bytes asked few response used good begins =
    let long = good-length expect response asked good in
    let all : length bytes ≡ length response + length begins.rest = ap length begins.split ∙ length-append response begins.rest in
    let given : number_at 4 bytes ≡ number_at 4 response = ap (number_at 4) begins.split ∙ number_at-append 4 response begins.rest (omega (arith, long.1)) in
    elim few [ inl none ↦ omega (arith, long.1) | inr some ↦ omega (arith, long.0, given) ]

-- where the rule finds nothing wrong, short bytes need more
need-means : (expect : Expect) (bytes : List ℕ) → IsExpect expect → IsRight expect bytes → IsShort bytes → IsFrame expect bytes (right_frame expect bytes)
need-means expect bytes asked right short =
    let Means : Frame → Type 0 = IsFrame expect bytes in
    subst Means (sym (right-need expect bytes short)) (right, cut-means expect bytes asked short, refl, one-needed bytes short)

-- where the rule finds nothing wrong, long bytes begin with a whole response
whole-means : (expect : Expect) (bytes : List ℕ) → IsExpect expect → AreBytes bytes → IsRight expect bytes → AgreeFrom expect bytes 1 6 → IsLong bytes →
    IsFrame expect bytes (whole_frame expect bytes)
whole-means expect bytes asked small right agree long =
    let Means : Frame → Type 0 = IsFrame expect bytes in
    let due = length_agrees expect (length_given bytes) (agree 3 (lit≤ tt) (lit≤ tt) long.0) in
    let nine : 9 ≤ length bytes = elim due [ inl exception ↦ omega arith | inr words ↦ omega arith ] in
    let all = agree-to expect bytes 6 (lit≤ tt) nine agree in
    elim (function_agrees expect (length_given bytes) (byte_at 7 bytes) (all 5 (lit≤ tt) (lit≤ tt))) [
      | inl words ↦
          let there : 9 + 2 * expect.quantity ≤ length bytes = omega (arith, words.1, long.1) in
          subst Means (sym (whole-words expect bytes words.0)) (right, begins-words expect bytes asked small there words.1 all)
      | inr exception ↦
          subst Means (sym (whole-exception expect bytes exception.0)) (right, begins-exception expect bytes asked small nine exception.1 all)
    ]

-- bytes of which no field disagrees are what the rule says
right-frame-means : (expect : Expect) (bytes : List ℕ) → IsExpect expect → AreBytes bytes → AgreeFrom expect bytes 1 6 → IsFrame expect bytes (right_frame expect bytes)
right-frame-means expect bytes asked small agree =
    let right = right-means expect bytes asked small agree in
    elim (short-or-long bytes) [
      | inl short ↦ need-means expect bytes asked right short
      | inr long ↦
          let Means : Frame → Type 0 = IsFrame expect bytes in
          subst Means (sym (right-whole expect bytes long)) (whole-means expect bytes asked small right agree long)
    ]

-- what bytes are means what the rule says, whatever was found
found-means : (expect : Expect) (bytes : List ℕ) (found : Option ℕ) → IsExpect expect → expect.transaction < 2 ^ 16 → AreBytes bytes →
    first_wrong 5 1 expect bytes ≡ found → IsFrame expect bytes (wrong_or found (right_frame expect bytes))
found-means expect bytes (Some field) asked fits small some = wrong-means expect bytes field asked fits small (first_wrong-some 5 1 field expect bytes some)
found-means expect bytes None asked fits small none = right-frame-means expect bytes asked small (first_wrong-none 5 1 expect bytes none)

-- the definition's answer means what the rule says
pub frame_means : (expect : Expect) (bytes : List ℕ) (frame : Frame) → IsExpect expect → expect.transaction < 2 ^ 16 → ((i : ℕ) → get_or bytes i 0 < 2 ^ 8) →
    frame ≡ frame_answer expect bytes → IsFrame expect bytes frame
unfolding frame_answer wrong_field
frame_means expect bytes frame asked fits small is =
    let Means : Frame → Type 0 = IsFrame expect bytes in
    subst Means (sym is) (found-means expect bytes (first_wrong 5 1 expect bytes) asked fits (record { at = small }) refl)
