-- Each line of an answered input is well formed. An input that is refused for its form has one refused line, which is named.
use Rattle.std.proofs.Common.{◌≡◌, ℕ, ◌<◌, ◌≤◌, Bool, true, false, cond, nat_lt, min, List, length, take, Result, Ok, Err, refl, sym, subst, arith}
use Rattle.std.proofs.lemmas.Bool.Decides.{nat_tests}
use Rattle.std.proofs.lemmas.List.{take_all}
use Rattle.farm_fixed.specs.declared.records.Quantities.{Quantities}
use Rattle.farm_fixed.specs.declared.records.ChainRule.{ChainRule}
use Rattle.calc_input.specs.declared.volumes_line.Volumes.{Volumes}
use Rattle.calc_input.specs.declared.forms.TableInput.{TableInput}
use Rattle.calc_input.specs.declared.forms.Input.{Input}
use Rattle.calc_input.specs.declared.refusal.Refused.{Refused}
use Rattle.calc_input.specs.declared.refusal.Cause.TheVariants.{Form}
use Rattle.calc_input.specs.Lines.{lines_of}
use Rattle.calc_input.specs.Forms.{as_table, as_volumes, begins_table, form_of, table_input_of, volumes_input_of}
use Rattle.calc_input.specs.declared.answer.TheConstants.{MOST_INPUT_BYTES}
use Rattle.calc_input.specs.Answer.{answer_of, answer_of_form, earlier_line, figures_of_form, figures_or_refused, last_line, line_of_offset, over_line, refused_at}
use Rattle.calc_input.specs.RefusedLine.{AreInForm, IsDueIn, IsDueInTable, IsDueInVolumes, IsInForm, IsRefusal, IsRefusedLine, OneRefusedLine}
use Rattle.calc_input.proofs.Judging.{Judges}
use Rattle.calc_input.proofs.VolumesForm.{volumes_judged}
use Rattle.calc_input.proofs.TableForm.{table_judged}

-- what the lines are judged as is what the form of both kinds is judged as
as_table_judged : (lines : List (List ℕ)) (answer : Result TableInput ℕ) → Judges (IsDueInTable lines) answer → Judges (IsDueInTable lines) (as_table answer)
as_table_judged lines (Ok input) judged = judged
as_table_judged lines (Err number) judged = judged

-- so of the line of volumes
as_volumes_judged : (lines : List (List ℕ)) (answer : Result Volumes ℕ) → Judges (IsDueInVolumes lines) answer → Judges (IsDueInVolumes lines) (as_volumes answer)
as_volumes_judged lines (Ok volumes) judged = judged
as_volumes_judged lines (Err number) judged = judged

-- the form of lines is what they are judged as, of whichever kind they are
form_judged : (lines : List (List ℕ)) → Judges (IsDueIn (begins_table lines) lines) (form_of lines)
unfolding form_of
form_judged lines = by (begins_table lines)
  where
    by : (b : Bool) → Judges (IsDueIn b lines) (cond b (as_table (table_input_of lines)) (as_volumes (volumes_input_of lines)))
    by true = as_table_judged lines (table_input_of lines) (table_judged lines)
    by false = as_volumes_judged lines (volumes_input_of lines) (volumes_judged lines)

-- An input within the limit.
in_form_within : (bytes : List ℕ) (number : ℕ) → length bytes ≤ MOST_INPUT_BYTES → IsDueIn (begins_table (lines_of bytes)) (lines_of bytes) number → IsInForm bytes number
in_form_within bytes number short due =
    let whole : take MOST_INPUT_BYTES bytes ≡ bytes = take_all MOST_INPUT_BYTES bytes short in
    let P : List ℕ → Type 0 = λ front. IsDueIn (begins_table (lines_of front)) (lines_of front) number in
    record { within = λ over. absurd (omega (arith, over, short)); due = subst P (sym whole) due }

-- a well-formed line of such an input is the one expected there
due_within : (bytes : List ℕ) (number : ℕ) → length bytes ≤ MOST_INPUT_BYTES → IsInForm bytes number → IsDueIn (begins_table (lines_of bytes)) (lines_of bytes) number
due_within bytes number short line =
    let whole : take MOST_INPUT_BYTES bytes ≡ bytes = take_all MOST_INPUT_BYTES bytes short in
    let P : List ℕ → Type 0 = λ front. IsDueIn (begins_table (lines_of front)) (lines_of front) number in
    subst P whole line.due

-- what an answer says of an input
abbrev pub SaysOfLines : List ℕ → Result Quantities Refused → Type 0
SaysOfLines bytes (Ok figures) = AreInForm bytes
SaysOfLines bytes (Err why) = IsRefusal bytes why.line why.cause

-- figures, or a refusal of the calculation, say that every line is in form
of_figures : (bytes : List ℕ) (line : ℕ) (answer : Result Quantities ChainRule) → AreInForm bytes → SaysOfLines bytes (figures_or_refused line answer)
of_figures bytes line (Ok figures) due = due
of_figures bytes line (Err rule) due = due

-- a form says that every line is in form, and a fault that its line is the first that is not
of_form : (bytes : List ℕ) → length bytes ≤ MOST_INPUT_BYTES → (answer : Result Input ℕ) → Judges (IsDueIn (begins_table (lines_of bytes)) (lines_of bytes)) answer → SaysOfLines bytes (answer_of_form answer)
of_form bytes short (Ok form) judged =
    of_figures bytes (last_line form) (figures_of_form form) (λ number from_one. in_form_within bytes number short (judged number from_one))
of_form bytes short (Err number) judged = record {
  from_one = judged.from_one;
  before = λ earlier from_one less. in_form_within bytes earlier short (judged.before earlier from_one less);
  here = λ line. judged.here (due_within bytes number short line);
}

-- An input over the limit: the line of the first byte over it, or an earlier one that isn't as expected.
of_over : (bytes : List ℕ) → MOST_INPUT_BYTES < length bytes → (answer : Result Input ℕ) → Judges (IsDueIn (begins_table (lines_of (take MOST_INPUT_BYTES bytes))) (lines_of (take MOST_INPUT_BYTES bytes))) answer →
    IsRefusedLine bytes (earlier_line (line_of_offset MOST_INPUT_BYTES bytes) answer)
of_over bytes over (Ok form) judged = record {
  from_one = omega arith;
  before = λ earlier from_one less. record { within = λ _. less; due = judged earlier from_one };
  here = λ line. absurd (omega (arith, line.within over));
}
of_over bytes over (Err number) judged = by (nat_lt number (line_of_offset MOST_INPUT_BYTES bytes)) refl
  where
    by : (b : Bool) → nat_lt number (line_of_offset MOST_INPUT_BYTES bytes) ≡ b → IsRefusedLine bytes (min number (line_of_offset MOST_INPUT_BYTES bytes))
    by true e =
        let less : number < line_of_offset MOST_INPUT_BYTES bytes = grind (arith, nat_tests) in
        let least : min number (line_of_offset MOST_INPUT_BYTES bytes) ≡ number = omega arith in
        let P : ℕ → Type 0 = λ n. IsRefusedLine bytes n in
        subst P (sym least) (record {
          from_one = judged.from_one;
          before = λ earlier from_one early. record { within = λ _. omega arith; due = judged.before earlier from_one early };
          here = λ line. judged.here line.due;
        })
    by false e =
        let more : line_of_offset MOST_INPUT_BYTES bytes ≤ number = grind (arith, nat_tests) in
        let least : min number (line_of_offset MOST_INPUT_BYTES bytes) ≡ line_of_offset MOST_INPUT_BYTES bytes = omega arith in
        let P : ℕ → Type 0 = λ n. IsRefusedLine bytes n in
        subst P (sym least) (record {
          from_one = omega arith;
          before = λ earlier from_one early. record { within = λ _. early; due = judged.before earlier from_one (omega arith) };
          here = λ line. absurd (omega (arith, line.within over));
        })

-- so says the answer of every input, also of one above the limit
says_of_lines : (bytes : List ℕ) → SaysOfLines bytes (answer_of bytes)
unfolding answer_of over_line
says_of_lines bytes = by (nat_lt MOST_INPUT_BYTES (length bytes)) refl
  where
    by : (b : Bool) → nat_lt MOST_INPUT_BYTES (length bytes) ≡ b →
        SaysOfLines bytes (cond b (Err (refused_at (over_line bytes) Form)) (answer_of_form (form_of (lines_of bytes))))
    by true e = let over : MOST_INPUT_BYTES < length bytes = grind (arith, nat_tests) in of_over bytes over (form_of (lines_of (take MOST_INPUT_BYTES bytes))) (form_judged (lines_of (take MOST_INPUT_BYTES bytes)))
    by false e = let short : length bytes ≤ MOST_INPUT_BYTES = grind (arith, nat_tests) in of_form bytes short (form_of (lines_of bytes)) (form_judged (lines_of bytes))

-- an input that has figures has each line in form
pub figures_in_form : (bytes : List ℕ) (figures : Quantities) → answer_of bytes ≡ Ok figures → AreInForm bytes
figures_in_form bytes figures is = subst (SaysOfLines bytes) is (says_of_lines bytes)

-- a refusal names the refused line, or is of an input whose lines are all in form
pub refusal_right : (bytes : List ℕ) (why : Refused) → answer_of bytes ≡ Err why → IsRefusal bytes why.line why.cause
refusal_right bytes why is = subst (SaysOfLines bytes) is (says_of_lines bytes)

-- an input has one refused line at most
pub one_refused_line : OneRefusedLine
one_refused_line bytes first second one other = by (nat_lt first second) refl (nat_lt second first) refl
  where
    by : (b : Bool) → nat_lt first second ≡ b → (c : Bool) → nat_lt second first ≡ c → first ≡ second
    by true e c d = absurd (one.here (other.before first one.from_one (grind (arith, nat_tests))))
    by false e true d = absurd (other.here (one.before second other.from_one (grind (arith, nat_tests))))
    by false e false d = grind (arith, nat_tests)
