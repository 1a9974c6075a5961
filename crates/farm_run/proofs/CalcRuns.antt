-- A run of `calc`: what was read of the input answers as the whole input does, and a refusal names the refused line.
use Rattle.std.proofs.Common.{◌≡◌, ◌⊎◌, inl, inr, ℕ, suc, ◌+◌, ◌<◌, List, ◌++◌, length, append-nil, Option, Some, None, Result, Ok, Err, ap, ◌∙◌, arith}
use Rattle.std.proofs.lemmas.Bool.Decides.{leb_tells}
use Rattle.farm_base.specs.Counts.{Count, IsQuiet}
use Rattle.farm_base.specs.Known.{WhereKnown, Stream}
use Rattle.farm_ports.specs.Ports.{ReadsUpTo}
use Rattle.farm_fixed.specs.declared.records.Quantities.{Quantities}
use Rattle.calc_input.specs.declared.refusal.Refused.{Refused}
use Rattle.calc_input.specs.declared.answer.TheConstants.{MOST_INPUT_BYTES}
use Rattle.calc_input.specs.Answer.{answer_of}
use Rattle.calc_input.proofs.Answering.{front_decides}
use Rattle.calc_input.proofs.RefusedLines.{refusal_right}
use Rattle.farm_run.specs.OutputTexts.{calc_of, calc_text, text_of_figures}
use Rattle.farm_run.specs.Texts.{refusal_text}
use Rattle.run_reports.specs.Reports.{Output}
use Rattle.farm_run.specs.Runs.{CalcRun, OneAnswerRun, OutputHas, given}
use Rattle.run_reports.proofs.Known.{known_map}
use Rattle.farm_run.proofs.Runs.{run_answering}

-- a refusal of a text is one of its figures
refused_figures : (answer : Result Quantities Refused) (why : Refused) → text_of_figures answer ≡ Err why → answer ≡ Err why
refused_figures (Ok figures) why is = cc
refused_figures (Err other) why is = cc

-- if the text that is expected is a refusal, so is the answer
refused_answer : (bytes : List ℕ) (why : Refused) → calc_of bytes ≡ Some (Err why) → answer_of bytes ≡ Err why
unfolding calc_text
refused_answer bytes why is = let text_is : text_of_figures (answer_of bytes) ≡ Err why = cc in refused_figures (answer_of bytes) why text_is

-- a run of `calc` names the refused line
pub calc_run : (input : Option (List ℕ)) (source : Count) (output : Output) (status : ℕ) → OneAnswerRun 4 refusal_text calc_of input source output status →
    CalcRun input source output status
calc_run input source output status run = record {
  answered = run;
  refused_line = λ four. known_map input _ _ (λ bytes refused. (refused.0, refused.2, refusal_right bytes refused.0 (refused_answer bytes refused.0 refused.1))) (run.refused four);
}

-- a length is up to the limit or over it
long_or_short : (n : ℕ) → (n < MOST_INPUT_BYTES + 1) ⊎ (MOST_INPUT_BYTES < n)
long_or_short n = elim (leb_tells (suc n) (MOST_INPUT_BYTES + 1)) [ inl t ↦ inl (omega (arith, t.1)) | inr t ↦ inr (omega (arith, t.1)) ]

-- what was read answers as the whole input does
read_enough : (old new : Option Stream) (bytes : List ℕ) → ReadsUpTo old new (MOST_INPUT_BYTES + 1) bytes → WhereKnown (given old new) (λ input. calc_of input ≡ calc_of bytes)
unfolding calc_text
read_enough None None bytes reads = tt
read_enough (Some old) None bytes reads = tt
read_enough None (Some new) bytes reads = tt
read_enough (Some old) (Some new) bytes reads = elim (long_or_short (length bytes)) [
  | inl short ↦ ap calc_of (reads.moved.left ∙ ap (λ rest. bytes ++ rest) (reads.to_end short) ∙ append-nil bytes)
  | inr long ↦ ap (λ answer. Some (text_of_figures answer)) (ap answer_of reads.moved.left ∙ front_decides bytes new.left long)
]

-- the run of `calc` that read these bytes and answered them
pub calc_answered : (old new : Option Stream) (bytes : List ℕ) (source : Count) (output : Output) (status : ℕ) → IsQuiet source →
    ReadsUpTo old new (MOST_INPUT_BYTES + 1) bytes → OutputHas 4 refusal_text (calc_of bytes) output status → CalcRun (given old new) source output status
calc_answered old new bytes source output status quiet reads answers =
    calc_run (given old new) source output status (
    run_answering 4 refusal_text calc_of (given old new) (calc_of bytes) source output status quiet (read_enough old new bytes reads) answers
    )
