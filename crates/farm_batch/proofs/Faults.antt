-- A fault of the disk is answered only to a line that asks something.
use Rattle.std.proofs.Common.{◌≡◌, ◌≢◌, inl, inr, ℕ, nat_lt, Bool, true, false, if◌then◌else◌, List, length, Option, None, Some, ℤ, refl, sym, ap, ◌∙◌}
use Rattle.farm_history.specs.declared.ask.Ask.{Ask}
use Rattle.farm_history.specs.declared.ask.Ask.TheVariants.{Do, Look}
use Rattle.farm_history.specs.History.{History}
use Rattle.farm_http.specs.Requests.{ask_of_line}
use Rattle.farm_http.specs.declared.page.Page.{Page}
use Rattle.batch_lines.specs.declared.limits.TheConstants.{MOST_REQUEST_LINE_BYTES}
use Rattle.farm_batch.specs.LineAnswers.{FaultsAsk, answer_to, disk_fault, faults_on_page, line_answer, line_too_long, out_of_memory, unasked}

-- a page that counts no fault isn't a fault of the disk
none_counted : (page : Page) → faults_on_page page ≡ 0 → page ≢ disk_fault
none_counted page none same = let no : 0 ≡ 1 = sym none ∙ ap faults_on_page same in cc

-- what is meant for a line counts no fault
meant_counts_none : (limit : ℕ) (history : History) (now : ℤ) (line : List ℕ) → faults_on_page (line_answer limit history now line).page ≡ 0
unfolding line_answer
meant_counts_none limit history now line = by (nat_lt MOST_REQUEST_LINE_BYTES (length line)) (ask_of_line line)
  where
    by : (long : Bool) (ask : Option Ask) →
        faults_on_page (if long then unasked history line_too_long else answer_to limit history now ask).page ≡ 0
    by true ask = refl
    by false None = refl
    by false (Some (Do account key command)) = refl
    by false (Some (Look query)) = refl

-- a line that was answered by a fault of the disk asks something
pub faults_ask : (may_give : ℤ → Type 0) → FaultsAsk may_give
faults_ask may_give limit before step answered fault = elim answered.meets [
  | inl is ↦ absurd (none_counted _ (meant_counts_none limit before answered.now step.line) (sym is.page ∙ fault))
  | inr replaced ↦ elim replaced [
    | inl lacks ↦ absurd (none_counted out_of_memory refl (sym lacks.page_is ∙ fault))
    | inr faulted ↦ faulted.1
  ]
]
