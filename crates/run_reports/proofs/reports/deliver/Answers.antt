-- Answers to the open goals of `deliver`.
use Rattle.std.proofs.Common.{[], ◌∷◌, inr, arith}
use Rattle.run_reports.specs.Texts.{no_memory_line, port_fault_line}
use Rattle.run_reports.proofs.Printing.{says_after_fault}
use Rattle.run_reports.proofs.reports.deliver.Goals as goal

pub returns-in-Err-clause-delivers : goal.returns-in-Err-clause-delivers
returns-in-Err-clause-delivers g c =
    let both = says_after_fault _ _ _ _ _ _ (no_memory_line ∷ []) c.args.text.now port_fault_line c.in-Err.ensures.bytes c.in-Err.ensures.counts.failed c.report_fault.ensures.never_falls c.report_fault.ensures.puts in
    let six = c.report_fault.ensures.status in
    record {
      statuses = inr six;
      done = λ zero. absurd (omega arith);
      faulted = λ _. both.1;
      fault_said = λ _. record { front = both.0; whole = λ quiet. absurd (quiet both.1) };
    }
