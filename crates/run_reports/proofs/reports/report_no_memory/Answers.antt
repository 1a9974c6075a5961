-- Answers to the open goals of `report_no_memory`.
use Rattle.std.proofs.Common.{inl, [], arith}
use Rattle.run_reports.specs.Texts.{no_memory_line, port_fault_line}
use Rattle.run_reports.proofs.Printing.{says_after_fault, after_a_text}
use Rattle.run_reports.proofs.reports.report_no_memory.Goals as goal

pub returns-in-Err-clause-lacks_memory : goal.returns-in-Err-clause-lacks_memory
returns-in-Err-clause-lacks_memory g c =
    let both = says_after_fault _ _ _ _ _ _ [] no_memory_line port_fault_line c.in-Err.ensures.bytes c.in-Err.ensures.counts.failed c.report_fault.ensures.never_falls c.report_fault.ensures.puts in
    let six = c.report_fault.ensures.status in
    record {
      statuses = inl six;
      faulted = λ _. both.1;
      fault_said = λ _ text. record { front = after_a_text text both.0; whole = λ quiet. absurd (quiet both.1) };
      memory_only = λ seven. absurd (omega arith);
      memory_said = λ seven. absurd (omega arith);
    }
