-- A run of a command, from what its parts did.
use Rattle.std.proofs.Common.{◌≡◌, inl, inr, ℕ, List, [], Option, Some, Result, Ok, Err, refl, sym, ◌∙◌, arith}
use Rattle.farm_base.specs.Counts.{Count, HasRisen, IsQuiet}
use Rattle.farm_base.specs.Known.{WhereKnown}
use Rattle.run_reports.specs.Texts.{no_memory_line, port_fault_line}
use Rattle.run_reports.specs.Reports.{Delivers, LacksMemory, Output, Puts, Refuses}
use Rattle.farm_run.specs.Runs.{OneAnswerRun, OutputHas, text_of, unused}
use Rattle.run_reports.proofs.Known.{known_map, where_known}
use Rattle.run_reports.proofs.Printing.{puts_ends, says_ends, says_last}
use Rattle.run_reports.proofs.Refusals.{IsRefusalStatus}

-- the count of a port that gets no call hasn't risen
unused_quiet : HasRisen unused → ⊥
unused_quiet rose = omega (arith, rose)

-- an answer that isn't put, since there was no memory
pub answers_lacking : {Why : Type 0} (refusal : ℕ) (says : Why → List ℕ) (has : Option (Result (List ℕ) Why)) (output : Output) (status : ℕ) →
    IsRefusalStatus refusal → LacksMemory output status → OutputHas refusal says has output status
answers_lacking refusal says has output status small lacks = record {
  statuses = elim lacks.statuses [ inl fault ↦ inr (inr (inl fault)) | inr memory ↦ inr (inr (inr memory)) ];
  done = λ zero. elim lacks.statuses [ inl fault ↦ absurd (omega arith) | inr memory ↦ absurd (omega arith) ];
  refused = λ same. elim lacks.statuses [ inl fault ↦ absurd (omega (arith, small.1)) | inr memory ↦ absurd (omega (arith, small.1)) ];
  refused_ends = λ same. elim lacks.statuses [ inl fault ↦ absurd (omega (arith, small.1)) | inr memory ↦ absurd (omega (arith, small.1)) ];
  refused_only = λ why is still. elim lacks.statuses [ inl fault ↦ inr (inr (fault, lacks.faulted fault)) | inr memory ↦ inr (inl memory) ];
  faulted = λ six. inr (lacks.faulted six);
  fault_said = λ six. lacks.fault_said six (text_of has);
  fault_ends = λ six. says_ends output _ _ port_fault_line (lacks.fault_said six (text_of has));
  memory_only = λ seven. (refl, lacks.memory_only seven);
  memory_said = λ seven. lacks.memory_said seven (text_of has);
  memory_ends = λ seven. says_ends output _ _ no_memory_line (lacks.memory_said seven (text_of has));
  complete = λ text is still quiet. elim lacks.statuses [ inl fault ↦ absurd (quiet (lacks.faulted fault)) | inr memory ↦ inr memory ];
}

-- an input isn't both answered and refused
not_both : {Why : Type 0} (has : Option (Result (List ℕ) Why)) (text : List ℕ) (why : Why) → has ≡ Some (Ok text) → has ≡ Some (Err why) → ⊥
not_both has text why answer refusal = cc

-- a refusal
pub answers_refusing : {Why : Type 0} (refusal : ℕ) (says : Why → List ℕ) (has : Option (Result (List ℕ) Why)) (output : Output) (status : ℕ) (why : Why) →
    IsRefusalStatus refusal → has ≡ Some (Err why) → Refuses output refusal (says why) status → OutputHas refusal says has output status
answers_refusing refusal says has output status why small reason refuses =
    elim refuses.statuses [
      | inl same ↦ record {
        statuses = inr (inl same);
        done = λ zero. absurd (omega (arith, small.0));
        refused = λ is. (why, reason, refuses.said is);
        refused_ends = λ is. (why, says_ends output _ _ (says why) (refuses.said is));
        refused_only = λ other is still. inl same;
        faulted = λ six. absurd (omega (arith, small.1));
        fault_said = λ six. absurd (omega (arith, small.1));
        fault_ends = λ six. absurd (omega (arith, small.1));
        memory_only = λ seven. absurd (omega (arith, small.1));
        memory_said = λ seven. absurd (omega (arith, small.1));
        memory_ends = λ seven. absurd (omega (arith, small.1));
        complete = λ text is still quiet. absurd (not_both has text why is reason);
      }
      | inr lacks ↦ answers_lacking refusal says has output status small lacks
    ]

-- an answer
pub answers_delivering : {Why : Type 0} (refusal : ℕ) (says : Why → List ℕ) (has : Option (Result (List ℕ) Why)) (output : Output) (status : ℕ) (text : List ℕ) →
    IsRefusalStatus refusal → has ≡ Some (Ok text) → Delivers output text status → OutputHas refusal says has output status
answers_delivering refusal says has output status text small answer delivers = record {
  statuses = elim delivers.statuses [ inl zero ↦ inl zero | inr six ↦ inr (inr (inl six)) ];
  done = λ zero. (text, answer, delivers.done zero);
  refused = λ same. elim delivers.statuses [ inl zero ↦ absurd (omega (arith, small.0)) | inr six ↦ absurd (omega (arith, small.1)) ];
  refused_ends = λ same. elim delivers.statuses [ inl zero ↦ absurd (omega (arith, small.0)) | inr six ↦ absurd (omega (arith, small.1)) ];
  refused_only = λ why is still. absurd (not_both has text why answer is);
  faulted = λ six. inr (delivers.faulted six);
  fault_said = λ six. rw answer (delivers.fault_said six);
  fault_ends = λ six. says_ends output _ _ port_fault_line (delivers.fault_said six);
  memory_only = λ seven. elim delivers.statuses [ inl zero ↦ absurd (omega arith) | inr six ↦ absurd (omega arith) ];
  memory_said = λ seven. elim delivers.statuses [ inl zero ↦ absurd (omega arith) | inr six ↦ absurd (omega arith) ];
  memory_ends = λ seven. elim delivers.statuses [ inl zero ↦ absurd (omega arith) | inr six ↦ absurd (omega arith) ];
  complete = λ other is still quiet. elim delivers.statuses [ inl zero ↦ inl zero | inr six ↦ absurd (quiet (delivers.faulted six)) ];
}

-- the run over a port that didn't fail, if what is known of the input is what it has
pub run_answering : {I Why : Type 0} (refusal : ℕ) (says : Why → List ℕ) (has : I → Option (Result (List ℕ) Why)) (input : Option I)
    (known : Option (Result (List ℕ) Why)) (port : Count) (output : Output) (status : ℕ) →
    IsQuiet port → WhereKnown input (λ k. has k ≡ known) → OutputHas refusal says known output status → OneAnswerRun refusal says has input port output status
run_answering refusal says has input known port output status port_quiet same answers = record {
  statuses = answers.statuses;
  done = λ zero. let done = answers.done zero in known_map input _ _ (λ k is. (done.0, is ∙ done.1, done.2)) same;
  refused = λ status_is. let refused = answers.refused status_is in known_map input _ _ (λ k is. (refused.0, is ∙ refused.1, refused.2)) same;
  refused_ends = answers.refused_ends;
  refused_only = known_map input _ _ (λ k is why has_is still. answers.refused_only why (sym is ∙ has_is) unused_quiet) same;
  faulted = λ six. elim (answers.faulted six) [ inl rose ↦ absurd (unused_quiet rose) | inr rose ↦ inr rose ];
  fault_said = λ six. known_map input _ _ (λ k is. rw is (answers.fault_said six)) same;
  fault_ends = answers.fault_ends;
  memory_only = λ seven. (port_quiet, (answers.memory_only seven).1);
  memory_said = λ seven. known_map input _ _ (λ k is. rw is (answers.memory_said seven)) same;
  memory_ends = answers.memory_ends;
  complete = known_map input _ _ (λ k is text has_is still quiet. answers.complete text (sym is ∙ has_is) unused_quiet quiet) same;
}

-- the run whose port failed
pub run_faulted : {I Why : Type 0} (refusal : ℕ) (says : Why → List ℕ) (has : I → Option (Result (List ℕ) Why)) (input : Option I) (port : Count)
    (output : Output) (status : ℕ) → IsRefusalStatus refusal → HasRisen port → status ≡ 6 → Puts output port_fault_line → OneAnswerRun refusal says has input port output status
run_faulted refusal says has input port output status small rose six puts = record {
  statuses = inr (inr (inl six));
  done = λ zero. absurd (omega arith);
  refused = λ same. absurd (omega (arith, small.1));
  refused_ends = λ same. absurd (omega (arith, small.1));
  refused_only = where_known input _ (λ known why is quiet. absurd (quiet rose));
  faulted = λ _. inl rose;
  fault_said = λ _. where_known input _ (λ known. says_last output _ _ port_fault_line puts);
  fault_ends = λ _. puts_ends output port_fault_line puts;
  memory_only = λ seven. absurd (omega arith);
  memory_said = λ seven. absurd (omega arith);
  memory_ends = λ seven. absurd (omega arith);
  complete = where_known input _ (λ known text is quiet. absurd (quiet rose));
}

-- the run that had no memory to read with, over a port that didn't fail
pub run_lacking : {I Why : Type 0} (refusal : ℕ) (says : Why → List ℕ) (has : I → Option (Result (List ℕ) Why)) (input : Option I) (port : Count)
    (output : Output) (status : ℕ) → IsRefusalStatus refusal → IsQuiet port → LacksMemory output status → OneAnswerRun refusal says has input port output status
run_lacking refusal says has input port output status small port_quiet lacks = record {
  statuses = elim lacks.statuses [ inl six ↦ inr (inr (inl six)) | inr seven ↦ inr (inr (inr seven)) ];
  done = λ zero. elim lacks.statuses [ inl fault ↦ absurd (omega arith) | inr memory ↦ absurd (omega arith) ];
  refused = λ same. elim lacks.statuses [ inl fault ↦ absurd (omega (arith, small.1)) | inr memory ↦ absurd (omega (arith, small.1)) ];
  refused_ends = λ same. elim lacks.statuses [ inl fault ↦ absurd (omega (arith, small.1)) | inr memory ↦ absurd (omega (arith, small.1)) ];
  refused_only = where_known input _ (λ known why is still. elim lacks.statuses [ inl fault ↦ inr (inr (fault, lacks.faulted fault)) | inr memory ↦ inr (inl memory) ]);
  faulted = λ six. inr (lacks.faulted six);
  fault_said = λ six. where_known input _ (λ known. lacks.fault_said six (text_of (has known)));
  fault_ends = λ six. says_ends output _ _ port_fault_line (lacks.fault_said six []);
  memory_only = λ seven. (port_quiet, lacks.memory_only seven);
  memory_said = λ seven. where_known input _ (λ known. lacks.memory_said seven (text_of (has known)));
  memory_ends = λ seven. says_ends output _ _ no_memory_line (lacks.memory_said seven []);
  complete = where_known input _ (λ known text is still quiet. elim lacks.statuses [ inl fault ↦ absurd (quiet (lacks.faulted fault)) | inr memory ↦ inr memory ]);
}
