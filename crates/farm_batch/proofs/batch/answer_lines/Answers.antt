-- Answers to the open goals of `answer_lines`.
use Rattle.std.proofs.Common.{◌≡◌, ◌≤◌, ◌+◌, true, false, Some, None, Ok, refl, sym, ap, ◌∙◌, arith}
use Rattle.batch_lines.specs.declared.reader.Cut.TheVariants as cuts
use Rattle.farm_batch.specs.declared.batch.BatchEnd.TheVariants.{Done, Long, Failed}
use Rattle.farm_batch.specs.declared.limits.TheConstants.{MOST_LINES}
use Rattle.farm_batch.proofs.Finished.{batch_at_end, batch_of}
use Rattle.farm_batch.proofs.Ends.{ends_at_end, ends_at_fault, ends_at_last, ends_at_line, ends_at_most, ends_at_put, ends_too_long, ends_too_many, or_done, or_failed}
use Rattle.farm_batch.proofs.Kept.{keeps_more, keeps_same}
use Rattle.farm_batch.proofs.SoFar.{at_start, goes_on}
use Rattle.farm_batch.proofs.batch.answer_lines.Goals as goal
use Rattle.farm_batch.proofs.batch.answer_lines.Goals.{in-Ok-Line, in-Ok-Last, in-Ok-End, in-Ok-Long, in-Ok-Failed, in-Err, in-Ok-true, in-Ok-false, in-Err-look_on}

pub loop-number-init : goal.loop-number-init
loop-number-init g c =
    (at_start _ _ _ _ _ _ _ _ _ _ c.in_ok-reader.ensures.in_hand c.in_ok-reader.ensures.passed c.in_ok-waiting.ensures.none, keeps_same _ _ _ _ _)

pub returns-in-Some-clause-batch : goal.returns-in-Some-clause-batch
returns-in-Some-clause-batch g c =
    let so_far = c.loop-number.invariant.0 in
    let few : c.loop-number.number ≤ MOST_LINES = omega arith in
    let said = c.next_line.ensures in
    let rest = c.put_rest.ensures.puts in
    elim c.match-next_line.branch [
      | in-Ok-Line w ↦
          let is : c.next_line.result ≡ Ok cuts.Line = w.in-Ok-Line.is ∙ ap Ok w.in-Ok-Line.field-0-is in
          let reads = rw is at said.reads in
          let answers = w.answer_line-end.ensures.answers reads.line (w.line.ensures.line ∙ reads.held) in
          let source_quiet = said.source_counts.quiet (λ failed. cc) ∙ so_far.source_quiet in
          let still = w.in-Ok-Line.ensures.sink_counts.quiet ∙ so_far.sink_quiet in
          let ended : w.answer_line-end.result ≡ Some c.in-Some.end = sym w.end-is ∙ c.in-Some.is in
          let never_falls = w.answer_line-end.ensures.counts.never_falls in
          batch_of
          (rw (w.desk-is, w.output-is, w.waiting-is) (ends_at_line c.in-Some.end so_far few w.in-Ok-Line.ensures.puts still reads (rw ended at answers)
          (λ other. (source_quiet, w.answer_line-end.ensures.counts.quiet (λ failed. other (cc)) ∙ still))))
          (rw w.output-is (omega (arith, still, never_falls))) rest
      | in-Ok-Last w ↦
          let is : c.next_line.result ≡ Ok cuts.Last = w.in-Ok-Last.is ∙ ap Ok w.in-Ok-Last.field-0-is in
          let reads = rw is at said.reads in
          let answers = w.answer_line.ensures.answers reads.line (w.line-in-Ok-Last.ensures.line ∙ reads.held) in
          let source_quiet = said.source_counts.quiet (λ failed. cc) ∙ so_far.source_quiet in
          let still = w.in-Ok-Last.ensures.sink_counts.quiet ∙ so_far.sink_quiet in
          let ended = sym w.or-end.ensures ∙ sym w.end-is ∙ c.in-Some.is in
          let never_falls = w.answer_line.ensures.counts.never_falls in
          batch_of
          (rw (w.desk-is, w.output-is, w.waiting-is) (ends_at_last w.answer_line.result c.in-Some.end so_far few w.in-Ok-Last.ensures.puts still reads answers ended
          (λ other. (source_quiet, w.answer_line.ensures.counts.quiet (λ failed. other (or_failed w.answer_line.result c.in-Some.end ended failed)) ∙ still))))
          (rw w.output-is (omega (arith, still, never_falls))) rest
      | in-Ok-End w ↦
          let is : c.next_line.result ≡ Ok cuts.End = w.in-Ok-End.is ∙ ap Ok w.in-Ok-End.field-0-is in
          let source_quiet = said.source_counts.quiet (λ failed. cc) ∙ so_far.source_quiet in
          let still = w.in-Ok-End.ensures.sink_counts.quiet ∙ so_far.sink_quiet in
          let done : c.in-Some.end ≡ Done = cc in
          batch_of
          (rw (w.desk-is, w.output-is, w.waiting-is, done) (ends_at_end so_far few w.in-Ok-End.ensures.puts (rw is at said.reads) source_quiet still))
          (rw w.output-is (omega (arith, still))) rest
      | in-Ok-Long w ↦
          let is : c.next_line.result ≡ Ok cuts.Long = w.in-Ok-Long.is ∙ ap Ok w.in-Ok-Long.field-0-is in
          let source_quiet = said.source_counts.quiet (λ failed. cc) ∙ so_far.source_quiet in
          let still = w.in-Ok-Long.ensures.sink_counts.quiet ∙ so_far.sink_quiet in
          let long : c.in-Some.end ≡ Long c.loop-number.number = cc in
          batch_of
          (rw (w.desk-is, w.output-is, w.waiting-is, long) (ends_too_long so_far few w.in-Ok-Long.ensures.puts (rw is at said.reads) source_quiet still))
          (rw w.output-is (omega (arith, still))) rest
      | in-Ok-Failed w ↦
          let is : c.next_line.result ≡ Ok cuts.Failed = w.in-Ok-Failed.is ∙ ap Ok w.in-Ok-Failed.field-0-is in
          let reads = rw is at said.reads in
          let still = w.in-Ok-Failed.ensures.sink_counts.quiet ∙ so_far.sink_quiet in
          let failed : c.in-Some.end ≡ Failed = cc in
          let within : c.loop-number.number ≤ MOST_LINES + 1 = omega arith in
          batch_of
          (rw (w.desk-is, w.output-is, w.waiting-is, failed) (ends_at_fault so_far within w.in-Ok-Failed.ensures.puts reads.taken reads.moved reads.risen))
          (rw w.output-is (omega (arith, still))) rest
      | in-Err w ↦
          let put = w.in-Err.ensures.puts in
          let failed : c.in-Some.end ≡ Failed = cc in
          let within : c.loop-number.number ≤ MOST_LINES + 1 = omega arith in
          let never_falls = w.in-Err.ensures.sink_counts.never_falls in
          rw (w.in-Err.ensures.not_read) (batch_of
          (rw (w.desk-is, w.output-is, w.waiting-is, failed) (ends_at_put so_far within put.0 put.2 w.in-Err.ensures.sink_counts.failed))
          (rw w.output-is (omega (arith, so_far.sink_quiet, never_falls))) rest)
    ]

pub loop-number-preserved : goal.loop-number-preserved
loop-number-preserved g c =
    let so_far = c.loop-number.invariant.0 in
    let said = c.next_line.ensures in
    elim c.match-next_line.branch [
      | in-Ok-Line w ↦
          let is : c.next_line.result ≡ Ok cuts.Line = w.in-Ok-Line.is ∙ ap Ok w.in-Ok-Line.field-0-is in
          let reads = rw is at said.reads in
          let answers = w.answer_line-end.ensures.answers reads.line (w.line.ensures.line ∙ reads.held) in
          let source_quiet = said.source_counts.quiet (λ failed. cc) ∙ so_far.source_quiet in
          let still = w.in-Ok-Line.ensures.sink_counts.quiet ∙ so_far.sink_quiet in
          let ended : w.answer_line-end.result ≡ None = sym w.end-is ∙ c.in_default.is in
          let sink_quiet = w.answer_line-end.ensures.counts.quiet (λ failed. cc) ∙ still in
          rw (w.desk-is, w.output-is, w.waiting-is) (
            goes_on so_far w.in-Ok-Line.ensures.puts reads (rw ended at answers) source_quiet sink_quiet,
            keeps_more _ _ _ _ _ _ _ c.loop-number.invariant.1 w.answer_line-end.ensures.keeps,
          )
      | in-Ok-Last w ↦ absurd (or_done w.answer_line.result (sym w.or-end.ensures ∙ sym w.end-is ∙ c.in_default.is))
      | in-Ok-End w ↦ cc
      | in-Ok-Long w ↦ cc
      | in-Ok-Failed w ↦ cc
      | in-Err w ↦ cc
    ]

pub returns-in-Some-clause-keeps : goal.returns-in-Some-clause-keeps
returns-in-Some-clause-keeps g c =
    let kept = c.loop-number.invariant.1 in
    elim c.match-next_line.branch [
      | in-Ok-Line w ↦ rw w.desk-is (keeps_more _ _ _ _ _ _ _ kept w.answer_line-end.ensures.keeps)
      | in-Ok-Last w ↦ rw w.desk-is (keeps_more _ _ _ _ _ _ _ kept w.answer_line.ensures.keeps)
      | in-Ok-End w ↦ rw w.desk-is kept
      | in-Ok-Long w ↦ rw w.desk-is kept
      | in-Ok-Failed w ↦ rw w.desk-is kept
      | in-Err w ↦ rw w.desk-is kept
    ]

pub returns-in-Some-clause-output_never_falls : goal.returns-in-Some-clause-output_never_falls
returns-in-Some-clause-output_never_falls g c =
    let quiet = c.loop-number.invariant.0.sink_quiet in
    let read = c.next_line.ensures.sink_counts.never_falls in
    let rest = c.put_rest.ensures.never_falls in
    elim c.match-next_line.branch [
      | in-Ok-Line w ↦ let line = w.answer_line-end.ensures.counts.never_falls in omega (arith, quiet, read, line, rw w.output-is at rest)
      | in-Ok-Last w ↦ let line = w.answer_line.ensures.counts.never_falls in omega (arith, quiet, read, line, rw w.output-is at rest)
      | in-Ok-End w ↦ omega (arith, quiet, read, rw w.output-is at rest)
      | in-Ok-Long w ↦ omega (arith, quiet, read, rw w.output-is at rest)
      | in-Ok-Failed w ↦ omega (arith, quiet, read, rw w.output-is at rest)
      | in-Err w ↦ omega (arith, quiet, read, rw w.output-is at rest)
    ]

pub returns-in-Err-put-clause-batch : goal.returns-in-Err-put-clause-batch
returns-in-Err-put-clause-batch g c =
    let so_far = c.loop-number.invariant.0 in
    let put = c.in-Err-put.ensures.puts in
    let within : c.loop-number.number ≤ MOST_LINES + 1 = omega arith in
    let never_falls = c.in-Err-put.ensures.counts.never_falls in
    batch_at_end (ends_at_put so_far within refl put.2 c.in-Err-put.ensures.counts.failed) (omega (arith, so_far.sink_quiet, never_falls))

pub returns-clause-batch : goal.returns-clause-batch
returns-clause-batch g c =
    let so_far = c.loop-number.invariant.0 in
    let all : c.loop-number.number ≡ MOST_LINES + 1 = omega arith in
    let put = rw c.in_default-put.ensures.none at c.in_default-put.ensures.puts in
    let still = c.in_default-put.ensures.counts.quiet ∙ so_far.sink_quiet in
    elim c.match-look_on.branch [
      | in-Ok-true w ↦
          let is : c.look_on.result ≡ Ok true = w.in-Ok-true.is ∙ ap Ok w.in-Ok-true.field-0-test in
          let looks = rw is at c.look_on.ensures.looks in
          let source_quiet = rw is at c.look_on.ensures.counts.quiet in
          rw (w.result-is)
          (batch_at_end (ends_too_many so_far all put looks.0 looks.1 looks.2 (source_quiet ∙ so_far.source_quiet) still) (omega (arith, still)))
      | in-Ok-false w ↦
          let is : c.look_on.result ≡ Ok false = w.in-Ok-false.is ∙ ap Ok w.in-Ok-false.field-0-test in
          let looks = rw is at c.look_on.ensures.looks in
          let source_quiet = rw is at c.look_on.ensures.counts.quiet in
          rw (w.result-is)
          (batch_at_end (ends_at_most so_far all put looks.0 looks.1 looks.2 (source_quiet ∙ so_far.source_quiet) still) (omega (arith, still)))
      | in-Err-look_on w ↦
          let fails = w.in-Err-look_on.ensures.looks in
          let within : c.loop-number.number ≤ MOST_LINES + 1 = omega arith in
          rw (w.result-is) (batch_at_end (ends_at_fault so_far within put fails.taken fails.moved fails.risen) (omega (arith, still)))
    ]
