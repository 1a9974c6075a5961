-- Answers to the open goals of `read`.
use Rattle.std.proofs.Common.{◌≡◌, [], arith, ap, ◌∙◌, sym, subst, refl, rules, Ok}
use Rattle.std.proofs.lemmas.List.{nil_from_length}
use Rattle.batch_lines.specs.declared.reader.Moved.TheVariants as moves
use Rattle.farm_base.specs.Counts.{Rose}
use Rattle.batch_lines.specs.Reader.{AtEnd}
use Rattle.batch_lines.proofs.Steps.{GoesOn, Stands, cut_comes, fault_comes, last_comes, nothing_comes, stands_first, stands_refilled}
use Rattle.batch_lines.proofs.WholeLines.{held_ends}
use Rattle.batch_lines.proofs.reader.LineReader.read.Goals as goal
use Rattle.batch_lines.proofs.reader.LineReader.read.Goals.{then-self-eq0, else-self-eq0}

pub loop-moved-init : goal.loop-moved-init
loop-moved-init g c =
    let stream = g.S.Port.stream c.args.input.now in
    record {
      comes = cut_comes _ _ _ stream stream _
          (stands_first c.args.self.now _ stream (ap (λ reading. reading.in_hand) c.self.view_is)
          (ap (λ reading. reading.passed) c.self.view_is) (record { line_is = refl; length_is = refl }))
          c.cut-moved.ensures.moves;
      in_hand = λ holds. (
        held_ends _ _ _ _ (ap (λ reading. reading.in_hand) c.self.view_is) (ap (λ reading. reading.passed) c.self.view_is) c.cut-moved.ensures.moves holds,
        refl,
      );
      quiet = refl;
    }

pub returns-in-Ok-eq0-clause-reads : goal.returns-in-Ok-eq0-clause-reads
returns-in-Ok-eq0-clause-reads g c =
    let refilled = c.in-Ok-eq0.ensures in
    let all : c.loop-moved.moved ≡ moves.All = search rules in
    let on : GoesOn c.args.self.now c.loop-moved.self (g.S.Port.stream c.args.input.now) (g.S.Port.stream c.loop-moved.input) =
    rw all at c.loop-moved.invariant.comes in
    let stands : Stands c.args.self.now c.refill.new.self (g.S.Port.stream c.args.input.now) (g.S.Port.stream c.refill.new.input) =
    stands_refilled _ _ _ _ _ _ on.stands on.empty refilled.taken refilled.held refilled.passed in
    let empty : c.refill.new.self.in_hand ≡ [] = nil_from_length c.refill.new.self.in_hand (omega arith) in
    let at_end : AtEnd (g.S.Port.stream c.refill.new.input) = refilled.at_end (ap Ok c.in-Ok-eq0.field-0-test) in
    let length_is : c.self-in-Ok-eq0.inside.length ≡ c.refill.new.self.length = ap (λ reading. reading.length) c.self-in-Ok-eq0.view_is in
    elim c.if-self-eq0.branch [
      | then-self-eq0 w ↦ rw w.result-is (nothing_comes _ _ _ _ stands empty at_end (sym length_is ∙ w.if-self-eq0.true))
      | else-self-eq0 w ↦ rw w.result-is
          (last_comes _ _ _ _ stands empty (omega (arith, on.within, refilled.passed)) at_end (λ none. w.if-self-eq0.false (length_is ∙ none)))
    ]

pub loop-moved-preserved : goal.loop-moved-preserved
loop-moved-preserved g c =
    let refilled = c.in-Ok.ensures in
    let all : c.loop-moved.moved ≡ moves.All = search rules in
    let on : GoesOn c.args.self.now c.loop-moved.self (g.S.Port.stream c.args.input.now) (g.S.Port.stream c.loop-moved.input) =
    rw all at c.loop-moved.invariant.comes in
    record {
      comes = cut_comes _ _ _ _ _ _ (stands_refilled _ _ _ _ _ _ on.stands on.empty refilled.taken refilled.held refilled.passed) c.cut-moved-in-Ok.ensures.moves;
      in_hand = λ holds. let ended = c.loop-moved.invariant.in_hand holds in cc;
      quiet = refilled.counts.quiet ∙ c.loop-moved.invariant.quiet;
    }

pub returns-in-Err-clause-reads : goal.returns-in-Err-clause-reads
returns-in-Err-clause-reads g c =
    let refilled = c.in-Err.ensures in
    let all : c.loop-moved.moved ≡ moves.All = search rules in
    let on : GoesOn c.args.self.now c.loop-moved.self (g.S.Port.stream c.args.input.now) (g.S.Port.stream c.loop-moved.input) =
    rw all at c.loop-moved.invariant.comes in
    fault_comes _ _ _ _ _ _ on.stands on.empty refilled.failed
    (subst (λ before. Rose before (g.S.Port.faults c.refill.new.input)) c.loop-moved.invariant.quiet refilled.counts.failed)
