-- Answers to the open goals of `holds_line`.
use Rattle.std.proofs.Common.{◌≡◌, ◌+◌, ◌-◌, ◌<◌, length, take, drop, get_or, arith, ap}
use Rattle.std.proofs.lemmas.Bool.{eqb-true}
use Rattle.std.proofs.lemmas.Bool.Decides.{nat_tests}
use Rattle.std.proofs.lemmas.List.{length-take-le}
use Rattle.batch_lines.specs.declared.limits.TheConstants.{LINE_FEED, MOST_BYTES}
use Rattle.batch_lines.proofs.Cuts.{line_before, line_feed_splits}
use Rattle.batch_lines.proofs.Pieces.{lent_in_hand}
use Rattle.batch_lines.proofs.WholeLines.{first_after, some_feed}
use Rattle.batch_lines.proofs.reader.LineReader.holds_line.Goals as goal

pub returns-in-Some : goal.returns-in-Some
returns-in-Some c =
    let state = c.args.self.now in
    let count = c.in-Some.count in
    let passed_is : c.self.inside.passed ≡ state.passed = ap (λ reading. reading.passed) c.self.view_is in
    let in_hand_is : take (c.self.inside.end - c.self.inside.start) (drop c.self.inside.start c.deref.result.now) ≡ state.in_hand =
    lent_in_hand _ _ _ c.self.inside.start c.self.inside.end c.deref.ensures.value (ap (λ reading. reading.in_hand) c.self.view_is) in
    let first = rw in_hand_is at c.in-Some.ensures in
    let inside : count < length state.in_hand = first.0.high in
    record {
      held = (
        λ room.
            let few : count < MOST_BYTES - c.self.inside.passed = grind (arith, nat_tests) in
            record {
              line = take count state.in_hand;
              rest = drop (count + 1) state.in_hand;
              split = line_feed_splits state.in_hand count first;
              one_line = line_before state.in_hand count first;
              within = omega (arith, few, passed_is, length-take-le count state.in_hand (omega (arith, inside)));
            },
        λ holds.
            let same = first_after state.in_hand holds.line holds.rest count first holds.split holds.one_line (eqb-true (get_or state.in_hand count 0) LINE_FEED first.1) in
            let few : count < MOST_BYTES - c.self.inside.passed = omega (arith, same, holds.within, passed_is) in
            grind (arith, nat_tests),
      );
    }

pub returns-in-None : goal.returns-in-None
returns-in-None c =
    let state = c.args.self.now in
    let in_hand_is : take (c.self.inside.end - c.self.inside.start) (drop c.self.inside.start c.deref.result.now) ≡ state.in_hand =
    lent_in_hand _ _ _ c.self.inside.start c.self.inside.end c.deref.ensures.value (ap (λ reading. reading.in_hand) c.self.view_is) in
    let nowhere = rw in_hand_is at c.in-None.ensures in
    record { held = (λ no. cc, λ holds. absurd (some_feed state.in_hand holds.line holds.rest holds.split nowhere)) }
