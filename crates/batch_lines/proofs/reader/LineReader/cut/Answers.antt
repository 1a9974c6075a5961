-- Answers to the open goals of `cut`.
use Rattle.std.proofs.Common.{◌≡◌, ◌+◌, ◌-◌, ◌≤◌, ℕ, List, ◌++◌, ◌∷◌, length, take, drop, arith, ap, ◌∙◌, sym, subst, refl}
use Rattle.std.proofs.lemmas.List.{drop-drop, drop_all, length-take-le, take_all}
use Rattle.batch_lines.specs.declared.limits.TheConstants.{LINE_FEED, MOST_BYTES}
use Rattle.batch_lines.specs.Reader.{Holds}
use Rattle.batch_lines.proofs.Cuts.{line_before, line_feed_splits, line_without, byte_too_many}
use Rattle.batch_lines.proofs.Pieces.{in_hand_length, lent_in_hand}
use Rattle.batch_lines.proofs.reader.LineReader.cut.Goals as goal

pub returns-in-Some : goal.returns-in-Some
returns-in-Some c =
    let old = c.args.self.now in
    let count = c.in-Some.count in
    let passed_is : c.self.inside.passed ≡ old.passed = ap (λ reading. reading.passed) c.self.view_is in
    let in_hand_is : take (c.self.inside.end - c.self.inside.start) (drop c.self.inside.start c.deref.result.now) ≡ old.in_hand =
    lent_in_hand _ _ _ c.self.inside.start c.self.inside.end c.deref.ensures.value (ap (λ reading. reading.in_hand) c.self.view_is) in
    let first = rw in_hand_is at c.in-Some.ensures in
    let rest_is : c.pass_line_feed.new.self.in_hand ≡ drop (count + 1) old.in_hand =
    c.pass_line_feed.ensures.in_hand ∙ ap (λ t. drop 1 t) c.keep.ensures.in_hand ∙ drop-drop 1 count old.in_hand in
    let length_is = length-take-le count old.in_hand (omega arith) in
    record {
      moves = record {
        text = take count old.in_hand;
        split = line_feed_splits old.in_hand count first ∙ ap (λ t. take count old.in_hand ++ LINE_FEED ∷ t) (sym rest_is);
        one_line = line_before old.in_hand count first;
        extends = λ line holds. c.pass_line_feed.ensures.held _ (c.keep.ensures.extends line holds);
        passed = omega arith;
        within = omega arith;
      };
    }

pub returns-in-None : goal.returns-in-None
returns-in-None c =
    let old = c.args.self.now in
    let count = c.self.inside.end - c.self.inside.start in
    let passed_is : c.self.inside.passed ≡ old.passed = ap (λ reading. reading.passed) c.self.view_is in
    let in_hand_is : take count (drop c.self.inside.start c.deref.result.now) ≡ old.in_hand =
    lent_in_hand _ _ _ c.self.inside.start c.self.inside.end c.deref.ensures.value (ap (λ reading. reading.in_hand) c.self.view_is) in
    let nowhere = rw in_hand_is at c.in-None.ensures in
    let bounds = c.self.invariant in
    let within : c.self.inside.end ≤ length c.deref.result.now = omega (arith, c.deref.ensures.len) in
    let length_is : length old.in_hand ≡ count =
    sym (ap length in_hand_is) ∙ in_hand_length c.deref.result.now c.self.inside.start c.self.inside.end within in
    record {
      moves = record {
        empty = c.keep-in-None.ensures.in_hand ∙ drop_all count old.in_hand (omega arith);
        one_line = line_without old.in_hand nowhere;
        extends = λ line holds.
            subst (λ (t : List ℕ). Holds c.keep-in-None.new.self (line ++ t)) (take_all count old.in_hand (omega arith))
            (c.keep-in-None.ensures.extends line holds);
        passed = omega arith;
        within = omega arith;
      };
    }

pub returns-in_default : goal.returns-in_default
returns-in_default c =
    let old = c.args.self.now in
    let passed_is : c.self.inside.passed ≡ old.passed = ap (λ reading. reading.passed) c.self.view_is in
    let in_hand_is : take (c.self.inside.end - c.self.inside.start) (drop c.self.inside.start c.deref.result.now) ≡ old.in_hand =
    lent_in_hand _ _ _ c.self.inside.start c.self.inside.end c.deref.ensures.value (ap (λ reading. reading.in_hand) c.self.view_is) in
    let first = rw in_hand_is at c.in-Some.ensures in
    let room = MOST_BYTES - old.passed in
    record {
      moves = record {
        too_many = byte_too_many old.in_hand old.passed room (omega arith) (omega arith) (λ k from below. first.0.before k from (omega arith));
        as_before = refl;
      };
    }

pub returns-in_default-2 : goal.returns-in_default-2
returns-in_default-2 c =
    let old = c.args.self.now in
    let passed_is : c.self.inside.passed ≡ old.passed = ap (λ reading. reading.passed) c.self.view_is in
    let in_hand_is : take (c.self.inside.end - c.self.inside.start) (drop c.self.inside.start c.deref.result.now) ≡ old.in_hand =
    lent_in_hand _ _ _ c.self.inside.start c.self.inside.end c.deref.ensures.value (ap (λ reading. reading.in_hand) c.self.view_is) in
    let nowhere = rw in_hand_is at c.in-None.ensures in
    let room = MOST_BYTES - old.passed in
    let bounds = c.self.invariant in
    let within : c.self.inside.end ≤ length c.deref.result.now = omega (arith, c.deref.ensures.len) in
    let length_is : length old.in_hand ≡ c.self.inside.end - c.self.inside.start =
    sym (ap length in_hand_is) ∙ in_hand_length c.deref.result.now c.self.inside.start c.self.inside.end within in
    record {
      moves = record {
        too_many = byte_too_many old.in_hand old.passed room (omega arith) (omega arith) (λ k from below. nowhere k from (omega arith));
        as_before = refl;
      };
    }
