-- Answers to the open goals of `keep`.
use Rattle.std.proofs.Common.{◌≡◌, ◌+◌, ◌≤◌, length, take, drop, ◌-◌, ◌++◌, sym, arith, ap, ◌∙◌, length-append}
use Rattle.std.proofs.lemmas.List.{length-take-le}
use Rattle.batch_lines.proofs.reader.LineReader.keep.Goals as goal
use Rattle.batch_lines.proofs.reader.LineReader.keep.Goals.{then-self-le-MOST_REQUEST_LINE_BYTES, else-self-le-MOST_REQUEST_LINE_BYTES}
use Rattle.batch_lines.proofs.Pieces.{in_hand_after, front_again}
use Rattle.batch_lines.proofs.Kept.{dropped_on, kept_written}

pub returns-clause-in_hand : goal.returns-clause-in_hand
returns-clause-in_hand c =
    let within = rw (← c.self.view_is) at c.requires.in_hand in
    let cut = in_hand_after c.self.inside.piece.items c.self.inside.start c.self.inside.end c.args.count within in
    elim c.if-self-le-MOST_REQUEST_LINE_BYTES.branch [
      | then-self-le-MOST_REQUEST_LINE_BYTES w ↦ rw (w.self-inside-is, ← c.self.view_is) cut
      | else-self-le-MOST_REQUEST_LINE_BYTES w ↦ rw (w.self-inside-is, ← c.self.view_is) cut
    ]

pub returns-clause-extends : goal.returns-clause-extends
returns-clause-extends c line holds =
    let piece = c.self.inside.piece.items in
    let buffer = c.self.inside.line.items in
    let before = c.self.inside.length in
    let count = c.args.count in
    let text = take count (take (c.self.inside.end - c.self.inside.start) (drop c.self.inside.start piece)) in
    let within = rw (← c.self.view_is) at c.requires.in_hand in
    let before_is = rw (← c.self.view_is) at holds.length_is in
    let line_is = rw (← c.self.view_is) at holds.line_is in
    let count_is : count ≡ length text = sym (length-take-le count _ within) in
    let length_is : before + count ≡ length (line ++ text) = omega (arith, length-append line text) in
    elim c.if-self-le-MOST_REQUEST_LINE_BYTES.branch [
      | then-self-le-MOST_REQUEST_LINE_BYTES w ↦
          let short = w.if-self-le-MOST_REQUEST_LINE_BYTES.true in
          let invariant = c.self.invariant in
          let buffer_is : w.deref_mut.result.now ≡ buffer = w.deref_mut.ensures.value in
          let len_is = w.deref_mut.ensures.len in
          let copied : w.copy_from_slice.new.self ≡ text =
          w.copy_from_slice.ensures.after
          ∙ ap (λ t. take (c.self.inside.start + count - c.self.inside.start) (drop c.self.inside.start t)) w.deref.ensures.value
          ∙ front_again piece c.self.inside.start c.self.inside.end count within in
          let len : length buffer ≡ c.self.inside.line.len = omega arith in
          let room : before + count ≤ length buffer = omega arith in
          let shown_is = kept_written c.self.inside.line line text before count before_is count_is len room short line_is in
          rw (w.self-inside-is, ← c.self.view_is, buffer_is, copied) (record { line_is = shown_is; length_is = length_is })
      | else-self-le-MOST_REQUEST_LINE_BYTES w ↦ rw (w.self-inside-is, ← c.self.view_is) (record {
        line_is = dropped_on buffer line text before count before_is count_is w.if-self-le-MOST_REQUEST_LINE_BYTES.false;
        length_is = length_is;
      })
    ]
