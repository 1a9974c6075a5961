-- What was taken of a source, cut into lines.
use Rattle.std.proofs.Common.{◌≡◌, inl, inr, ℕ, ◌+◌, ◌≤◌, All, List, [], ◌∷◌, ◌++◌, length, Option, refl, sym, ap, ◌∙◌, append_assoc, arith, length-append}
use Rattle.std.proofs.lemmas.List.Elements.{All-append, All-cons, All-nil}
use Rattle.farm_base.proofs.Known.{takes_none}
use Rattle.farm_base.specs.Known.{Stream, Takes}
use Rattle.farm_base.proofs.Additions.{takings_add_up}
use Rattle.batch_lines.specs.declared.limits.TheConstants.{LINE_FEED, MOST_BYTES}
use Rattle.batch_lines.specs.Lines.{BeginsWith, IsOneLine, ended}
use Rattle.batch_lines.specs.Reader.{ReaderState, ReadsLast, ReadsLine}
use Rattle.farm_batch.specs.Batches.{TakesLines}
use Rattle.farm_batch.proofs.MoreSteps.{ended-more}

-- what was taken is these lines, each with its line feed, and what a reader has in hand
pub record IsRead (from to : Option Stream) (lines : List (List ℕ)) (reading : ReaderState) : Type 0 where
  pub taken : List ℕ
  pub moved : Takes from to taken
  pub begins : BeginsWith taken lines reading.in_hand
  pub passed : reading.passed ≡ length (ended lines)
  pub within : reading.passed ≤ MOST_BYTES

-- what was taken is these lines and what is in hand, within the limit
pub record IsTaken (from to : Option Stream) (lines : List (List ℕ)) (in_hand : List ℕ) : Type 0 where
  pub taken : List ℕ
  pub moved : Takes from to taken
  pub takes : TakesLines taken in_hand to lines
  pub short : length taken ≤ MOST_BYTES + length in_hand

-- nothing was read at the start
pub read_none : (from : Option Stream) (reading : ReaderState) → reading.in_hand ≡ [] → reading.passed ≡ 0 → IsRead from from [] reading
read_none from reading in_hand passed =
    record {
      taken = [];
      moved = takes_none from;
      begins = record { split = sym in_hand; one_line = All-nil IsOneLine };
      passed = passed;
      within = omega (arith, passed);
    }

-- lines that are one line each, and one more
one_line_more : (lines : List (List ℕ)) (line : List ℕ) → All IsOneLine lines → IsOneLine line → All IsOneLine (lines ++ line ∷ [])
one_line_more lines line each is = All-append IsOneLine lines (line ∷ []) each (All-cons IsOneLine line [] is (All-nil IsOneLine))

-- what begins with lines and a part of one more begins with them and that one, if the rest of it follows
begins_more : (text more : List ℕ) (lines : List (List ℕ)) (rest line after : List ℕ) → BeginsWith text lines rest → IsOneLine line →
    rest ++ more ≡ line ++ LINE_FEED ∷ after → BeginsWith (text ++ more) (lines ++ line ∷ []) after
begins_more text more lines rest line after begins is follows =
    record {
      split = ap (λ text. text ++ more) begins.split ∙ append_assoc (ended lines) rest more ∙ ap (λ text. ended lines ++ text) follows
          ∙ ap (λ text. ended lines ++ text) (sym (append_assoc line (LINE_FEED ∷ []) after))
          ∙ sym (append_assoc (ended lines) (line ++ LINE_FEED ∷ []) after) ∙ ap (λ text. text ++ after) (sym (ended-more lines line));
      one_line = one_line_more lines line begins.one_line is;
    }

-- one more line is as long as the line and its line feed
length-ended-more : (lines : List (List ℕ)) (line : List ℕ) → length (ended (lines ++ line ∷ [])) ≡ length (ended lines) + length line + 1
length-ended-more lines line =
    let more = ap length (ended-more lines line) in
    omega (arith, more, length-append (ended lines) (line ++ LINE_FEED ∷ []), length-append line (LINE_FEED ∷ []))

-- a line was read, and its line feed
pub read_line : {from middle to : Option Stream} {lines : List (List ℕ)} {old new : ReaderState} → IsRead from middle lines old →
    (reads : ReadsLine old new middle to) → IsRead from to (lines ++ reads.line ∷ []) new
read_line {from} {middle} {to} {lines} {old} {new} read reads =
    record {
      taken = read.taken ++ reads.taken;
      moved = takings_add_up from middle to read.taken reads.taken read.moved reads.moved;
      begins = begins_more read.taken reads.taken lines old.in_hand reads.line new.in_hand read.begins reads.one_line reads.split;
      passed = omega (arith, read.passed, reads.passed, length-ended-more lines reads.line);
      within = reads.within;
    }

-- what was taken is as long as the lines and what is in hand
length-begins : (text : List ℕ) (lines : List (List ℕ)) (rest : List ℕ) → BeginsWith text lines rest → length text ≡ length (ended lines) + length rest
length-begins text lines rest begins = ap length begins.split ∙ length-append (ended lines) rest

-- what was read is taken
pub taken_read : {from to : Option Stream} {lines : List (List ℕ)} {reading : ReaderState} → IsRead from to lines reading →
    IsTaken from to lines reading.in_hand
taken_read {from} {to} {lines} {reading} read =
    record {
      taken = read.taken;
      moved = read.moved;
      takes = inl read.begins;
      short = omega (arith, read.within, read.passed, length-begins read.taken lines reading.in_hand read.begins);
    }

-- what is taken after that is in hand
pub taken_on : {from middle to : Option Stream} {lines : List (List ℕ)} {reading : ReaderState} (more : List ℕ) → IsRead from middle lines reading →
    Takes middle to more → IsTaken from to lines (reading.in_hand ++ more)
taken_on {from} {middle} {to} {lines} {reading} more read then =
    let begins : BeginsWith (read.taken ++ more) lines (reading.in_hand ++ more) = record {
      split = ap (λ text. text ++ more) read.begins.split ∙ append_assoc (ended lines) reading.in_hand more;
      one_line = read.begins.one_line;
    } in
    record {
      taken = read.taken ++ more;
      moved = takings_add_up from middle to read.taken more read.moved then;
      takes = inl begins;
      short = omega (arith, read.within, read.passed, length-begins (read.taken ++ more) lines (reading.in_hand ++ more) begins);
    }

-- a line was read that has no line feed after it
pub taken_last : {from middle to : Option Stream} {lines : List (List ℕ)} {old new : ReaderState} → IsRead from middle lines old →
    (reads : ReadsLast old new middle to) → IsTaken from to (lines ++ reads.line ∷ []) []
taken_last {from} {middle} {to} {lines} {old} {new} read reads =
    let begins : BeginsWith (read.taken ++ reads.taken) lines reads.line = record {
      split = ap (λ text. text ++ reads.taken) read.begins.split ∙ append_assoc (ended lines) old.in_hand reads.taken
          ∙ ap (λ text. ended lines ++ text) reads.split;
      one_line = read.begins.one_line;
    } in
    record {
      taken = read.taken ++ reads.taken;
      moved = takings_add_up from middle to read.taken reads.taken read.moved reads.moved;
      takes = inr (
        refl,
        reads.at_end,
        record {
          front = lines;
          last = reads.line;
          lines_are = refl;
          begins = begins;
          one_line = reads.one_line;
          some = reads.some;
        },
      );
      short = omega (arith, reads.within, reads.passed, read.passed, length-begins (read.taken ++ reads.taken) lines reads.line begins);
    }
