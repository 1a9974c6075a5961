-- A line that is in hand whole.
use Rattle.std.proofs.Common.{◌≡◌, ◌≢◌, ℕ, ◌<◌, List, ◌∷◌, ◌++◌, length, get_or, refl, sym, ap, ◌∙◌, arith, None, Some, length-append}
use Rattle.std.proofs.lemmas.Bool.{eq-eqb}
use Rattle.std.proofs.lemmas.List.{get_or_append_left}
use Rattle.std.proofs.Math.Seq.{get_or-append_seam}
use Rattle.memchr.specs.Find.{IsFirstByte, is_byte}
use Rattle.batch_lines.specs.declared.limits.TheConstants.{LINE_FEED}
use Rattle.batch_lines.specs.declared.reader.Moved.{Moved}
use Rattle.batch_lines.specs.declared.reader.Moved.TheVariants as moves
use Rattle.batch_lines.specs.Lines.{IsOneLine}
use Rattle.batch_lines.specs.Reader.{HoldsLine, Moves, ReaderState}

-- the byte after a line is its line feed
feed_after : (text line rest : List ℕ) → text ≡ line ++ LINE_FEED ∷ rest → get_or text (length line) 0 ≡ LINE_FEED
feed_after text line rest split = ap (λ t. get_or t (length line) 0) split ∙ get_or-append_seam line LINE_FEED rest 0

-- a line and its line feed are within the text
within_text : (text line rest : List ℕ) → text ≡ line ++ LINE_FEED ∷ rest → length line < length text
within_text text line rest split = omega (arith, ap length split, length-append line (LINE_FEED ∷ rest))

-- no byte of a line is a line feed
none_before : (text line rest : List ℕ) → text ≡ line ++ rest → IsOneLine line → (k : ℕ) → k < length line → get_or text k 0 ≢ LINE_FEED
none_before text line rest split one_line k below = λ is.
    one_line k 0 below (sym (get_or_append_left line rest 0 k below) ∙ ap (λ t. get_or t k 0) (sym split) ∙ is)

-- the first line feed is the one after the line
pub first_after : (text line rest : List ℕ) (count : ℕ) → IsFirstByte (is_byte LINE_FEED) text (Some count) → text ≡ line ++ LINE_FEED ∷ rest →
    IsOneLine line → get_or text count 0 ≡ LINE_FEED → count ≡ length line
first_after text line rest count first split one_line is =
    let not_before : ¬ (count < length line) = λ below. none_before text line (LINE_FEED ∷ rest) split one_line count below is in
    let not_after : ¬ (length line < count) = λ below.
    first.0.before (length line) (omega arith) below (eq-eqb (get_or text (length line) 0) LINE_FEED (feed_after text line rest split)) in
    omega (arith, not_before, not_after)

-- a text with a line and its line feed has a line feed
pub some_feed : (text line rest : List ℕ) → text ≡ line ++ LINE_FEED ∷ rest → ¬ (IsFirstByte (is_byte LINE_FEED) text None)
some_feed text line rest split nowhere =
    nowhere (length line) (omega arith) (within_text text line rest split)
    (eq-eqb (get_or text (length line) 0) LINE_FEED (feed_after text line rest split))

-- a text with a line feed isn't one line
not_one_line : (text line rest : List ℕ) → text ≡ line ++ LINE_FEED ∷ rest → ¬ (IsOneLine text)
not_one_line text line rest split one_line =
    one_line (length line) 0 (within_text text line rest split) (feed_after text line rest split)

-- a cut into what is in hand ends a line that is there whole
pub held_ends : (old start new : ReaderState) (moved : Moved) → start.in_hand ≡ old.in_hand → start.passed ≡ old.passed →
    Moves start new moved → HoldsLine old → moved ≡ moves.Ended
held_ends old start new moves.Ended in_hand passed cut holds = refl
held_ends old start new moves.All in_hand passed cut holds =
    absurd (not_one_line start.in_hand holds.line holds.rest (in_hand ∙ holds.split) cut.one_line)
held_ends old start new moves.Long in_hand passed cut holds =
    let before : length holds.line < length cut.too_many.front = omega (arith, passed, holds.within, cut.too_many.all) in
    absurd (none_before start.in_hand cut.too_many.front (cut.too_many.byte ∷ cut.too_many.back) cut.too_many.split cut.too_many.one_line (length holds.line) before
    (feed_after start.in_hand holds.line holds.rest (in_hand ∙ holds.split)))
