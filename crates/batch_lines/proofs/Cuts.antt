-- The first line feed of a text, and what stands before it.
use Rattle.std.proofs.Common.{◌≡◌, ℕ, ◌+◌, ◌≤◌, ◌<◌, List, ◌∷◌, ◌++◌, length, take, drop, get_or, sym, ap, ◌∙◌, arith, None, Some}
use Rattle.std.proofs.lemmas.Bool.{eq-eqb, eqb-true}
use Rattle.std.proofs.lemmas.List.{drop_more, length-take-le, get_or-take, get_or_default, take-append-drop}
use Rattle.memchr.specs.Find.{IsFirstByte, Nowhere, Passes, is_byte}
use Rattle.batch_lines.specs.declared.limits.TheConstants.{LINE_FEED, MOST_BYTES}
use Rattle.batch_lines.specs.Lines.{HasByteTooMany, IsOneLine}

-- a front in which no line feed stands is one line
front_one_line : (text : List ℕ) (count : ℕ) → count ≤ length text →
    Nowhere (Passes (is_byte LINE_FEED) text) 0 count → IsOneLine (take count text)
front_one_line text count within nowhere = λ k d inside is.
    let below : k < count = omega (arith, length-take-le count text within) in
    let same : get_or text k 0 ≡ LINE_FEED =
    get_or_default text k 0 d (omega arith) ∙ sym (get_or-take count text k d below) ∙ is in
    nowhere k (omega arith) below (eq-eqb (get_or text k 0) LINE_FEED same)

-- a text is its front up to a byte, that byte, and what stands after it
split_at : (text : List ℕ) (count : ℕ) → count < length text →
    text ≡ take count text ++ get_or text count 0 ∷ drop (count + 1) text
split_at text count within =
    sym (take-append-drop count text) ∙ ap (λ t. take count text ++ t) (drop_more text count 0 within)

-- what stands before the first line feed is one line
pub line_before : (text : List ℕ) (count : ℕ) → IsFirstByte (is_byte LINE_FEED) text (Some count) → IsOneLine (take count text)
line_before text count first =
    let within = first.0.high in
    front_one_line text count (omega arith) first.0.before

-- a text is the line before its first line feed, the line feed, and what stands after it
pub line_feed_splits : (text : List ℕ) (count : ℕ) → IsFirstByte (is_byte LINE_FEED) text (Some count) →
    text ≡ take count text ++ LINE_FEED ∷ drop (count + 1) text
line_feed_splits text count first =
    let feed : get_or text count 0 ≡ LINE_FEED = eqb-true (get_or text count 0) LINE_FEED first.1 in
    split_at text count first.0.high ∙ ap (λ byte. take count text ++ byte ∷ drop (count + 1) text) feed

-- a text with no line feed is one line
pub line_without : (text : List ℕ) → IsFirstByte (is_byte LINE_FEED) text None → IsOneLine text
line_without text nowhere = λ k d inside is.
    nowhere k (omega arith) inside (eq-eqb (get_or text k 0) LINE_FEED (get_or_default text k 0 d inside ∙ is))

-- a byte is one too many where no line feed stands in the room before it
pub byte_too_many : (text : List ℕ) (passed room : ℕ) → passed + room ≡ MOST_BYTES → room < length text →
    Nowhere (Passes (is_byte LINE_FEED) text) 0 room → HasByteTooMany passed text
byte_too_many text passed room room_is within nowhere = record {
  front = take room text;
  byte = get_or text room 0;
  back = drop (room + 1) text;
  split = split_at text room within;
  one_line = front_one_line text room (omega arith) nowhere;
  all = omega (arith, length-take-le room text (omega arith));
}
