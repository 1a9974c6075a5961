-- The parts of a text between its line feeds are its lines.
use Rattle.std.proofs.Common.{◌≡◌, ◌≢◌, ◌⊎◌, inl, inr, ℕ, ◌+◌, ◌<◌, ◌≤◌, ◌==◌, Bool, true, false, All, List, [], ◌∷◌, ◌++◌, length, refl, ap, ◌∙◌, append_assoc, subst, arith}
use Rattle.std.proofs.lemmas.Bool.{cases_Bool, ne_eqb}
use Rattle.std.proofs.lemmas.List.Elements.{All-head, All-tail}
use Rattle.std.proofs.lemmas.List.Splits.{length-slice_split, slice_split-cons_no, slice_split-cons_yes, slice_split_at, slice_split_none}
use Rattle.std.specs.List.{onto_first}
use Rattle.farm_base.specs.Bytes.{parts_at}
use Rattle.batch_lines.specs.declared.limits.TheConstants.{LINE_FEED}
use Rattle.batch_lines.specs.Lines.{IsOneLine, ended}
use Rattle.farm_batch.specs.Outcomes.{is_no_line, size_of}

-- a byte is the line feed
abbrev is_line_feed : ℕ → Bool
is_line_feed byte = byte == LINE_FEED

-- no byte of a line is the line feed
none_ends : (line : List ℕ) → IsOneLine line → All (λ byte. is_line_feed byte ≡ false) line
none_ends line one = λ k d within. ne_eqb _ LINE_FEED (one k d within)

-- a line before a line feed is the first part
part_before : (line rest : List ℕ) → IsOneLine line → parts_at LINE_FEED (line ++ LINE_FEED ∷ rest) ≡ line ∷ parts_at LINE_FEED rest
part_before line rest one = slice_split_at is_line_feed line LINE_FEED rest (none_ends line one) refl

-- a line with no line feed after it is the one part
pub part_alone : (line : List ℕ) → IsOneLine line → parts_at LINE_FEED line ≡ line ∷ []
part_alone line one = slice_split_none is_line_feed line (none_ends line one)

-- lines that line feeds end are the first parts
pub parts_of_lines : (lines : List (List ℕ)) (rest : List ℕ) → All IsOneLine lines →
    parts_at LINE_FEED (ended lines ++ rest) ≡ lines ++ parts_at LINE_FEED rest
parts_of_lines [] rest one = refl
parts_of_lines (line ∷ lines) rest one =
    let first : ended (line ∷ lines) ++ rest ≡ line ++ LINE_FEED ∷ (ended lines ++ rest) =
    append_assoc (line ++ LINE_FEED ∷ []) (ended lines) rest ∙ append_assoc line (LINE_FEED ∷ []) (ended lines ++ rest) in
    ap (parts_at LINE_FEED) first ∙ part_before line (ended lines ++ rest) (All-head IsOneLine line lines one)
    ∙ ap (λ parts. line ∷ parts) (parts_of_lines lines rest (All-tail IsOneLine line lines one))

-- a list has a first item, and others
pub record HasFirst {A : Type 0} (items : List A) : Type 0 where
  pub first : A
  pub others : List A
  pub split : items ≡ first ∷ others

-- a list that isn't empty has a first item
first_of_some : {A : Type 0} (items : List A) → 0 < length items → HasFirst items
first_of_some [] some = absurd (omega arith)
first_of_some (item ∷ items) some = record { first = item; others = items; split = refl }

-- a text has a part
pub has_part : (text : List ℕ) → HasFirst (parts_at LINE_FEED text)
has_part text = first_of_some (parts_at LINE_FEED text) (omega (arith, length-slice_split is_line_feed text))

-- a text begins with a line that has this many bytes at least, its line feed counted
pub record BeginsLine (text : List ℕ) (size : ℕ) : Type 0 where
  pub part : List ℕ
  pub parts : List (List ℕ)
  pub split : parts_at LINE_FEED text ≡ part ∷ parts
  pub some : is_no_line part parts ≡ false
  pub long : size ≤ size_of part parts

-- a part before others counts its bytes and its line feed
pub size_before : (line : List ℕ) (parts : List (List ℕ)) → 0 < length parts → size_of line parts ≡ length line + 1
size_before line [] some = absurd (omega arith)
size_before line (part ∷ parts) some = refl

-- a part before others is a line, empty or not
pub some_before : (line : List ℕ) (parts : List (List ℕ)) → 0 < length parts → is_no_line line parts ≡ false
some_before [] [] some = absurd (omega arith)
some_before [] (part ∷ parts) some = refl
some_before (byte ∷ line) parts some = refl

-- a part counts at least its own bytes
size_at_least : (part : List ℕ) (parts : List (List ℕ)) → length part ≤ size_of part parts
size_at_least part [] = omega arith
size_at_least part (next ∷ parts) = omega arith

-- a part that isn't empty is a line
pub some_line : (part : List ℕ) (parts : List (List ℕ)) → part ≢ [] → is_no_line part parts ≡ false
some_line [] parts some = absurd (some refl)
some_line (byte ∷ part) parts some = refl

-- a byte and what follows it begin a line
from_byte : (byte : ℕ) (rest : List ℕ) → BeginsLine (byte ∷ rest) 1
from_byte byte rest = by (cases_Bool (is_line_feed byte))
  where
    next : HasFirst (parts_at LINE_FEED rest)
    next = has_part rest

    by : ((is_line_feed byte ≡ true) ⊎ (is_line_feed byte ≡ false)) → BeginsLine (byte ∷ rest) 1
    by (inl ends) = record {
      part = [];
      parts = next.first ∷ next.others;
      split = slice_split-cons_yes is_line_feed byte rest ends ∙ ap (λ parts. [] ∷ parts) next.split;
      some = refl;
      long = omega arith;
    }
    by (inr goes_on) = record {
      part = byte ∷ next.first;
      parts = next.others;
      split = slice_split-cons_no is_line_feed byte rest goes_on ∙ ap (onto_first byte) next.split;
      some = refl;
      long = omega (arith, size_at_least (byte ∷ next.first) next.others);
    }

-- a byte more, before a line
size_more : (byte : ℕ) (part : List ℕ) (parts : List (List ℕ)) → size_of (byte ∷ part) parts ≡ size_of part parts + 1
size_more byte part [] = omega arith
size_more byte part (next ∷ parts) = omega arith

-- bytes that are no line feeds, a byte more and what follows it begin a line that counts them
pub begins_line : (front : List ℕ) (byte : ℕ) (rest : List ℕ) → IsOneLine front → BeginsLine (front ++ byte ∷ rest) (length front + 1)
begins_line [] byte rest one = subst (BeginsLine (byte ∷ rest)) (omega arith) (from_byte byte rest)
begins_line (other ∷ front) byte rest one =
    let later = begins_line front byte rest (All-tail (λ byte. byte ≢ LINE_FEED) other front one) in
    let goes_on : is_line_feed other ≡ false = ne_eqb other LINE_FEED (All-head (λ byte. byte ≢ LINE_FEED) other front one) in
    record {
      part = other ∷ later.part;
      parts = later.parts;
      split = slice_split-cons_no is_line_feed other (front ++ byte ∷ rest) goes_on ∙ ap (onto_first other) later.split;
      some = refl;
      long = omega (arith, later.long, size_more other later.part later.parts);
    }
