-- The lines of bytes, cut off one after another.
use Rattle.std.proofs.Common.{◌≡◌, ℕ, suc, ◌+◌, ◌-◌, ◌<◌, ◌≤◌, ◌==◌, Bool, true, false, nat_lt, cond, Some, None, List, [], ◌∷◌, ◌++◌, length, get_or, take, drop, map, refl, sym, ap, subst, ◌∙◌, arith, append_assoc}
use Rattle.std.proofs.lemmas.Bool.{cond-false, eqb-true, ltb-false, ltb-true, or_parts}
use Rattle.std.proofs.lemmas.List.{length_push, get_or_push, take_at, length-drop, take_all}
use Rattle.std.proofs.lemmas.List.Elements.{All-push, All-weaker}
use Rattle.std.proofs.lemmas.List.Splits.{length-slice_split, slice_split_at, slice_split_first, slice_split_none}
use Rattle.std.proofs.lemmas.List.Sums.{fails_before_first}
use Rattle.std.specs.List.{All, position, position_or_len}
use Rattle.std.specs.Str.Lines.{strip_carriage_return}
use Rattle.farm_base.specs.Bytes.{parts_at}
use Rattle.httparse.specs.Grammar.{LineEnd, crlf, lf, print_end}
use Rattle.httparse.specs.Pieces.{is_newline}
use Rattle.http_heads.specs.Lines.{but_last, has_byte, after_request_line, lines_of}

-- a byte is a line feed
abbrev pub is_feed : ℕ → Bool
is_feed byte = byte == 10

-- no byte of a text is a carriage return or a line feed
abbrev pub IsPlain : List ℕ → Type 0
IsPlain text = All (λ byte. is_newline byte ≡ false) text

-- the first of two parts or more isn't the last
but_last_first : (part : List ℕ) (parts : List (List ℕ)) → 0 < length parts → but_last (part ∷ parts) ≡ part ∷ but_last parts
but_last_first part [] some = absurd (omega arith)
but_last_first part (next ∷ parts) some =
    let count : length (part ∷ next ∷ parts) - 1 ≡ suc (length (next ∷ parts) - 1) = omega arith in
    ap (λ (n : ℕ). take n (part ∷ next ∷ parts)) count

-- a line that is ended comes first
pub lines_first : (line rest : List ℕ) → All (λ byte. is_feed byte ≡ false) line
    → lines_of (line ++ 10 ∷ rest) ≡ strip_carriage_return line ∷ lines_of rest
unfolding lines_of
lines_first line rest none =
    let cut = slice_split_at is_feed line 10 rest none refl in
    let some : 0 < length (parts_at 10 rest) = omega (arith, length-slice_split is_feed rest) in
    ap (λ parts. map strip_carriage_return (but_last parts)) cut
    ∙ ap (λ parts. map strip_carriage_return parts) (but_last_first line (parts_at 10 rest) some)

-- without a line feed no line is ended
pub lines_none : (bytes : List ℕ) → All (λ byte. is_feed byte ≡ false) bytes → lines_of bytes ≡ []
unfolding lines_of
lines_none bytes none = ap (λ parts. map strip_carriage_return (but_last parts)) (slice_split_none is_feed bytes none)

-- a place that is taken as one below a bound is below it
found_within : (n m : ℕ) (b : Bool) (end : ℕ) → nat_lt n m ≡ b → cond b (Some n) None ≡ Some end → (n ≡ end) × (n < m)
found_within n m true end test found = let same : n ≡ end = cc in (same, ltb-true n m test)
found_within n m false end test found = cc

-- a place that isn't taken as one below a bound is at it or beyond
found_nowhere : (n m : ℕ) (b : Bool) → nat_lt n m ≡ b → cond b (Some n) None ≡ None → m ≤ n
found_nowhere n m true test none = cc
found_nowhere n m false test none = ltb-false n m test

-- what stands before the first line feed is a line
lines_at_first : (bytes : List ℕ) → position_or_len is_feed bytes < length bytes
    → lines_of bytes ≡ strip_carriage_return (take (position_or_len is_feed bytes) bytes) ∷ lines_of (drop (position_or_len is_feed bytes + 1) bytes)
unfolding lines_of
lines_at_first bytes within =
    let n = position_or_len is_feed bytes in
    let rest = drop (n + 1) bytes in
    let some : 0 < length (parts_at 10 rest) = omega (arith, length-slice_split is_feed rest) in
    ap (λ parts. map strip_carriage_return (but_last parts)) (slice_split_first is_feed bytes 0 within)
    ∙ ap (λ parts. map strip_carriage_return parts) (but_last_first (take n bytes) (parts_at 10 rest) some)

-- the same, where the first line feed was found
pub cut_some : (bytes : List ℕ) (end : ℕ) → position is_feed bytes ≡ Some end
    → (end < length bytes) × (lines_of bytes ≡ strip_carriage_return (take end bytes) ∷ lines_of (drop (end + 1) bytes))
cut_some bytes end found =
    let first = position_or_len is_feed bytes in
    let within = found_within first (length bytes) (nat_lt first (length bytes)) end refl found in
    let P : ℕ → Type 0 =
    λ n. (n < length bytes) × (lines_of bytes ≡ strip_carriage_return (take n bytes) ∷ lines_of (drop (n + 1) bytes)) in
    subst P within.0 (within.1, lines_at_first bytes within.1)

-- the bytes before the first line feed have none
pub feedless : (bytes : List ℕ) → length bytes ≤ position_or_len is_feed bytes → All (λ byte. is_feed byte ≡ false) bytes
feedless bytes past = λ k d within. fails_before_first is_feed bytes k d (omega arith)

-- no line, where no line feed was found
pub cut_none : (bytes : List ℕ) → position is_feed bytes ≡ None → lines_of bytes ≡ []
cut_none bytes none =
    let first = position_or_len is_feed bytes in
    lines_none bytes (feedless bytes (found_nowhere first (length bytes) (nat_lt first (length bytes)) refl none))

-- what stands after n bytes, as a range gives it
pub whole_rest : (n : ℕ) (bytes : List ℕ) → take (length bytes - n) (drop n bytes) ≡ drop n bytes
whole_rest n bytes = take_all (length bytes - n) (drop n bytes) (omega (arith, length-drop n bytes))

-- a carriage return at the end isn't part of a line
strip_return : (line : List ℕ) → strip_carriage_return (line ++ 13 ∷ []) ≡ line
strip_return line =
    let last : length (line ++ 13 ∷ []) - 1 ≡ length line = omega (arith, length_push line 13) in
    let byte : get_or (line ++ 13 ∷ []) (length line) 0 ≡ 13 = get_or_push line 13 0 (length line) refl in
    rw (last, byte) (take_at line (13 ∷ []) (length line) refl)

-- a line without a carriage return is whole
strip_none : (line : List ℕ) → All (λ byte. (byte == 13) ≡ false) line → strip_carriage_return line ≡ line
strip_none [] none = refl
strip_none (byte ∷ line) none = cond-false _ _ _ (none (length (byte ∷ line) - 1) 0 (omega arith))

no_return : (text : List ℕ) → IsPlain text → All (λ byte. (byte == 13) ≡ false) text
no_return text plain =
    All-weaker (λ byte. is_newline byte ≡ false) (λ byte. (byte == 13) ≡ false) (λ byte other. (or_parts (byte == 13) (byte == 10) other).0) text plain

no_feed : (text : List ℕ) → IsPlain text → All (λ byte. is_feed byte ≡ false) text
no_feed text plain =
    All-weaker (λ byte. is_newline byte ≡ false) (λ byte. is_feed byte ≡ false) (λ byte other. (or_parts (byte == 13) (byte == 10) other).1) text plain

-- a plain text before the end of a line is the line
pub plain_line : (line : List ℕ) (end : LineEnd) (rest : List ℕ) → IsPlain line
    → lines_of (line ++ (print_end end ++ rest)) ≡ line ∷ lines_of rest
plain_line line lf rest plain =
    lines_first line rest (no_feed line plain) ∙ ap (λ l. l ∷ lines_of rest) (strip_none line (no_return line plain))
plain_line line crlf rest plain =
    let none = All-push (λ byte. is_feed byte ≡ false) line 13 (no_feed line plain) refl in
    ap lines_of (sym (append_assoc line (13 ∷ []) (10 ∷ rest)))
    ∙ lines_first (line ++ 13 ∷ []) rest none
    ∙ ap (λ l. l ∷ lines_of rest) (strip_return line)

-- an empty line before the request line is passed over
pub after_empty : (lines : List (List ℕ)) → after_request_line ([] ∷ lines) ≡ after_request_line lines
after_empty lines =
    let n = position_or_len has_byte lines in
    let count : 1 + n + 1 ≡ suc (n + 1) = omega arith in
    ap (λ (k : ℕ). drop k ([] ∷ lines)) count

-- a line that isn't empty is the request line
pub after_line : (line : List ℕ) (lines : List (List ℕ)) → has_byte line ≡ true → after_request_line (line ∷ lines) ≡ lines
after_line [] lines some = cc
after_line (byte ∷ line) lines some = refl

-- an empty line has no byte
pub no_byte : (line : List ℕ) → (length line == 0) ≡ true → line ≡ []
no_byte [] empty = refl
no_byte (byte ∷ line) empty = let none = eqb-true (length (byte ∷ line)) 0 empty in absurd (omega arith)

-- a line that isn't empty has one
pub some_byte : (line : List ℕ) → (length line == 0) ≡ false → has_byte line ≡ true
some_byte [] other = cc
some_byte (byte ∷ line) other = refl
