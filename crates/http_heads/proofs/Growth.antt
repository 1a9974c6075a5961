-- The field lines of bytes to which more are added: those in hand stay, and others may follow.
use Rattle.std.proofs.Common.{◌≡◌, ℕ, zero, suc, ◌+◌, ◌<◌, ◌≤◌, false, List, [], ◌∷◌, ◌++◌, length, get_or, refl, sym, ap, ◌∙◌, arith, append_assoc, inl, inr}
use Rattle.std.proofs.lemmas.Bool.{cases_lt, eqb-true}
use Rattle.std.proofs.lemmas.List.{get_or-take, length-drop, length-take}
use Rattle.std.proofs.lemmas.List.Sums.{fails_before_first, passes_at_first, split_at_first, take_while-cons}
use Rattle.std.specs.List.{All, after_first, before_first, position_or_len, take_while}
use Rattle.std.specs.Str.Lines.{strip_carriage_return}
use Rattle.http_heads.specs.Lines.{after_request_line, field_lines, has_byte, lines_of}
use Rattle.http_heads.proofs.Cuts.{after_empty, feedless, is_feed, lines_first, lines_none}

-- the second list has the first at its front
pub record Grows (front whole : List (List ℕ)) : Type 0 where
  pub more : List (List ℕ)
  pub is : whole ≡ front ++ more

none_grows : (front whole : List (List ℕ)) → front ≡ [] → Grows front whole
none_grows front whole empty = record { more = whole; is = ap (λ lines. lines ++ whole) (sym empty) }

first_grows : (line : List ℕ) (front whole : List (List ℕ)) → Grows front whole → Grows (line ∷ front) (line ∷ whole)
first_grows line front whole grows = record { more = grows.more; is = ap (λ lines. line ∷ lines) grows.is }

same_grows : (front whole old new : List (List ℕ)) → old ≡ front → new ≡ whole → Grows front whole → Grows old new
same_grows front whole old new front_is whole_is grows =
    record { more = grows.more; is = whole_is ∙ grows.is ∙ ap (λ lines. lines ++ grows.more) (sym front_is) }

-- the text before the first line feed has none
before_feed : (bytes : List ℕ) → position_or_len is_feed bytes < length bytes
    → All (λ byte. is_feed byte ≡ false) (before_first is_feed bytes)
before_feed bytes within = λ k d below.
    let n = position_or_len is_feed bytes in
    let inside : k < n = omega (arith, length-take n bytes) in
    ap is_feed (get_or-take n bytes k d inside) ∙ fails_before_first is_feed bytes k d inside

-- more bytes end more lines
lines_grow : (n : ℕ) (bytes more : List ℕ) → length bytes ≤ n → Grows (lines_of bytes) (lines_of (bytes ++ more))
lines_grow zero bytes more few =
    none_grows _ _ (lines_none bytes (λ k d within. absurd (omega arith)))
lines_grow (suc n) bytes more few =
    elim (cases_lt (position_or_len is_feed bytes) (length bytes)) [
      | inl within ↦
          let line = before_first is_feed bytes in
          let rest = after_first is_feed bytes in
          let feed : get_or bytes (position_or_len is_feed bytes) 0 ≡ 10 = eqb-true _ 10 (passes_at_first is_feed bytes 0 within) in
          let split : bytes ≡ line ++ 10 ∷ rest =
          split_at_first is_feed bytes 0 within ∙ ap (λ (byte : ℕ). line ++ byte ∷ rest) feed in
          let none = before_feed bytes within in
          let short : length rest ≤ n = omega (arith, length-drop (position_or_len is_feed bytes + 1) bytes) in
          same_grows _ _ _ _
          (ap lines_of split ∙ lines_first line rest none)
          (ap lines_of (ap (λ t. t ++ more) split ∙ append_assoc line (10 ∷ rest) more) ∙ lines_first line (rest ++ more) none)
          (first_grows (strip_carriage_return line) _ _ (lines_grow n rest more short))
      | inr past ↦ none_grows _ _ (lines_none bytes (feedless bytes past))
    ]

-- lines after the request line stay after it
after_grow : (front more : List (List ℕ)) → Grows (after_request_line front) (after_request_line (front ++ more))
after_grow [] more = none_grows _ _ refl
after_grow ([] ∷ front) more = same_grows _ _ _ _ (after_empty front) (after_empty (front ++ more)) (after_grow front more)
after_grow ((byte ∷ line) ∷ front) more = record { more = more; is = refl }

-- lines up to the first empty one stay before it
up_to_grow : (front more : List (List ℕ)) → Grows (take_while has_byte front) (take_while has_byte (front ++ more))
up_to_grow [] more = none_grows _ _ refl
up_to_grow ([] ∷ front) more = none_grows _ _ refl
up_to_grow ((byte ∷ line) ∷ front) more =
    same_grows _ _ _ _ (take_while-cons has_byte (byte ∷ line) front) (take_while-cons has_byte (byte ∷ line) (front ++ more))
    (first_grows (byte ∷ line) _ _ (up_to_grow front more))

-- more bytes bring more field lines
pub fields_grow : (bytes more : List ℕ) → Grows (field_lines bytes) (field_lines (bytes ++ more))
unfolding field_lines
fields_grow bytes more =
    let lines = lines_grow (length bytes) bytes more (omega arith) in
    let after = after_grow (lines_of bytes) lines.more in
    let fields = up_to_grow (after_request_line (lines_of bytes)) after.more in
    same_grows _ _ _ _ refl
    (ap (λ t. take_while has_byte (after_request_line t)) lines.is ∙ ap (λ t. take_while has_byte t) after.is)
    fields
