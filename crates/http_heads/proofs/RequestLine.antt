-- The field lines stand after the request line, up to the first empty line.
use Rattle.std.proofs.Common.{◌≡◌, ◌≢◌, ◌⊎◌, ℕ, List, [], ◌∷◌, ◌++◌, refl, sym, ap, subst, ◌∙◌, inl, inr}
use Rattle.std.proofs.lemmas.List.Elements.{All-cons, All-nil}
use Rattle.std.proofs.lemmas.List.Sums.{take_while-cons}
use Rattle.std.specs.List.{All, take_while}
use Rattle.http_heads.specs.Lines.{after_request_line, field_lines, has_byte, lines_of}
use Rattle.http_heads.specs.Laws.{AreFieldLines, FollowRequestLine}
use Rattle.http_heads.proofs.Cuts.{after_empty}

-- lines are those before the first empty one, and a rest that begins with it or is empty
record IsCut (lines front : List (List ℕ)) : Type 0 where
  rest : List (List ℕ)
  split : lines ≡ front ++ rest
  none_empty : All (λ line. line ≢ []) front
  up_to : (rest ≡ []) ⊎ ((more : List (List ℕ)) × (rest ≡ [] ∷ more))

cut : (lines : List (List ℕ)) → IsCut lines (take_while has_byte lines)
cut [] = record { rest = []; split = refl; none_empty = All-nil (λ line. line ≢ []); up_to = inl refl }
cut ([] ∷ lines) = record {
  rest = [] ∷ lines;
  split = refl;
  none_empty = All-nil (λ line. line ≢ []);
  up_to = inr (lines, refl);
}
cut ((byte ∷ line) ∷ lines) =
    let later = cut lines in
    let front = take_while-cons has_byte (byte ∷ line) lines in
    subst (IsCut ((byte ∷ line) ∷ lines)) (sym front)
    (record {
      rest = later.rest;
      split = ap (λ t. (byte ∷ line) ∷ t) later.split;
      none_empty = All-cons (λ l. l ≢ []) (byte ∷ line) (take_while has_byte lines) (λ e. cc) later.none_empty;
      up_to = later.up_to;
    })

-- an empty line more before the request line
one_blank : (lines fields : List (List ℕ)) → AreFieldLines lines fields → AreFieldLines ([] ∷ lines) fields
one_blank lines fields (inl follow) = inl (record {
  blank = [] ∷ follow.blank;
  request = follow.request;
  rest = follow.rest;
  split = ap (λ t. [] ∷ t) follow.split;
  empty_before = All-cons (λ line. line ≡ []) [] follow.blank refl follow.empty_before;
  request_line = follow.request_line;
  none_empty = follow.none_empty;
  up_to = follow.up_to;
})
one_blank lines fields (inr none) = inr (All-cons (λ line. line ≡ []) [] lines refl none.0, none.1)

among : (lines : List (List ℕ)) → AreFieldLines lines (take_while has_byte (after_request_line lines))
among [] = inr (All-nil (λ line. line ≡ []), refl)
among ([] ∷ lines) =
    subst (λ (fields : List (List ℕ)). AreFieldLines ([] ∷ lines) fields)
    (sym (ap (λ t. take_while has_byte t) (after_empty lines)))
    (one_blank lines (take_while has_byte (after_request_line lines)) (among lines))
among ((byte ∷ line) ∷ lines) =
    let later = cut lines in
    inl (record {
      blank = [];
      request = byte ∷ line;
      rest = later.rest;
      split = ap (λ t. (byte ∷ line) ∷ t) later.split;
      empty_before = All-nil (λ line. line ≡ []);
      request_line = λ e. cc;
      none_empty = later.none_empty;
      up_to = later.up_to;
    })

-- the field lines in hand are those of the definition in words
pub are_field_lines : (bytes : List ℕ) → AreFieldLines (lines_of bytes) (field_lines bytes)
unfolding field_lines
are_field_lines bytes = among (lines_of bytes)
