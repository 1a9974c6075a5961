-- What is gathered of the field lines, line by line.
use Rattle.std.proofs.Common.{◌≡◌, ℕ, ◌+◌, ◌<◌, ◌≤◌, true, false, List, [], ◌∷◌, ◌++◌, length, refl, sym, ap, ◌∙◌, arith, append_assoc}
use Rattle.std.proofs.lemmas.Bool.{cond-true}
use Rattle.std.proofs.lemmas.List.{length_push}
use Rattle.std.proofs.lemmas.List.Sums.{take_while-cons}
use Rattle.std.specs.List.{take_while}
use Rattle.http_heads.specs.declared.fields.Fields.{Fields}
use Rattle.http_heads.specs.declared.fields.Length.TheVariants.{Absent}
use Rattle.http_heads.specs.Lines.{after_request_line, field_lines, has_byte, lines_of}
use Rattle.http_heads.specs.Fields.{values_in}
use Rattle.http_heads.specs.Gathered.{Describes}

-- these fields are what the field lines before the rest say
pub record Gathers (bytes : List ℕ) (fields : Fields) (rest : List ℕ) : Type 0 where
  pub seen : List (List ℕ)
  pub describes : Describes seen fields
  pub split : field_lines bytes ≡ seen ++ take_while has_byte (lines_of rest)
  pub room : fields.count + length rest ≤ length bytes

-- before the first line nothing is said
pub gathers_first : (bytes rest : List ℕ) → lines_of rest ≡ after_request_line (lines_of bytes) → length rest ≤ length bytes
    → Gathers bytes (record { count = 0; length = Absent; is_encoded = false; closes = false }) rest
unfolding values_in field_lines
gathers_first bytes rest lines shorter = record {
  seen = [];
  describes = record { count = refl; stated = refl; is_encoded = refl; closes = refl };
  split = ap (λ t. take_while has_byte t) (sym lines);
  room = omega arith;
}

-- one line more
pub gathers_more : (bytes : List ℕ) (old new : Fields) (rest line after : List ℕ) → Gathers bytes old rest
    → lines_of rest ≡ line ∷ lines_of after → has_byte line ≡ true → length after < length rest
    → ((lines : List (List ℕ)) → Describes lines old → Describes (lines ++ line ∷ []) new) → Gathers bytes new after
gathers_more bytes old new rest line after gathers lines some shorter adds =
    let describes = adds gathers.seen gathers.describes in
    let first : take_while has_byte (lines_of rest) ≡ line ∷ take_while has_byte (lines_of after) =
    ap (λ t. take_while has_byte t) lines ∙ take_while-cons has_byte line (lines_of after)
    ∙ cond-true (has_byte line) (line ∷ take_while has_byte (lines_of after)) [] some in
    record {
      seen = gathers.seen ++ line ∷ [];
      describes = describes;
      split =
          gathers.split ∙ ap (λ t. gathers.seen ++ t) first
          ∙ sym (append_assoc gathers.seen (line ∷ []) (take_while has_byte (lines_of after)));
      room = omega (arith, gathers.room, gathers.describes.count, describes.count, length_push gathers.seen line);
    }
