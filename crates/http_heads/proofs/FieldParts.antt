-- The name and the value of a field line.
use Rattle.std.proofs.Common.{◌≡◌, ℕ, ◌+◌, ◌<◌, ◌≤◌, ◌==◌, true, false, Some, None, List, [], ◌∷◌, ◌++◌, length, take, drop, map, refl, sym, ap, subst, ◌∙◌, arith, length-append, nat_lt, cond, Bool}
use Rattle.std.proofs.lemmas.Bool.{false≢true, ltb-false, ltb-true, ne_eqb}
use Rattle.std.proofs.lemmas.List.{drop-drop, drop_all, drop_at, get_or_append_left, get_or_at, take_all, take_at}
use Rattle.std.proofs.lemmas.List.Elements.{All-head, All-tail, All-weaker}
use Rattle.std.proofs.lemmas.List.Sums.{position_or_len_is}
use Rattle.std.specs.List.{All, after_first, position, position_or_len}
use Rattle.httparse.specs.Grammar.{Field, IsField, is_token_byte, trim_ows}
use Rattle.httparse.specs.Spans.{name_and_value}
use Rattle.httparse.proofs.PieceLemmas.{colon_ends_token}
use Rattle.http_heads.specs.Fields.{field_name, value_of}
use Rattle.http_heads.specs.Laws.{LinesAreFields}
use Rattle.http_heads.proofs.HeadLines.{line_of, lines_of_head}

-- a byte is a colon
abbrev pub is_colon : ℕ → Bool
is_colon byte = byte == 58

-- a field line as its name and its value
abbrev pub parts_of_line : List ℕ → List ℕ × List ℕ
parts_of_line line = (field_name line, value_of line)

no_colon : (word : List ℕ) → All (λ byte. is_token_byte byte ≡ true) word → All (λ byte. is_colon byte ≡ false) word
no_colon word token =
    All-weaker (λ byte. is_token_byte byte ≡ true) (λ byte. is_colon byte ≡ false)
    (λ byte is. ne_eqb byte 58 (λ e. false≢true (sym colon_ends_token ∙ subst (λ (b : ℕ). is_token_byte b ≡ true) e is)))
    word token

-- the first colon stands after the name
colon_at : (name raw : List ℕ) → All (λ byte. is_colon byte ≡ false) name
    → position_or_len is_colon (name ++ 58 ∷ raw) ≡ length name
colon_at name raw none =
    position_or_len_is is_colon (name ++ 58 ∷ raw) (length name) 0
    (omega (arith, length-append name (58 ∷ raw)))
    (λ k below. ap is_colon (get_or_append_left name (58 ∷ raw) 0 k below) ∙ none k 0 below)
    (λ _. ap is_colon (get_or_at name 58 raw 0 (length name) refl))

line_name : (name raw : List ℕ) → All (λ byte. is_colon byte ≡ false) name → field_name (name ++ 58 ∷ raw) ≡ name
line_name name raw none =
    ap (λ (n : ℕ). take n (name ++ 58 ∷ raw)) (colon_at name raw none) ∙ take_at name (58 ∷ raw) (length name) refl

line_raw : (name raw : List ℕ) → All (λ byte. is_colon byte ≡ false) name → after_first is_colon (name ++ 58 ∷ raw) ≡ raw
line_raw name raw none =
    ap (λ (n : ℕ). drop (n + 1) (name ++ 58 ∷ raw)) (colon_at name raw none)
    ∙ sym (drop-drop 1 (length name) (name ++ 58 ∷ raw))
    ∙ ap (λ t. drop 1 t) (drop_at name (58 ∷ raw) (length name) refl)

-- the line of a field has the field's name and value
field_parts : (field : Field) → IsField field → parts_of_line (line_of field) ≡ name_and_value field
field_parts field is =
    let none = no_colon field.name is.name.1 in
    let name = line_name field.name field.raw none in
    let raw = line_raw field.name field.raw none in
    λ i. (name i, trim_ows (raw i))

fields_parts : (fields : List Field) → All IsField fields → map parts_of_line (map line_of fields) ≡ map name_and_value fields
fields_parts [] are = refl
fields_parts (field ∷ fields) are =
    let first = field_parts field (All-head IsField field fields are) in
    let others = fields_parts fields (All-tail IsField field fields are) in
    cc

-- the field lines of a whole head are its fields
pub lines_are_fields : (bytes : List ℕ) → LinesAreFields bytes
lines_are_fields bytes head rest reads =
    ap (λ lines. map parts_of_line lines) (lines_of_head bytes head rest reads) ∙ fields_parts head.fields reads.0.fields

-- ---- a line, cut at its first colon

found : (n m : ℕ) (b : Bool) (end : ℕ) → nat_lt n m ≡ b → cond b (Some n) None ≡ Some end → (n ≡ end) × (n < m)
found n m true end test is = let same : n ≡ end = cc in (same, ltb-true n m test)
found n m false end test is = cc

nowhere : (n m : ℕ) (b : Bool) → nat_lt n m ≡ b → cond b (Some n) None ≡ None → m ≤ n
nowhere n m true test none = cc
nowhere n m false test none = ltb-false n m test

-- where the first colon was found, it is that of the definitions
pub colon_some : (line : List ℕ) (end : ℕ) → position is_colon line ≡ Some end
    → (position_or_len is_colon line ≡ end) × (end < length line)
colon_some line end is =
    let first = position_or_len is_colon line in
    let within = found first (length line) (nat_lt first (length line)) end refl is in
    (within.0, subst (λ (n : ℕ). n < length line) within.0 within.1)

-- a line without a colon is a name without a value
pub colon_none : (line : List ℕ) → position is_colon line ≡ None → (field_name line ≡ line) × (value_of line ≡ [])
unfolding trim_ows
colon_none line none =
    let first = position_or_len is_colon line in
    let past = nowhere first (length line) (nat_lt first (length line)) refl none in
    (take_all first line past, ap (λ raw. trim_ows raw) (drop_all (first + 1) line (omega arith)))
