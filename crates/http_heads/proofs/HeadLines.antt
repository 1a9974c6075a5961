-- The field lines of a head are its fields.
use Rattle.std.proofs.Common.{◌≡◌, ℕ, ◌+◌, ◌<◌, true, false, not, List, [], ◌∷◌, ◌++◌, length, map, codes, refl, sym, ap, ◌∙◌, arith, append_assoc, append-nil, length-append}
use Rattle.std.proofs.lemmas.Bool.{cond-true, ne_eqb, not-true, or_from}
use Rattle.std.proofs.lemmas.Bool.Decides.{nat_tests}
use Rattle.std.proofs.lemmas.List.{length-map, same_from_push}
use Rattle.std.proofs.lemmas.List.Elements.{All-append, All-cons, All-head, All-nil, All-tail, All-weaker}
use Rattle.std.proofs.lemmas.List.Sums.{AllPass-from_list_all, take_while-cons}
use Rattle.std.specs.List.{All, flat_map, take_while}
use Rattle.httparse.specs.Grammar.{Field, IsField, IsRequestHead, LineEnd, ReadsRequest, RequestHead, crlf, is_token_byte, is_uri_byte, is_value_byte, lf, print_blank, print_end, print_field, print_request, print_version}
use Rattle.httparse.specs.Pieces.{is_newline}
use Rattle.httparse.specs.Spans.{RequestExceeds}
use Rattle.httparse.proofs.GrammarLemmas.{cons-append, print_request-append}
use Rattle.httparse.proofs.PieceLemmas.{token_is_no_newline}
use Rattle.http_heads.specs.Lines.{after_request_line, field_lines, has_byte, lines_of}
use Rattle.http_heads.proofs.Cuts.{IsPlain, after_empty, after_line, plain_line}

-- the line of a field: its name, a colon, and its value with the blanks around it
abbrev pub line_of : Field → List ℕ
line_of field = field.name ++ 58 ∷ field.raw

-- the request line of a head
abbrev pub request_line : RequestHead → List ℕ
request_line head = head.method ++ 32 ∷ (head.target ++ 32 ∷ print_version head.minor)

-- a head without its last line, and then a text
abbrev pub begun : RequestHead → List ℕ → List ℕ
begun head rest =
    print_blank head.blank ++ (request_line head ++ (print_end head.line_end ++ (flat_map print_field head.fields ++ rest)))

-- ---- the bytes of a line

uri_is_no_newline : (byte : ℕ) → is_uri_byte byte ≡ true → is_newline byte ≡ false
uri_is_no_newline byte uri = grind (arith, nat_tests)

value_is_no_newline : (byte : ℕ) → is_value_byte byte ≡ true → is_newline byte ≡ false
value_is_no_newline byte value = grind (arith, nat_tests)

token_plain : (word : List ℕ) → All (λ byte. is_token_byte byte ≡ true) word → IsPlain word
token_plain word token = All-weaker (λ byte. is_token_byte byte ≡ true) (λ byte. is_newline byte ≡ false) token_is_no_newline word token

digit_plain : (minor : ℕ) → is_newline (48 + minor) ≡ false
digit_plain minor = or_from _ _ (ne_eqb (48 + minor) 13 (λ e. omega arith)) (ne_eqb (48 + minor) 10 (λ e. omega arith))

version_plain : (minor : ℕ) → IsPlain (print_version minor)
version_plain minor =
    let P : ℕ → Type 0 = λ byte. is_newline byte ≡ false in
    let name : IsPlain (codes "HTTP/1.") =
    All-weaker (λ byte. not (is_newline byte) ≡ true) P (λ byte. not-true (is_newline byte)) (codes "HTTP/1.")
    (AllPass-from_list_all (λ byte. not (is_newline byte)) (codes "HTTP/1.") refl) in
    All-append P (codes "HTTP/1.") ((48 + minor) ∷ []) name (All-cons P (48 + minor) [] (digit_plain minor) (All-nil P))

request_line_plain : (head : RequestHead) → IsRequestHead head → IsPlain (request_line head)
request_line_plain head is =
    let P : ℕ → Type 0 = λ byte. is_newline byte ≡ false in
    let target : IsPlain head.target =
    All-weaker (λ byte. is_uri_byte byte ≡ true) P uri_is_no_newline head.target is.target.1 in
    All-append P head.method (32 ∷ (head.target ++ 32 ∷ print_version head.minor)) (token_plain head.method is.method.1)
    (All-cons P 32 (head.target ++ 32 ∷ print_version head.minor) refl
    (All-append P head.target (32 ∷ print_version head.minor) target
    (All-cons P 32 (print_version head.minor) refl (version_plain head.minor))))

field_plain : (field : Field) → IsField field → IsPlain (line_of field)
field_plain field is =
    let P : ℕ → Type 0 = λ byte. is_newline byte ≡ false in
    All-append P field.name (58 ∷ field.raw) (token_plain field.name is.name.1)
    (All-cons P 58 field.raw refl (All-weaker (λ byte. is_value_byte byte ≡ true) P value_is_no_newline field.raw is.raw))

-- a text with a byte before others has one
byte_before : (front back : List ℕ) → 0 < length front → has_byte (front ++ back) ≡ true
byte_before [] back some = absurd (omega arith)
byte_before (byte ∷ front) back some = refl

-- ---- the lines of a head

blank_lines : (ends : List LineEnd) (rest : List ℕ)
    → after_request_line (lines_of (print_blank ends ++ rest)) ≡ after_request_line (lines_of rest)
blank_lines [] rest = refl
blank_lines (end ∷ ends) rest =
    ap (λ t. after_request_line (lines_of t)) (append_assoc (print_end end) (print_blank ends) rest)
    ∙ ap after_request_line (plain_line [] end (print_blank ends ++ rest) (All-nil (λ byte. is_newline byte ≡ false)))
    ∙ after_empty (lines_of (print_blank ends ++ rest))
    ∙ blank_lines ends rest

section_lines : (fields : List Field) (rest : List ℕ) → All IsField fields
    → take_while has_byte (lines_of (flat_map print_field fields ++ rest)) ≡ map line_of fields ++ take_while has_byte (lines_of rest)
section_lines [] rest are = refl
section_lines (field ∷ fields) rest are =
    let is = All-head IsField field fields are in
    let after = flat_map print_field fields ++ rest in
    ap (λ t. take_while has_byte (lines_of t))
    (append_assoc (print_field field) (flat_map print_field fields) rest ∙ append_assoc (line_of field) (print_end field.end) after)
    ∙ ap (λ lines. take_while has_byte lines) (plain_line (line_of field) field.end after (field_plain field is))
    ∙ take_while-cons has_byte (line_of field) (lines_of after)
    ∙ cond-true (has_byte (line_of field)) _ _ (byte_before field.name (58 ∷ field.raw) is.name.0)
    ∙ ap (λ lines. line_of field ∷ lines) (section_lines fields rest (All-tail IsField field fields are))

-- the field lines of what begins as a head does
pub lines_of_begun : (head : RequestHead) (rest : List ℕ) → IsRequestHead head
    → field_lines (begun head rest) ≡ map line_of head.fields ++ take_while has_byte (lines_of rest)
unfolding field_lines
lines_of_begun head rest is =
    let after = flat_map print_field head.fields ++ rest in
    ap (λ lines. take_while has_byte lines)
    (blank_lines head.blank (request_line head ++ (print_end head.line_end ++ after))
    ∙ ap after_request_line (plain_line (request_line head) head.line_end after (request_line_plain head is))
    ∙ after_line (request_line head) (lines_of after) (byte_before head.method _ is.method.0))
    ∙ section_lines head.fields rest is.fields

-- a head and a rest, cut before the last line
pub head_begun : (head : RequestHead) (rest : List ℕ) → print_request head ++ rest ≡ begun head (print_end head.last ++ rest)
head_begun head rest =
    print_request-append head rest
    ∙ regroup (print_blank head.blank) head.method head.target (print_version head.minor) (print_end head.line_end)
    (flat_map print_field head.fields) (print_end head.last) rest
  where
    regroup : (a b c d e f g r : List ℕ) → a ++ (b ++ 32 ∷ (c ++ 32 ∷ (d ++ (e ++ ((f ++ g) ++ r)))))
        ≡ a ++ ((b ++ 32 ∷ (c ++ 32 ∷ d)) ++ (e ++ (f ++ (g ++ r))))
    regroup a b c d e f g r = simp (append_assoc, cons-append)

-- the field lines of a whole head are the lines of its fields
pub lines_of_head : (bytes : List ℕ) (head : RequestHead) (rest : List ℕ) → ReadsRequest bytes head rest
    → field_lines bytes ≡ map line_of head.fields
lines_of_head bytes head rest reads =
    ap field_lines (reads.1 ∙ head_begun head rest)
    ∙ lines_of_begun head (print_end head.last ++ rest) reads.0
    ∙ ap (λ lines. map line_of head.fields ++ take_while has_byte lines)
    (plain_line [] head.last rest (All-nil (λ byte. is_newline byte ≡ false)))
    ∙ append-nil (map line_of head.fields)

-- ---- more fields than slots

begun-append : (head : RequestHead) (front back : List ℕ) → begun head front ++ back ≡ begun head (front ++ back)
begun-append head front back =
    regroup (print_blank head.blank) (request_line head) (print_end head.line_end) (flat_map print_field head.fields) front back
  where
    regroup : (a b c d r s : List ℕ) → (a ++ (b ++ (c ++ (d ++ r)))) ++ s ≡ a ++ (b ++ (c ++ (d ++ (r ++ s))))
    regroup a b c d r s = simp append_assoc

-- what a head is without the line feed that ends it
front_begun : (end : LineEnd) (head : RequestHead) (front : List ℕ) → front ++ 10 ∷ [] ≡ begun head (print_end end ++ [])
    → (back : List ℕ) × (front ≡ begun head back)
front_begun lf head front same =
    ([], (same_from_push front (begun head []) 10 10 (same ∙ sym (begun-append head [] (10 ∷ [])))).0)
front_begun crlf head front same =
    (13 ∷ [], (same_from_push front (begun head (13 ∷ [])) 10 10 (same ∙ sym (begun-append head (13 ∷ []) (10 ∷ [])))).0)

-- bytes that begin with more fields than slots have more field lines
pub exceeding_lines : (slots : ℕ) (bytes : List ℕ) → RequestExceeds slots bytes → slots < length (field_lines bytes)
exceeding_lines slots bytes exceeds =
    let head = exceeds.3 in
    let cut = front_begun head.last head exceeds.0 (exceeds.4.1 ∙ head_begun head []) in
    let same : bytes ≡ begun head (cut.0 ++ exceeds.1) =
    exceeds.2 ∙ ap (λ t. t ++ exceeds.1) cut.1 ∙ begun-append head cut.0 exceeds.1 in
    let lines = ap field_lines same ∙ lines_of_begun head (cut.0 ++ exceeds.1) exceeds.4.0 in
    omega (
      arith,
      ap length lines,
      length-append (map line_of head.fields) (take_while has_byte (lines_of (cut.0 ++ exceeds.1))),
      length-map head.fields line_of,
      exceeds.5,
    )
