-- A whole response has one content.
use Rattle.std.proofs.Common.{◌≡◌, ℕ, ◌&&◌, Bool, true, false, All, List, [], ◌∷◌, ◌++◌, append_assoc, refl, sym, ◌∙◌}
use Rattle.std.proofs.lemmas.List.Elements.{All-head, All-tail}
use Rattle.std.proofs.lemmas.List.Sums.{list_all-from_AllPass}
use Rattle.std.specs.List.{list_all}
use Rattle.http_pages.specs.Messages.{IsHeadLine, OneContent, is_line_byte}
use Rattle.http_pages.specs.Pages.{ended, line_end}

-- no byte of a line is the first of a line's end
not_an_end : (byte : ℕ) → is_line_byte byte ≡ true → byte ≡ 13 → ⊥
not_an_end byte line is = let never : is_line_byte 13 ≡ true = rw is at line in cc never

-- two tests that are passed together are each passed
both : (one other : Bool) → (one && other) ≡ true → (one ≡ true) × (other ≡ true)
both true true is = (refl, refl)
both true false is = absurd (cc is)
both false true is = absurd (cc is)
both false false is = absurd (cc is)

-- of a line the first byte, and those after it
first_of : (byte : ℕ) (line : List ℕ) → list_all is_line_byte (byte ∷ line) ≡ true → (is_line_byte byte ≡ true) × (list_all is_line_byte line ≡ true)
first_of byte line all = both (is_line_byte byte) (list_all is_line_byte line) all

-- what follows a line is known by the line's end
rest_is_one : (first second rest other : List ℕ) → list_all is_line_byte first ≡ true → list_all is_line_byte second ≡ true →
    first ++ 13 ∷ rest ≡ second ++ 13 ∷ other → rest ≡ other
rest_is_one [] [] rest other line next is = cc is
rest_is_one [] (b ∷ second) rest other line next is = absurd (not_an_end b (first_of b second next).0 (cc is))
rest_is_one (a ∷ first) [] rest other line next is = absurd (not_an_end a (first_of a first line).0 (cc is))
rest_is_one (a ∷ first) (b ∷ second) rest other line next is =
    rest_is_one first second rest other (first_of a first line).1 (first_of b second next).1 (cc is)

-- a line of a head by the test of its bytes
in_line : (line : List ℕ) → IsHeadLine line → list_all is_line_byte line ≡ true
in_line line head = list_all-from_AllPass is_line_byte line head.1

-- a head doesn't begin with a line's end
no_empty_line : (line rest other : List ℕ) → IsHeadLine line → line ++ other ≡ 13 ∷ rest → ⊥
no_empty_line [] rest other head is = head.0 refl
no_empty_line (byte ∷ line) rest other head is = not_an_end byte (first_of byte line (in_line (byte ∷ line) head)).0 (cc is)

-- what follows the first line of a head
after_line : (line : List ℕ) (lines : List (List ℕ)) (content : List ℕ) →
    ended (line ∷ lines) ++ line_end ++ content ≡ line ++ 13 ∷ 10 ∷ (ended lines ++ line_end ++ content)
after_line line lines content = simp append_assoc

-- what follows a head is known by its empty line
content_is_one : (first second : List (List ℕ)) (content other : List ℕ) → All IsHeadLine first → All IsHeadLine second →
    ended first ++ line_end ++ content ≡ ended second ++ line_end ++ other → content ≡ other
content_is_one [] [] content other heads others is = cc is
content_is_one [] (line ∷ second) content other heads others is =
    absurd (no_empty_line line _ _ (All-head IsHeadLine line second others) (sym (after_line line second other) ∙ sym is))
content_is_one (line ∷ first) [] content other heads others is =
    absurd (no_empty_line line _ _ (All-head IsHeadLine line first heads) (sym (after_line line first content) ∙ is))
content_is_one (line ∷ first) (next ∷ second) content other heads others is =
    let here = in_line line (All-head IsHeadLine line first heads) in
    let there = in_line next (All-head IsHeadLine next second others) in
    let left = ended first ++ line_end ++ content in
    let right = ended second ++ line_end ++ other in
    let rest : 10 ∷ left ≡ 10 ∷ right =
    rest_is_one line next (10 ∷ left) (10 ∷ right) here there (sym (after_line line first content) ∙ is ∙ after_line next second other) in
    content_is_one first second content other (All-tail IsHeadLine line first heads) (All-tail IsHeadLine next second others) (cc rest)

-- bytes have one content at most
pub one_content : OneContent
one_content bytes first second one two =
    content_is_one (one.start_line ∷ one.field_lines) (two.start_line ∷ two.field_lines) first second one.lines two.lines
    (sym one.message ∙ two.message)
