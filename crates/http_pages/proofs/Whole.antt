-- Pages are whole responses.
use Rattle.std.proofs.Common.{◌≡◌, ◌≢◌, ℕ, ◌+◌, ◌%◌, ◌<◌, ◌^◌, Bool, true, false, All, List, [], ◌∷◌, ◌++◌, codes, decimal, filter, length, None, Some, Result, Ok, Err, OnOk, drop, refl, sym, ap, subst, ◌∙◌, arith}
use Rattle.std.proofs.lemmas.Bool.Decides.{nat_tests}
use Rattle.std.proofs.lemmas.Fmt.{decimal_by_steps}
use Rattle.std.proofs.lemmas.List.{drop_at}
use Rattle.std.proofs.lemmas.List.Elements.{All-append, All-cons, All-nil}
use Rattle.std.proofs.lemmas.List.Folds.{list_all-append}
use Rattle.std.proofs.lemmas.List.Sums.{AllPass-from_list_all}
use Rattle.std.specs.List.{list_all}
use Rattle.farm_base.specs.Appended.{Appends}
use Rattle.farm_http.specs.PageTexts.{IsAnswer, body_text}
use Rattle.farm_http.specs.declared.page.Allow.TheVariants.{Get, Post}
use Rattle.farm_http.specs.declared.page.Page.{Page}
use Rattle.farm_http.specs.declared.page.Page.TheVariants as pages
use Rattle.http_pages.specs.Messages.{IsHeadLine, IsWholePage, PagesAreWhole, has_name, is_line_byte}
use Rattle.http_pages.specs.Pages.{allow_lines, close_lines, field_lines, page_text, status_line}
use Rattle.http_pages.specs.Statuses.{IsStatus, reason_of, status_of}
use Rattle.http_pages.proofs.Reasons.{reason_in_line, status_is_code, status_known}

-- texts that may be part of a line may follow one another there
joined : (first second : List ℕ) → list_all is_line_byte first ≡ true → list_all is_line_byte second ≡ true → list_all is_line_byte (first ++ second) ≡ true
joined first second one other = list_all-append is_line_byte first second ∙ rw (one, other) refl

-- a digit may be part of a line
digit_in_line : (n : ℕ) → n < 10 → list_all is_line_byte ((48 + n) ∷ []) ≡ true
digit_in_line n small = grind (arith, nat_tests)

-- so may a number
number_in_line : (n : ℕ) → n < 2 ^ 64 → list_all is_line_byte (decimal n) ≡ true
number_in_line n small =
    decimal_by_steps (λ k digits. list_all is_line_byte digits ≡ true) digit_in_line
    (λ k digits large before. joined digits ((48 + k % 10) ∷ []) before (digit_in_line (k % 10) (omega arith)))
    n small

-- bytes that may be part of a line are one if there are some
head_line : (line : List ℕ) → line ≢ [] → list_all is_line_byte line ≡ true → IsHeadLine line
head_line line some plain = (some, AllPass-from_list_all is_line_byte line plain)

-- the status line
status_head : (status : ℕ) → IsStatus status → IsHeadLine (status_line status)
status_head status known =
    let small : status < 2 ^ 64 = let code = (status_is_code status known).1 in omega arith in
    head_line (status_line status) (λ none. cc none)
    (joined (codes "HTTP/1.1 " ++ decimal status ++ codes " ") (reason_of status)
    (joined (codes "HTTP/1.1 " ++ decimal status) (codes " ") (joined (codes "HTTP/1.1 ") (decimal status) refl (number_in_line status small)) refl)
    (reason_in_line status known))

-- the line of the method
allow_heads : (page : Page) → All IsHeadLine (allow_lines page)
allow_heads (pages.Reply reply) = All-nil IsHeadLine
allow_heads (pages.Status status None) = All-nil IsHeadLine
allow_heads (pages.Status status (Some Get)) = All-cons IsHeadLine (codes "allow: GET") [] (head_line (codes "allow: GET") (λ none. cc none) refl) (All-nil IsHeadLine)
allow_heads (pages.Status status (Some Post)) = All-cons IsHeadLine (codes "allow: POST") [] (head_line (codes "allow: POST") (λ none. cc none) refl) (All-nil IsHeadLine)

-- the line of the connection's end
close_heads : (last : Bool) → All IsHeadLine (close_lines last)
close_heads true = All-cons IsHeadLine (codes "connection: close") [] (head_line (codes "connection: close") (λ none. cc none) refl) (All-nil IsHeadLine)
close_heads false = All-nil IsHeadLine

-- all lines of a page's head
heads : (page : Page) (last : Bool) → IsAnswer page → length (body_text page) < 2 ^ 64 → All IsHeadLine (status_line (status_of page) ∷ field_lines page last)
heads page last owed small =
    let sort = codes "content-type: application/json" in
    let size = codes "content-length: " ++ decimal (length (body_text page)) in
    let others = allow_lines page ++ close_lines last in
    All-cons IsHeadLine (status_line (status_of page)) (field_lines page last) (status_head (status_of page) (status_known page owed))
    (All-cons IsHeadLine sort (size ∷ others) (head_line sort (λ none. cc none) refl)
    (All-cons IsHeadLine size others
    (head_line size (λ none. cc none) (joined (codes "content-length: ") (decimal (length (body_text page))) refl (number_in_line (length (body_text page)) small)))
    (All-append IsHeadLine (allow_lines page) (close_lines last) (allow_heads page) (close_heads last))))

-- no line gives a transfer coding
no_coding : (page : Page) (last : Bool) → filter (has_name (codes "transfer-encoding")) (field_lines page last) ≡ []
no_coding (pages.Reply reply) true = refl
no_coding (pages.Reply reply) false = refl
no_coding (pages.Status status None) true = refl
no_coding (pages.Status status None) false = refl
no_coding (pages.Status status (Some Get)) true = refl
no_coding (pages.Status status (Some Get)) false = refl
no_coding (pages.Status status (Some Post)) true = refl
no_coding (pages.Status status (Some Post)) false = refl

-- one line gives the length
one_length : (page : Page) (last : Bool) →
    filter (has_name (codes "content-length")) (field_lines page last) ≡ (codes "content-length: " ++ decimal (length (body_text page))) ∷ []
one_length (pages.Reply reply) true = refl
one_length (pages.Reply reply) false = refl
one_length (pages.Status status None) true = refl
one_length (pages.Status status None) false = refl
one_length (pages.Status status (Some Get)) true = refl
one_length (pages.Status status (Some Get)) false = refl
one_length (pages.Status status (Some Post)) true = refl
one_length (pages.Status status (Some Post)) false = refl

-- each page is one response
pub pages_are_whole : PagesAreWhole
unfolding page_text
pages_are_whole page last owed small = record {
  start_line = status_line (status_of page);
  field_lines = field_lines page last;
  message = refl;
  lines = heads page last owed small;
  no_coding = no_coding page last;
  one_length = one_length page last;
}

-- what is appended as a page is one response
pub appended_whole : {E : Type 0} (page : Page) (last : Bool) (old new : List ℕ) (result : Result (Unit {0}) E) → IsAnswer page →
    length (body_text page) < 2 ^ 64 → Appends old new (page_text page last) result → OnOk result (IsWholePage (drop (length old) new) (body_text page))
appended_whole page last old new (Ok done) owed small appends =
    let text : page_text page last ≡ drop (length old) new = sym (ap (λ t. drop (length old) t) appends.ok ∙ drop_at old (page_text page last) (length old) refl) in
    subst (λ (text : List ℕ). IsWholePage text (body_text page)) text (pages_are_whole page last owed small)
appended_whole page last old new (Err fault) owed small appends = tt
