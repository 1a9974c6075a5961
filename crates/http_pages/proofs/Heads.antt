-- How long the head of a page is.
use Rattle.std.proofs.Common.{◌≡◌, ℕ, ◌+◌, ◌≤◌, Bool, true, false, List, [], ◌++◌, codes, decimal, length, None, Some, refl, sym, ap, ◌∙◌, arith, append-nil, length-append, lit<, lit≤}
use Rattle.std.proofs.lemmas.Fmt.{length-decimal-le}
use Rattle.farm_http.specs.PageTexts.{IsAnswer, body_text}
use Rattle.farm_http.specs.declared.page.Allow.TheVariants.{Get, Post}
use Rattle.farm_http.specs.declared.page.Page.{Page}
use Rattle.farm_http.specs.declared.page.Page.TheVariants as pages
use Rattle.http_pages.specs.Messages.{HeadsFit}
use Rattle.http_pages.specs.Pages.{allow_lines, close_lines, ended, page_text}
use Rattle.http_pages.specs.Statuses.{IsStatus, reason_of, status_of}
use Rattle.http_pages.proofs.Parts.{parts_are}
use Rattle.http_pages.proofs.Reasons.{by_status, status_is_code, status_known}

-- the lengths of parts one after another add up
added : (a b c d e f g h i j content : List ℕ) →
    length (a ++ (b ++ (c ++ (d ++ (e ++ (f ++ (g ++ (h ++ (i ++ (j ++ (content ++ [])))))))))))
    ≡ length a + (length b + (length c + (length d + (length e + (length f + (length g + (length h + (length i + (length j + length content)))))))))
added a b c d e f g h i j content = simp (length-append, append-nil)

-- a reason has at most 31 bytes
short_reason : (status : ℕ) → IsStatus status → length (reason_of status) ≤ 31
unfolding reason_of
short_reason status known =
    by_status (λ n. length (reason_of n) ≤ 31) (lit≤ tt, lit≤ tt, lit≤ tt, lit≤ tt, lit≤ tt, lit≤ tt, lit≤ tt, lit≤ tt, lit≤ tt, lit≤ tt) status known

-- and so has the reason of a wrong method with the line of the right one
reason_of_method : length (reason_of 405) ≡ 18
unfolding reason_of
reason_of_method = refl

-- so a reason and the line of a method have no more
reason_and_method : (page : Page) → IsAnswer page → length (reason_of (status_of page)) + length (ended (allow_lines page)) ≤ 31
reason_and_method (pages.Reply reply) owed = let short = short_reason (status_of (pages.Reply reply)) (status_known (pages.Reply reply) owed) in omega arith
reason_and_method (pages.Status status None) owed = let short = short_reason status (status_known (pages.Status status None) owed) in omega arith
reason_and_method (pages.Status status (Some Get)) owed =
    let is : length (reason_of status) ≡ 18 = ap (λ n. length (reason_of n)) (owed.1.0 refl) ∙ reason_of_method in omega arith
reason_and_method (pages.Status status (Some Post)) owed =
    let is : length (reason_of status) ≡ 18 = ap (λ n. length (reason_of n)) (owed.1.0 refl) ∙ reason_of_method in omega arith

-- the line of the connection's end has 19
close_is_short : (last : Bool) → length (ended (close_lines last)) ≤ 19
close_is_short true = lit≤ tt
close_is_short false = lit≤ tt

-- the head of a page has at most as many bytes as the longest one
pub heads_fit : HeadsFit
heads_fit page last owed small =
    let known = status_known page owed in
    let status : length (decimal (status_of page)) ≤ 3 = length-decimal-le 3 (status_of page) (lit< tt) (status_is_code (status_of page) known).1 (let code = (status_is_code (status_of page) known).1 in omega arith) in
    let size : length (decimal (length (body_text page))) ≤ 20 = length-decimal-le 20 (length (body_text page)) (lit< tt) (omega arith) small in
    let method = reason_and_method page owed in
    let close = close_is_short last in
    let parts =
    added (codes "HTTP/1.1 ") (decimal (status_of page)) (codes " ") (reason_of (status_of page))
    (codes "\r\ncontent-type: application/json\r\ncontent-length: ") (decimal (length (body_text page))) (codes "\r\n")
    (ended (allow_lines page)) (ended (close_lines last)) (codes "\r\n") (body_text page) in
    let whole : length (page_text page last) ≡ _ = ap (λ (t : List ℕ). length t) (sym (parts_are page last)) ∙ parts in
    omega arith
