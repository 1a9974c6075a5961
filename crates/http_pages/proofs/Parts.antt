-- A page by its parts.
use Rattle.std.proofs.Common.{◌≡◌, ℕ, Bool, List, [], ◌++◌, codes, decimal, length, append_assoc, append-nil}
use Rattle.std.proofs.lemmas.List.Concat.{flat_map-append}
use Rattle.farm_http.specs.PageTexts.{body_text}
use Rattle.farm_http.specs.declared.page.Page.{Page}
use Rattle.http_pages.specs.Pages.{allow_lines, close_lines, ended, line_end, page_text}
use Rattle.http_pages.specs.Statuses.{reason_of, status_of}

-- parts one after another, and as lines
as_lines : (version status blank reason end sort name size allow close others content : List ℕ) → others ≡ allow ++ close →
    version ++ (status ++ (blank ++ (reason ++ (end ++ (sort ++ (end ++ (name ++ (size ++ (end ++ (allow ++ (close ++ (end ++ (content ++ [])))))))))))))
    ≡ ((version ++ status ++ blank ++ reason) ++ end) ++ ((sort ++ end) ++ (((name ++ size) ++ end) ++ others)) ++ end ++ content
as_lines version status blank reason end sort name size allow close others content is = rw is (simp (append_assoc, append-nil))

-- the parts of a page, one after another
pub parts_are : (page : Page) (last : Bool) →
    codes "HTTP/1.1 " ++ (decimal (status_of page) ++ (codes " " ++ (reason_of (status_of page) ++
    (codes "\r\ncontent-type: application/json\r\ncontent-length: " ++ (decimal (length (body_text page)) ++ (codes "\r\n" ++
    (ended (allow_lines page) ++ (ended (close_lines last) ++ (codes "\r\n" ++ (body_text page ++ [])))))))))) ≡ page_text page last
unfolding page_text
parts_are page last =
    as_lines (codes "HTTP/1.1 ") (decimal (status_of page)) (codes " ") (reason_of (status_of page)) line_end
    (codes "content-type: application/json") (codes "content-length: ") (decimal (length (body_text page)))
    (ended (allow_lines page)) (ended (close_lines last)) (ended (allow_lines page ++ close_lines last)) (body_text page)
    (flat_map-append (λ line. line ++ line_end) (allow_lines page) (close_lines last))

-- so it is what is written, part by part
pub written_is : (page : Page) (last : Bool) (status : ℕ) (reason allow close content : List ℕ) → status ≡ status_of page → reason ≡ reason_of status →
    allow ≡ ended (allow_lines page) → close ≡ ended (close_lines last) → content ≡ body_text page →
    codes "HTTP/1.1 " ++ (decimal status ++ (codes " " ++ (reason ++
    (codes "\r\ncontent-type: application/json\r\ncontent-length: " ++ (decimal (length content) ++ (codes "\r\n" ++
    (allow ++ (close ++ (codes "\r\n" ++ (content ++ [])))))))))) ≡ page_text page last
written_is page last status reason allow close content is_status is_reason is_allow is_close is_content =
    rw (is_reason, is_status, is_allow, is_close, is_content) (parts_are page last)
