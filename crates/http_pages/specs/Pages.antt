-- Pages: answers as responses of HTTP/1.1, as RFC 9112 writes them in its sections 2.1, 4 and 5.
use Rattle.std.specs.Prelude.{ℕ, Bool, true, false, List, [], ◌∷◌, ◌++◌, codes, decimal, flat_map, length, None, Some}
use Rattle.farm_http.specs.PageTexts.{body_text}
use Rattle.farm_http.specs.declared.page.Allow.TheVariants.{Get, Post}
use Rattle.farm_http.specs.declared.page.Page.{Page}
use Rattle.farm_http.specs.declared.page.Page.TheVariants as pages
use Rattle.http_pages.specs.Statuses.{reason_of, status_of}

-- the end of a line, CR LF
abbrev pub line_end : List ℕ
line_end = codes "\r\n"

-- lines, each with its end
abbrev pub ended : List (List ℕ) → List ℕ
ended lines = flat_map (λ line. line ++ line_end) lines

-- the status line: the version, the status and its reason
abbrev pub status_line : ℕ → List ℕ
status_line status = codes "HTTP/1.1 " ++ decimal status ++ codes " " ++ reason_of status

-- the field line of the method that a path has, if the answer names one
abbrev pub allow_lines : Page → List (List ℕ)
allow_lines (pages.Reply reply) = []
allow_lines (pages.Status status None) = []
allow_lines (pages.Status status (Some Get)) = codes "allow: GET" ∷ []
allow_lines (pages.Status status (Some Post)) = codes "allow: POST" ∷ []

-- the field line that says that the connection ends after the page
abbrev pub close_lines : Bool → List (List ℕ)
close_lines true = codes "connection: close" ∷ []
close_lines false = []

-- the field lines of a page
abbrev pub field_lines : Page → Bool → List (List ℕ)
field_lines page last =
    codes "content-type: application/json" ∷ (codes "content-length: " ++ decimal (length (body_text page))) ∷ (allow_lines page ++ close_lines last)

-- the page of an answer: the status line, the field lines, an empty line and the content
unfoldable pub page_text : Page → Bool → List ℕ
page_text page last = ended (status_line (status_of page) ∷ field_lines page last) ++ line_end ++ body_text page

-- the most bytes that precede the content of a page: with 431 or 405, on a last page, if the content's length had twenty digits
abbrev pub most_page_head_bytes : ℕ
most_page_head_bytes = 137

-- the answer of a status that names no method
abbrev pub status_page : ℕ → Page
status_page status = pages.Status status None
