-- Responses as their readers find their ends: RFC 9112, sections 2.1, 2.2 and 6.3.
use Rattle.std.specs.Prelude.{◌≡◌, ◌≢◌, ℕ, ◌+◌, ◌<◌, ◌≤◌, ◌^◌, ◌&&◌, Bool, nat_eq, nat_le, All, List, [], ◌∷◌, ◌++◌, codes, decimal, filter, length}
use Rattle.std.specs.List.{AllPass, starts_with}
use Rattle.std.specs.Str.{str_to_ascii_lowercase}
use Rattle.farm_http.specs.PageTexts.{IsAnswer, body_text}
use Rattle.farm_http.specs.declared.page.Page.{Page}
use Rattle.http_pages.specs.Pages.{ended, line_end, most_page_head_bytes, page_text}

-- a byte of a line: visible ASCII, or a space
abbrev pub is_line_byte : ℕ → Bool
is_line_byte byte = nat_le 32 byte && nat_le byte 126

-- a line of a head: of such bytes, and not empty
abbrev pub IsHeadLine : List ℕ → Type 0
IsHeadLine line = (line ≢ []) × AllPass is_line_byte line

-- a field line has a name, in any case of letters
abbrev pub has_name : List ℕ → List ℕ → Bool
has_name name line = starts_with nat_eq (str_to_ascii_lowercase line) (name ++ codes ":")

-- bytes are one response with this content: a start line and field lines, each ended by CR LF, an empty line, and the content; it
-- has no transfer coding, and the one field content-length says how many bytes the content has
pub record IsWholePage (bytes content : List ℕ) : Type 0 where
  pub start_line : List ℕ
  pub field_lines : List (List ℕ)
  pub message : bytes ≡ ended (start_line ∷ field_lines) ++ line_end ++ content
  pub lines : All IsHeadLine (start_line ∷ field_lines)
  pub no_coding : filter (has_name (codes "transfer-encoding")) field_lines ≡ []
  pub one_length : filter (has_name (codes "content-length")) field_lines ≡ (codes "content-length: " ++ decimal (length content)) ∷ []

-- each page is one response, and its content the body of the answer
abbrev pub PagesAreWhole : Type 0
PagesAreWhole = (page : Page) (last : Bool) → IsAnswer page → length (body_text page) < 2 ^ 64 → IsWholePage (page_text page last) (body_text page)

-- at most as many bytes as the longest head has precede the content of a page
abbrev pub HeadsFit : Type 0
HeadsFit = (page : Page) (last : Bool) → IsAnswer page → length (body_text page) < 2 ^ 64 → length (page_text page last) ≤ most_page_head_bytes + length (body_text page)

-- bytes have one content at most
abbrev pub OneContent : Type 0
OneContent = (bytes first second : List ℕ) → IsWholePage bytes first → IsWholePage bytes second → first ≡ second
