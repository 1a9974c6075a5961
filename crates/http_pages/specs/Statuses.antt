-- The statuses of answers and their reasons.
use Rattle.std.specs.Prelude.{◌≡◌, ◌⊎◌, ◌==◌, ℕ, if◌then◌else◌, List, [], codes}
use Rattle.farm_history.specs.declared.reply.Reply.TheVariants.{Refused}
use Rattle.farm_http.specs.PageTexts.{IsErrorStatus}
use Rattle.farm_http.specs.declared.page.Page.{Page}
use Rattle.farm_http.specs.declared.page.Page.TheVariants as pages

-- the status of an answer: a refusal's is 409, any other reply's 200
abbrev pub status_of : Page → ℕ
status_of (pages.Reply (Refused rule)) = 409
status_of (pages.Reply reply) = 200
status_of (pages.Status status allow) = status

-- a status that an answer may have
abbrev pub IsStatus : ℕ → Type 0
IsStatus status = (status ≡ 200) ⊎ (status ≡ 409) ⊎ IsErrorStatus status

-- the reason of a status
unfoldable pub reason_of : ℕ → List ℕ
reason_of status =
    if status == 200 then codes "OK" else (
    if status == 400 then codes "Bad Request" else (
    if status == 404 then codes "Not Found" else (
    if status == 405 then codes "Method Not Allowed" else (
    if status == 409 then codes "Conflict" else (
    if status == 411 then codes "Length Required" else (
    if status == 413 then codes "Payload Too Large" else (
    if status == 431 then codes "Request Header Fields Too Large" else (
    if status == 503 then codes "Service Unavailable" else (
    if status == 507 then codes "Insufficient Storage" else [])))))))))
