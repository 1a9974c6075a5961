-- The statuses of answers, and the phrases that `http` has for them.
use Rattle.std.proofs.Common.{◌≡◌, ℕ, true, inl, inr, List, Option, Some, None, Bor, option_map, unwrap_or, refl, sym, subst, ◌∙◌, arith}
use Rattle.std.specs.List.{list_all}
use Rattle.http.specs.StatusCode.{IsStatusCode, reason_phrase}
use Rattle.farm_history.specs.declared.reply.Reply.TheVariants.{Gain, Placed, Refused, Stock, Ticket, Total}
use Rattle.farm_http.specs.PageTexts.{IsAnswer}
use Rattle.farm_http.specs.declared.page.Page.{Page}
use Rattle.farm_http.specs.declared.page.Page.TheVariants as pages
use Rattle.http_pages.specs.Messages.{is_line_byte}
use Rattle.http_pages.specs.Statuses.{IsStatus, reason_of, status_of}

-- what holds of the ten statuses holds of each status that an answer may have
pub by_status : (P : ℕ → Type 0) → P 200 × P 409 × P 400 × P 404 × P 405 × P 411 × P 413 × P 431 × P 503 × P 507 → (status : ℕ) → IsStatus status → P status
by_status P all status (inl is) = subst P (sym is) all.0
by_status P all status (inr (inl is)) = subst P (sym is) all.1
by_status P all status (inr (inr (inl is))) = subst P (sym is) all.2
by_status P all status (inr (inr (inr (inl is)))) = subst P (sym is) all.3
by_status P all status (inr (inr (inr (inr (inl is))))) = subst P (sym is) all.4
by_status P all status (inr (inr (inr (inr (inr (inl is)))))) = subst P (sym is) all.5
by_status P all status (inr (inr (inr (inr (inr (inr (inl is))))))) = subst P (sym is) all.6
by_status P all status (inr (inr (inr (inr (inr (inr (inr (inl is)))))))) = subst P (sym is) all.7
by_status P all status (inr (inr (inr (inr (inr (inr (inr (inr (inl is))))))))) = subst P (sym is) all.8
by_status P all status (inr (inr (inr (inr (inr (inr (inr (inr (inr is))))))))) = subst P (sym is) all.9

-- the status of an answer is one of them
pub status_known : (page : Page) → IsAnswer page → IsStatus (status_of page)
status_known (pages.Reply (Placed place)) owed = inl refl
status_known (pages.Reply (Ticket ticket)) owed = inl refl
status_known (pages.Reply (Gain place amount)) owed = inl refl
status_known (pages.Reply (Stock tank amount reading sample)) owed = inl refl
status_known (pages.Reply (Total entries amount)) owed = inl refl
status_known (pages.Reply (Refused rule)) owed = inr (inl refl)
status_known (pages.Status status allow) owed = inr (inr owed.0)

-- they are statuses of `http`
pub status_is_code : (status : ℕ) → IsStatus status → IsStatusCode status
status_is_code status known =
    by_status IsStatusCode (
      (omega arith, omega arith),
      (omega arith, omega arith),
      (omega arith, omega arith),
      (omega arith, omega arith),
      (omega arith, omega arith),
      (omega arith, omega arith),
      (omega arith, omega arith),
      (omega arith, omega arith),
      (omega arith, omega arith),
      (omega arith, omega arith),
    )
    status known

-- their reasons are its phrases
phrase_is : (status : ℕ) → IsStatus status → reason_phrase status ≡ Some (reason_of status)
unfolding reason_of
phrase_is status known =
    by_status (λ n. reason_phrase n ≡ Some (reason_of n)) (refl, refl, refl, refl, refl, refl, refl, refl, refl, refl) status known

-- and may be part of a line
pub reason_in_line : (status : ℕ) → IsStatus status → list_all is_line_byte (reason_of status) ≡ true
unfolding reason_of
reason_in_line status known =
    by_status (λ n. list_all is_line_byte (reason_of n) ≡ true) (refl, refl, refl, refl, refl, refl, refl, refl, refl, refl) status known

-- the text of a phrase
text_of : (phrase : Option (Bor (List ℕ))) (other : Bor (List ℕ)) (text : List ℕ) → option_map (λ lent. lent.now) phrase ≡ Some text → (unwrap_or phrase other).now ≡ text
text_of None other text is = absurd (cc is)
text_of (Some phrase) other text is = cc is

-- is the reason
pub reason_is : (status : ℕ) (phrase : Option (Bor (List ℕ))) (other : Bor (List ℕ)) → IsStatus status →
    option_map (λ lent. lent.now) phrase ≡ reason_phrase status → (unwrap_or phrase other).now ≡ reason_of status
reason_is status phrase other known is = text_of phrase other (reason_of status) (is ∙ phrase_is status known)
