-- How a desk that recovers its journal judges what it is given, and what it has taken then.
use Rattle.std.proofs.Common.{◌≡◌, ◌∙◌, inl, ⊎_elim, ℕ, ◌+◌, ◌<◌, Bool, true, false, List, [], ◌∷◌, ◌++◌, Option, Some, None, IfSome, IsFalse, IsTrue, option_map, refl, sym, ap, subst}
use Rattle.std.proofs.lemmas.Bool.{cases_lt}
use Rattle.site_decoding.specs.Readers.{IsBytes}
use Rattle.farm_book.specs.Entering.{Enters, IsNextEncoding}
use Rattle.farm_book.specs.Kept.{Kept}
use Rattle.farm_history.specs.declared.entry.Entry.{Entry}
use Rattle.farm_history.specs.declared.limits.TheConstants.{STOPS_BEYOND_LIMIT}
use Rattle.farm_history.specs.declared.rule.Rule.TheVariants.{HistoryFull}
use Rattle.farm_history.specs.declared.verdict.Verdict.TheVariants.{Accept}
use Rattle.farm_history.specs.History.{History, last_place}
use Rattle.farm_history.specs.Verdicts.{IsNext, IsVerdict}
use Rattle.farm_history.proofs.Verdicts.{verdicts_mean}
use Rattle.farm_site.specs.Described.{Described, IsSite}
use Rattle.site_encoding.specs.Encoding.{site_encoding}
use Rattle.site_decoding.proofs.BytesRead.{PartsAreRead}
use Rattle.farm_recovery.specs.Accepting.{accepted_next, taken_of}
use Rattle.journaled_book.specs.Histories.{IsRecordable}
use Rattle.farm_recovery.specs.Recovery.{IsSiteEncoding}
use Rattle.farm_recovery.proofs.Acceptance.{accepted_is_next, accepted_is_site, site_is_accepted}
use Rattle.journaled_book.proofs.Growing.{encodings_more, more_recordable}

-- what holds of a book's history, if a book was made, holds of the history that was recovered
pub of_history : (P : History → Type 0) (book : Option Kept) (recovered : Option History) →
    option_map (λ (book : Kept). book.history) book ≡ recovered → IfSome book (λ (book : Kept). P book.history) → IfSome recovered P
of_history P None recovered view is = subst (λ recovered. IfSome recovered P) view tt
of_history P (Some book) recovered view is = subst (λ recovered. IfSome recovered P) view is

-- a test that doesn't come out true comes out false
comes_out_false : (test : Bool) → (test ≡ true → ⊥) → IsFalse test
comes_out_false true never = absurd (never refl)
comes_out_false false never = refl

-- if nothing was taken, a site's bytes are accepted
pub header_accepted : PartsAreRead → (limit : ℕ) (taken : List (List ℕ)) (bytes : List ℕ) (site : Described) → taken ≡ [] → IsSite site →
    bytes ≡ site_encoding site → IsTrue (accepted_next limit taken bytes)
header_accepted laws limit taken bytes site nothing sound encoded =
    subst (λ taken. IsTrue (accepted_next limit taken bytes)) (sym nothing)
    (site_is_accepted laws limit bytes (record { site = site; sound = sound; encoded = encoded }))

-- and others are refused
pub header_refused : PartsAreRead → (limit : ℕ) (taken : List (List ℕ)) (bytes : List ℕ) → IsBytes bytes → taken ≡ [] →
    (IsSiteEncoding bytes → ⊥) → IsFalse (accepted_next limit taken bytes)
header_refused laws limit taken bytes fits nothing other =
    subst (λ taken. IsFalse (accepted_next limit taken bytes)) (sym nothing)
    (comes_out_false (accepted_next limit [] bytes) (λ accepted. other (accepted_is_site laws limit bytes fits accepted)))

-- bytes of no entry that may come next are refused
pub next_refused : PartsAreRead → (limit : ℕ) (history : History) (bytes : List ℕ) → IsBytes bytes → IsRecordable limit history →
    (IsNextEncoding limit history bytes → ⊥) → IsFalse (accepted_next limit (taken_of (Some history)) bytes)
next_refused laws limit history bytes fits is other =
    comes_out_false (accepted_next limit (taken_of (Some history)) bytes) (λ accepted. other (accepted_is_next laws limit history bytes fits is accepted))

-- what was taken is more by the bytes of an entry that came to the history
pub taken_more : (limit : ℕ) (old new : History) (bytes : List ℕ) → Enters limit old new bytes → taken_of (Some new) ≡ taken_of (Some old) ++ bytes ∷ []
taken_more limit old new bytes enters =
    let entry = enters.is_next.entry in
    ap (λ (history : History). taken_of (Some history)) enters.grown
    ∙ ap (λ bodies. site_encoding old.site ∷ bodies) (encodings_more old.entries entry)
    ∙ ap (λ (body : List ℕ). taken_of (Some old) ++ body ∷ []) (sym enters.is_next.encoded)

-- and a journal may keep it
pub entered_recordable : (limit : ℕ) (old new : History) (bytes : List ℕ) → IsRecordable limit old → Enters limit old new bytes → IsRecordable limit new
entered_recordable limit old new bytes is enters =
    subst (λ history. IsRecordable limit history) (sym enters.grown)
    (more_recordable limit old enters.is_next.entry is enters.is_next.next enters.is_next.typed)

-- a history to which an entry may come has fewer entries than it may have
pub room_left : (limit : ℕ) (history : History) (entry : Entry) → IsNext limit history entry → last_place history < limit + STOPS_BEYOND_LIMIT
room_left limit history entry next =
    let means : IsVerdict limit history entry Accept = subst (λ given. IsVerdict limit history entry given) next.accepted (verdicts_mean limit history entry) in
    ⊎_elim (λ fewer. fewer) (λ full. absurd (means.1 HistoryFull (inl full))) (cases_lt (last_place history) (limit + STOPS_BEYOND_LIMIT))
