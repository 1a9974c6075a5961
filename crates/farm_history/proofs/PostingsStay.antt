-- What the entries up to a place post stays what it is when entries follow.
use Rattle.std.proofs.Common.{◌≡◌, ℕ, zero, suc, ◌-◌, ◌≤◌, List, [], ◌∷◌, ◌++◌, take, drop, Option, Some, option_and_then, refl, ap, ap₂, sym, ◌∙◌, add-one, length-append, arith}
use Rattle.std.proofs.Math.Numerals.{sub-one}
use Rattle.std.proofs.Math.Seq.{take-append_seam}
use Rattle.std.proofs.lemmas.List.{length-take-le, take-append-drop}
use Rattle.farm_fixed.specs.declared.records.Amount.{Amount}
use Rattle.farm_stock.specs.declared.posting.Posting.{Posting}
use Rattle.farm_history.specs.declared.entry.Entry.{Entry}
use Rattle.farm_history.specs.History.{History, before, entry_at, followed_by, last_place, with_entry}
use Rattle.farm_history.specs.Postings.{posted_at, posted_by, posted_in, postings_at, postings_of, postings_to}
use Rattle.farm_history.specs.Stocks.{gain_at, gain_of}
use Rattle.farm_history.proofs.At.{at_after}
use Rattle.farm_history.proofs.Stays.{before_stays, entry_stays}

-- what the entry at a place posts stays the same, where the postings before it do
at_stays : (history : History) (more : List Entry) (place : ℕ) (earlier later : List Posting) → place ≤ last_place history → later ≡ earlier →
    posted_at (followed_by history more) place later ≡ posted_at history place earlier
unfolding posted_at
at_stays history more place earlier later within same =
    let at : History → Option Entry → List Posting = λ past found. posted_in past later found in
    ap₂ at (before_stays history more place within) (entry_stays history more place within)
    ∙ ap (λ posted. posted_in (before history place) posted (entry_at history place)) same

-- the postings of the entries up to a place stay the same when entries follow
pub postings_stay : (history : History) (more : List Entry) (place : ℕ) → place ≤ last_place history →
    postings_to (followed_by history more) place ≡ postings_to history place
unfolding postings_to
postings_stay history more zero within = refl
postings_stay history more (suc place) within =
    let rest : postings_to (followed_by history more) place ≡ postings_to history place = postings_stay history more place (omega arith) in
    ap₂ (◌++◌ {A = Posting}) rest
    (at_stays history more (suc place) (postings_to history place) (postings_to (followed_by history more) place) within rest)

-- what the entry at a place posts stays the same when entries follow
pub postings_at_stays : (history : History) (more : List Entry) (place : ℕ) → place ≤ last_place history →
    postings_at (followed_by history more) place ≡ postings_at history place
unfolding postings_at
postings_at_stays history more place within =
    at_stays history more place (postings_to history (place - 1)) (postings_to (followed_by history more) (place - 1)) within
    (postings_stay history more (place - 1) (omega arith))

-- the postings before a place are those of the entries before it
pub postings_before : (history : History) (place : ℕ) → place - 1 ≤ last_place history →
    postings_of (before history place) ≡ postings_to history (place - 1)
postings_before history place within =
    let past = before history place in
    let more = drop (place - 1) history.entries in
    let make : List Entry → History = λ entries. record { site = history.site; entries = entries } in
    let counted : last_place past ≡ place - 1 = length-take-le (place - 1) history.entries within in
    let whole : followed_by past more ≡ history = ap make (take-append-drop (place - 1) history.entries) in
    ap (postings_to past) counted ∙ sym (postings_stay past more (place - 1) (omega arith)) ∙ ap (λ h. postings_to h (place - 1)) whole

-- the postings up to a place are those of the entries up to it
pub postings_through : (history : History) (place : ℕ) → place ≤ last_place history →
    postings_of (before history (suc place)) ≡ postings_to history place
postings_through history place within =
    postings_before history (suc place) (omega (arith, sub-one (suc place))) ∙ ap (postings_to history) (sub-one (suc place))

-- the gain of a place stays the same when entries follow
pub gain_stays : (history : History) (more : List Entry) (place : ℕ) → place ≤ last_place history →
    gain_at (followed_by history more) place ≡ gain_at history place
unfolding gain_at
gain_stays history more place within =
    let later = postings_to (followed_by history more) (place - 1) in
    let at : History → Option Entry → Option Amount = λ past found. option_and_then (λ entry. gain_of past later entry.cmd) found in
    ap₂ at (before_stays history more place within) (entry_stays history more place within)
    ∙ ap (λ posted. option_and_then (λ (entry : Entry). gain_of (before history place) posted entry.cmd) (entry_at history place))
    (postings_stay history more (place - 1) (omega arith))

-- after one entry more the last place is the next one
pub place_grown : (history : History) (entry : Entry) → last_place (with_entry history entry) ≡ suc (last_place history)
place_grown history entry = omega (arith, length-append history.entries (entry ∷ []))

-- the entries before the next place are those of the history
pub before_grown : (history : History) (entry : Entry) → before (with_entry history entry) (suc (last_place history)) ≡ history
before_grown history entry =
    let make : List Entry → History = λ entries. record { site = history.site; entries = entries } in
    ap make (ap (λ n. take n (history.entries ++ entry ∷ [])) (sub-one (suc (last_place history))) ∙ take-append_seam history.entries (entry ∷ []))

-- what stands there is the entry
pub at_grown : (history : History) (entry : Entry) → entry_at (with_entry history entry) (suc (last_place history)) ≡ Some entry
at_grown history entry =
    ap (entry_at (with_entry history entry)) (sym (add-one (last_place history)))
    ∙ at_after (with_entry history entry) history.entries [] entry refl

-- what stands there posts what the entry's command posts
posted_grown : (history : History) (entry : Entry) (posted : List Posting) →
    posted_at (with_entry history entry) (suc (last_place history)) posted ≡ posted_by history posted entry.cmd
unfolding posted_at
posted_grown history entry posted =
    ap₂ (λ past found. posted_in past posted found) (before_grown history entry) (at_grown history entry)

-- the last entry posts what its command posts after the entries before it
pub last_posts : (history : History) (entry : Entry) →
    postings_at (with_entry history entry) (last_place (with_entry history entry)) ≡ posted_by history (postings_of history) entry.cmd
unfolding postings_at
last_posts history entry =
    let grown = with_entry history entry in
    let count = last_place history in
    ap (λ place. posted_at grown place (postings_to grown (place - 1))) (place_grown history entry)
    ∙ ap (λ place. posted_at grown (suc count) (postings_to grown place)) (sub-one (suc count))
    ∙ ap (posted_at grown (suc count)) (postings_stay history (entry ∷ []) count (omega arith))
    ∙ posted_grown history entry (postings_of history)

-- one entry more adds what it posts to the postings before it
pub postings_grow : (history : History) (entry : Entry) →
    postings_of (with_entry history entry) ≡ postings_of history ++ posted_by history (postings_of history) entry.cmd
unfolding postings_to
postings_grow history entry =
    let grown = with_entry history entry in
    let count = last_place history in
    let stays : postings_to grown count ≡ postings_of history = postings_stay history (entry ∷ []) count (omega arith) in
    ap (postings_to grown) (place_grown history entry)
    ∙ ap₂ (◌++◌ {A = Posting}) stays (ap (posted_at grown (suc count)) stays ∙ posted_grown history entry (postings_of history))
