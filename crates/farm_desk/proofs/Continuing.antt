-- How a desk continues what it was made with.
use Rattle.std.proofs.Common.{◌≡◌, inl, inr, ◌∙◌, ℕ, ◌≤◌, List, [], ◌∷◌, length, sym, ap, subst, arith}
use Rattle.std.proofs.lemmas.List.{length-take, take-append-le, take_all}
use Rattle.farm_history.specs.History.{History, last_place}
use Rattle.farm_history.specs.declared.entry.Entry.{Entry}
use Rattle.journaled_book.specs.Histories.{HasGrown, front_of}
use Rattle.farm_desk.specs.States.{Continues}
use Rattle.farm_desk.proofs.Fronts.{front_of_longer, front_whole}

-- a history that has grown continues the one that it was
pub grown_continues : (old new : History) → HasGrown old new → Continues old new
grown_continues old new (inl same) = subst (λ (history : History). Continues old history) (sym same) (front_whole old)
grown_continues old new (inr (entry, more)) =
    let all : length old.entries ≤ length old.entries = omega arith in
    subst (λ (history : History). Continues old history) (sym more)
    (ap (λ (entries : List Entry). record { site = old.site; entries = entries })
    (take-append-le (length old.entries) old.entries (entry ∷ []) all ∙ take_all (length old.entries) old.entries all))

-- what a desk was made with stays, if its history continues what it was and has the entries
pub found_stays : (old new : History) (entries : ℕ) → HasGrown old new → entries ≤ last_place old → front_of new entries ≡ front_of old entries
found_stays old new entries grown within = front_of_longer old new entries (grown_continues old new grown) within

-- a history continues its own first entries
pub begins_with : (history : History) (entries : ℕ) → entries ≤ last_place history → Continues (front_of history entries) history
begins_with history entries within =
    ap (front_of history) (length-take entries history.entries ∙ omega (arith, within))
