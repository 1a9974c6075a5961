-- What a caller has seen of a history, after its turn and before it.
use Rattle.std.proofs.Common.{◌≡◌, ◌∙◌, ℕ, ◌≤◌, ◌||◌, List, length, take, drop, sym, ap, ap₂, arith}
use Rattle.std.proofs.Math.Seq.{drop-append_seam}
use Rattle.std.proofs.lemmas.List.{drop-append-le, take-append-le, take_all}
use Rattle.std.proofs.lemmas.List.Folds.{list_any-append}
use mathlib.Core.List.{IsPrefix}
use Rattle.farm_history.specs.Commands.{is_stop}
use Rattle.farm_history.specs.History.{History}
use Rattle.farm_history.specs.declared.entry.Entry.{Entry}
use Rattle.farm_desk.specs.States.{Continues}
use Rattle.desk_access.specs.Access.{has_stop}

-- the first entries of a list that begins with others are these
take_prefix : (first all : List Entry) → IsPrefix first all → take (length first) all ≡ first
take_prefix first all prefix =
    let whole : length first ≤ length first = omega arith in
    ap (take (length first)) (sym prefix.1) ∙ take-append-le (length first) first prefix.0 whole ∙ take_all (length first) first whole

-- a history of the same site that begins with the entries of another continues it
pub continues_by : (first next : History) → next.site ≡ first.site → IsPrefix first.entries next.entries → Continues first next
continues_by first next site prefix =
    ap₂ (λ place (entries : List Entry). record { site = place; entries = entries }) site (take_prefix first.entries next.entries prefix)

-- a history that continues another has its site
pub same_site : (first next : History) → Continues first next → next.site ≡ first.site
same_site first next continues = ap (λ (history : History). history.site) continues

-- a Stop is among the entries after a place if one was among those looked at, or is among those after them
pub stop_on : (opened : ℕ) (looked all : List Entry) → opened ≤ length looked → IsPrefix looked all →
    has_stop (drop opened all) ≡ (has_stop (drop opened looked) || has_stop (drop (length looked) all))
stop_on opened looked all within prefix =
    ap (λ (entries : List Entry). has_stop (drop opened entries)) (sym prefix.1)
    ∙ ap has_stop (drop-append-le opened looked prefix.0 within)
    ∙ list_any-append (λ (entry : Entry). is_stop entry.cmd) (drop opened looked) prefix.0
    ∙ ap (λ (rest : List Entry). has_stop (drop opened looked) || has_stop rest)
    (sym (ap (drop (length looked)) (sym prefix.1) ∙ drop-append_seam looked prefix.0))
