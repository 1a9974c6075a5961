-- A book stays sound with one entry more, and has the moment of its last entry.
use Rattle.std.proofs.Common.{◌≡◌, ℕ, suc, take, drop, get_or, ◌+◌, ◌-◌, ◌<◌, ◌≤◌, Bool, true, false, List, [], ◌∷◌, ◌++◌, length, Option, Some, None, ℤ, refl, arith, ap, sym, ◌∙◌, length-append}
use Rattle.std.specs.Prelude.{if◌then◌else◌, option_and_then, option_map, slice_get}
use Rattle.std.proofs.Math.Seq.{split_at}
use native.Mathlib.Numerals.{unary_clauses}
use Rattle.std.proofs.lemmas.Bool.Decides.{nat_tests}
use Rattle.farm_base.proofs.Steps.{or_else-none}
use Rattle.farm_base.specs.Steps.{or_else}
use Rattle.farm_site.specs.Described.{Described}
use Rattle.farm_history.specs.declared.command.Command.{Command}
use Rattle.farm_history.specs.declared.entry.Entry.{Entry}
use Rattle.farm_history.specs.declared.limits.TheConstants.{MOST_LIMIT, STOPS_BEYOND_LIMIT}
use Rattle.farm_history.specs.declared.rule.Rule.{Rule}
use Rattle.farm_history.specs.declared.rule.Rule.TheVariants.{HistoryFull, OutOfRange}
use Rattle.farm_history.specs.declared.verdict.Verdict.TheVariants.{Accept}
use Rattle.farm_history.specs.Commands.{is_stop}
use Rattle.farm_history.specs.Fields.{first_bad_field}
use Rattle.farm_history.specs.Gauging.{gauging_after}
use Rattle.farm_history.specs.MovementRules.{no_movement, other_product, same_tank, tank_busy, unknown_party}
use Rattle.farm_history.specs.History.{History, empty_history, last_place, moment_after, with_entry}
use Rattle.farm_history.specs.Rules.{broken_by_command, broken_by_movement, broken_by_names, broken_by_ticket, broken_rule, out_of_range, refused_gauging, unknown_tank, history_full, is_full, key_reused}
use Rattle.farm_history.specs.Sites.{AreComputable, AreRising}
use Rattle.farm_history.specs.Verdicts.{IsNext, verdict}
use Rattle.farm_history.proofs.Accepted.{unbroken}
use Rattle.farm_history.proofs.Legal.{empty_is_legal, with_next}
use Rattle.history_lookups.specs.Pasts.{IsInRange, IsReadable}
use Rattle.farm_book.specs.Kept.{IsSound}

-- a history that isn't full
not_full : (full : Bool) → (if full then Some HistoryFull else None) ≡ None → full ≡ false
not_full true none = cc
not_full false none = refl

-- has fewer entries than it may have
fewer : (limit entries : ℕ) (stop : Bool) → is_full limit entries stop ≡ false → entries < limit + STOPS_BEYOND_LIMIT
fewer limit entries stop room = grind (arith, nat_tests)

-- an accepted entry isn't of a full history, and its command breaks no rule
room_and_command : (limit : ℕ) (history : History) (entry : Entry) → verdict limit history entry ≡ Accept →
    (history_full limit history entry.cmd ≡ None) × (broken_by_command history entry.cmd ≡ None)
unfolding broken_rule
room_and_command limit history entry accepted =
    let full : Option Rule = history_full limit history entry.cmd in
    let command : Option Rule = broken_by_command history entry.cmd in
    let later = or_else-none (key_reused history entry) (or_else full command) (unbroken limit history entry accepted) in
    or_else-none full command later.1

-- an entry is accepted only where the history has fewer entries than it may have
room_of_accepted : (limit : ℕ) (history : History) (entry : Entry) → verdict limit history entry ≡ Accept →
    last_place history < limit + STOPS_BEYOND_LIMIT
unfolding history_full
room_of_accepted limit history entry accepted =
    let stop = is_stop entry.cmd in
    fewer limit (last_place history) stop (not_full (is_full limit (last_place history) stop) (room_and_command limit history entry accepted).0)

-- where no field is refused, no field is out of range
no_field : (field : Option ℕ) → option_map OutOfRange field ≡ None → field ≡ None
no_field None none = refl
no_field (Some field) none = cc

-- a command that breaks no rule has no field out of range, and breaks no rule on movements
fields_and_movements : (history : History) (command : Command) → broken_by_command history command ≡ None →
    (first_bad_field command ≡ None) × (broken_by_movement history command ≡ None)
unfolding broken_by_command out_of_range
fields_and_movements history command none =
    let moving : Option Rule = broken_by_movement history command in
    let gauging : Option Rule = option_and_then refused_gauging (gauging_after history command) in
    let after : Option Rule = or_else gauging moving in
    let ranges : Option Rule = option_map OutOfRange (first_bad_field command) in
    let parties : Option Rule = or_else (unknown_party history command) (or_else ranges after) in
    let with_tanks = (or_else-none (unknown_tank history command) parties none).1 in
    let with_party = (or_else-none (unknown_party history command) (or_else ranges after) with_tanks).1 in (
      no_field (first_bad_field command) (or_else-none ranges after with_party).0,
      (or_else-none gauging moving (or_else-none ranges after with_party).1).1,
    )

-- a command that breaks no rule on movements gives no tank twice
gives_two_tanks : (history : History) (command : Command) → broken_by_movement history command ≡ None → same_tank command ≡ None
unfolding broken_by_movement
gives_two_tanks history command none =
    let names : Option Rule = or_else (broken_by_names history command) (broken_by_ticket history command) in
    let movements : Option Rule = or_else (no_movement history command) names in
    let products : Option Rule = or_else (other_product history command) (or_else (tank_busy history command) movements) in
    (or_else-none (same_tank command) products none).0

-- an entry that could come next is in range
next_in_range : (limit : ℕ) (history : History) (entry : Entry) → IsNext limit history entry → IsInRange entry
next_in_range limit history entry next =
    let parts = fields_and_movements history entry.cmd (room_and_command limit history entry next.accepted).1 in
    record { well_formed = next.well_formed.command; fields = parts.0; two_tanks = gives_two_tanks history entry.cmd parts.1 }

-- what a sound history's entries say can be computed
pub sound_readable : (limit : ℕ) (history : History) → IsSound limit history → IsReadable history
sound_readable limit history sound = record {
  few = let few = sound.few in let within = sound.limit_within in omega arith;
  in_range = λ index default within.
      let front = take index history.entries in
      let entry = get_or history.entries index default in
      let split = split_at history.entries index default within in
      next_in_range limit (record { site = history.site; entries = front }) entry (sound.legal front (drop (suc index) history.entries) entry split);
}

-- a history without entries is sound
pub sound_empty : (limit : ℕ) (site : Described) → limit ≤ MOST_LIMIT → AreComputable site → AreRising site → IsSound limit (empty_history site)
sound_empty limit site within computable rising =
    record { limit_within = within; legal = empty_is_legal limit site; few = omega arith; computable = computable; rising = rising }

-- a sound history with an entry that could come next is sound
pub sound_more : (limit : ℕ) (history : History) (entry : Entry) → IsSound limit history → IsNext limit history entry → IsSound limit (with_entry history entry)
sound_more limit history entry sound next =
    let room = room_of_accepted limit history entry next.accepted in
    record {
      limit_within = sound.limit_within;
      legal = with_next limit history entry sound.legal next;
      few = omega (arith, length-append {A = Entry}, room);
      computable = sound.computable;
      rising = sound.rising;
    }

-- the last of entries is the last of those after the first
last_later : (first second : Entry) (entries : List Entry) →
    slice_get (first ∷ second ∷ entries) (length (first ∷ second ∷ entries) - 1) ≡ slice_get (second ∷ entries) (length (second ∷ entries) - 1)
last_later first second entries = simp unary_clauses refl

-- the moment of the last entry
pub last_moment_is : (before : ℤ) (entries : List Entry) (entry : Entry) → slice_get entries (length entries - 1) ≡ Some entry →
    moment_after before entries ≡ entry.at
last_moment_is before [] entry last = cc
last_moment_is before (first ∷ []) entry last = let same : first ≡ entry = cc in ap (λ (entry : Entry). entry.at) same
last_moment_is before (first ∷ second ∷ entries) entry last =
    last_moment_is first.at (second ∷ entries) entry (sym (last_later first second entries) ∙ last)

-- the last of entries ends them
pub last_ends : (entries : List Entry) (entry : Entry) → slice_get entries (length entries - 1) ≡ Some entry →
    (front : List Entry) × (entries ≡ front ++ entry ∷ [])
last_ends [] entry last = cc
last_ends (first ∷ []) entry last = let same : first ≡ entry = cc in ([], ap (λ (entry : Entry). entry ∷ []) same)
last_ends (first ∷ second ∷ entries) entry last =
    let later = last_ends (second ∷ entries) entry (sym (last_later first second entries) ∙ last) in
    (first ∷ later.0, ap (λ entries. first ∷ entries) later.1)
