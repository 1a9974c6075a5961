-- A request that was accepted is answered again with its first reply, and in a legal history a key acts once.
use Rattle.std.proofs.Common.{All, ◌≡◌, ℕ, ◌+◌, ◌≤◌, ◌&&◌, ◌==◌, IsFalse, IsTrue, Contains, List, [], ◌∷◌, ◌++◌, Option, Some, None, ℤ, option_map, refl, ap, ap₂, sym, ◌∙◌, append_assoc, length-append, subst, arith}
use Rattle.std.proofs.lemmas.Bool.{and_from, and_parts, both_ways, eq-eqb, eqb-true}
use Rattle.std.proofs.lemmas.List.Elements.{All-contains, Contains-append_right}
use Rattle.farm_base.proofs.Steps.{or_else-none}
use Rattle.farm_base.specs.Steps.{or_else}
use Rattle.farm_history.specs.declared.ask.Ask.TheVariants.{Do}
use Rattle.farm_history.specs.declared.command.Command.{Command}
use Rattle.farm_history.specs.declared.entry.Entry.{Entry}
use Rattle.farm_history.specs.declared.reply.Reply.{Reply}
use Rattle.farm_history.specs.declared.rule.Rule.{Rule}
use Rattle.farm_history.specs.declared.rule.Rule.TheVariants.{KeyReused}
use Rattle.farm_history.specs.declared.verdict.Verdict.TheVariants.{Repeat, Accept}
use Rattle.farm_history.specs.Commands.{is_same_command}
use Rattle.farm_history.specs.Desk.{Answered, answered_on, desk_answer, reply_at, reply_of, stamped}
use Rattle.farm_history.specs.History.{History, followed_by, last_place, with_entry}
use Rattle.farm_history.specs.Places.{first_place}
use Rattle.farm_history.specs.Rules.{broken_by_command, broken_rule, history_full, is_repeat, key_reused, has_same_key}
use Rattle.farm_history.specs.Verdicts.{IsLegal, refused_or_accepted, repeated_or, verdict}
use Rattle.farm_history.proofs.Places.{none_before, place_after}
use Rattle.farm_history.proofs.Accepted.{unbroken}
use Rattle.farm_history.proofs.PostingsStay.{gain_stays}
use Rattle.farm_history.proofs.SameCommands.{commands_decided}
use Rattle.farm_history.proofs.Stays.{ticket_stays}

-- an accepted entry repeats no entry
accepted_new : (limit : ℕ) (history : History) (entry : Entry) → verdict limit history entry ≡ Accept →
    first_place (is_repeat entry) history.entries ≡ None
unfolding verdict
accepted_new limit history entry accepted =
    by (first_place (is_repeat entry) history.entries) (broken_rule limit history entry) accepted
  where
    by : (o : Option ℕ) (r : Option Rule) → repeated_or o (refused_or_accepted r) ≡ Accept → o ≡ None
    by None r e = refl
    by (Some place) r e = cc

-- where no rule is broken at a place, there is no place
no_key : (o : Option ℕ) → option_map KeyReused o ≡ None → o ≡ None
no_key None none = refl
no_key (Some place) none = cc

-- where no rule is broken, the key is new
key_new : (limit : ℕ) (history : History) (entry : Entry) → broken_rule limit history entry ≡ None →
    first_place (has_same_key entry) history.entries ≡ None
unfolding broken_rule key_reused
key_new limit history entry none =
    let key = first_place (has_same_key entry) history.entries in
    let rest = or_else (history_full limit history entry.cmd) (broken_by_command history entry.cmd) in
    no_key key (or_else-none (option_map KeyReused key) rest none).0

-- no entry has the account and the key of an accepted one
pub new_key : (limit : ℕ) (history : History) (entry : Entry) → verdict limit history entry ≡ Accept →
    All (λ other. IsFalse (has_same_key entry other)) history.entries
new_key limit history entry accepted =
    none_before (has_same_key entry) history.entries (key_new limit history entry (unbroken limit history entry accepted))

-- an account and a key are the same from both sides
keys_turn : (first second : Entry) → IsTrue (has_same_key first second) → IsTrue (has_same_key second first)
keys_turn first second same =
    let parts = and_parts (second.account == first.account) (second.key == first.key) same in
    and_from (first.account == second.account) (first.key == second.key)
    (eq-eqb first.account second.account (sym (eqb-true second.account first.account parts.0)))
    (eq-eqb first.key second.key (sym (eqb-true second.key first.key parts.1)))

-- a list contains its first item
first_contained : (item : Entry) (items : List Entry) → Contains (item ∷ items) item
first_contained item items = (0, omega arith, refl)

-- no entry before an accepted one has its account and key
none_same : (limit : ℕ) (history : History) (entry other : Entry) (front back : List Entry) → verdict limit history entry ≡ Accept →
    history.entries ≡ front ++ other ∷ back → IsFalse (has_same_key entry other)
none_same limit history entry other front back accepted split =
    let apart = new_key limit history entry accepted in
    let contained = Contains-append_right front (other ∷ back) other (first_contained other back) in
    All-contains (λ item. IsFalse (has_same_key entry item)) history.entries other apart
    (subst (λ items. Contains items other) (sym split) contained)

-- under one account and key a legal history has one entry at most
pub keys_act_once : (limit : ℕ) (history : History) (front middle back : List Entry) (first second : Entry) →
    IsLegal limit history → history.entries ≡ front ++ first ∷ (middle ++ second ∷ back) → ¬ (IsTrue (has_same_key first second))
keys_act_once limit history front middle back first second legal split same =
    let joined : history.entries ≡ (front ++ first ∷ middle) ++ second ∷ back =
    split ∙ sym (append_assoc front (first ∷ middle) (second ∷ back)) in
    let next = legal (front ++ first ∷ middle) back second joined in
    let before : History = record { site = history.site; entries = front ++ first ∷ middle } in
    both_ways (has_same_key second first) (none_same limit before second first front middle next.accepted refl) (keys_turn first second same)

-- a request is a repeat of the entry that it was accepted as
repeats_itself : (history later : History) (caller again account key : ℕ) (now then : ℤ) (command : Command) →
    IsTrue (is_repeat (stamped later again then account key command) (stamped history caller now account key command))
repeats_itself history later caller again account key now then command =
    and_from (account == account && key == key) (is_same_command command command)
    (and_from (account == account) (key == key) (eq-eqb account account refl) (eq-eqb key key refl))
    ((commands_decided command command).1 refl)

-- after it was accepted, and whatever was entered after it, the verdict on the request is the place of its entry
again_repeats : (limit : ℕ) (history later : History) (caller again account key : ℕ) (now then : ℤ) (command : Command) (back : List Entry) →
    let entry = stamped history caller now account key command in
    verdict limit history entry ≡ Accept → later.entries ≡ history.entries ++ entry ∷ back →
    verdict limit later (stamped later again then account key command) ≡ Repeat (last_place history + 1)
unfolding verdict
again_repeats limit history later caller again account key now then command back accepted split =
    let entry = stamped history caller now account key command in
    let repeat = stamped later again then account key command in
    let new = accepted_new limit history entry accepted in
    let found = place_after (is_repeat repeat) history.entries entry back (none_before (is_repeat entry) history.entries new)
    (repeats_itself history later caller again account key now then command) in
    ap (λ o. repeated_or o (refused_or_accepted (broken_rule limit later repeat))) (ap (first_place (is_repeat repeat)) split ∙ found)

-- the answer to a request that is accepted
answered_first : (limit : ℕ) (history : History) (caller account key : ℕ) (now : ℤ) (command : Command) →
    let entry = stamped history caller now account key command in
    verdict limit history entry ≡ Accept →
    desk_answer limit history caller now (Do account key command)
    ≡ record { reply = reply_at (with_entry history entry) (last_place history + 1); history = with_entry history entry }
unfolding desk_answer
answered_first limit history caller account key now command accepted =
    ap (answered_on history (stamped history caller now account key command)) accepted

-- the answer to the same request later
answered_again : (limit : ℕ) (history later : History) (caller again account key : ℕ) (now then : ℤ) (command : Command) (back : List Entry) →
    let entry = stamped history caller now account key command in
    verdict limit history entry ≡ Accept → later.entries ≡ history.entries ++ entry ∷ back →
    desk_answer limit later again then (Do account key command)
    ≡ record { reply = reply_at later (last_place history + 1); history = later }
unfolding desk_answer
answered_again limit history later caller again account key now then command back accepted split =
    ap (answered_on later (stamped later again then account key command))
    (again_repeats limit history later caller again account key now then command back accepted split)

-- the reply for an entry stays what it is when entries follow
reply_stays : (history : History) (entry : Entry) (more : List Entry) →
    reply_at (followed_by (with_entry history entry) more) (last_place history + 1)
    ≡ reply_at (with_entry history entry) (last_place history + 1)
unfolding reply_at
reply_stays history entry more =
    let place = last_place history + 1 in
    let within : place ≤ last_place (with_entry history entry) = omega (arith, length-append history.entries (entry ∷ [])) in
    ap₂ (λ ticket gain. reply_of ticket gain place) (ticket_stays (with_entry history entry) more place within)
    (gain_stays (with_entry history entry) more place within)

-- a request that was accepted is answered again with its first reply, and changes nothing
pub repeats_change_nothing :
    (limit : ℕ) (history : History) (caller again account key : ℕ) (now then : ℤ) (command : Command) (more : List Entry) →
    verdict limit history (stamped history caller now account key command) ≡ Accept →
    let first = desk_answer limit history caller now (Do account key command) in
    let later = followed_by first.history more in
    desk_answer limit later again then (Do account key command) ≡ record { reply = first.reply; history = later }
repeats_change_nothing limit history caller again account key now then command more accepted =
    let entry = stamped history caller now account key command in
    let after = followed_by (with_entry history entry) more in
    let answered : Reply → Answered = λ reply. record { reply = reply; history = after } in
    let Same : Answered → Type 0 = λ first.
    let later = followed_by first.history more in
    desk_answer limit later again then (Do account key command) ≡ record { reply = first.reply; history = later } in
    subst Same (sym (answered_first limit history caller account key now command accepted))
    (answered_again limit history after caller again account key now then command more accepted
    (append_assoc history.entries (entry ∷ []) more) ∙ ap answered (reply_stays history entry more))
