-- The desk keeps a legal history legal.
use Rattle.std.proofs.Common.{◌≡◌, ◌⊎◌, inl, inr, ℕ, Bool, true, false, if◌then◌else◌, List, [], ◌∷◌, ◌++◌, ℤ, pos, ◌≤ℤ◌, int_lt, refl, ap, sym, subst, arith}
use Rattle.std.proofs.lemmas.Int.{ints}
use Rattle.farm_site.specs.Described.{Described}
use Rattle.farm_history.specs.declared.ask.Ask.TheVariants.{Do}
use Rattle.farm_history.specs.declared.command.Command.{Command}
use Rattle.farm_history.specs.declared.entry.Entry.{Entry}
use Rattle.farm_history.specs.declared.limits.TheConstants.{LAST_MOMENT}
use Rattle.farm_history.specs.declared.verdict.Verdict.{Verdict}
use Rattle.farm_history.specs.declared.verdict.Verdict.TheVariants.{Repeat, Refused, Accept}
use Rattle.farm_history.specs.Commands.{IsWellFormedCommand}
use Rattle.farm_history.specs.Desk.{answered_on, brought_into_range, desk_answer, later_of, stamped, stamped_moment}
use Rattle.farm_history.specs.History.{History, IsMoment, empty_history, last_moment, moment_after, with_entry}
use Rattle.farm_history.specs.Verdicts.{IsLegal, IsNext, verdict}

-- where an item stands in a list with one item more: it is the last, or it stands in the list
record IsLast {A : Type 0} (items front : List A) (item last : A) : Type 0 where
  front_is : front ≡ items
  item_is : item ≡ last

-- an item stands in a list after these
record IsIn {A : Type 0} (items front : List A) (item : A) : Type 0 where
  back : List A
  split : items ≡ front ++ item ∷ back

-- no list with an item in it is empty
not_empty : {A : Type 0} (front back : List A) (item : A) → [] ≡ front ++ item ∷ back → ⊥
not_empty [] back item e = cc
not_empty (other ∷ front) back item e = cc

-- an item of a list with one more is the last, or stands in the list
where_in : {A : Type 0} (items front back : List A) (item last : A) → items ++ last ∷ [] ≡ front ++ item ∷ back →
    IsLast items front item last ⊎ IsIn items front item
where_in [] [] back item last e = let same : item ≡ last = cc in inl (record { front_is = refl; item_is = same })
where_in [] (other ∷ front) back item last e = let rest : [] ≡ front ++ item ∷ back = cc in absurd (not_empty front back item rest)
where_in (first ∷ items) [] back item last e =
    let same : first ≡ item = cc in inr (record { back = items; split = ap (λ i. i ∷ items) same })
where_in (first ∷ items) (other ∷ front) back item last e =
    let same : first ≡ other = cc in
    let rest : items ++ last ∷ [] ≡ front ++ item ∷ back = cc in
    elim (where_in items front back item last rest) [
      | inl w ↦
          let fronts = w.front_is in
          let joined : other ∷ front ≡ first ∷ items = cc in
          inl (record { front_is = joined; item_is = w.item_is })
      | inr w ↦
          let split = w.split in
          let joined : first ∷ items ≡ (other ∷ front) ++ item ∷ w.back = cc in
          inr (record { back = w.back; split = joined })
    ]

-- a history before anything was accepted is legal
pub empty_is_legal : (limit : ℕ) (site : Described) → IsLegal limit (empty_history site)
empty_is_legal limit site front back entry split = absurd (not_empty front back entry split)

-- an entry that may come next after a legal history leaves one
pub with_next : (limit : ℕ) (history : History) (entry : Entry) → IsLegal limit history → IsNext limit history entry →
    IsLegal limit (with_entry history entry)
with_next limit history entry legal next front back other split = elim (where_in history.entries front back other entry split) [
  | inl w ↦
      let Next : List Entry → Type 0 = λ entries. IsNext limit (record { site = history.site; entries = entries }) other in
      let NextEntry : Entry → Type 0 = λ item. IsNext limit history item in
      subst Next (sym w.front_is) (subst NextEntry (sym w.item_is) next)
  | inr w ↦ legal front w.back other w.split
]

-- the moment of the last of some entries, all of which have moments
moment_of_last : (moment : ℤ) (entries : List Entry) → IsMoment moment →
    ((front back : List Entry) (entry : Entry) → entries ≡ front ++ entry ∷ back → IsMoment entry.at) → IsMoment (moment_after moment entries)
moment_of_last moment [] is each = is
moment_of_last moment (entry ∷ entries) is each =
    moment_of_last entry.at entries (each [] entries entry refl)
    (λ front back other split. each (entry ∷ front) back other (ap (λ items. entry ∷ items) split))

-- the last moment of a legal history is one
last_is_moment : (limit : ℕ) (history : History) → IsLegal limit history → IsMoment (last_moment history)
last_is_moment limit history legal =
    moment_of_last (pos 0) history.entries (record { low = grind (arith, ints); high = grind (arith, ints) })
    (λ front back entry split. (legal front back entry split).well_formed.moment)

-- a number of the clock that is brought into range is a moment
brought_is_moment : (now : ℤ) → IsMoment (brought_into_range now)
brought_is_moment now = by (int_lt now (pos 0)) (int_lt LAST_MOMENT now) refl refl
  where
    by : (early late : Bool) → int_lt now (pos 0) ≡ early → int_lt LAST_MOMENT now ≡ late →
        IsMoment (if early then pos 0 else (if late then LAST_MOMENT else now))
    by true late e f = record { low = grind (arith, ints); high = grind (arith, ints) }
    by false true e f = record { low = grind (arith, ints); high = grind (arith, ints) }
    by false false e f = record { low = grind (arith, ints); high = grind (arith, ints) }

-- the later of two moments
record IsLater (first second later : ℤ) : Type 0 where
  moment : IsMoment first → IsMoment second → IsMoment later
  not_before : first ≤ℤ later

-- is one of them, and not before the first
later_is : (first second : ℤ) → IsLater first second (later_of first second)
later_is first second = by (int_lt first second) refl
  where
    by : (b : Bool) → int_lt first second ≡ b → IsLater first second (if b then second else first)
    by true e = record { moment = λ a b. b; not_before = grind (arith, ints) }
    by false e = record { moment = λ a b. a; not_before = grind (arith, ints) }

-- an accepted entry with the stamped moment may come next
stamped_next : (limit : ℕ) (history : History) (caller account key : ℕ) (now : ℤ) (command : Command) → IsLegal limit history →
    IsWellFormedCommand command → verdict limit history (stamped history caller now account key command) ≡ Accept →
    IsNext limit history (stamped history caller now account key command)
unfolding stamped_moment
stamped_next limit history caller account key now command legal formed accepted =
    let later = later_is (last_moment history) (brought_into_range now) in
    record {
      accepted = accepted;
      well_formed = record {
        command = formed;
        moment = later.moment (last_is_moment limit history legal) (brought_is_moment now);
      };
      moment = later.not_before;
    }

-- the desk keeps a legal history legal
pub desk_keeps_legal : (limit : ℕ) (history : History) (caller account key : ℕ) (now : ℤ) (command : Command) → IsLegal limit history →
    IsWellFormedCommand command → IsLegal limit (desk_answer limit history caller now (Do account key command)).history
unfolding desk_answer
desk_keeps_legal limit history caller account key now command legal formed =
    let entry = stamped history caller now account key command in by (verdict limit history entry) refl
  where
    by : (v : Verdict) → verdict limit history (stamped history caller now account key command) ≡ v →
        IsLegal limit (answered_on history (stamped history caller now account key command) v).history
    by (Repeat place) e = legal
    by (Refused rule) e = legal
    by Accept e =
        let entry = stamped history caller now account key command in
        with_next limit history entry legal (stamped_next limit history caller account key now command legal formed e)
