-- The rule of a turn, which holds between any two steps: what word 0, word 1, the one slot and the views of all passes say of each other.
use Rattle.std.specs.Prelude.{◌≡◌, ℕ, ◌+◌, ◌<◌, ◌≤◌, true, List, [], ◌∷◌, length, All, sum_by, Option, Some, IsSome}
use mathlib.Core.Option as maybe
use mathlib.Core.Option.{none, some}
use mathlib.Core.List.{IsPrefix}
use Rattle.atomic_table.specs.Table.{State}
use Rattle.farm_turn.specs.Chronicles.{Features, since, entries_of}
use Rattle.farm_turn.specs.declared.views.Known.{Known}
use Rattle.farm_turn.specs.declared.views.View.{View}
use Rattle.farm_turn.specs.Views.{number_limit, turns, owns, has, is_number, numbers_of, all_known}

module _ {V E R : Type 0} (f : Features V E R) where
  -- the value is at home, with this past, tally and mark, and with the opening root
  pub record IsHome (opening : V) (past : List E) (tally mark : ℕ) (homes : List (maybe.Option (Option V))) : Type 0 where
    pub value : V
    pub home : homes ≡ some (Some value) ∷ []
    pub past_is : f.past value ≡ past
    pub root_is : f.root value ≡ f.root opening
    pub tally_is : f.tally value ≡ tally
    pub mark_is : f.mark value ≡ mark

  -- what the pass that has the turn knows of the value that it took
  pub record IsHolder (past : List E) (tally mark : ℕ) (k : Known E R) : Type 0 where
    pub enrolled : IsSome k.number
    pub seen : k.seen ≡ past
    pub level : k.level ≡ tally
    pub mark_is : k.mark ≡ mark

  -- what each pass knows is true of the past, the tally, the mark and the root
  pub record IsOne (opening : V) (past : List E) (tally mark : ℕ) (k : Known E R) : Type 0 where
    pub seen : IsPrefix k.seen past
    pub root_is : k.root ≡ Some (f.root opening)
    pub mark_seen : k.mark ≤ mark
    pub level_seen : k.level ≤ tally
    pub numbered : 0 < numbers_of k
    pub own_entries : k.own ≡ entries_of f.caller_of k.number (since (f.past opening) past)
    pub holder : k.holds ≡ true → IsHolder past tally mark k

  -- the rule, of the words, of the slot, and of what all passes know
  pub record IsTurn (opening : V) (words : List ℕ) (homes : List (maybe.Option (Option V))) (known : List (Known E R)) : Type 0 where
    pub past : List E
    pub tally : ℕ
    pub mark : ℕ
    pub words_are : words ≡ sum_by turns known ∷ length past ∷ []
    pub one_turn : sum_by turns known ≤ 1
    pub begins : IsPrefix (f.past opening) past
    pub each : All (IsOne opening past tally mark) known
    pub tallies : tally ≡ f.tally opening + sum_by (λ k. k.tally) known
    pub numbers : (x : ℕ) → sum_by (has x) known ≡ is_number x
    pub count : sum_by numbers_of known ≡ number_limit
    pub callers : All (λ entry. 0 < sum_by (owns (f.caller_of entry)) known) (since (f.past opening) past)
    pub at_home : sum_by turns known ≡ 0 → IsHome opening past tally mark homes
    pub away : sum_by turns known ≡ 1 → homes ≡ none ∷ []

  -- the rule, of the table
  abbrev pub KeepsTurn : V → State (Option V) (View E R) → Type 0
  KeepsTurn opening s = IsTurn opening s.words s.homes (all_known s.views)
