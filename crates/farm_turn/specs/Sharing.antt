-- What the calls of a turn promise.
use Rattle.std.specs.Prelude.{◌≡◌, ℕ, ◌+◌, ◌≤◌, List, [], ◌∷◌, ◌++◌, All, Any, sum_by, Some}
use mathlib.Core.List.{IsPrefix}
use Rattle.atomic_table.specs.Table.{Me}
use Rattle.atomic_table.specs.Seated.{TableId}
use Rattle.farm_turn.specs.Chronicles.{Features, GrowsBy, since, entries_of}
use Rattle.farm_turn.specs.declared.views.Known.{Known}
use Rattle.farm_turn.specs.declared.views.View.{View}
use Rattle.farm_turn.specs.Views.{PassView, known_of, has, is_number}

-- a table of a turn has two words and one slot
abbrev pub IsSized : TableId → Type 0
IsSized table = (table.words ≡ 2) × (table.slots ≡ 1)

-- what the one pass of a seat knows
abbrev pub only : {S E R : Type 0} → Me S (View E R) → Known E R
only me = known_of (me.0 ∷ [])

-- the numbers and the root of a pass are as before
pub record KeepsNumbers {E R : Type 0} (old new : Known E R) : Type 0 where
  pub number : new.number ≡ old.number
  pub next : new.next ≡ old.next
  pub end : new.end ≡ old.end
  pub root : new.root ≡ old.root

module _ {V E R : Type 0} (f : Features V E R) where
  -- the job ran once, on a value that has the opening root and that no pass sees but this one: its past begins with what the pass had seen.
  -- Afterwards the pass has seen the past that the job left, and the mark and the tally that it left; its own entries and its own tally grew by what the job appended and raised
  pub record Turned {J : Type 0} (does : J → ℕ → V → J → V → Type 0) (opening : V) (job job' : J) (old new : Known E R) : Type 0 where
    pub before : V
    pub after : V
    pub caller : ℕ
    pub number : old.number ≡ Some caller
    pub ran : does job caller before job' after
    pub grows : GrowsBy f.caller_of caller (f.past before) (f.past after)
    pub root_before : f.root before ≡ f.root opening
    pub root_after : f.root after ≡ f.root opening
    pub tally_rises : f.tally before ≤ f.tally after
    pub mark_rises : f.mark before ≤ f.mark after
    pub begins : IsPrefix old.seen (f.past before)
    pub mark_seen : old.mark ≤ f.mark before
    pub level_seen : old.level ≤ f.tally before
    pub seen : new.seen ≡ f.past after
    pub mark_is : new.mark ≡ f.mark after
    pub level_is : new.level ≡ f.tally after
    pub own_entries : new.own ≡ old.own ++ since (f.past before) (f.past after)
    pub tally : new.tally + f.tally before ≡ old.tally + f.tally after

  -- the value at the end, of the passes that were handed in
  pub record IsClosed (opening : V) (passes : List (PassView E R)) (value : V) : Type 0 where
    pub root_is : f.root value ≡ f.root opening
    pub begins : IsPrefix (f.past opening) (f.past value)
    pub seen : All (λ p. IsPrefix p.known.seen (f.past value)) passes
    pub marks : All (λ p. p.known.mark ≤ f.mark value) passes
    pub levels : All (λ p. p.known.level ≤ f.tally value) passes
    pub tally : f.tally value ≡ f.tally opening + sum_by (λ p. p.known.tally) passes
    pub numbers : (x : ℕ) → sum_by (λ p. has x p.known) passes ≡ is_number x
    pub own_entries : All (λ p. p.known.own ≡ entries_of f.caller_of p.known.number (since (f.past opening) (f.past value))) passes
    pub callers : All (λ entry. Any (λ p. p.known.number ≡ Some (f.caller_of entry)) passes) (since (f.past opening) (f.past value))
