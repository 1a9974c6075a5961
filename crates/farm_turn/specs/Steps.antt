-- What a pass knows by each step of a turn.
use Rattle.std.specs.Prelude.{◌≡◌, ℕ, ◌+◌, ◌≤◌, ◌==◌, true, false, List, [], ◌∷◌, ◌++◌, All, MatchBool, Option, Some}
use mathlib.Core.List.{IsPrefix}
use Rattle.atomic_table.specs.Table.{Me, Step, rest}
use Rattle.farm_turn.specs.Chronicles.{Features, since}
use Rattle.farm_turn.specs.declared.views.Known.{Known}
use Rattle.farm_turn.specs.declared.views.View.{View}
use Rattle.farm_turn.specs.Views.{every, enrolled}

module _ {V E R : Type 0} (f : Features V E R) where
  -- the pass after it took the turn and found this value
  abbrev pub took : V → Known E R → Known E R
  took value k = record k { seen = f.past value; mark = f.mark value; level = f.tally value; holds = true }

  -- what a pass knows is true of a value: its past begins with what was seen, its root is the one that the pass carries, its mark and its tally are at least those seen
  pub record Precedes (value : V) (k : Known E R) : Type 0 where
    pub seen : IsPrefix k.seen (f.past value)
    pub root_is : k.root ≡ Some (f.root value)
    pub mark_seen : k.mark ≤ f.mark value
    pub level_seen : k.level ≤ f.tally value

  -- where word 0 was 0, the pass took the turn and the value, which has this root; else nothing changed
  abbrev pub TakesTurn : Option R → Step (Option V) → Me (Option V) (View E R) → ℕ → Me (Option V) (View E R) → Type 0
  TakesTurn root s me found me' =
      MatchBool (found == 0)
      ((value : V) × (me' ≡ (every (took value) me.0, (0, Some value) ∷ me.1)) × All (Precedes value) me.0.known × (Some (f.root value) ≡ root))
      (me' ≡ me)

  -- a seat of one pass took the turn and the value, which has this root
  pub record Takes (root : R) (me me' : Me (Option V) (View E R)) : Type 0 where
    pub value : V
    pub seat : me' ≡ (every (took value) me.0, (0, Some value) ∷ [])
    pub precedes : All (Precedes value) me.0.known
    pub root_is : f.root value ≡ root

-- the pass after its job left this past, raised the tally by this, and left this mark
abbrev pub counted : {E R : Type 0} → List E → ℕ → ℕ → Known E R → Known E R
counted past raised mark k =
    record k { seen = past; own = k.own ++ since k.seen past; tally = k.tally + raised; level = k.level + raised; mark = mark }

-- what the job appended was counted
abbrev pub CountsEntry : {S E R : Type 0} → List E → ℕ → ℕ → Step S → Me S (View E R) → ℕ → Me S (View E R) → Type 0
CountsEntry past raised mark s me found me' = me' ≡ (every (counted past raised mark) me.0, me.1)

-- the pass after it gave the turn back
abbrev pub gave : {E R : Type 0} → Known E R → Known E R
gave k = record k { holds = false }

-- the value went home, and the turn was given back
abbrev pub GivesTurnBack : {S E R : Type 0} → Step S → Me S (View E R) → ℕ → Me S (View E R) → Type 0
GivesTurnBack s me found me' = me' ≡ (every gave me.0, rest me.1)

-- the least number left became the pass's own
abbrev pub EnrolsPass : {S E R : Type 0} → Step S → Me S (View E R) → ℕ → Me S (View E R) → Type 0
EnrolsPass s me found me' = me' ≡ (every enrolled me.0, me.1)
