-- A history: a site, and the commands that were accepted, in their order.
use Rattle.std.specs.Prelude.{ℕ, ◌-◌, ◌==◌, if◌then◌else◌, List, [], ◌∷◌, ◌++◌, length, take, Option, None, ℤ, pos, slice_get}
use Rattle.farm_fixed.specs.Range.{IsWithin}
use Rattle.farm_site.specs.Described.{Described, tank_numbered}
use Rattle.farm_site.specs.declared.items.Tank.{Tank}
use Rattle.farm_history.specs.declared.entry.Entry.{Entry}
use Rattle.farm_history.specs.Limits.{latest_moment}
use Rattle.farm_history.specs.Commands.{IsWellFormedCommand}

-- a history
pub record History : Type 0 where
  pub site : Described
  pub entries : List Entry

-- a moment that an entry may have
abbrev pub IsMoment : ℤ → Type 0
IsMoment moment = IsWithin (pos 0) latest_moment moment

-- an entry's command is well formed, and its moment is one that an entry may have
pub record IsWellFormed (entry : Entry) : Type 0 where
  pub command : IsWellFormedCommand entry.cmd
  pub moment : IsMoment entry.at

-- a history before anything was accepted
abbrev pub empty_history : Described → History
empty_history site = record { site = site; entries = [] }

-- the history of the entries before a place
abbrev pub before : History → ℕ → History
before history place = record { site = history.site; entries = take (place - 1) history.entries }

-- the history with one entry more
abbrev pub with_entry : History → Entry → History
with_entry history entry = record { site = history.site; entries = history.entries ++ entry ∷ [] }

-- the history with these entries more
abbrev pub followed_by : History → List Entry → History
followed_by history more = record { site = history.site; entries = history.entries ++ more }

-- the entry at a place; none where the history has no such place
abbrev pub entry_at : History → ℕ → Option Entry
entry_at history place = if place == 0 then None else slice_get history.entries (place - 1)

-- the number of entries, which is the last place
abbrev pub last_place : History → ℕ
last_place history = length history.entries

-- the moment of the last of these entries, or this moment where there are no entries
abbrev pub moment_after : ℤ → List Entry → ℤ
moment_after moment [] = moment
moment_after moment (entry ∷ entries) = moment_after entry.at entries

-- the moment of the last entry, 0 in a history without entries
abbrev pub last_moment : History → ℤ
last_moment history = moment_after (pos 0) history.entries

-- a tank as it stands after a history: as the site gives it
unfoldable pub tank_after : History → ℕ → Option Tank
tank_after history number = tank_numbered number history.site.tanks
