-- A site and the entries of its history, as the definitions of a history describe them.
use Rattle.std.specs.Prelude.{◌≡◌, ◌+◌, ◌≤◌, All, List, None}
use Rattle.farm_site.specs.declared.site.Site.{Site}
use Rattle.farm_site.specs.Sites.{described}
use Rattle.farm_history.specs.declared.entry.Entry.{Entry}
use Rattle.farm_history.specs.Limits.{most_limit, stops_beyond_limit}
use Rattle.farm_history.specs.Commands.{IsWellFormedCommand}
use Rattle.farm_history.specs.Fields.{first_bad_field}
use Rattle.farm_history.specs.History.{History, last_place}
use Rattle.farm_history.specs.MovementRules.{same_tank}

-- the history of a site with these entries
abbrev pub history_of : Site → List Entry → History
history_of site entries = record { site = described site; entries = entries }

-- an entry's command is well formed, none of its fields is out of range, and a transfer gives two tanks
pub record IsInRange (entry : Entry) : Type 0 where
  pub well_formed : IsWellFormedCommand entry.cmd
  pub fields : first_bad_field entry.cmd ≡ None
  pub two_tanks : same_tank entry.cmd ≡ None

-- a history has no more entries than one may have, and none is out of range, as in every history of accepted entries
pub record IsReadable (history : History) : Type 0 where
  pub few : last_place history ≤ most_limit + stops_beyond_limit
  pub in_range : All IsInRange history.entries
