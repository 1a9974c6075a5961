-- The parties of a site: owners, carriers and others with whom oil is received and delivered.
use Rattle.std.specs.Prelude.{List, [], map, codes, Result, Ok}
use Rattle.farm_base.specs.Steps.{◌>>=◌}
use Rattle.site_keys.specs.declared.fault.SiteFault.{SiteFault}
use Rattle.farm_site.specs.declared.items.Party.{Party}
use Rattle.farm_site.specs.Parties.{party_number}
use Rattle.farm_site.specs.Limits.{most_parties}
use Rattle.site_keys.specs.Keys.{Keys}
use Rattle.site_keys.specs.Lists.{list_at, numbered_from, own_number}
use Rattle.site_toml.specs.Names.{name_at}

-- a party of a table, after others
unfoldable pub party_of : List Party → Keys → Result Party SiteFault
party_of earlier keys = do
  number ← own_number (map party_number earlier) keys
  name ← name_at keys
  Ok (record { number = number; name = name })

-- the parties, at most 256
unfoldable pub parties_of : Keys → Result (List Party) SiteFault
parties_of top = do
  tables ← list_at 0 most_parties top (codes "party")
  numbered_from party_number party_of 1 [] tables
