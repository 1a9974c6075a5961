-- The parties of a site: owners, carriers and others with whom oil is received and delivered.
use Rattle.std.specs.Prelude.{ℕ, ◌&&◌, Bool}
use Rattle.farm_fixed.specs.Range.{is_between}
use Rattle.farm_site.specs.declared.items.Party.{Party}
use Rattle.farm_site.specs.Limits.{most_number}
use Rattle.farm_site.specs.Names.{is_name}

-- the number of a party
abbrev pub party_number : Party → ℕ
party_number party = party.number

-- a party has a number and a name
abbrev pub is_party : Party → Bool
is_party party = is_between 1 most_number party.number && is_name party.name
