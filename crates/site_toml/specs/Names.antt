-- Names of the site, of products and of parties.
use Rattle.std.specs.Prelude.{ℕ, List, codes, Result}
use Rattle.farm_base.specs.Steps.{◌>>=◌}
use Rattle.farm_site.specs.Names.{is_name}
use Rattle.site_keys.specs.declared.fault.SiteFault.{SiteFault}
use Rattle.site_keys.specs.Faults.{ranged}
use Rattle.site_keys.specs.Keys.{Keys, text_at}

-- the name of an item
unfoldable pub name_at : Keys → Result (List ℕ) SiteFault
name_at keys = do
  name ← text_at keys (codes "name")
  ranged keys.item (is_name name) name
