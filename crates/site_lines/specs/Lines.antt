-- The gauge lines of a site: devices, by their hosts and ports, and the gauges that each has.
use Rattle.std.specs.Prelude.{ℕ, ◌+◌, List, [], ◌∷◌, ◌++◌, codes, Result, Ok}
use Rattle.farm_base.specs.Steps.{◌>>=◌}
use Rattle.toml.specs.Data.{Data}
use Rattle.gauge_maps.specs.Limits.{most_port, most_gauges}
use Rattle.gauge_maps.specs.Maps.{is_host}
use Rattle.gauge_maps.specs.declared.map.LineMap.{LineMap}
use Rattle.site_keys.specs.declared.fault.SiteFault.{SiteFault}
use Rattle.site_keys.specs.Faults.{ranged}
use Rattle.site_keys.specs.Keys.{Keys, keys_of, natural_at, text_at}
use Rattle.site_keys.specs.Lists.{list_at}
use Rattle.farm_site.specs.Limits.{most_lines}
use Rattle.site_lines.specs.Gauges.{gauges_from}
use Rattle.farm_site.specs.Lines.{tanks_gauged}

-- a host
unfoldable pub host_at : Keys → Result (List ℕ) SiteFault
host_at keys = do
  host ← text_at keys (codes "host")
  ranged keys.item (is_host host) host

-- a line of a table, after lines with gauges on these tanks
unfoldable pub line_of : List ℕ → List ℕ → Keys → Result LineMap SiteFault
line_of tanks gauged keys = do
  host ← host_at keys
  port ← natural_at keys (codes "port") 1 most_port
  tables ← list_at 1 most_gauges keys (codes "gauge")
  gauges ← gauges_from keys.item tanks gauged [] tables
  Ok (record { host = host; port = port; gauges = gauges })

-- the lines, each with its number, after others
abbrev pub lines_from : List ℕ → ℕ → List ℕ → List LineMap → List Data → Result (List LineMap) SiteFault
lines_from tanks item gauged done [] = Ok done
lines_from tanks item gauged done (value ∷ others) = do
  line ← line_of tanks gauged (keys_of item value)
  lines_from tanks (item + 1) (gauged ++ tanks_gauged line.gauges) (done ++ line ∷ []) others

-- the lines, at most 16
unfoldable pub lines_of : List ℕ → Keys → Result (List LineMap) SiteFault
lines_of tanks top = do
  tables ← list_at 0 most_lines top (codes "line")
  lines_from tanks 1 [] [] tables
