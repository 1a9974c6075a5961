-- The gauge lines of a site, and the tanks that their gauges are on.
use Rattle.std.specs.Prelude.{ℕ, ◌&&◌, Bool, true, not, nat_le, List, [], ◌∷◌, ◌++◌, length, map}
use Rattle.std.specs.List.{list_all}
use Rattle.gauge_maps.specs.Maps.{is_line_map}
use Rattle.gauge_maps.specs.declared.map.GaugeMap.{GaugeMap}
use Rattle.gauge_maps.specs.declared.map.LineMap.{LineMap}
use Rattle.farm_site.specs.Limits.{most_lines}
use Rattle.farm_site.specs.Numbers.{is_among}

-- the tanks that gauges are on
abbrev pub tanks_gauged : List GaugeMap → List ℕ
tanks_gauged gauges = map (λ (gauge : GaugeMap). gauge.tank) gauges

-- the tanks that lines have gauges on
abbrev pub all_gauged : List LineMap → List ℕ
all_gauged [] = []
all_gauged (line ∷ lines) = tanks_gauged line.gauges ++ all_gauged lines

-- no number stands twice
abbrev pub are_distinct : List ℕ → Bool
are_distinct [] = true
are_distinct (n ∷ numbers) = not (is_among n numbers) && are_distinct numbers

-- each of these is one of the site's tanks, and none stands twice
abbrev pub are_gauged : List ℕ → List ℕ → Bool
are_gauged tanks gauged = list_all (λ tank. is_among tank tanks) gauged && are_distinct gauged

-- at most 16 lines; each gauge is on one of these tanks, and no two are on one
abbrev pub are_lines : List ℕ → List LineMap → Bool
are_lines tanks lines = nat_le (length lines) most_lines && list_all is_line_map lines && are_gauged tanks (all_gauged lines)
