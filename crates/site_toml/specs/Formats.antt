-- The format of a site file: which keys it may have, and what they may say.
use Rattle.std.specs.Prelude.{codes, Result, Ok}
use Rattle.farm_base.specs.Steps.{◌>>=◌}
use Rattle.farm_site.specs.declared.formats.Format.{Format}
use Rattle.farm_site.specs.Formats.{format_of}
use Rattle.farm_site.specs.Limits.{most_format}
use Rattle.site_keys.specs.declared.fault.SiteFault.{SiteFault}
use Rattle.site_keys.specs.Keys.{Keys, natural_at}

-- the format of a site file, which is 1 or 2
unfoldable pub format_at : Keys → Result Format SiteFault
format_at top = do
  number ← natural_at top (codes "format") 1 most_format
  Ok (format_of number)
