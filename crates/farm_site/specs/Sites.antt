-- A site as its definition describes it.
use Rattle.farm_site.specs.declared.site.Site.{Site}
use Rattle.farm_site.specs.Described.{Described}

-- what a site says of itself
abbrev pub described : Site → Described
described site = record {
  name = site.name;
  rounding = site.rounding;
  products = site.products;
  parties = site.parties;
  tanks = site.tanks;
  lines = site.lines;
}
