-- Reading a site from its bytes, part by part.
use Rattle.std.specs.Prelude.{◌≡◌, ℕ, ◌==◌, Bool, if◌then◌else◌, List, length, Result, Ok, Err}
use Rattle.farm_base.specs.Steps.{◌>>=◌}
use Rattle.farm_rounding.specs.Table.{Row}
use Rattle.gauge_maps.specs.declared.map.LineMap.{LineMap}
use Rattle.site_decoding.specs.declared.fault.SiteBytesFault.{SiteBytesFault}
use Rattle.site_decoding.specs.declared.fault.SiteBytesFault.TheVariants.{BadSite}
use Rattle.site_decoding.specs.ByteReaders.{Reader, made_at, tested_at, then_at}
use Rattle.site_decoding.specs.Decoding.{head_at, lines_at, parties_at, products_at, tanks_at}
use Rattle.farm_site.specs.declared.formats.Format.{Format}
use Rattle.farm_site.specs.declared.items.Party.{Party}
use Rattle.farm_site.specs.declared.items.Product.{Product}
use Rattle.farm_site.specs.declared.items.Tank.{Tank}
use Rattle.farm_site.specs.Described.{Described, IsSite}
use Rattle.farm_site.specs.Formats.{format_needed, is_same_format}
use Rattle.site_encoding.specs.Encoding.{site_encoding}

-- the five parts of a site, the first with the format
abbrev pub Parts : Type 0
Parts = (Format × (List ℕ × List Row)) × (List Product × (List Party × (List Tank × List LineMap)))

-- the site of its parts
abbrev pub site_of : Parts → Described
site_of f = record { name = f.0.1.0; rounding = f.0.1.1; products = f.1.0; parties = f.1.1.0; tanks = f.1.1.1.0; lines = f.1.1.1.1 }

-- the format is the one that the site needs
abbrev pub is_in_format : Parts → Bool
is_in_format f = is_same_format f.0.0 (format_needed f.0.1.1 f.1.1.1.0)

-- the parts of a site: the tanks are read by the format and the products, and the lines by the tanks
unfoldable pub parts_at : Reader Parts
parts_at =
    then_at head_at (λ head. then_at products_at (λ products. then_at parties_at (λ parties.
    then_at (tanks_at head.0 products) (λ tanks. lines_at tanks))))

-- a site, in the format that it needs
unfoldable pub site_at : Reader Described
site_at = made_at site_of (tested_at is_in_format parts_at)

-- the site that bytes are, with none after it
unfoldable pub whole_site : List ℕ → Result Described SiteBytesFault
whole_site bytes = site_at bytes >>= λ read. if length read.1 == 0 then Ok read.0 else Err BadSite

-- two sites with the same bytes are one
abbrev pub OneEncoding : Type 0
OneEncoding = (first second : Described) → IsSite first → IsSite second → site_encoding first ≡ site_encoding second → first ≡ second
