-- A site in the words of the rule: each of its lists has what the tables of the site file read as, each item once, in rising
-- order of number.
use Rattle.std.specs.Prelude.{◌≡◌, List, [], map, codes, Result, Ok, Err, ◌⊎◌}
use Rattle.farm_ports.specs.Folders.{File}
use Rattle.site_keys.specs.declared.fault.SiteReadFault.{SiteReadFault}
use Rattle.site_keys.specs.declared.fault.SiteReadFault.TheVariants.{Folder, NoMemory}
use Rattle.site_keys.specs.Keys.{Keys}
use Rattle.site_keys.specs.Lists.{AreItemsAt}
use Rattle.farm_site.specs.declared.formats.Format.{Format}
use Rattle.site_toml.specs.Formats.{format_at}
use Rattle.site_toml.specs.Names.{name_at}
use Rattle.farm_site.specs.Parties.{party_number}
use Rattle.site_toml.specs.Parties.{party_of}
use Rattle.farm_site.specs.Products.{product_number}
use Rattle.site_toml.specs.Products.{product_of}
use Rattle.farm_site.specs.Tanks.{tank_number}
use Rattle.site_toml.specs.Tanks.{tank_of}
use Rattle.site_lines.specs.Lines.{lines_of}
use Rattle.farm_site.specs.Described.{Described}
use Rattle.site_file.specs.Files.{top_of_files}
use Rattle.site_toml.specs.Rounding.{rounding_at}

-- a site has the name and the rounding table of its file, its lines in the order of the file, and of each other list the items
pub record IsSiteOf (files : List File) (site : Described) : Type 0 where
  pub top : Keys
  pub keys : top_of_files files ≡ Ok top
  pub format : Format
  pub of_format : format_at top ≡ Ok format
  pub name : name_at top ≡ Ok site.name
  pub rounding : rounding_at format top ≡ Ok site.rounding
  pub products : AreItemsAt product_number (product_of files []) top (codes "product") site.products
  pub parties : AreItemsAt party_number (party_of []) top (codes "party") site.parties
  pub tanks : AreItemsAt tank_number (tank_of files format site.rounding (map product_number site.products) []) top (codes "tank") site.tanks
  pub lines : lines_of (map tank_number site.tanks) top ≡ Ok site.lines

-- no site and no fault of one: the folder failed, or out of memory
abbrev pub IsStopped : {A : Type 0} → Result A SiteReadFault → Type 0
IsStopped result = (result ≡ Err Folder) ⊎ (result ≡ Err NoMemory)
