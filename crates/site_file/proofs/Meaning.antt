-- A site that files describe is one in the words of the rule.
use Rattle.std.proofs.Common.{◌≡◌, ℕ, true, List, [], map, length, codes, nat_le, Option, Some, None, Ok, Err, refl, subst, inl, inr}
use Rattle.std.specs.Prelude.{Result, MatchResult, IfOk}
use Rattle.std.specs.List.{list_all}
use Rattle.std.proofs.lemmas.Bool.{and_parts}
use Rattle.site_keys.specs.Keys.{Keys}
use Rattle.farm_base.specs.Known.{WhereKnown}
use Rattle.farm_base.specs.Steps.{IsRefusedAs}
use Rattle.farm_fixed.specs.Range.{is_between}
use Rattle.farm_ports.specs.Folders.{File}
use Rattle.farm_rounding.specs.Table.{Row}
use Rattle.site_keys.specs.declared.fault.SiteFault.{SiteFault}
use Rattle.site_keys.specs.declared.fault.SiteReadFault.{SiteReadFault}
use Rattle.site_keys.specs.declared.fault.SiteReadFault.TheVariants.{NoMemory, Folder, Bad}
use Rattle.site_keys.specs.Faults.{Refusal, Faulty, Missing, IsMissing, found, refusal_of}
use Rattle.site_keys.specs.Files.{content}
use Rattle.site_keys.specs.Lists.{AreItemsAt, list_at, own_number}
use Rattle.farm_site.specs.Numbers.{are_numbered, rises}
use Rattle.site_keys.proofs.ListMembers.{both_went, found_there, listed_there, own_alone, same_members}
use Rattle.farm_site.specs.declared.formats.Format.{Format}
use Rattle.farm_site.specs.declared.limits.TheConstants.{MOST_PARTIES, MOST_PRODUCTS, MOST_TANKS}
use Rattle.farm_site.specs.declared.items.Party.{Party}
use Rattle.farm_site.specs.declared.items.Product.{Product}
use Rattle.farm_site.specs.declared.items.Tank.{Tank}
use Rattle.farm_site.specs.Facts.{are_parties, are_products, are_tanks}
use Rattle.site_toml.specs.Formats.{format_at}
use Rattle.site_toml.specs.Names.{name_at}
use Rattle.farm_site.specs.Parties.{is_party, party_number}
use Rattle.site_toml.specs.Parties.{parties_of, party_of}
use Rattle.farm_site.specs.Products.{is_product, product_number}
use Rattle.site_toml.specs.Products.{product_of, products_of}
use Rattle.farm_site.specs.Tanks.{is_tank, tank_number}
use Rattle.site_toml.specs.Tanks.{tank_of, tanks_of}
use Rattle.site_lines.specs.Lines.{lines_of}
use Rattle.farm_site.specs.declared.site.Site.{Site}
use Rattle.farm_site.specs.Sites.{described}
use Rattle.farm_site.specs.Described.{Described}
use Rattle.site_file.specs.Files.{site_of_files, site_of_keys, top_of_files}
use Rattle.site_file.specs.Members.{IsSiteOf, IsStopped}
use Rattle.site_toml.specs.Rounding.{rounding_at}

-- a product is read the same where there are no earlier ones
product_alone : (files : List File) (earlier : List Product) (keys : Keys) (product : Product) →
    product_of files earlier keys ≡ Ok product → product_of files [] keys ≡ Ok product
unfolding product_of
product_alone files earlier keys product is =
    let went = both_went (found (own_number (map product_number earlier) keys)) _ product is in
    let number = own_alone (map product_number earlier) keys went.0 (found_there _ went.0 went.1) in
    rw number went.2

-- a party is
party_alone : (earlier : List Party) (keys : Keys) (party : Party) → party_of earlier keys ≡ Ok party → party_of [] keys ≡ Ok party
unfolding party_of
party_alone earlier keys party is =
    let went = both_went (own_number (map party_number earlier) keys) _ party is in
    let number = own_alone (map party_number earlier) keys went.0 went.1 in
    rw number went.2

-- a tank is
tank_alone : (files : List File) (format : Format) (rounding : List Row) (products : List ℕ) (earlier : List Tank) (keys : Keys) (tank : Tank) →
    tank_of files format rounding products earlier keys ≡ Ok tank → tank_of files format rounding products [] keys ≡ Ok tank
unfolding tank_of
tank_alone files format rounding products earlier keys tank is =
    let went = both_went (found (own_number (map tank_number earlier) keys)) _ tank is in
    let number = own_alone (map tank_number earlier) keys went.0 (found_there _ went.0 went.1) in
    rw number went.2

-- the products of a site file
products_listed : (files : List File) (top : Keys) (products : List Product) → products_of files top ≡ Ok products → are_products products ≡ true →
    AreItemsAt product_number (product_of files []) top (codes "product") products
unfolding products_of
products_listed files top products is facts =
    let went = both_went (found (list_at 1 MOST_PRODUCTS top (codes "product"))) _ products is in
    let listed = listed_there 1 MOST_PRODUCTS top (codes "product") went.0 (found_there _ went.0 went.1) in
    let members = same_members product_number (product_of files) (product_alone files) 1 [] went.0 products went.2 in
    let numbered = and_parts (is_between 1 MOST_PRODUCTS (length products)) (are_numbered product_number is_product products) facts in
    let rising = and_parts (list_all is_product products) (rises (map product_number products)) numbered.1 in
    record { tables = went.0; listed = listed; in_file = members.0; each = members.1; once = members.2; rising = rising.1 }

-- the parties of a site file
parties_listed : (top : Keys) (parties : List Party) → parties_of top ≡ Ok parties → are_parties parties ≡ true →
    AreItemsAt party_number (party_of []) top (codes "party") parties
unfolding parties_of
parties_listed top parties is facts =
    let went = both_went (list_at 0 MOST_PARTIES top (codes "party")) _ parties is in
    let listed = listed_there 0 MOST_PARTIES top (codes "party") went.0 went.1 in
    let members = same_members party_number party_of party_alone 1 [] went.0 parties went.2 in
    let numbered = and_parts (nat_le (length parties) MOST_PARTIES) (are_numbered party_number is_party parties) facts in
    let rising = and_parts (list_all is_party parties) (rises (map party_number parties)) numbered.1 in
    record { tables = went.0; listed = listed; in_file = members.0; each = members.1; once = members.2; rising = rising.1 }

-- the tanks of a site file
tanks_listed : (files : List File) (format : Format) (rounding : List Row) (products : List ℕ) (top : Keys) (tanks : List Tank) →
    tanks_of files format rounding products top ≡ Ok tanks → are_tanks products tanks ≡ true →
    AreItemsAt tank_number (tank_of files format rounding products []) top (codes "tank") tanks
unfolding tanks_of
tanks_listed files format rounding products top tanks is facts =
    let went = both_went (found (list_at 1 MOST_TANKS top (codes "tank"))) _ tanks is in
    let listed = listed_there 1 MOST_TANKS top (codes "tank") went.0 (found_there _ went.0 went.1) in
    let members = same_members tank_number (tank_of files format rounding products) (tank_alone files format rounding products) 1 [] went.0 tanks went.2 in
    let numbered = and_parts (is_between 1 MOST_TANKS (length tanks)) (are_numbered tank_number (is_tank products) tanks) facts in
    let rising = and_parts (list_all (is_tank products) tanks) (rises (map tank_number tanks)) numbered.1 in
    record { tables = went.0; listed = listed; in_file = members.0; each = members.1; once = members.2; rising = rising.1 }

-- two answers that are one
same_answer : (a b : Described) (answer : Result Described Refusal) → answer ≡ Ok a → answer ≡ Ok b → a ≡ b
same_answer a b answer is other = cc

-- the site of the keys of a site file
keys_mean : (files : List File) (top : Keys) (site : Described) → top_of_files files ≡ Ok top → site_of_keys files top ≡ Ok site →
    are_products site.products ≡ true → are_parties site.parties ≡ true → are_tanks (map product_number site.products) site.tanks ≡ true →
    IsSiteOf files site
unfolding site_of_keys
keys_mean files top site keys is =
    let format = both_went (found (format_at top)) _ site is in
    let name = both_went (found (name_at top)) _ site format.2 in
    let rounding = both_went (found (rounding_at format.0 top)) _ site name.2 in
    let products = both_went (products_of files top) _ site rounding.2 in
    let parties = both_went (found (parties_of top)) _ site products.2 in
    let tanks = both_went (tanks_of files format.0 rounding.0 (map product_number products.0) top) _ site parties.2 in
    let lines = both_went (found (lines_of (map tank_number tanks.0) top)) _ site tanks.2 in
    let made : Described = record {
      name = name.0;
      rounding = rounding.0;
      products = products.0;
      parties = parties.0;
      tanks = tanks.0;
      lines = lines.0;
    } in
    let same = same_answer made site (Ok made) refl lines.2 in
    let Means : Described → Type 0 = λ site. are_products site.products ≡ true → are_parties site.parties ≡ true →
    are_tanks (map product_number site.products) site.tanks ≡ true → IsSiteOf files site in
    subst Means same (λ has_products has_parties has_tanks. record {
      top = top;
      keys = keys;
      format = format.0;
      of_format = found_there _ format.0 format.1;
      name = found_there _ name.0 name.1;
      rounding = found_there _ rounding.0 rounding.1;
      products = products_listed files top products.0 products.1 has_products;
      parties = parties_listed top parties.0 (found_there _ parties.0 parties.1) has_parties;
      tanks = tanks_listed files format.0 rounding.0 (map product_number products.0) top tanks.0 tanks.1 has_tanks;
      lines = found_there _ lines.0 lines.1;
    })

-- the site of files
pub files_mean : (files : List File) (site : Site) → site_of_files files ≡ Ok (described site) → IsSiteOf files (described site)
unfolding site_of_files
files_mean files site is =
    let top = both_went (top_of_files files) _ (described site) is in
    keys_mean files top.0 (described site) top.1 top.2 site.has_products site.has_parties site.has_tanks

-- what holds of each content that may be known holds where one is
pub where_known : {A : Type 0} (known : Option A) (P : A → Type 0) → ((content : A) → known ≡ Some content → P content) → WhereKnown known P
where_known None P holds = tt
where_known (Some content) P holds = holds content refl

-- what a call says of its site
pub read_means : (files : List File) (result : Result Site SiteReadFault) →
    MatchResult result (λ site. site_of_files files ≡ Ok (described site)) (λ fault. IsRefusedAs (refusal_of fault) (site_of_files files)) →
    IfOk result (λ site. IsSiteOf files (described site))
read_means files (Ok site) is = files_mean files site is
read_means files (Err fault) is = tt

-- there is no site of files of which an expected one is missing
isnt_missing : (answer : Result Described Refusal) (site : Described) → answer ≡ Ok site → IsMissing answer → ⊥
isnt_missing (Ok made) site is missing = missing
isnt_missing (Err (Faulty fault)) site is missing = missing
isnt_missing (Err (Missing name)) site is missing = cc

-- nor is a fault
isnt_faulty : (answer : Result Described Refusal) (fault : SiteFault) → answer ≡ Err (Faulty fault) → IsMissing answer → ⊥
isnt_faulty (Ok made) fault is missing = missing
isnt_faulty (Err (Faulty other)) fault is missing = missing
isnt_faulty (Err (Missing name)) fault is missing = cc

-- so a call that finds such files answers that the folder failed, or runs out of memory
pub read_misses : (files : List File) (result : Result Site SiteReadFault) →
    MatchResult result (λ site. site_of_files files ≡ Ok (described site)) (λ fault. IsRefusedAs (refusal_of fault) (site_of_files files)) →
    IsMissing (site_of_files files) → IsStopped result
read_misses files (Ok site) is missing = absurd (isnt_missing (site_of_files files) (described site) is missing)
read_misses files (Err NoMemory) is missing = inr refl
read_misses files (Err Folder) is missing = inl refl
read_misses files (Err (Bad fault)) is missing = absurd (isnt_faulty (site_of_files files) fault is missing)
