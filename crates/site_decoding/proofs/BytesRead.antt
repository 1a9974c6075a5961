-- The reader of sites: what is read is a site's bytes, and what is a site's bytes is read.
use Rattle.std.proofs.Common.{◌≡◌, ℕ, ◌==◌, cond, true, List, [], ◌∷◌, ◌++◌, length, Result, Ok, Err, refl, sym, ap, subst, ◌∙◌, append_assoc, append-nil, map}
use Rattle.std.specs.Prelude.{MatchResult}
use Rattle.std.specs.Int.{w16}
use Rattle.std.specs.List.{flat_map}
use Rattle.std.proofs.lemmas.Bool.{eqb-true}
use Rattle.std.proofs.lemmas.List.{nil_from_length}
use Rattle.farm_rounding.specs.Table.{Row}
use Rattle.gauge_maps.specs.declared.map.LineMap.{LineMap}
use Rattle.site_decoding.specs.declared.fault.SiteBytesFault.{SiteBytesFault}
use Rattle.site_decoding.specs.declared.fault.SiteBytesFault.TheVariants.{BadSite, NoMemory}
use Rattle.site_decoding.specs.ByteReaders.{Gives}
use Rattle.site_decoding.specs.Decoding.{head_at, lines_at, parties_at, products_at, tanks_at}
use Rattle.site_encoding.specs.Encoding.{line_bytes, list_bytes, party_bytes, product_bytes, row_bytes, short_list_bytes, tank_bytes, text_bytes, encoding_in, site_encoding}
use Rattle.site_decoding.specs.Parts.{AreTanksIn, HeadsAreRead, IsHead, LinesAreRead, PartiesAreRead, ProductsAreRead, TanksAreRead, head_bytes}
use Rattle.site_decoding.specs.Readers.{IsBytes, IsReader}
use Rattle.site_decoding.proofs.Readers.{bind_ok, made_reader, ok_is, passed, tested_reader, then_reader}
use Rattle.site_decoding.proofs.FormatFacts.{is_same_format-self, said_in_needed, same_format}
use Rattle.farm_site.specs.declared.formats.Format.{Format}
use Rattle.farm_site.specs.declared.items.Party.{Party}
use Rattle.farm_site.specs.declared.items.Product.{Product}
use Rattle.farm_site.specs.declared.items.Tank.{Tank}
use Rattle.farm_site.specs.Products.{product_number}
use Rattle.site_decoding.specs.Sites.{Parts, is_in_format, parts_at, site_at, site_of, whole_site, OneEncoding}
use Rattle.farm_site.specs.Described.{AreLines, AreParties, AreProducts, Described, IsSite}
use Rattle.farm_site.specs.Formats.{format_needed, format_number}

-- each part is read from its bytes alone
pub record PartsAreRead : Type 0 where
  pub heads : HeadsAreRead
  pub products : ProductsAreRead
  pub parties : PartiesAreRead
  pub tanks : TanksAreRead
  pub lines : LinesAreRead

-- six texts in a row, the first two together
regroup : (a b c d e f : List ℕ) → a ++ b ++ c ++ d ++ e ++ f ≡ (a ++ b) ++ (c ++ (d ++ (e ++ f)))
regroup a b c d e f = simp append_assoc

-- the bytes of parts, one after another
abbrev parts_bytes : Parts → List ℕ
parts_bytes f =
    head_bytes f.0 ++ (short_list_bytes product_bytes f.1.0 ++ (list_bytes w16 party_bytes f.1.1.0 ++ (short_list_bytes (tank_bytes f.0.0) f.1.1.1.0 ++
    short_list_bytes line_bytes f.1.1.1.1)))

-- parts that a site may have, in their format
abbrev ArePartsOf : Parts → Type 0
ArePartsOf f = IsHead f.0 × (AreProducts f.1.0 × (AreParties f.1.1.0 × (AreTanksIn f.0.0 f.1.0 f.1.1.1.0 × AreLines f.1.1.1.0 f.1.1.1.1)))

-- the bytes of a site in the format of its parts are theirs
same_in : (f : Parts) → encoding_in f.0.0 (site_of f) ≡ parts_bytes f
unfolding encoding_in
same_in f =
    regroup (format_number f.0.0 ∷ text_bytes f.0.1.0) (flat_map row_bytes f.0.1.1) (short_list_bytes product_bytes f.1.0) (list_bytes w16 party_bytes f.1.1.0)
    (short_list_bytes (tank_bytes f.0.0) f.1.1.1.0) (short_list_bytes line_bytes f.1.1.1.1)

-- a site's bytes are those of its parts, where their format is the one that it needs
site_same : (f : Parts) → is_in_format f ≡ true → site_encoding (site_of f) ≡ parts_bytes f
unfolding site_encoding
site_same f is =
    let needed : f.0.0 ≡ format_needed f.0.1.1 f.1.1.1.0 = same_format f.0.0 (format_needed f.0.1.1 f.1.1.1.0) is in
    ap (λ format. encoding_in format (site_of f)) (sym needed) ∙ same_in f

-- parts
parts_reader : PartsAreRead → IsReader ArePartsOf parts_bytes parts_at
unfolding parts_at
parts_reader laws =
    then_reader laws.heads (λ head h. then_reader laws.products (λ products i. then_reader laws.parties (λ parties j.
    then_reader (laws.tanks head.0 products i.0) (λ tanks k. laws.lines (map product_number products) tanks k.0.0))))

-- parts that a site may have are those of a site
site_is : (f : Parts) → ArePartsOf f → IsSite (site_of f)
site_is f h = record { named = h.0.0; rounding = h.0.1.0; products_sound = h.1.0; parties_sound = h.1.1.0; tanks_sound = h.1.1.1.0.0; lines_sound = h.1.1.1.1 }

-- the parts of a site, in the format that it needs
parts_of : Described → Parts
parts_of site = ((format_needed site.rounding site.tanks, (site.name, site.rounding)), (site.products, (site.parties, (site.tanks, site.lines))))

-- they are parts that a site may have
parts_are : (site : Described) → IsSite site → ArePartsOf (parts_of site)
unfolding parts_of
parts_are site h =
    let said = said_in_needed site.rounding site.tanks in
    ((h.named, (h.rounding, said.0)), (h.products_sound, (h.parties_sound, ((h.tanks_sound, said.1), h.lines_sound))))

-- sites
site_reader : PartsAreRead → IsReader IsSite site_encoding site_at
unfolding site_at parts_of
site_reader laws =
    made_reader (tested_reader is_in_format (parts_reader laws)) (record {
      to = λ f h. site_is f h.0;
      same = λ f h. site_same f h.1;
      of = parts_of;
      back = λ site h. refl;
      of_fits = λ site h. (parts_are site h, is_same_format-self (format_needed site.rounding site.tanks));
    })

-- what is read is a site, and the bytes are its
pub site_found : PartsAreRead → (bytes : List ℕ) (site : Described) → IsBytes bytes → whole_site bytes ≡ Ok site → IsSite site × (bytes ≡ site_encoding site)
unfolding whole_site
site_found laws bytes site fits e =
    let b = bind_ok (site_at bytes) (λ read. cond (length read.1 == 0) (Ok read.0) (Err BadSite)) site e in
    let read = b.0 in
    let g = passed (length read.1 == 0) read.0 site BadSite b.2 in
    let t = (site_reader laws).takes bytes read.0 read.1 fits b.1 in
    let nothing : read.1 ≡ [] = nil_from_length read.1 (eqb-true _ _ g.0) in
    let whole : bytes ≡ site_encoding read.0 = t.0.parts ∙ ap (λ rest. site_encoding read.0 ++ rest) nothing ∙ append-nil (site_encoding read.0) in
    subst (λ x. IsSite x × (bytes ≡ site_encoding x)) g.1 (t.1, whole)

-- the bytes of a site are read as it
pub site_only : PartsAreRead → (bytes : List ℕ) (site : Described) → IsSite site → bytes ≡ site_encoding site → whole_site bytes ≡ Ok site
unfolding whole_site
site_only laws bytes site sound encoded =
    let read : site_at bytes ≡ Ok (site, []) =
    ap site_at (encoded ∙ sym (append-nil (site_encoding site))) ∙ (site_reader laws).again site [] sound in
    rw read refl

-- two sites with the same bytes are one
pub one_encoding : PartsAreRead → OneEncoding
one_encoding laws first second one two same =
    ok_is first second (sym (site_only laws (site_encoding first) first one refl) ∙ site_only laws (site_encoding first) second two same)

-- a call that gives what is read answers the one site that the bytes are
pub only_site : {A : Type 0} → PartsAreRead → (view : A → Described) (result : Result A SiteBytesFault) (bytes : List ℕ) → Gives view result (whole_site bytes) →
    (site : Described) → IsSite site → bytes ≡ site_encoding site → MatchResult result (λ found. view found ≡ site) (λ fault. fault ≡ NoMemory)
only_site laws view (Ok found) bytes gives site sound encoded = ok_is (view found) site (sym gives ∙ site_only laws bytes site sound encoded)
only_site laws view (Err BadSite) bytes gives site sound encoded = let read = site_only laws bytes site sound encoded in absurd (cc (gives, read))
only_site laws view (Err NoMemory) bytes gives site sound encoded = refl

-- and the bytes are that site's
pub found_site : {A : Type 0} → PartsAreRead → (view : A → Described) (result : Result A SiteBytesFault) (bytes : List ℕ) → IsBytes bytes → Gives view result (whole_site bytes) →
    MatchResult result (λ found. IsSite (view found) × (bytes ≡ site_encoding (view found))) (λ fault. Unit {0})
found_site laws view (Ok found) bytes fits gives = site_found laws bytes (view found) fits gives
found_site laws view (Err fault) bytes fits gives = tt

-- the parts that were read one after another are those of a site
pub parts_read : PartsAreRead → (bytes : List ℕ) → IsBytes bytes → (head : Format × (List ℕ × List Row)) (after_head : List ℕ) → head_at bytes ≡ Ok (head, after_head) →
    (products : List Product) (after_products : List ℕ) → products_at after_head ≡ Ok (products, after_products) →
    (parties : List Party) (after_parties : List ℕ) → parties_at after_products ≡ Ok (parties, after_parties) →
    (tanks : List Tank) (after_tanks : List ℕ) → tanks_at head.0 products after_parties ≡ Ok (tanks, after_tanks) →
    (lines : List LineMap) (rest : List ℕ) → lines_at tanks after_tanks ≡ Ok (lines, rest) → IsSite (site_of (head, (products, (parties, (tanks, lines)))))
unfolding parts_at
parts_read laws bytes fits head after_head h products after_products i parties after_parties j tanks after_tanks k lines rest l =
    let parts : Parts = (head, (products, (parties, (tanks, lines)))) in
    let read : parts_at bytes ≡ Ok (parts, rest) = rw (h, i, j, k, l) refl in
    site_is parts ((parts_reader laws).takes bytes parts rest fits read).1
