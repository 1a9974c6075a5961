-- Lists of gauges, lines and tanks, each with one more.
use Rattle.std.proofs.Common.{◌≡◌, ℕ, ◌+◌, ◌<◌, Bool, true, false, ◌==◌, not, List, [], ◌∷◌, ◌++◌, refl, sym, ap, ◌∙◌, map, length, drop, get_or, Ok, arith}
use Rattle.std.specs.List.{list_all}
use Rattle.std.specs.Cmp.Derive.{both_true}
use Rattle.std.proofs.lemmas.Bool.{and_parts, not-true, or_parts}
use Rattle.std.proofs.lemmas.Bool.Decides.{nat_tests}
use Rattle.std.proofs.lemmas.List.{append_assoc, append-nil, drop_more, map-append}
use Rattle.std.proofs.lemmas.List.Folds.{list_all-append, list_any-append}
use Rattle.toml.specs.View.{view}
use Rattle.toml.specs.declared.value.Value.{Value}
use Rattle.gauge_maps.specs.declared.map.GaugeMap.{GaugeMap}
use Rattle.gauge_maps.specs.declared.map.LineMap.{LineMap}
use Rattle.farm_site.specs.Numbers.{is_among}
use Rattle.farm_site.specs.Lines.{are_distinct, are_gauged, tanks_gauged, all_gauged}
use Rattle.site_keys.specs.Keys.{keys_of}
use Rattle.site_lines.specs.Gauges.{gauge_of, gauges_from}
use Rattle.site_lines.specs.Lines.{line_of, lines_from}

-- each passes, and one more
pub all_more : {A : Type 0} (test : A → Bool) (items : List A) (item : A) → list_all test items ≡ true → test item ≡ true →
    list_all test (items ++ item ∷ []) ≡ true
all_more test items item all passes = rw (list_all-append test items (item ∷ []), all, passes) refl

-- tanks and those of gauges, and of one more
pub tanks_gauged_more : (earlier : List ℕ) (gauges : List GaugeMap) (gauge : GaugeMap) →
    (earlier ++ tanks_gauged gauges) ++ gauge.tank ∷ [] ≡ earlier ++ tanks_gauged (gauges ++ gauge ∷ [])
tanks_gauged_more earlier gauges gauge = rw (map-append (λ (gauge : GaugeMap). gauge.tank) gauges (gauge ∷ [])) (append_assoc earlier (tanks_gauged gauges) (gauge.tank ∷ []))

-- the tanks of lines, and of one more
pub all_gauged_more : (lines : List LineMap) (line : LineMap) → all_gauged (lines ++ line ∷ []) ≡ all_gauged lines ++ tanks_gauged line.gauges
all_gauged_more [] line = append-nil (tanks_gauged line.gauges)
all_gauged_more (first ∷ lines) line =
    ap (λ tanks. tanks_gauged first.gauges ++ tanks) (all_gauged_more lines line) ∙ sym (append_assoc (tanks_gauged first.gauges) (all_gauged lines) (tanks_gauged line.gauges))

-- numbers that differ, the other way round
other_way : (m n : ℕ) → (m == n) ≡ false → (n == m) ≡ false
other_way m n differs = grind (arith, nat_tests)

-- numbers of which none stands twice, and another
distinct_more : (numbers : List ℕ) (n : ℕ) → are_distinct numbers ≡ true → is_among n numbers ≡ false → are_distinct (numbers ++ n ∷ []) ≡ true
distinct_more [] n distinct new = refl
distinct_more (first ∷ numbers) n distinct new =
    let parts = and_parts (not (is_among first numbers)) (are_distinct numbers) distinct in
    let others = or_parts (first == n) (is_among n numbers) new in
    let differs : (n == first) ≡ false = other_way first n others.0 in
    rw (list_any-append (λ other. other == first) numbers (n ∷ []), differs, distinct_more numbers n parts.1 others.1, not-true (is_among first numbers) parts.0) refl

-- tanks that gauges are on, and another
pub gauged_more : (tanks gauged : List ℕ) (tank : ℕ) → are_gauged tanks gauged ≡ true → is_among tank tanks ≡ true → is_among tank gauged ≡ false →
    are_gauged tanks (gauged ++ tank ∷ []) ≡ true
gauged_more tanks gauged tank all known new =
    let parts = and_parts (list_all (λ tank. is_among tank tanks) gauged) (are_distinct gauged) all in
    both_true (all_more (λ tank. is_among tank tanks) gauged tank parts.0 known) (distinct_more gauged tank parts.1 new)

-- the gauges of the tables that are left, once one more is read
pub gauges_more : (item : ℕ) (tanks gauged : List ℕ) (done : List GaugeMap) (tables : List Value) (i : ℕ) (table : Value) (gauge : GaugeMap) →
    i < length tables → table ≡ get_or tables i table → Ok gauge ≡ gauge_of tanks (gauged ++ tanks_gauged done) (keys_of item (view table)) →
    gauges_from item tanks gauged (done ++ gauge ∷ []) (map view (drop (i + 1) tables)) ≡ gauges_from item tanks gauged done (map view (drop i tables))
gauges_more item tanks gauged done tables i table gauge within is read = rw (drop_more tables i table within, ← is, ← read) refl

-- and the lines, once one more is read
pub lines_more : (tanks : List ℕ) (item : ℕ) (gauged : List ℕ) (done : List LineMap) (tables : List Value) (i : ℕ) (table : Value) (line : LineMap) →
    i < length tables → table ≡ get_or tables i table → line_of tanks gauged (keys_of item (view table)) ≡ Ok line →
    lines_from tanks (item + 1) (gauged ++ tanks_gauged line.gauges) (done ++ line ∷ []) (map view (drop (i + 1) tables))
    ≡ lines_from tanks item gauged done (map view (drop i tables))
lines_more tanks item gauged done tables i table line within is read = rw (drop_more tables i table within, ← is, read) refl
