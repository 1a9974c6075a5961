-- The reader of a site's gauge lines: what was read is sound, and what is sound is of its types.
use Rattle.std.proofs.Common.{◌≡◌, ℕ, ◌+◌, ◌^◌, ◌<◌, ◌≤◌, ◌&&◌, nat_le, nat_lt, Bool, true, List, [], ◌∷◌, length, map, Option, Some, None, ℤ, arith}
use Rattle.std.specs.Prelude.{All, IfSome, IsTrue}
use Rattle.std.specs.Int.{w16}
use Rattle.std.specs.Int.RustNames.{FitsSigned}
use Rattle.std.specs.List.{list_all}
use Rattle.std.proofs.lemmas.Int.{ints}
use Rattle.std.proofs.lemmas.List.Folds.{list_all-append}
use Rattle.farm_base.proofs.BoolTests.{and_parts, leb-true, ltb-true}
use Rattle.farm_fixed.specs.Range.{is_within, is_between}
use Rattle.farm_fixed.proofs.ParsingLaws.{is_within-true}
use Rattle.farm_fixed.specs.declared.limits.TheConstants.{LEAST_TEMPERATURE, MOST_TEMPERATURE}
use Rattle.gauge_maps.specs.declared.map.Field.{Field}
use Rattle.gauge_maps.specs.declared.map.GaugeMap.{GaugeMap}
use Rattle.gauge_maps.specs.declared.map.LineMap.{LineMap}
use Rattle.gauge_maps.specs.declared.map.Valid.{Valid}
use Rattle.gauge_maps.specs.Maps.{is_field, is_field_or_none, is_gauge_map, is_graphic, is_host, is_line_map, is_valid_or_none}
use Rattle.farm_site.specs.declared.items.Tank.{Tank}
use Rattle.farm_site.specs.Facts.{are_tanks}
use Rattle.farm_site.specs.Tanks.{is_spec, is_opening, is_tank, tank_number}
use Rattle.farm_site.specs.Numbers.{are_numbered, is_among}
use Rattle.farm_site.specs.Lines.{are_distinct, are_gauged, tanks_gauged, all_gauged, are_lines}
use Rattle.site_decoding.specs.Decoding.{lines_at}
use Rattle.site_encoding.specs.Encoding.{line_bytes, short_list_bytes}
use Rattle.farm_site.specs.Described.{AreLines}
use Rattle.site_decoding.specs.Readers.{IsReader}
use Rattle.farm_site.specs.Typed.{IsTypedGauge, IsTypedLine}
use Rattle.byte_readers.proofs.ListReaders.{all_as, all_cons, all_head, all_tail}
use Rattle.site_decoding.proofs.ListReaders.{short_list_reader}
use Rattle.site_decoding.proofs.ProductReaders.{number_small, numbered_sound}
use Rattle.site_decoding.proofs.TankReaders.{among_small}
use Rattle.site_decoding.proofs.Readers.{reader_as, tested_reader}
use Rattle.site_decoding.proofs.GaugeReaders.{FitsField, FitsGauge, FitsLine, FitsRequest, FitsValid, fields_of, line_reader, parts_of, request_of}

-- a field of a site is of its types
field_fits : (quantity : ℕ) (field : Field) → quantity ≤ 125 → is_field quantity field ≡ true → FitsField field
field_fits quantity field few sound =
    let words = is_between 1 2 field.words in
    let within = nat_le (field.offset + field.words) quantity in
    let mul = is_between 1 1000000 field.mul in
    let three = and_parts (words && within && mul) (is_between 1 1000000 field.div) sound in
    let two = and_parts (words && within) mul three.0 in
    let one = and_parts words within two.0 in
    let offset = leb-true (field.offset + field.words) quantity one.1 in
    let most_words = leb-true field.words 2 (and_parts (nat_le 1 field.words) (nat_le field.words 2) one.0).1 in
    let most_mul = leb-true field.mul 1000000 (and_parts (nat_le 1 field.mul) (nat_le field.mul 1000000) two.1).1 in
    let most_div = leb-true field.div 1000000 (and_parts (nat_le 1 field.div) (nat_le field.div 1000000) three.1).1 in
    (omega (arith, offset, few), (omega (arith, most_words), (tt, (omega (arith, most_mul), omega (arith, most_div)))))

-- so is one that may be missing
option_fits : (quantity : ℕ) (field : Option Field) → quantity ≤ 125 → is_field_or_none quantity field ≡ true → IfSome field FitsField
option_fits quantity None few sound = tt
option_fits quantity (Some field) few sound = field_fits quantity field few sound

-- and a bit of a valid reading
valid_fits : (quantity : ℕ) (valid : Option Valid) → quantity ≤ 125 → is_valid_or_none quantity valid ≡ true → IfSome valid FitsValid
valid_fits quantity None few sound = tt
valid_fits quantity (Some valid) few sound =
    let parts = and_parts (nat_lt valid.offset quantity) (nat_le valid.bit 15) sound in
    let offset = ltb-true valid.offset quantity parts.0 in
    let bit = leb-true valid.bit 15 parts.1 in
    (omega (arith, offset, few), omega (arith, bit))

-- a number up to 1,000 is of two bytes
deadband_fits : (n : ℕ) → is_between 1 1000 n ≡ true → n < 2 ^ 16
deadband_fits n sound = let most = leb-true n 1000 (and_parts (nat_le 1 n) (nat_le n 1000) sound).1 in omega (arith, most)

-- a temperature of a site is of its type
fixed_fits : (fixed : ℤ) → is_within LEAST_TEMPERATURE MOST_TEMPERATURE fixed ≡ true → FitsSigned w16 fixed
fixed_fits fixed sound = let within = is_within-true LEAST_TEMPERATURE MOST_TEMPERATURE fixed sound in omega (arith, ints, within.low, within.high)

-- what is read of a device is of its types
asked_fits : (gauge : GaugeMap) → gauge.unit < 2 ^ 8 → is_between 3 4 gauge.function ≡ true → is_between 1 125 gauge.quantity ≡ true →
    nat_le (gauge.start + gauge.quantity) 65536 ≡ true → FitsRequest (request_of gauge) × (gauge.quantity ≤ 125)
unfolding request_of
asked_fits gauge unit function quantity last =
    let most_function = leb-true gauge.function 4 (and_parts (nat_le 3 gauge.function) (nat_le gauge.function 4) function).1 in
    let both = and_parts (nat_le 1 gauge.quantity) (nat_le gauge.quantity 125) quantity in
    let least = leb-true 1 gauge.quantity both.0 in
    let most = leb-true gauge.quantity 125 both.1 in
    let end = leb-true (gauge.start + gauge.quantity) 65536 last in
    ((unit, (omega (arith, most_function), (omega (arith, end, least), omega (arith, most)))), most)

-- a sound gauge on a tank of a site is of its types
gauge_fits : (gauge : GaugeMap) → gauge.tank < 2 ^ 16 → is_gauge_map gauge ≡ true → IsTypedGauge gauge → FitsGauge gauge
unfolding FitsGauge parts_of fields_of
gauge_fits gauge tank sound typed =
    let q = gauge.quantity in
    let a = is_between 3 4 gauge.function in
    let b = is_between 1 125 q in
    let c = nat_le (gauge.start + q) 65536 in
    let d = is_field q gauge.level in
    let e = is_field q gauge.temperature in
    let f = is_field_or_none q gauge.water in
    let g = is_field_or_none q gauge.ambient in
    let h = is_within LEAST_TEMPERATURE MOST_TEMPERATURE gauge.ambient_fixed in
    let i = is_valid_or_none q gauge.valid in
    let j = is_between 1 1000 gauge.deadband_mm in
    let ten = and_parts (a && b && c && d && e && f && g && h && i && j) (is_between 1 1000 gauge.deadband_centi) sound in
    let nine = and_parts (a && b && c && d && e && f && g && h && i) j ten.0 in
    let eight = and_parts (a && b && c && d && e && f && g && h) i nine.0 in
    let seven = and_parts (a && b && c && d && e && f && g) h eight.0 in
    let six = and_parts (a && b && c && d && e && f) g seven.0 in
    let five = and_parts (a && b && c && d && e) f six.0 in
    let four = and_parts (a && b && c && d) e five.0 in
    let three = and_parts (a && b && c) d four.0 in
    let two = and_parts (a && b) c three.0 in
    let one = and_parts a b two.0 in
    let asked = asked_fits gauge typed one.0 one.1 two.1 in
    let few = asked.1 in (
      tank,
      (
        asked.0,
        (
          (field_fits q gauge.level few three.1, (field_fits q gauge.temperature few four.1, (option_fits q gauge.water few five.1, option_fits q gauge.ambient few six.1))),
          (fixed_fits gauge.ambient_fixed seven.1, (valid_fits q gauge.valid few eight.1, (deadband_fits gauge.deadband_mm nine.1, deadband_fits gauge.deadband_centi ten.1))),
        ),
      ),
    )

-- gauges on tanks of a site are
gauges_fit : (known : ℕ → Bool) → ((n : ℕ) → known n ≡ true → n < 2 ^ 16) → (gauges : List GaugeMap) → list_all is_gauge_map gauges ≡ true →
    list_all known (tanks_gauged gauges) ≡ true → All IsTypedGauge gauges → All FitsGauge gauges
gauges_fit known small [] sound there typed = λ k d within. absurd (omega (arith, within))
gauges_fit known small (gauge ∷ gauges) sound there typed =
    let parts = and_parts (is_gauge_map gauge) (list_all is_gauge_map gauges) sound in
    let tanks = and_parts (known gauge.tank) (list_all known (tanks_gauged gauges)) there in
    all_cons FitsGauge gauge gauges (gauge_fits gauge (small gauge.tank tanks.0) parts.0 (all_head IsTypedGauge gauge gauges typed))
    (gauges_fit known small gauges parts.1 tanks.1 (all_tail IsTypedGauge gauge gauges typed))

-- a host has at most 64 bytes
host_length : (host : List ℕ) → is_host host ≡ true → length host ≤ 64
host_length host sound =
    let counted = and_parts (is_between 1 64 (length host)) (list_all is_graphic host) sound in
    leb-true (length host) 64 (and_parts (nat_le 1 (length host)) (nat_le (length host) 64) counted.0).1

-- a sound line, its gauges on tanks of a site, is of its types
line_fits : (known : ℕ → Bool) → ((n : ℕ) → known n ≡ true → n < 2 ^ 16) → (line : LineMap) → is_line_map line ≡ true → list_all known (tanks_gauged line.gauges) ≡ true →
    IsTypedLine line → FitsLine line
line_fits known small line sound there typed =
    let host = is_host line.host in
    let port = nat_le 1 line.port in
    let count = is_between 1 16 (length line.gauges) in
    let three = and_parts (host && port && count) (list_all is_gauge_map line.gauges) sound in
    let two = and_parts (host && port) count three.0 in
    let most_host = host_length line.host (and_parts host port two.0).0 in
    let most = leb-true (length line.gauges) 16 (and_parts (nat_le 1 (length line.gauges)) (nat_le (length line.gauges) 16) two.1).1 in
    (omega (arith, most_host), (typed.port, (omega (arith, most), gauges_fit known small line.gauges three.1 there typed.gauges)))

-- so are the lines of a site
lines_fit : (known : ℕ → Bool) → ((n : ℕ) → known n ≡ true → n < 2 ^ 16) → (lines : List LineMap) → list_all is_line_map lines ≡ true → list_all known (all_gauged lines) ≡ true →
    All IsTypedLine lines → All FitsLine lines
lines_fit known small [] sound there typed = λ k d within. absurd (omega (arith, within))
lines_fit known small (line ∷ lines) sound there typed =
    let parts = and_parts (is_line_map line) (list_all is_line_map lines) sound in
    let split = rw (list_all-append known (tanks_gauged line.gauges) (all_gauged lines)) at there in
    let tanks = and_parts (list_all known (tanks_gauged line.gauges)) (list_all known (all_gauged lines)) split in
    all_cons FitsLine line lines (line_fits known small line parts.0 tanks.0 (all_head IsTypedLine line lines typed))
    (lines_fit known small lines parts.1 tanks.1 (all_tail IsTypedLine line lines typed))

-- the numbers of a site's tanks are of two bytes
tanks_small : (products : List ℕ) (tanks : List Tank) → are_tanks products tanks ≡ true → (n : ℕ) → is_among n (map tank_number tanks) ≡ true → n < 2 ^ 16
tanks_small products tanks sound n among =
    let parts = and_parts (is_between 1 64 (length tanks)) (are_numbered tank_number (is_tank products) tanks) sound in
    among_small tank_number (is_tank products) tanks n (tank_small products) (numbered_sound tank_number (is_tank products) tanks parts.1) among
  where
    tank_small : (products : List ℕ) (tank : Tank) → is_tank products tank ≡ true → tank.number < 2 ^ 16
    tank_small products tank test =
        let number = is_between 1 65535 tank.number in
        let product = is_among tank.product products in
        let three = and_parts (number && product && is_spec tank.spec) (is_opening tank.opening) test in
        let two = and_parts (number && product) (is_spec tank.spec) three.0 in
        number_small tank.number (and_parts number product two.0).0

-- a gauge that was read is of its type
gauge_typed : (gauge : GaugeMap) → FitsGauge gauge → IsTypedGauge gauge
unfolding FitsGauge parts_of request_of
gauge_typed gauge h = h.1.0.0

-- and so is a line
line_typed : (line : LineMap) → FitsLine line → IsTypedLine line
line_typed line h = record { port = h.1.0; gauges = all_as FitsGauge IsTypedGauge line.gauges gauge_typed h.1.1.1 }

-- the gauge lines of a site
pub lines_reader : (products : List ℕ) (tanks : List Tank) → IsTrue (are_tanks products tanks) → IsReader (AreLines tanks) (short_list_bytes line_bytes) (lines_at tanks)
unfolding lines_at
lines_reader products tanks sound =
    let numbers = map tank_number tanks in
    let known : ℕ → Bool = λ tank. is_among tank numbers in
    reader_as (tested_reader (are_lines numbers) (short_list_reader line_reader))
    (λ lines h. (h.1, all_as FitsLine IsTypedLine lines line_typed h.0.1))
    (λ lines h.
    let two = and_parts (nat_le (length lines) 16 && list_all is_line_map lines) (are_gauged numbers (all_gauged lines)) h.0 in
    let one = and_parts (nat_le (length lines) 16) (list_all is_line_map lines) two.0 in
    let few = leb-true (length lines) 16 one.0 in
    let there = (and_parts (list_all known (all_gauged lines)) (are_distinct (all_gauged lines)) two.1).0 in
    ((omega (arith, few), lines_fit known (tanks_small products tanks sound) lines one.1 there h.1), h.0))
