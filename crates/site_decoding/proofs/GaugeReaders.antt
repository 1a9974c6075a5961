-- The readers of fields, of gauges and of gauge lines.
use Rattle.std.proofs.Common.{◌≡◌, ℕ, zero, suc, ◌+◌, ◌^◌, ◌<◌, ◌≤◌, ◌||◌, ◌==◌, nat_le, Bool, true, false, List, [], ◌∷◌, ◌++◌, length, Option, refl, append_assoc, ℤ, arith}
use Rattle.std.specs.Prelude.{IfSome}
use Rattle.std.specs.Int.{w16, w32, to_be_bytes}
use Rattle.std.specs.Int.RustNames.{FitsSigned}
use Rattle.gauge_maps.specs.declared.map.Field.{Field}
use Rattle.gauge_maps.specs.declared.map.GaugeMap.{GaugeMap}
use Rattle.gauge_maps.specs.declared.map.LineMap.{LineMap}
use Rattle.gauge_maps.specs.declared.map.Valid.{Valid}
use Rattle.site_decoding.specs.declared.decoding.gauges.Fields.{Fields}
use Rattle.gauge_maps.specs.declared.request.Request.{Request}
use Rattle.site_decoding.specs.Decoding.{field_at, fields_at, flags_at, gauge_at, gauge_of, line_at, request_at, valid_at}
use Rattle.site_encoding.specs.Encoding.{field_bytes, flag_byte, gauge_bytes, line_bytes, option_bytes, short_list_bytes, signed_bytes, text_bytes, valid_bytes}
use Rattle.site_decoding.specs.Readers.{IsReader}
use Rattle.site_decoding.proofs.ListReaders.{AreListed, option_reader, short_list_reader}
use Rattle.site_decoding.proofs.NumberReaders.{byte_reader, byte_up_to_reader, number16_reader, number32_reader, signed16_reader, text_reader}
use Rattle.site_decoding.proofs.Readers.{made_reader, then_reader}

-- Fields.

-- the byte of two flags
flags_byte : Bool × Bool → ℕ
flags_byte flags = flag_byte flags.0 + (flag_byte flags.1 + flag_byte flags.1)

-- a byte up to 3 is that of its flags
flags_same : (byte : ℕ) → byte ≤ 3 → flags_byte (byte == 1 || byte == 3, nat_le 2 byte) ∷ [] ≡ byte ∷ []
unfolding flags_byte
flags_same zero h = refl
flags_same (suc zero) h = refl
flags_same (suc (suc zero)) h = refl
flags_same (suc (suc (suc zero))) h = refl
flags_same (suc (suc (suc (suc byte)))) h = absurd (omega (arith, h))

-- and the flags are those of their byte
flags_back : (swapped signed : Bool) → let byte = flags_byte (swapped, signed) in ◌≡◌ {A = Bool × Bool} (byte == 1 || byte == 3, nat_le 2 byte) (swapped, signed)
unfolding flags_byte
flags_back false false = refl
flags_back false true = refl
flags_back true false = refl
flags_back true true = refl

-- the byte of two flags is at most 3
flags_fit : (swapped signed : Bool) → flags_byte (swapped, signed) ≤ 3
unfolding flags_byte
flags_fit false false = omega arith
flags_fit false true = omega arith
flags_fit true false = omega arith
flags_fit true true = omega arith

-- how the words of fields are read
flags_reader : IsReader (λ flags. Unit {0}) (λ flags. flags_byte flags ∷ []) flags_at
unfolding flags_at
flags_reader =
    made_reader (byte_up_to_reader 3 (omega arith)) (record {
      to = λ byte h. tt;
      same = flags_same;
      of = flags_byte;
      back = λ flags h. flags_back flags.0 flags.1;
      of_fits = λ flags h. flags_fit flags.0 flags.1;
    })

-- the numbers of a field are of their types
abbrev pub FitsField : Field → Type 0
FitsField field = (field.offset < 2 ^ 8) × ((field.words < 2 ^ 8) × (Unit {0} × ((field.mul < 2 ^ 32) × (field.div < 2 ^ 32))))

-- the bytes of a field are those of its numbers and its flags, one after another
field_same : (offset words : ℕ) (flags : Bool × Bool) (mul div : ℕ) →
    field_bytes (record { offset = offset; words = words; swapped = flags.0; signed = flags.1; mul = mul; div = div }) ≡
    (offset ∷ []) ++ ((words ∷ []) ++ ((flags_byte flags ∷ []) ++ (to_be_bytes w32 mul ++ to_be_bytes w32 div)))
unfolding field_bytes flags_byte
field_same offset words flags mul div = refl

-- fields
field_reader : IsReader FitsField field_bytes field_at
unfolding field_at
field_reader =
    made_reader
    (then_reader byte_reader (λ offset h. then_reader byte_reader (λ words i. then_reader flags_reader (λ flags j.
    then_reader number32_reader (λ mul k. number32_reader)))))
    (record {
      to = λ f h. h;
      same = λ f h. field_same f.0 f.1.0 f.1.1.0 f.1.1.1.0 f.1.1.1.1;
      of = λ field. (field.offset, (field.words, ((field.swapped, field.signed), (field.mul, field.div))));
      back = λ field h. refl;
      of_fits = λ field h. h;
    })

-- the numbers of a bit of a valid reading are of their types
abbrev pub FitsValid : Valid → Type 0
FitsValid valid = (valid.offset < 2 ^ 8) × (valid.bit < 2 ^ 8)

-- bits of a valid reading
valid_reader : IsReader FitsValid valid_bytes valid_at
unfolding valid_at
valid_reader =
    made_reader (then_reader byte_reader (λ offset h. byte_reader)) (record {
      to = λ f h. h;
      same = λ f h. refl;
      of = λ valid. (valid.offset, valid.bit);
      back = λ valid h. refl;
      of_fits = λ valid h. h;
    })

-- Gauges.

-- the bytes of what is read of a device
asked_bytes : Request → List ℕ
asked_bytes request = (request.unit ∷ []) ++ ((request.function ∷ []) ++ (to_be_bytes w16 request.start ++ (request.quantity ∷ [])))

-- its numbers are of their types
abbrev pub FitsRequest : Request → Type 0
FitsRequest request = (request.unit < 2 ^ 8) × ((request.function < 2 ^ 8) × ((request.start < 2 ^ 16) × (request.quantity < 2 ^ 8)))

-- what is read of a device
request_reader : IsReader FitsRequest asked_bytes request_at
unfolding request_at asked_bytes
request_reader =
    made_reader (then_reader byte_reader (λ unit h. then_reader byte_reader (λ function i. then_reader number16_reader (λ start j. byte_reader)))) (record {
      to = λ f h. h;
      same = λ f h. refl;
      of = λ request. (request.unit, (request.function, (request.start, request.quantity)));
      back = λ request h. refl;
      of_fits = λ request h. h;
    })

-- the bytes of the fields of a gauge
fields_bytes : Fields → List ℕ
fields_bytes fields =
    field_bytes fields.level ++ (field_bytes fields.temperature ++ (option_bytes field_bytes fields.water ++ option_bytes field_bytes fields.ambient))

-- their numbers are of their types
abbrev FitsFields : Fields → Type 0
FitsFields fields = FitsField fields.level × (FitsField fields.temperature × (IfSome fields.water FitsField × IfSome fields.ambient FitsField))

-- the fields of gauges
fields_reader : IsReader FitsFields fields_bytes fields_at
unfolding fields_at fields_bytes
fields_reader =
    made_reader
    (then_reader field_reader (λ level h. then_reader field_reader (λ temperature i. then_reader (option_reader field_reader) (λ water j. option_reader field_reader))))
    (record {
      to = λ f h. h;
      same = λ f h. refl;
      of = λ fields. (fields.level, (fields.temperature, (fields.water, fields.ambient)));
      back = λ fields h. refl;
      of_fits = λ fields h. h;
    })

-- the parts of a gauge
abbrev Parts : Type 0
Parts = ℕ × (Request × (Fields × (ℤ × (Option Valid × (ℕ × ℕ)))))

-- what is read of a gauge's device, and its fields
unfoldable pub request_of : GaugeMap → Request
request_of gauge = record { unit = gauge.unit; function = gauge.function; start = gauge.start; quantity = gauge.quantity }

-- the fields of a gauge
unfoldable pub fields_of : GaugeMap → Fields
fields_of gauge = record { level = gauge.level; temperature = gauge.temperature; water = gauge.water; ambient = gauge.ambient }

-- the parts of a gauge are of their types
abbrev FitsParts : Parts → Type 0
FitsParts f =
    (f.0 < 2 ^ 16) × (FitsRequest f.1.0 × (FitsFields f.1.1.0 × (FitsSigned w16 f.1.1.1.0 × (IfSome f.1.1.1.1.0 FitsValid ×
    ((f.1.1.1.1.1.0 < 2 ^ 16) × (f.1.1.1.1.1.1 < 2 ^ 16))))))

-- the parts of a gauge
unfoldable pub parts_of : GaugeMap → Parts
parts_of gauge = (gauge.tank, (request_of gauge, (fields_of gauge, (gauge.ambient_fixed, (gauge.valid, (gauge.deadband_mm, gauge.deadband_centi))))))

-- a gauge is of its types
unfoldable pub FitsGauge : GaugeMap → Type 0
FitsGauge gauge = FitsParts (parts_of gauge)

-- ten texts in a row, those of the fields together
gauge_regroup : (a b c d e f g h i j : List ℕ) → a ++ b ++ c ++ d ++ e ++ f ++ g ++ h ++ i ++ j ≡ a ++ (b ++ ((c ++ (d ++ (e ++ f))) ++ (g ++ (h ++ (i ++ j)))))
gauge_regroup a b c d e f g h i j = simp append_assoc

-- the bytes of a gauge are those of its parts, one after another
gauge_same : (f : Parts) → gauge_bytes (gauge_of f) ≡ to_be_bytes w16 f.0 ++ (asked_bytes f.1.0 ++ (fields_bytes f.1.1.0 ++ (signed_bytes w16 f.1.1.1.0 ++
    (option_bytes valid_bytes f.1.1.1.1.0 ++ (to_be_bytes w16 f.1.1.1.1.1.0 ++ to_be_bytes w16 f.1.1.1.1.1.1)))))
unfolding gauge_bytes asked_bytes fields_bytes
gauge_same f =
    gauge_regroup (to_be_bytes w16 f.0) (asked_bytes f.1.0) (field_bytes f.1.1.0.level) (field_bytes f.1.1.0.temperature) (option_bytes field_bytes f.1.1.0.water)
    (option_bytes field_bytes f.1.1.0.ambient) (signed_bytes w16 f.1.1.1.0) (option_bytes valid_bytes f.1.1.1.1.0) (to_be_bytes w16 f.1.1.1.1.1.0) (to_be_bytes w16 f.1.1.1.1.1.1)

-- gauges
gauge_reader : IsReader FitsGauge gauge_bytes gauge_at
unfolding gauge_at FitsGauge parts_of request_of fields_of
gauge_reader =
    made_reader
    (then_reader number16_reader (λ tank h. then_reader request_reader (λ request i. then_reader fields_reader (λ fields j.
    then_reader signed16_reader (λ fixed k. then_reader (option_reader valid_reader) (λ valid l. then_reader number16_reader (λ mm m. number16_reader)))))))
    (record {
      to = λ f h. h;
      same = λ f h. gauge_same f;
      of = parts_of;
      back = λ gauge h. refl;
      of_fits = λ gauge h. h;
    })

-- Lines.

-- the fields of a line are of their types
abbrev pub FitsLine : LineMap → Type 0
FitsLine line = (length line.host < 2 ^ 8) × ((line.port < 2 ^ 16) × AreListed FitsGauge (2 ^ 8) line.gauges)

-- the bytes of a line are those of its host, its port and its gauges, one after another
line_same : (host : List ℕ) (port : ℕ) (gauges : List GaugeMap) →
    line_bytes (record { host = host; port = port; gauges = gauges }) ≡ text_bytes host ++ (to_be_bytes w16 port ++ short_list_bytes gauge_bytes gauges)
unfolding line_bytes
line_same host port gauges = append_assoc (text_bytes host) (to_be_bytes w16 port) (short_list_bytes gauge_bytes gauges)

-- lines
pub line_reader : IsReader FitsLine line_bytes line_at
unfolding line_at
line_reader =
    made_reader (then_reader text_reader (λ host h. then_reader number16_reader (λ port i. short_list_reader gauge_reader))) (record {
      to = λ f h. h;
      same = λ f h. line_same f.0 f.1.0 f.1.1;
      of = λ line. (line.host, (line.port, line.gauges));
      back = λ line h. refl;
      of_fits = λ line h. h;
    })
