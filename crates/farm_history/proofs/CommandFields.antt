-- The tags of commands and the bytes after them; the readers of gauge readings, dips and samples after their tags.
use Rattle.std.proofs.Common.{◌≡◌, ℕ, ◌^◌, ◌<◌, Bool, false, List, [], ◌∷◌, ◌++◌, refl, append_assoc, arith, ℤ, pos}
use Rattle.std.specs.Int.{w16, w32, w64, to_be_bytes}
use mir.Val.{SFits}
use Rattle.std.proofs.lemmas.List.Elements.{All-from_recursion, recursion_from_All}
use Rattle.farm_history.specs.declared.few.Few.{Few}
use Rattle.farm_history.specs.declared.command.Command.{Command}
use Rattle.farm_history.specs.declared.command.Command.TheVariants.{Gauge, Dip, Sample, Opening, Closing, Cancel, Reverse, Settle, Stop}
use Rattle.farm_history.specs.Commands.{IsShortList, IsWellFormedCommand}
use Rattle.farm_history.specs.Decoding.{dip_at, gauge_at, sample_at}
use Rattle.farm_history.specs.Encoding.{IsTypedCommand, IsTypedList, command_bytes, gauged_bytes, kind_byte, list_bytes, plan_bytes, second_bytes, signed_bytes}
use Rattle.farm_history.proofs.ListReaders.{IsGoodList, kind_reader, list_reader}
use Rattle.byte_readers.proofs.NumberReaders.{wide16}
use Rattle.farm_history.proofs.NumberReaders.{number_reader, signed_reader}
use Rattle.farm_history.proofs.Readers.{IsPlacing, made_reader, then_reader}

-- a command that can stand in an entry
abbrev pub IsGoodCommand : Command → Type 0
IsGoodCommand command = IsTypedCommand command × IsWellFormedCommand command

-- the tag of a command
unfoldable pub tag_of : Command → ℕ
tag_of (Gauge tank level water temperature ambient) = 1
tag_of (Dip tank outage tapes water temperatures ambient) = 2
tag_of (Sample tank density sw) = 3
tag_of (Opening plan) = 4
tag_of (Closing movement first second) = 5
tag_of (Cancel movement) = 6
tag_of (Settle tank gauged) = 7
tag_of (Reverse ticket) = 8
tag_of Stop = 9

-- the bytes after it
unfoldable pub fields_bytes : Command → List ℕ
fields_bytes (Gauge tank level water temperature ambient) =
    to_be_bytes w16 tank ++ (signed_bytes level ++ (signed_bytes water ++ (signed_bytes temperature ++ signed_bytes ambient)))
fields_bytes (Dip tank outage tapes water temperatures ambient) =
    to_be_bytes w16 tank ++ ((kind_byte outage ∷ []) ++ (list_bytes tapes ++ (list_bytes water ++ (list_bytes temperatures ++ signed_bytes ambient))))
fields_bytes (Sample tank density sw) = to_be_bytes w16 tank ++ (signed_bytes density ++ signed_bytes sw)
fields_bytes (Opening plan) = plan_bytes plan
fields_bytes (Closing movement first second) = to_be_bytes w32 movement ++ (gauged_bytes first ++ second_bytes second)
fields_bytes (Cancel movement) = to_be_bytes w32 movement
fields_bytes (Settle tank gauged) = to_be_bytes w16 tank ++ gauged_bytes gauged
fields_bytes (Reverse ticket) = to_be_bytes w32 ticket
fields_bytes Stop = []

-- a command's bytes are its tag and those after it
pub tag_and_fields : (command : Command) → command_bytes command ≡ tag_of command ∷ fields_bytes command
unfolding tag_of fields_bytes command_bytes
tag_and_fields (Gauge tank level water temperature ambient) = refl
tag_and_fields (Dip tank outage tapes water temperatures ambient) = simp append_assoc
tag_and_fields (Sample tank density sw) = refl
tag_and_fields (Opening plan) = refl
tag_and_fields (Closing movement first second) = refl
tag_and_fields (Cancel movement) = refl
tag_and_fields (Settle tank gauged) = refl
tag_and_fields (Reverse ticket) = refl
tag_and_fields Stop = refl

-- a command of a tag
abbrev pub IsOf : ℕ → Command → Type 0
IsOf tag command = (tag_of command ≡ tag) × IsGoodCommand command

-- Gauge readings.

-- the fields of a gauge reading: tank, level, water, temperature and ambient temperature
abbrev GaugeRead : Type 0
GaugeRead = ℕ × (ℤ × (ℤ × (ℤ × ℤ)))

-- the gauge reading of its fields
abbrev gauge_of : GaugeRead → Command
gauge_of f = Gauge f.0 f.1.0 f.1.1.0 f.1.1.1.0 f.1.1.1.1

-- each field is of its type
abbrev FitsGauge : GaugeRead → Type 0
FitsGauge f = (f.0 < 2 ^ 16) × (SFits w64 f.1.0 × (SFits w64 f.1.1.0 × (SFits w64 f.1.1.1.0 × SFits w64 f.1.1.1.1)))

-- the fields of a gauge reading
gauge_parts : Command → GaugeRead
gauge_parts (Gauge tank level water temperature ambient) = (tank, (level, (water, (temperature, ambient))))
gauge_parts command = (0, (pos 0, (pos 0, (pos 0, pos 0))))

-- fields of their types make a gauge reading that can be written
gauge_to : (f : GaugeRead) → FitsGauge f → IsOf 1 (gauge_of f)
unfolding tag_of
gauge_to f h = (refl, ((h.0, All-from_recursion (SFits w64) (f.1.0 ∷ f.1.1.0 ∷ f.1.1.1.0 ∷ f.1.1.1.1 ∷ []) (h.1.0, (h.1.1.0, (h.1.1.1.0, (h.1.1.1.1, tt))))), tt))

-- a gauge reading is that of its fields
gauge_back : (c : Command) → IsOf 1 c → gauge_of (gauge_parts c) ≡ c
unfolding tag_of gauge_parts
gauge_back (Gauge tank level water temperature ambient) h = refl
gauge_back c h = absurd (omega (arith, h.0))

-- the fields of a gauge reading are of their types
gauge_fits : (c : Command) → IsOf 1 c → FitsGauge (gauge_parts c)
unfolding tag_of gauge_parts
gauge_fits (Gauge tank level water temperature ambient) h =
    let all = recursion_from_All (SFits w64) (level ∷ water ∷ temperature ∷ ambient ∷ []) h.1.0.1 in
    (h.1.0.0, (all.0, (all.1.0, (all.1.1.0, all.1.1.1.0))))
gauge_fits c h = absurd (omega (arith, h.0))

-- the bytes of a gauge reading are those of its fields, one after another
gauge_same : (f : GaugeRead) → fields_bytes (gauge_of f) ≡ to_be_bytes w16 f.0 ++ (signed_bytes f.1.0 ++ (signed_bytes f.1.1.0 ++ (signed_bytes f.1.1.1.0 ++ signed_bytes f.1.1.1.1)))
unfolding fields_bytes
gauge_same f = refl

-- the bytes of gauge readings are read exactly
pub gauge_reader : IsPlacing (IsOf 1) fields_bytes gauge_at
unfolding gauge_at
gauge_reader =
    made_reader
    (then_reader (number_reader w16 (2 ^ 16) wide16) (λ a ha.
    then_reader signed_reader (λ b hb. then_reader signed_reader (λ d hd. then_reader signed_reader (λ e he. signed_reader)))))
    (record { to = gauge_to; same = λ f h. gauge_same f; of = gauge_parts; back = gauge_back; of_fits = gauge_fits })

-- Dips.

-- the fields of a dip: tank, whether outages, tapes, water, temperatures and ambient temperature
abbrev Dipped : Type 0
Dipped = ℕ × (Bool × (Few × (Few × (Few × ℤ))))

-- the dip of its fields
abbrev dip_of : Dipped → Command
dip_of f = Dip f.0 f.1.0 f.1.1.0 f.1.1.1.0 f.1.1.1.1.0 f.1.1.1.1.1

-- each field is of its type
abbrev FitsDip : Dipped → Type 0
FitsDip f = (f.0 < 2 ^ 16) × (Unit {0} × (IsGoodList f.1.1.0 × (IsGoodList f.1.1.1.0 × (IsGoodList f.1.1.1.1.0 × SFits w64 f.1.1.1.1.1))))

-- a list with no numbers
no_list : Few
no_list = record { count = 0; values = [] }

-- the fields of a dip
dip_parts : Command → Dipped
dip_parts (Dip tank outage tapes water temperatures ambient) = (tank, (outage, (tapes, (water, (temperatures, ambient)))))
dip_parts command = (0, (false, (no_list, (no_list, (no_list, pos 0)))))

-- a good list is one of its type, and short
typed_list : (few : Few) → IsGoodList few → IsTypedList few
typed_list few h = (h.1, All-from_recursion (SFits w64) few.values h.2)

-- a list of its type that is short can be written
good_list : (few : Few) → IsTypedList few → IsShortList few → IsGoodList few
good_list few typed short = (short, typed.0, recursion_from_All (SFits w64) few.values typed.1)

-- fields of their types make a dip that can be written
dip_to : (f : Dipped) → FitsDip f → IsOf 2 (dip_of f)
unfolding tag_of
dip_to f h =
    let tapes = h.1.1.0 in
    let water = h.1.1.1.0 in
    let temperatures = h.1.1.1.1.0 in
    (refl, ((h.0, typed_list f.1.1.0 tapes, typed_list f.1.1.1.0 water, typed_list f.1.1.1.1.0 temperatures, h.1.1.1.1.1), (tapes.0, water.0, temperatures.0)))

-- a dip is that of its fields
dip_back : (c : Command) → IsOf 2 c → dip_of (dip_parts c) ≡ c
unfolding tag_of dip_parts
dip_back (Dip tank outage tapes water temperatures ambient) h = refl
dip_back c h = absurd (omega (arith, h.0))

-- the fields of a dip are of their types
dip_fits : (c : Command) → IsOf 2 c → FitsDip (dip_parts c)
unfolding tag_of dip_parts
dip_fits (Dip tank outage tapes water temperatures ambient) h =
    let typed = h.1.0 in
    let short = h.1.1 in
    (typed.0, (tt, (good_list tapes typed.1 short.0, (good_list water typed.2 short.1, (good_list temperatures typed.3 short.2, typed.4)))))
dip_fits c h = absurd (omega (arith, h.0))

-- the bytes of a dip are those of its fields, one after another
dip_same : (f : Dipped) → fields_bytes (dip_of f) ≡ to_be_bytes w16 f.0 ++ ((kind_byte f.1.0 ∷ []) ++ (list_bytes f.1.1.0 ++ (list_bytes f.1.1.1.0 ++ (list_bytes f.1.1.1.1.0 ++ signed_bytes f.1.1.1.1.1))))
unfolding fields_bytes
dip_same f = refl

-- the bytes of dips are read exactly
pub dip_reader : IsPlacing (IsOf 2) fields_bytes dip_at
unfolding dip_at
dip_reader =
    made_reader
    (then_reader (number_reader w16 (2 ^ 16) wide16) (λ a ha.
    then_reader kind_reader (λ b hb. then_reader list_reader (λ d hd. then_reader list_reader (λ e he. then_reader list_reader (λ f hf. signed_reader))))))
    (record { to = dip_to; same = λ f h. dip_same f; of = dip_parts; back = dip_back; of_fits = dip_fits })

-- Samples.

-- the fields of a sample: tank, density, and sediment and water
abbrev Sampled : Type 0
Sampled = ℕ × (ℤ × ℤ)

-- the sample of its fields
abbrev sample_of : Sampled → Command
sample_of f = Sample f.0 f.1.0 f.1.1

-- each field is of its type
abbrev FitsSample : Sampled → Type 0
FitsSample f = (f.0 < 2 ^ 16) × (SFits w64 f.1.0 × SFits w64 f.1.1)

-- the fields of a sample
sample_parts : Command → Sampled
sample_parts (Sample tank density sw) = (tank, (density, sw))
sample_parts command = (0, (pos 0, pos 0))

-- fields of their types make a sample that can be written
sample_to : (f : Sampled) → FitsSample f → IsOf 3 (sample_of f)
unfolding tag_of
sample_to f h = (refl, ((h.0, All-from_recursion (SFits w64) (f.1.0 ∷ f.1.1 ∷ []) (h.1.0, (h.1.1, tt))), tt))

-- a sample is that of its fields
sample_back : (c : Command) → IsOf 3 c → sample_of (sample_parts c) ≡ c
unfolding tag_of sample_parts
sample_back (Sample tank density sw) h = refl
sample_back c h = absurd (omega (arith, h.0))

-- the fields of a sample are of their types
sample_fits : (c : Command) → IsOf 3 c → FitsSample (sample_parts c)
unfolding tag_of sample_parts
sample_fits (Sample tank density sw) h =
    let all = recursion_from_All (SFits w64) (density ∷ sw ∷ []) h.1.0.1 in
    (h.1.0.0, (all.0, all.1.0))
sample_fits c h = absurd (omega (arith, h.0))

-- the bytes of a sample are those of its fields, one after another
sample_same : (f : Sampled) → fields_bytes (sample_of f) ≡ to_be_bytes w16 f.0 ++ (signed_bytes f.1.0 ++ signed_bytes f.1.1)
unfolding fields_bytes
sample_same f = refl

-- the bytes of samples are read exactly
pub sample_reader : IsPlacing (IsOf 3) fields_bytes sample_at
unfolding sample_at
sample_reader =
    made_reader (then_reader (number_reader w16 (2 ^ 16) wide16) (λ a ha. then_reader signed_reader (λ b hb. signed_reader)))
    (record { to = sample_to; same = λ f h. sample_same f; of = sample_parts; back = sample_back; of_fits = sample_fits })
