-- The readers of Openings, Closings, Cancels, Settles and Reverses after their tags.
use Rattle.std.proofs.Common.{◌≡◌, ℕ, ◌^◌, ◌<◌, Bool, true, false, ◌++◌, Option, None, refl, arith}
use Rattle.std.specs.Int.{w16, w32, to_be_bytes}
use Rattle.farm_history.specs.declared.command.Command.{Command}
use Rattle.farm_history.specs.declared.command.Command.TheVariants.{Opening, Closing, Cancel, Reverse, Settle}
use Rattle.farm_history.specs.declared.plan.Gauged.{Gauged}
use Rattle.farm_history.specs.declared.plan.Plan.{Plan}
use Rattle.farm_history.specs.declared.plan.Plan.TheVariants.{Transfer}
use Rattle.farm_history.specs.Decoding.{cancel_at, closing_at, number_at, opening_at, reverse_at, settle_at}
use Rattle.farm_history.specs.Encoding.{IsTypedGauged, IsTypedPlan, IsTypedSecond, gauged_bytes, plan_bytes, second_bytes}
use Rattle.farm_history.proofs.CommandFields.{IsOf, fields_bytes, tag_of}
use Rattle.byte_readers.specs.ByteReaders.{made_at}
use Rattle.byte_readers.proofs.NumberReaders.{wide16, wide32}
use Rattle.farm_history.proofs.NumberReaders.{number_reader}
use Rattle.farm_history.proofs.PlanReaders.{gauged_reader, no_gauged, plan_reader}
use Rattle.farm_history.proofs.Readers.{IsPlacing, made_reader, then_reader}
use Rattle.farm_history.proofs.SecondReader.{second_reader}

-- Openings.

-- the plan of an Opening
opening_parts : Command → Plan
opening_parts (Opening plan) = plan
opening_parts command = Transfer 0 0 no_gauged no_gauged

-- a plan of its type makes an Opening
opening_to : (plan : Plan) → IsTypedPlan plan → IsOf 4 (Opening plan)
unfolding tag_of
opening_to plan h = (refl, (h, tt))

-- an Opening is made of its plan
opening_back : (c : Command) → IsOf 4 c → Opening (opening_parts c) ≡ c
unfolding tag_of opening_parts
opening_back (Opening plan) h = refl
opening_back c h = absurd (omega (arith, h.0))

-- which is of its type
opening_fits : (c : Command) → IsOf 4 c → IsTypedPlan (opening_parts c)
unfolding tag_of opening_parts
opening_fits (Opening plan) h = h.1.0
opening_fits c h = absurd (omega (arith, h.0))

-- the bytes after the tag are those of the plan
opening_same : (plan : Plan) → fields_bytes (Opening plan) ≡ plan_bytes plan
unfolding fields_bytes
opening_same plan = refl

-- Openings after their tag
pub opening_reader : IsPlacing (IsOf 4) fields_bytes opening_at
unfolding opening_at
opening_reader =
    made_reader plan_reader (record { to = opening_to; same = λ plan h. opening_same plan; of = opening_parts; back = opening_back; of_fits = opening_fits })

-- Closings.

-- the fields of a Closing
abbrev Closed : Type 0
Closed = ℕ × (Gauged × Option Gauged)

-- the Closing of its fields
abbrev closing_of : Closed → Command
closing_of f = Closing f.0 f.1.0 f.1.1

-- the fields are each of their types
abbrev FitsClosing : Closed → Type 0
FitsClosing f = (f.0 < 2 ^ 32) × (IsTypedGauged f.1.0 × IsTypedSecond f.1.1)

-- the fields of a Closing
closing_parts : Command → Closed
closing_parts (Closing movement first second) = (movement, (first, second))
closing_parts command = (0, (no_gauged, None))

-- fields of their types make a Closing
closing_to : (f : Closed) → FitsClosing f → IsOf 5 (closing_of f)
unfolding tag_of
closing_to f h = (refl, ((h.0, h.1.0, h.1.1), tt))

-- a Closing is made of its fields
closing_back : (c : Command) → IsOf 5 c → closing_of (closing_parts c) ≡ c
unfolding tag_of closing_parts
closing_back (Closing movement first second) h = refl
closing_back c h = absurd (omega (arith, h.0))

-- which are of their types
closing_fits : (c : Command) → IsOf 5 c → FitsClosing (closing_parts c)
unfolding tag_of closing_parts
closing_fits (Closing movement first second) h = (h.1.0.0, (h.1.0.1, h.1.0.2))
closing_fits c h = absurd (omega (arith, h.0))

-- the bytes after the tag are those of the fields
closing_same : (f : Closed) → fields_bytes (closing_of f) ≡ to_be_bytes w32 f.0 ++ (gauged_bytes f.1.0 ++ second_bytes f.1.1)
unfolding fields_bytes
closing_same f = refl

-- Closings after their tag
pub closing_reader : IsPlacing (IsOf 5) fields_bytes closing_at
unfolding closing_at
closing_reader =
    made_reader (then_reader (number_reader w32 (2 ^ 32) wide32) (λ a ha. then_reader gauged_reader (λ b hb. second_reader)))
    (record { to = closing_to; same = λ f h. closing_same f; of = closing_parts; back = closing_back; of_fits = closing_fits })

-- Settles.

-- the fields of a Settle
abbrev Settled : Type 0
Settled = ℕ × Gauged

-- the Settle of its fields
abbrev settle_of : Settled → Command
settle_of f = Settle f.0 f.1

-- the fields are each of their types
abbrev FitsSettle : Settled → Type 0
FitsSettle f = (f.0 < 2 ^ 16) × IsTypedGauged f.1

-- the fields of a Settle
settle_parts : Command → Settled
settle_parts (Settle tank gauged) = (tank, gauged)
settle_parts command = (0, no_gauged)

-- fields of their types make a Settle
settle_to : (f : Settled) → FitsSettle f → IsOf 7 (settle_of f)
unfolding tag_of
settle_to f h = (refl, ((h.0, h.1), tt))

-- a Settle is made of its fields
settle_back : (c : Command) → IsOf 7 c → settle_of (settle_parts c) ≡ c
unfolding tag_of settle_parts
settle_back (Settle tank gauged) h = refl
settle_back c h = absurd (omega (arith, h.0))

-- which are of their types
settle_fits : (c : Command) → IsOf 7 c → FitsSettle (settle_parts c)
unfolding tag_of settle_parts
settle_fits (Settle tank gauged) h = (h.1.0.0, h.1.0.1)
settle_fits c h = absurd (omega (arith, h.0))

-- the bytes after the tag are those of the fields
settle_same : (f : Settled) → fields_bytes (settle_of f) ≡ to_be_bytes w16 f.0 ++ gauged_bytes f.1
unfolding fields_bytes
settle_same f = refl

-- Settles after their tag
pub settle_reader : IsPlacing (IsOf 7) fields_bytes settle_at
unfolding settle_at
settle_reader =
    made_reader (then_reader (number_reader w16 (2 ^ 16) wide16) (λ a ha. gauged_reader))
    (record { to = settle_to; same = λ f h. settle_same f; of = settle_parts; back = settle_back; of_fits = settle_fits })

-- Cancels and Reverses, whose one field is a place.

-- a Reverse of a place, or else a Cancel of it
abbrev placed : Bool → ℕ → Command
placed true place = Reverse place
placed false place = Cancel place

-- the tag of a Reverse, or else that of a Cancel
abbrev placed_tag : Bool → ℕ
placed_tag true = 8
placed_tag false = 6

-- the place that a Cancel or a Reverse names
place_named : Command → ℕ
place_named (Cancel movement) = movement
place_named (Reverse ticket) = ticket
place_named command = 0

-- a place of its type makes such a command
placed_to : (reverse : Bool) (place : ℕ) → place < 2 ^ 32 → IsOf (placed_tag reverse) (placed reverse place)
unfolding tag_of
placed_to true place h = (refl, (h, tt))
placed_to false place h = (refl, (h, tt))

-- such a command is made of its place
placed_back : (reverse : Bool) (c : Command) → IsOf (placed_tag reverse) c → placed reverse (place_named c) ≡ c
unfolding tag_of place_named
placed_back true (Reverse ticket) h = refl
placed_back true c h = absurd (omega (arith, h.0))
placed_back false (Cancel movement) h = refl
placed_back false c h = absurd (omega (arith, h.0))

-- which is of its type
placed_fits : (reverse : Bool) (c : Command) → IsOf (placed_tag reverse) c → place_named c < 2 ^ 32
unfolding tag_of place_named
placed_fits true (Reverse ticket) h = h.1.0
placed_fits true c h = absurd (omega (arith, h.0))
placed_fits false (Cancel movement) h = h.1.0
placed_fits false c h = absurd (omega (arith, h.0))

-- the bytes after the tag are those of the place
placed_same : (reverse : Bool) (place : ℕ) → fields_bytes (placed reverse place) ≡ to_be_bytes w32 place
unfolding fields_bytes
placed_same true place = refl
placed_same false place = refl

-- such commands after their tag
placed_reader : (reverse : Bool) → IsPlacing (IsOf (placed_tag reverse)) fields_bytes (made_at (placed reverse) (number_at w32))
placed_reader reverse =
    made_reader (number_reader w32 (2 ^ 32) wide32) (record {
      to = placed_to reverse;
      same = λ place h. placed_same reverse place;
      of = place_named;
      back = placed_back reverse;
      of_fits = placed_fits reverse;
    })

-- Cancels after their tag
pub cancel_reader : IsPlacing (IsOf 6) fields_bytes cancel_at
unfolding cancel_at
cancel_reader = placed_reader false

-- Reverses after their tag
pub reverse_reader : IsPlacing (IsOf 8) fields_bytes reverse_at
unfolding reverse_at
reverse_reader = placed_reader true
