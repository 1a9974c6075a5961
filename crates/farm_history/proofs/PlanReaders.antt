-- The readers of what is named for a tank, and of plans.
use Rattle.std.proofs.Common.{◌≡◌, ℕ, ◌^◌, ◌<◌, ◌==◌, true, false, cond, List, ◌∷◌, ◌++◌, refl, ap, ◌∙◌, arith}
use Rattle.std.specs.Int.{w16, w32, to_be_bytes}
use Rattle.std.proofs.lemmas.Bool.{eqb-true}
use Rattle.farm_history.specs.declared.plan.Gauged.{Gauged}
use Rattle.farm_history.specs.declared.plan.Plan.{Plan}
use Rattle.farm_history.specs.declared.plan.Plan.TheVariants.{Outside, Transfer}
use Rattle.farm_ticket.specs.declared.side.Way.{Way}
use Rattle.farm_ticket.specs.declared.side.Way.TheVariants.{Inward, Outward}
use Rattle.farm_history.specs.Decoding.{gauged_at, is_way, outside_at, plan_at, plan_of_way, transfer_at}
use Rattle.farm_history.specs.Encoding.{IsTypedGauged, IsTypedPlan, gauged_bytes, plan_bytes, way_byte}
use Rattle.byte_readers.proofs.NumberReaders.{wide16, wide32}
use Rattle.farm_history.proofs.Choices.{choose_reader, of_number}
use Rattle.farm_history.proofs.NumberReaders.{byte_reader, number_reader}
use Rattle.farm_history.proofs.Readers.{IsPlacing, made_reader, then_reader}

-- what is named for a tank
pub gauged_reader : IsPlacing IsTypedGauged gauged_bytes gauged_at
unfolding gauged_at
gauged_reader =
    made_reader (then_reader (number_reader w32 (2 ^ 32) wide32) (λ a ha. number_reader w32 (2 ^ 32) wide32)) (record {
      to = λ f h. (h.0, h.1);
      same = λ f h. refl;
      of = λ gauged. (gauged.reading, gauged.sample);
      back = λ gauged h. refl;
      of_fits = λ gauged h. (h.0, h.1);
    })

-- Plans.

-- the way of a plan
unfoldable way_of : Plan → ℕ
way_of (Outside way tank party gauged) = way_byte way
way_of (Transfer from to from_gauged to_gauged) = 3

-- the bytes after it
unfoldable rest_of : Plan → List ℕ
rest_of (Outside way tank party gauged) = to_be_bytes w16 tank ++ (to_be_bytes w16 party ++ gauged_bytes gauged)
rest_of (Transfer from to from_gauged to_gauged) = to_be_bytes w16 from ++ (to_be_bytes w16 to ++ (gauged_bytes from_gauged ++ gauged_bytes to_gauged))

-- a plan's bytes are its way and those after it
way_and_rest : (plan : Plan) → plan_bytes plan ≡ way_of plan ∷ rest_of plan
unfolding way_of rest_of
way_and_rest (Outside way tank party gauged) = refl
way_and_rest (Transfer from to from_gauged to_gauged) = refl

-- a plan of a way
abbrev IsOfWay : ℕ → Plan → Type 0
IsOfWay way plan = (way_of plan ≡ way) × IsTypedPlan plan

-- what is named where nothing is
pub no_gauged : Gauged
no_gauged = record { reading = 0; sample = 0 }

-- the fields of a plan of one tank
abbrev OneTank : Type 0
OneTank = ℕ × (ℕ × Gauged)

-- the plan of its way and its fields
abbrev outside_of : Way → OneTank → Plan
outside_of way f = Outside way f.0 f.1.0 f.1.1

-- the fields are each of their types
abbrev FitsOutside : OneTank → Type 0
FitsOutside f = (f.0 < 2 ^ 16) × ((f.1.0 < 2 ^ 16) × IsTypedGauged f.1.1)

-- the fields of a plan
outside_parts : Plan → OneTank
outside_parts (Outside way tank party gauged) = (tank, (party, gauged))
outside_parts plan = (0, (0, no_gauged))

-- fields of their types make a plan of the way
outside_to : (way : Way) (f : OneTank) → FitsOutside f → IsOfWay (way_byte way) (outside_of way f)
unfolding way_of
outside_to way f h = (refl, (h.0, h.1.0, h.1.1))

-- a plan of the way is made of its fields
outside_back : (way : Way) (plan : Plan) → IsOfWay (way_byte way) plan → outside_of way (outside_parts plan) ≡ plan
unfolding way_of outside_parts
outside_back Inward (Outside Inward tank party gauged) h = refl
outside_back Outward (Outside Outward tank party gauged) h = refl
outside_back way plan h = absurd (omega (arith, h.0))

-- whose fields are of their types
outside_fits : (way : Way) (plan : Plan) → IsOfWay (way_byte way) plan → FitsOutside (outside_parts plan)
unfolding way_of outside_parts
outside_fits way (Outside other tank party gauged) h = (h.1.0, (h.1.1, h.1.2))
outside_fits Inward (Transfer from to from_gauged to_gauged) h = absurd (omega (arith, h.0))
outside_fits Outward (Transfer from to from_gauged to_gauged) h = absurd (omega (arith, h.0))

-- the bytes after the way are those of the fields
outside_same : (way : Way) (f : OneTank) → rest_of (outside_of way f) ≡ to_be_bytes w16 f.0 ++ (to_be_bytes w16 f.1.0 ++ gauged_bytes f.1.1)
unfolding rest_of
outside_same way f = refl

-- receipts and deliveries after their way
outside_reader : (way : Way) → IsPlacing (IsOfWay (way_byte way)) rest_of (outside_at way)
unfolding outside_at
outside_reader way =
    made_reader
    (then_reader (number_reader w16 (2 ^ 16) wide16) (λ a ha. then_reader (number_reader w16 (2 ^ 16) wide16) (λ b hb. gauged_reader)))
    (record { to = outside_to way; same = λ f h. outside_same way f; of = outside_parts; back = outside_back way; of_fits = outside_fits way })

-- the fields of a transfer
abbrev TwoTanks : Type 0
TwoTanks = ℕ × (ℕ × (Gauged × Gauged))

-- the transfer of its fields
abbrev transfer_of : TwoTanks → Plan
transfer_of f = Transfer f.0 f.1.0 f.1.1.0 f.1.1.1

-- the fields are each of their types
abbrev FitsTransfer : TwoTanks → Type 0
FitsTransfer f = (f.0 < 2 ^ 16) × ((f.1.0 < 2 ^ 16) × (IsTypedGauged f.1.1.0 × IsTypedGauged f.1.1.1))

-- the fields of a plan
transfer_parts : Plan → TwoTanks
transfer_parts (Transfer from to from_gauged to_gauged) = (from, (to, (from_gauged, to_gauged)))
transfer_parts plan = (0, (0, (no_gauged, no_gauged)))

-- fields of their types make a transfer
transfer_to : (f : TwoTanks) → FitsTransfer f → IsOfWay 3 (transfer_of f)
unfolding way_of
transfer_to f h = (refl, (h.0, h.1.0, h.1.1.0, h.1.1.1))

-- a transfer is made of its fields
transfer_back : (plan : Plan) → IsOfWay 3 plan → transfer_of (transfer_parts plan) ≡ plan
unfolding way_of transfer_parts
transfer_back (Transfer from to from_gauged to_gauged) h = refl
transfer_back (Outside Inward tank party gauged) h = absurd (omega (arith, h.0))
transfer_back (Outside Outward tank party gauged) h = absurd (omega (arith, h.0))

-- whose fields are of their types
transfer_fits : (plan : Plan) → IsOfWay 3 plan → FitsTransfer (transfer_parts plan)
unfolding way_of transfer_parts
transfer_fits (Transfer from to from_gauged to_gauged) h = (h.1.0, (h.1.1, (h.1.2, h.1.3)))
transfer_fits (Outside Inward tank party gauged) h = absurd (omega (arith, h.0))
transfer_fits (Outside Outward tank party gauged) h = absurd (omega (arith, h.0))

-- the bytes after the way are those of the fields
transfer_same : (f : TwoTanks) → rest_of (transfer_of f) ≡ to_be_bytes w16 f.0 ++ (to_be_bytes w16 f.1.0 ++ (gauged_bytes f.1.1.0 ++ gauged_bytes f.1.1.1))
unfolding rest_of
transfer_same f = refl

-- transfers after their way
transfer_reader : IsPlacing (IsOfWay 3) rest_of transfer_at
unfolding transfer_at
transfer_reader =
    made_reader
    (then_reader (number_reader w16 (2 ^ 16) wide16) (λ a ha. then_reader (number_reader w16 (2 ^ 16) wide16) (λ b hb.
    then_reader gauged_reader (λ d hd. gauged_reader))))
    (record { to = transfer_to; same = λ f h. transfer_same f; of = transfer_parts; back = transfer_back; of_fits = transfer_fits })

-- a way that is neither of the first two is that of a transfer
third_way : (way : ℕ) → is_way way ≡ true → (way == 1) ≡ false → (way == 2) ≡ false → way ≡ 3
third_way way h one two = eqb-true way 3 (let e = rw (one, two) at h in e)

-- the rest of a way's plans
rest_reader : (way : ℕ) → is_way way ≡ true → IsPlacing (IsOfWay way) rest_of (plan_of_way way)
rest_reader way h =
    choose_reader (outside_at Inward) (λ bytes. cond (way == 2) (outside_at Outward bytes) (transfer_at bytes)) (way == 1)
    (λ here. of_number IsOfWay way 1 (outside_at Inward) (eqb-true way 1 here) (outside_reader Inward))
    (λ one. choose_reader (outside_at Outward) transfer_at (way == 2)
    (λ here. of_number IsOfWay way 2 (outside_at Outward) (eqb-true way 2 here) (outside_reader Outward))
    (λ two. of_number IsOfWay way 3 transfer_at (third_way way h one two) transfer_reader))

-- the way of a plan is one
way_is_way : (plan : Plan) → is_way (way_of plan) ≡ true
unfolding way_of
way_is_way (Outside Inward tank party gauged) = refl
way_is_way (Outside Outward tank party gauged) = refl
way_is_way (Transfer from to from_gauged to_gauged) = refl

-- plans
pub plan_reader : IsPlacing IsTypedPlan plan_bytes plan_at
unfolding plan_at
plan_reader =
    made_reader (then_reader (byte_reader is_way 3 refl) rest_reader) (record {
      to = λ p h. h.1.1;
      same = λ p h. way_and_rest p.1 ∙ ap (λ way. way ∷ rest_of p.1) h.1.0;
      of = λ plan. (way_of plan, plan);
      back = λ plan h. refl;
      of_fits = λ plan h. (way_is_way plan, (refl, h));
    })
