-- The reader of commands.
use Rattle.std.proofs.Common.{◌≡◌, ℕ, ◌==◌, true, false, cond, List, ◌∷◌, Result, Ok, refl, ap, ◌∙◌, arith}
use Rattle.std.proofs.lemmas.Bool.{eqb-true}
use Rattle.farm_history.specs.declared.command.Command.{Command}
use Rattle.farm_history.specs.declared.command.Command.TheVariants.{Gauge, Dip, Sample, Opening, Closing, Cancel, Reverse, Settle, Stop}
use Rattle.farm_history.specs.Decoding.{cancel_at, closing_at, command_at, dip_at, fields_at, gauge_at, is_tag, opening_at, reverse_at, sample_at, settle_at}
use Rattle.farm_history.specs.Encoding.{command_bytes}
use Rattle.farm_history.proofs.Choices.{choose_reader, of_number, only_reader}
use Rattle.farm_history.proofs.MovementFields.{cancel_reader, closing_reader, opening_reader, reverse_reader, settle_reader}
use Rattle.farm_history.proofs.NumberReaders.{byte_reader}
use Rattle.farm_history.proofs.Readers.{IsPlacing, made_reader, then_reader}
use Rattle.farm_history.proofs.CommandFields.{IsGoodCommand, IsOf, dip_reader, fields_bytes, gauge_reader, sample_reader, tag_and_fields, tag_of}

-- a Stop that was read
abbrev stop_at : List ℕ → Result (Command × List ℕ) ℕ
stop_at bytes = Ok (Stop, bytes)

-- a Stop is the one command of its tag
stop_only : (c : Command) → IsOf 9 c → Stop ≡ c
unfolding tag_of
stop_only Stop h = refl
stop_only c h = absurd (omega (arith, h.0))

-- Stops after their tag
stop_reader : IsPlacing (IsOf 9) fields_bytes stop_at
unfolding tag_of fields_bytes
stop_reader = only_reader Stop (refl, (tt, tt)) refl stop_only

-- a reader of a tag's commands is one of the same tag's
of_tag : (tag same : ℕ) (read : List ℕ → Result (Command × List ℕ) ℕ) → (tag == same) ≡ true → IsPlacing (IsOf same) fields_bytes read →
    IsPlacing (IsOf tag) fields_bytes read
of_tag tag same read here reader = of_number IsOf tag same read (eqb-true tag same here) reader

-- a tag that isn't one of the first eight is that of a Stop
stop_tag : (tag : ℕ) → is_tag tag ≡ true → (tag == 1) ≡ false → (tag == 2) ≡ false → (tag == 3) ≡ false → (tag == 4) ≡ false → (tag == 5) ≡ false →
    (tag == 6) ≡ false → (tag == 7) ≡ false → (tag == 8) ≡ false → (tag == 9) ≡ true
stop_tag tag h one two three four five six seven eight = let e = rw (one, two, three, four, five, six, seven, eight) at h in e

-- the fields of a tag's commands
fields_reader : (tag : ℕ) → is_tag tag ≡ true → IsPlacing (IsOf tag) fields_bytes (fields_at tag)
unfolding fields_at
fields_reader tag h =
    let reverse_or : List ℕ → Result (Command × List ℕ) ℕ = λ bytes. cond (tag == 8) (reverse_at bytes) (stop_at bytes) in
    let settle_or : List ℕ → Result (Command × List ℕ) ℕ = λ bytes. cond (tag == 7) (settle_at bytes) (reverse_or bytes) in
    let cancel_or : List ℕ → Result (Command × List ℕ) ℕ = λ bytes. cond (tag == 6) (cancel_at bytes) (settle_or bytes) in
    let closing_or : List ℕ → Result (Command × List ℕ) ℕ = λ bytes. cond (tag == 5) (closing_at bytes) (cancel_or bytes) in
    let opening_or : List ℕ → Result (Command × List ℕ) ℕ = λ bytes. cond (tag == 4) (opening_at bytes) (closing_or bytes) in
    let sample_or : List ℕ → Result (Command × List ℕ) ℕ = λ bytes. cond (tag == 3) (sample_at bytes) (opening_or bytes) in
    let dip_or : List ℕ → Result (Command × List ℕ) ℕ = λ bytes. cond (tag == 2) (dip_at bytes) (sample_or bytes) in
    choose_reader gauge_at dip_or (tag == 1) (λ here. of_tag tag 1 gauge_at here gauge_reader)
    (λ one. choose_reader dip_at sample_or (tag == 2) (λ here. of_tag tag 2 dip_at here dip_reader)
    (λ two. choose_reader sample_at opening_or (tag == 3) (λ here. of_tag tag 3 sample_at here sample_reader)
    (λ three. choose_reader opening_at closing_or (tag == 4) (λ here. of_tag tag 4 opening_at here opening_reader)
    (λ four. choose_reader closing_at cancel_or (tag == 5) (λ here. of_tag tag 5 closing_at here closing_reader)
    (λ five. choose_reader cancel_at settle_or (tag == 6) (λ here. of_tag tag 6 cancel_at here cancel_reader)
    (λ six. choose_reader settle_at reverse_or (tag == 7) (λ here. of_tag tag 7 settle_at here settle_reader)
    (λ seven. choose_reader reverse_at stop_at (tag == 8) (λ here. of_tag tag 8 reverse_at here reverse_reader)
    (λ eight. of_tag tag 9 stop_at (stop_tag tag h one two three four five six seven eight) stop_reader))))))))

-- the tag of a command is one
tag_is_tag : (c : Command) → is_tag (tag_of c) ≡ true
unfolding tag_of
tag_is_tag (Gauge tank level water temperature ambient) = refl
tag_is_tag (Dip tank outage tapes water temperatures ambient) = refl
tag_is_tag (Sample tank density sw) = refl
tag_is_tag (Opening plan) = refl
tag_is_tag (Closing movement first second) = refl
tag_is_tag (Cancel movement) = refl
tag_is_tag (Settle tank gauged) = refl
tag_is_tag (Reverse ticket) = refl
tag_is_tag Stop = refl

-- commands
pub command_reader : IsPlacing IsGoodCommand command_bytes command_at
unfolding command_at
command_reader =
    made_reader (then_reader (byte_reader is_tag 9 refl) fields_reader) (record {
      to = λ p h. h.1.1;
      same = λ p h. tag_and_fields p.1 ∙ ap (λ tag. tag ∷ fields_bytes p.1) h.1.0;
      of = λ c. (tag_of c, c);
      back = λ c h. refl;
      of_fits = λ c h. (tag_is_tag c, (refl, h));
    })
