-- The reader of entries: what is read is an entry's bytes, what is an entry's bytes is read, and the place of the first bad byte.
use Rattle.std.proofs.Common.{◌≡◌, ℕ, ◌+◌, ◌-◌, ◌==◌, ◌^◌, ◌<◌, ◌≤◌, Bool, true, false, cond, List, [], ◌∷◌, ◌++◌, length, take, Ok, Err, inl, inr, refl, sym, ap, subst, ◌∙◌, append_assoc, append-nil, length-append, arith, ℤ}
use Rattle.std.specs.Int.{w32, w64, to_be_bytes}
use Rattle.std.proofs.lemmas.Bool.{eqb-true, eq-eqb}
use Rattle.std.proofs.lemmas.List.{nil_from_length, take_at}
use Rattle.byte_readers.specs.Readers.{IsBytes}
use Rattle.byte_readers.proofs.NumberReaders.{wide32, wide64}
use Rattle.byte_readers.proofs.Readers.{bind_ok}
use Rattle.farm_history.specs.declared.command.Command.{Command}
use Rattle.farm_history.specs.declared.entry.Entry.{Entry}
use Rattle.farm_history.specs.Decoding.{entry_at, entry_of, whole_entry}
use Rattle.farm_history.specs.Encoding.{BeginsEncoding, IsBadEntryAt, IsEncoding, IsTyped, command_bytes, entry_encoding, signed_bytes}
use Rattle.farm_history.specs.History.{IsMoment, IsWellFormed}
use Rattle.farm_history.proofs.CommandFields.{IsGoodCommand}
use Rattle.farm_history.proofs.CommandReader.{command_reader}
use Rattle.farm_history.proofs.MomentReader.{moment_fits, moment_reader}
use Rattle.farm_history.proofs.NumberReaders.{number_reader}
use Rattle.farm_history.proofs.Readers.{IsBadFrom, IsPlacing, bind_err, made_reader, one_start, then_reader}

-- an entry that can be written
abbrev IsGood : Entry → Type 0
IsGood entry = IsTyped entry × IsWellFormed entry

-- the fields of an entry: caller, account, key, moment and command
abbrev Parts : Type 0
Parts = ℕ × (ℕ × (ℕ × (ℤ × Command)))

-- each field is of its type
abbrev FitsEntry : Parts → Type 0
FitsEntry f = (f.0 < 2 ^ 32) × ((f.1.0 < 2 ^ 32) × ((f.1.1.0 < 2 ^ 64) × (IsMoment f.1.1.1.0 × IsGoodCommand f.1.1.1.1)))

-- fields of their types make an entry that can be written
entry_to : (f : Parts) → FitsEntry f → IsGood (entry_of f)
entry_to f h =
    let moment = h.1.1.1.0 in
    let command = h.1.1.1.1 in
    (record { caller = h.0; account = h.1.0; key = h.1.1.0; moment = moment_fits f.1.1.1.0 moment; command = command.0 }, record { command = command.1; moment = moment })

-- the bytes of an entry are those of its fields, one after another
entry_same : (f : Parts) → entry_encoding (entry_of f) ≡ to_be_bytes w32 f.0 ++ (to_be_bytes w32 f.1.0 ++ (to_be_bytes w64 f.1.1.0 ++ (signed_bytes f.1.1.1.0 ++ command_bytes f.1.1.1.1)))
unfolding entry_encoding
entry_same f = refl

-- entries
entry_reader : IsPlacing IsGood entry_encoding entry_at
unfolding entry_at
entry_reader =
    made_reader
    (then_reader (number_reader w32 (2 ^ 32) wide32) (λ a ha. then_reader (number_reader w32 (2 ^ 32) wide32) (λ b hb.
    then_reader (number_reader w64 (2 ^ 64) wide64) (λ d hd. then_reader moment_reader (λ e he. command_reader)))))
    (record {
      to = entry_to;
      same = λ f h. entry_same f;
      of = λ entry. (entry.caller, (entry.account, (entry.key, (entry.at, entry.cmd))));
      back = λ entry h. refl;
      of_fits = λ entry h. (h.0.caller, (h.0.account, (h.0.key, (h.1.moment, (h.0.command, h.1.command)))));
    })

-- an entry after which nothing stands, and one after which something does
ended_ok : (b : Bool) (x y : Entry) (k : ℕ) → cond b (Ok x) (Err k) ≡ Ok y → (b ≡ true) × (x ≡ y)
ended_ok true x y k e = (refl, cc)
ended_ok false x y k e = absurd cc

-- where something stands after an entry, that is what is reported
ended_err : (b : Bool) (x : Entry) (k left : ℕ) → cond b (Ok x) (Err k) ≡ Err left → (b ≡ false) × (k ≡ left)
ended_err true x k left e = absurd cc
ended_err false x k left e = (refl, cc)

-- what is read can be written, and the bytes are its
pub entry_found : (bytes : List ℕ) (entry : Entry) → IsBytes bytes → whole_entry bytes ≡ Ok entry → IsGood entry × (bytes ≡ entry_encoding entry)
unfolding whole_entry
entry_found bytes entry fits e =
    let b = bind_ok (entry_at bytes) (λ read. cond (length read.1 == 0) (Ok read.0) (Err (length read.1))) entry e in
    let read = b.0 in
    let g = ended_ok (length read.1 == 0) read.0 entry (length read.1) b.2 in
    let t = entry_reader.reads.takes bytes read.0 read.1 fits b.1 in
    let nothing : read.1 ≡ [] = nil_from_length read.1 (eqb-true _ _ g.0) in
    let whole : bytes ≡ entry_encoding read.0 = t.0.parts ∙ ap (λ rest. entry_encoding read.0 ++ rest) nothing ∙ append-nil (entry_encoding read.0) in
    subst (λ x. IsGood x × (bytes ≡ entry_encoding x)) g.1 (t.1, whole)

-- the bytes of an entry are read as it
pub entry_only : (bytes : List ℕ) (entry : Entry) → IsTyped entry → IsWellFormed entry → bytes ≡ entry_encoding entry → whole_entry bytes ≡ Ok entry
unfolding whole_entry
entry_only bytes entry typed well_formed encoded =
    let read : entry_at bytes ≡ Ok (entry, []) =
    ap entry_at (encoded ∙ sym (append-nil (entry_encoding entry))) ∙ entry_reader.reads.again entry [] (typed, well_formed) in
    rw read refl

-- The place.

-- what has to hold for a prefix of bytes to end at the bad one
record IsBadAfter (front back : List ℕ) : Type 0 where
  begins : BeginsEncoding front
  bad : (byte : ℕ) (after : List ℕ) → back ≡ byte ∷ after → BeginsEncoding (front ++ byte ∷ []) → ⊥
  short : back ≡ [] → IsEncoding front → ⊥

-- no byte more where none is left
next_byte : (front back : List ℕ) → IsBadAfter front back → length front < length (front ++ back) → BeginsEncoding (take (length front + 1) (front ++ back)) → ⊥
next_byte front [] w more begins = absurd (omega (arith, length-append {A = ℕ} front []))
next_byte front (byte ∷ after) w more begins =
    let split : front ++ byte ∷ after ≡ (front ++ byte ∷ []) ++ after = sym (append_assoc front (byte ∷ []) after) in
    let one_more : take (length front + 1) (front ++ byte ∷ after) ≡ front ++ byte ∷ [] =
    ap (take (length front + 1)) split ∙ take_at (front ++ byte ∷ []) after (length front + 1) (omega (arith, length-append front (byte ∷ []))) in
    w.bad byte after refl (subst BeginsEncoding one_more begins)

-- nothing is left where the front has all bytes
nothing_left : (front back : List ℕ) → length front ≡ length (front ++ back) → back ≡ []
nothing_left front back same = nil_from_length back (omega (arith, length-append front back))

-- the place of the bad byte
bad_place : (bytes front back : List ℕ) → bytes ≡ front ++ back → IsBadAfter front back → IsBadEntryAt bytes (length front)
bad_place bytes front back parts w =
    subst (λ text. IsBadEntryAt text (length front)) (sym parts) (record {
      within = omega (arith, length-append front back);
      good_before = subst BeginsEncoding (sym (take_at front back (length front) refl)) w.begins;
      bad_there = next_byte front back w;
      too_short = λ same whole.
          let nothing = nothing_left front back same in
          w.short nothing (subst IsEncoding (ap (λ t. front ++ t) nothing ∙ append-nil front) whole);
    })

-- where the reader fails
bad_in_entry : (bytes : List ℕ) (left : ℕ) → (w : IsBadFrom IsGood entry_encoding bytes left) → IsBadAfter w.front w.back
bad_in_entry bytes left w = record {
  begins = record { rest = w.more; whole = record { entry = w.value; typed = w.value_fits.0; well_formed = w.value_fits.1; encoded = sym w.good } };
  bad = λ byte after there begins.
      let entry = begins.whole.entry in
      let text = sym (append_assoc w.front (byte ∷ []) begins.rest) ∙ begins.whole.encoded ∙ sym (append-nil (entry_encoding entry)) in
      w.bad entry byte after [] begins.rest (begins.whole.typed, begins.whole.well_formed) there text;
  short = λ nothing whole. w.unfinished whole.entry [] (whole.typed, whole.well_formed) (whole.encoded ∙ sym (append-nil (entry_encoding whole.entry)));
}

-- where a byte stands after an entry
bad_after_entry : (entry : Entry) (rest : List ℕ) → IsGood entry → (length rest ≡ 0 → ⊥) → IsBadAfter (entry_encoding entry) rest
bad_after_entry entry rest good some = record {
  begins = record { rest = []; whole = record { entry = entry; typed = good.0; well_formed = good.1; encoded = append-nil (entry_encoding entry) } };
  bad = λ byte after there begins.
      let other = begins.whole.entry in
      let text = sym (append_assoc (entry_encoding entry) (byte ∷ []) begins.rest) ∙ begins.whole.encoded ∙ sym (append-nil (entry_encoding other)) in
      let same = one_start entry_reader entry other (byte ∷ begins.rest) [] good (begins.whole.typed, begins.whole.well_formed) text in
      absurd (cc same.1);
  short = λ nothing whole. some (ap length nothing);
}

-- a test that failed
not_zero : (n : ℕ) → (n == 0) ≡ false → n ≡ 0 → ⊥
not_zero n test zero = absurd (cc (test, eq-eqb n 0 zero))

-- the place from the number of bytes that are left
place_from_left : (bytes front back : List ℕ) (left : ℕ) → bytes ≡ front ++ back → length back ≡ left → IsBadAfter front back →
    (left ≤ length bytes) × IsBadEntryAt bytes (length bytes - left)
place_from_left bytes front back left parts left_is w =
    let long = ap length parts in
    let both = length-append front back in
    let place : length front ≡ length bytes - left = omega arith in
    (omega arith, subst (IsBadEntryAt bytes) place (bad_place bytes front back parts w))

-- the bytes that are left stand from the first bad one on
pub entry_place : (bytes : List ℕ) (left : ℕ) → IsBytes bytes → whole_entry bytes ≡ Err left → (left ≤ length bytes) × IsBadEntryAt bytes (length bytes - left)
unfolding whole_entry
entry_place bytes left fits e =
    elim (bind_err (entry_at bytes) (λ read. cond (length read.1 == 0) (Ok read.0) (Err (length read.1))) left e) [
      | inl failed ↦
          let w = entry_reader.refuses bytes left fits failed in
          place_from_left bytes w.front w.back left w.parts w.left_is (bad_in_entry bytes left w)
      | inr then ↦
          let read = then.0 in
          let g = ended_err (length read.1 == 0) read.0 (length read.1) left then.2 in
          let t = entry_reader.reads.takes bytes read.0 read.1 fits then.1 in
          place_from_left bytes (entry_encoding read.0) read.1 left t.0.parts g.1 (bad_after_entry read.0 read.1 t.1 (not_zero (length read.1) g.0))
    ]
