-- What a crash leaves while a journal is made: at most the header of an empty one.
use Rattle.std.proofs.Common.{◌≡◌, ◌≢◌, inl, inr, ⊎_elim, ℕ, ◌+◌, ◌-◌, ◌<◌, ◌≤◌, List, [], ◌∷◌, ◌++◌, length, get_or, set, refl, sym, ap, ◌∙◌, subst, arith, length-append}
use Rattle.std.proofs.lemmas.Bool.{cases_eq}
use Rattle.std.proofs.lemmas.List.{append-nil, drop_all, get_or_append_left, get_or-take, length-replicate}
use Rattle.std.proofs.lemmas.List.Elements.{All-nil}
use Rattle.std.proofs.Math.ListN.{replicate}
use Rattle.std.specs.Prelude.{All}
use Rattle.farm_disk.specs.Images.{IsCrashImage, Range, State, at_rest, overlaid, reach, reach_from, synced, written, written_at}
use Rattle.farm_disk.proofs.Rebuilt.{reach_least}
use Rattle.farm_journal.specs.Creating.{IsNoneOrEmpty, IsOpening}
use Rattle.farm_journal.specs.Layout.{IsJournalOf, IsShort, signature}
use Rattle.farm_journal.specs.Recovery.{IsNotJournal}
use Rattle.farm_journal.specs.Standing.{IsAtRest}
use Rattle.farm_journal.specs.Steps.{IsWriting}
use Rattle.farm_journal.proofs.Gates.{IsGate, gate_reach, other_uncovered, set_place, uncovered}
use Rattle.farm_journal.proofs.JournalBytes.{counting-empty, journal_of, with_open_seam, written_seam}
use Rattle.farm_journal.proofs.Writes.{at_rest_synced, synced-written, writing_ranges}

-- some image is as long as the writes reach
reached : (state : State) (limit : ℕ) → ((image : List ℕ) → IsCrashImage state image → length image < limit) → reach state < limit
reached state limit each =
    let size = length state.base in
    let zeros : List ℕ = replicate (reach state - size) 0 in
    let least : size ≤ reach state = reach_least size state.ranges in
    let long : length (state.base ++ zeros) ≡ reach state =
    omega (arith, least, length-append state.base zeros, length-replicate {A = ℕ} (reach state - size) 0) in
    let image : IsCrashImage state (state.base ++ zeros) = record {
      least = omega arith;
      most = omega arith;
      kept = λ i within free. get_or_append_left state.base zeros 0 i within;
    } in
    omega (arith, long, each (state.base ++ zeros) image)

-- bytes that don't begin with an open gate are no journal
closed_is_none : (bytes : List ℕ) → get_or bytes 0 0 ≢ 1 → IsNotJournal bytes
unfolding signature
closed_is_none bytes closed =
    inr (λ is. closed (sym (get_or-take 9 bytes 0 0 (omega arith)) ∙ ap (λ front. get_or front 0 0) is))

-- a write of one byte at the start reaches one byte
first_reach : (old state : State) → IsWriting 0 (0 ∷ []) old state → reach old < 13 → reach state < 13
first_reach old state writing near =
    ⊎_elim
    (λ same. omega (arith, near, ap (λ base. reach_from (length base) state.ranges) writing.base, ap (λ ranges. reach_from (length old.base) ranges) same))
    (λ same. omega (arith, near, ap (λ base. reach_from (length base) state.ranges) writing.base, ap (λ ranges. reach_from (length old.base) ranges) same))
    writing.ranges

module _ (header : List ℕ) where
  -- while the closed gate is written each image is as short as before
  pub first_writing : (old state : State) → ((image : List ℕ) → IsCrashImage old image → length image < 13) →
      IsWriting 0 (0 ∷ []) old state → (image : List ℕ) → IsCrashImage state image → IsNoneOrEmpty header image
  first_writing old state short writing image is =
      inl (inl (omega (arith, is.most, first_reach old state writing (reached old 13 short))))

  -- once it is synced it stands alone
  pub first_synced : (old : State) → old.seen ≡ [] → synced (written 0 (0 ∷ []) old) ≡ at_rest (0 ∷ [])
  unfolding overlaid
  first_synced old none = ap (λ seen. at_rest (written_at 0 (0 ∷ []) seen)) none

  -- bytes that are all synced and begin with a closed gate leave no journal
  pub closed_image : (rest image : List ℕ) → IsCrashImage (at_rest (0 ∷ rest)) image → IsNoneOrEmpty header image
  closed_image rest image is =
      inl (closed_is_none image (λ one. omega (arith, one, is.kept 0 (omega arith) (λ never. never))))

  -- so while the rest is written past the gate
  pub rest_writing : (bytes : List ℕ) (state : State) → 0 < length bytes → IsWriting 1 bytes (at_rest (0 ∷ [])) state →
      (image : List ℕ) → IsCrashImage state image → IsNoneOrEmpty header image
  rest_writing bytes state some writing image is =
      let IsPast : Range → Type 0 = λ range. 0 + 1 ≤ range.at in
      let past : All IsPast state.ranges = writing_ranges 1 bytes (at_rest (0 ∷ [])) state IsPast writing some (omega arith) (All-nil IsPast) in
      let has : 0 < length state.base = omega (arith, ap length writing.base) in
      let zero : get_or image 0 0 ≡ 0 =
      is.kept 0 has (uncovered 0 state.ranges past 0 (omega arith)) ∙ ap (λ base. get_or base 0 0) writing.base in
      inl (closed_is_none image (λ one. omega (arith, one, zero)))

  -- once the rest is synced it stands after the closed gate
  pub rest_synced : (bytes : List ℕ) → 0 < length bytes → synced (written 1 bytes (at_rest (0 ∷ []))) ≡ at_rest (0 ∷ bytes)
  rest_synced bytes some =
      synced-written 1 bytes (at_rest (0 ∷ [])) some
      ∙ ap at_rest (written_seam 1 (0 ∷ []) bytes [] refl some
      ∙ ap (λ back. 0 ∷ (bytes ++ back)) (drop_all (length bytes) [] (omega arith))
      ∙ ap (λ bytes. 0 ∷ bytes) (append-nil bytes))

  -- the opening and a closed gate are a journal without a body
  opening_journal : (bytes : List ℕ) → IsOpening header bytes → IsJournalOf header [] bytes
  opening_journal bytes opening_is =
      journal_of header [] bytes 0 [] (opening_is.is ∙ ap (λ front. front ++ 0 ∷ []) (sym (counting-empty header))) (omega arith) opening_is.short
      (All-nil IsShort)

  -- the first byte of it is the open gate
  with_gate : (rest image : List ℕ) (gate : ℕ) → IsOpening header (1 ∷ rest) → image ≡ gate ∷ rest → IsNoneOrEmpty header image
  with_gate rest image gate opening_is is =
      ⊎_elim
      (λ open_gate. inr (subst (IsJournalOf header []) (sym (is ∙ ap (λ gate. gate ∷ rest) open_gate)) (opening_journal (1 ∷ rest) opening_is)))
      (λ closed. inl (closed_is_none image (λ one. closed (sym (ap (λ bytes. get_or bytes 0 0) is) ∙ one))))
      (cases_eq gate 1)

  -- while the gate is opened there is no journal or one without a body
  pub gate_writing : (rest : List ℕ) (state : State) → IsOpening header (1 ∷ rest) → IsWriting 0 (1 ∷ []) (at_rest (0 ∷ rest)) state →
      (image : List ℕ) → IsCrashImage state image → IsNoneOrEmpty header image
  gate_writing rest state opening_is writing image is =
      let at_gate : All (IsGate 0) state.ranges =
      writing_ranges 0 (1 ∷ []) (at_rest (0 ∷ rest)) state (IsGate 0) writing (omega arith) (refl, refl) (All-nil (IsGate 0)) in
      let has : 0 < length state.base = omega (arith, ap length writing.base) in
      let long : length image ≡ length state.base = omega (arith, is.least, is.most, gate_reach 0 (length state.base) state.ranges has at_gate) in
      let same : image ≡ set state.base 0 (get_or image 0 0) =
      set_place 0 state.base image has long (λ i inside other. is.kept i inside (other_uncovered 0 state.ranges at_gate i other)) in
      with_gate rest image (get_or image 0 0) opening_is (same ∙ ap (λ base. set base 0 (get_or image 0 0)) writing.base)

  -- once it is synced the journal stands without a body
  pub gate_synced : (rest : List ℕ) → IsOpening header (1 ∷ rest) → IsAtRest header [] (synced (written 0 (1 ∷ []) (at_rest (0 ∷ rest))))
  gate_synced rest opening_is =
      subst (λ bytes. IsAtRest header [] (at_rest bytes)) (sym (with_open_seam 0 [] 0 rest refl))
      (at_rest_synced header [] (1 ∷ rest) (opening_journal (1 ∷ rest) opening_is))
