-- Answers to the open goals of `lay_record`.
use Rattle.std.proofs.Common.{◌≡◌, ℕ, ◌+◌, ◌-◌, ◌<◌, ◌≤◌, List, [], ◌∷◌, ◌++◌, length, take, drop, get_or, refl, sym, ap, ◌∙◌, arith, slice_set, append_assoc}
use Rattle.std.proofs.lemmas.List.{drop_more, length_push, set_at, take_at}
use Rattle.std.specs.Int.{to_be_bytes, w32}
use Rattle.farm_journal.specs.Layout.{counted, open_record}
use borrow.Rule.Slice.PartMut.{put_mid}
use Rattle.farm_journal.proofs.record_buffer.lay_record.Goals as goal

-- the four writes over bytes that have room leave the record at their front
laid : (old size body : List ℕ) → length body + 6 ≤ length old → length size ≡ 4 →
    take (length body + 6) (slice_set (put_mid 5 (length body + 5 - 5) (put_mid 1 4 (slice_set old 0 1) size) body) (length body + 5) 0) ≡
    1 ∷ (size ++ body ++ 0 ∷ [])
laid (a ∷ b ∷ c ∷ d ∷ e ∷ rest) (s ∷ t ∷ u ∷ v ∷ []) body room four =
    let record_bytes = 1 ∷ s ∷ t ∷ u ∷ v ∷ body in
    let less : length body + 5 - 5 ≡ length body = omega arith in
    let within : length body < length rest = omega arith in
    let gate = get_or rest (length body) 0 in
    let back = drop (length body + 1) rest in
    let last : drop (length body + 5 - 5) rest ≡ gate ∷ back = ap (λ k. drop k rest) less ∙ drop_more rest (length body) 0 within in
    ap (λ back. take (length body + 6) (slice_set (record_bytes ++ back) (length body + 5) 0)) last
    ∙ ap (λ bytes. take (length body + 6) bytes) (set_at record_bytes gate back 0 (length body + 5) (omega arith))
    ∙ ap (λ bytes. take (length body + 6) bytes) (sym (append_assoc record_bytes (0 ∷ []) back))
    ∙ take_at (record_bytes ++ 0 ∷ []) back (length body + 6) (omega (arith, length_push record_bytes 0))
laid old size body room four = absurd (omega arith)

pub returns : goal.returns
unfolding open_record counted
returns c =
    let old = c.args.bytes.now in
    let body = c.args.body.now in
    let end = length body + 5 in
    let size = to_be_bytes w32 (length body) in
    let sized : c.copy_from_slice.new.self ≡ size = c.copy_from_slice.ensures.after ∙ c.to_be_bytes.ensures in
    ap (λ size. take (length body + 6) (slice_set (put_mid 5 (end - 5) (put_mid 1 4 (slice_set old 0 1) size) c.copy_from_slice-2.new.self) end 0)) sized
    ∙ ap (λ copied. take (length body + 6) (slice_set (put_mid 5 (end - 5) (put_mid 1 4 (slice_set old 0 1) size) copied) end 0)) c.copy_from_slice-2.ensures.after
    ∙ laid old size body c.requires.room refl
