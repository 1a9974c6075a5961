-- A copy of the bytes at an offset into the front of a buffer.
use Rattle.std.proofs.Common.{◌≡◌, ℕ, ◌+◌, ◌<◌, ◌≤◌, List, ◌++◌, length, take, drop, sym, ap, ◌∙◌, arith, length-drop, length-append, Some}
use Rattle.std.proofs.Math.Seq.{take-add}
use Rattle.std.proofs.lemmas.List.{take_at, drop_all, drop-drop, length-take-le, take-append-drop}
use Rattle.farm_ports.specs.Pieces.{at_offset}
use Rattle.farm_ports.specs.Ports.{TakesFront}

-- such a copy takes the bytes
pub copy_takes : (bytes buffer copied : List ℕ) (offset count : ℕ) →
    offset + count ≤ length bytes → count ≤ length buffer →
    copied ≡ take count (drop offset bytes) →
    (count ≡ 0 → 0 < length buffer → length bytes ≤ offset) →
    TakesFront (Some (at_offset offset bytes)) (Some (at_offset (offset + count) bytes)) (copied ++ drop count buffer) count
copy_takes bytes buffer copied offset count in_bytes in_buffer copy at_end =
    let whole : length copied ≡ count =
    ap length copy ∙ length-take-le count (drop offset bytes) (omega (arith, length-drop offset bytes)) in
    let front : take count (copied ++ drop count buffer) ≡ take count (drop offset bytes) =
    take_at copied (drop count buffer) count whole ∙ copy in
    let rest : length (copied ++ drop count buffer) ≡ length buffer =
    omega (arith, length-append copied (drop count buffer), length-drop count buffer) in
    record {
      within = omega arith;
      moved = record {
        taken = take-add offset count bytes ∙ ap (λ t. take offset bytes ++ t) (sym front);
        left = sym (take-append-drop count (drop offset bytes))
            ∙ ap (λ t. t ++ drop count (drop offset bytes)) (sym front)
            ∙ ap (λ t. take count (copied ++ drop count buffer) ++ t) (drop-drop count offset bytes);
      };
      at_end = λ none room. drop_all (offset + count) bytes (omega (arith, at_end none (omega arith)));
    }
