-- The bytes in hand among the bytes of a room.
use Rattle.std.proofs.Common.{◌≡◌, ◌∙◌, ℕ, ◌+◌, ◌-◌, ◌<◌, ◌≤◌, List, ◌++◌, drop, take, length, length-drop, length-take, zero-add, Option, sym, ap, arith}
use Rattle.std.proofs.Math.Seq.{paste, take-add}
use Rattle.std.proofs.lemmas.List.{drop-take}
use Rattle.std.proofs.lemmas.List.Edits.{take-paste}
use Rattle.farm_base.specs.Known.{Stream}
use Rattle.farm_ports.specs.Ports.{ReadsOn, TakesFront}

-- what is left after the first bytes in hand, moved to their place
pub moved_to_front : (bytes : List ℕ) (count held : ℕ) → count ≤ held → held ≤ length bytes →
    take (held - count) (paste bytes 0 (drop count bytes) (held - count)) ≡ drop count (take held bytes)
moved_to_front bytes count held fewer within =
    let whole : count + (held - count) ≡ held = omega arith in
    let fits : held - count ≤ length (drop count bytes) = omega (arith, length-drop count bytes) in
    ap (λ (n : ℕ). take n (paste bytes 0 (drop count bytes) (held - count))) (sym (zero-add (held - count)))
    ∙ take-paste bytes 0 (drop count bytes) (held - count) (omega arith) fits
    ∙ sym (drop-take count (held - count) bytes)
    ∙ ap (λ (n : ℕ). drop count (take n bytes)) whole

-- bytes that came behind those in hand
pub came_behind : (from to : Option Stream) (old new in_hand : List ℕ) (held count most : ℕ) → take held old ≡ in_hand → take held new ≡ take held old →
    length new ≡ most → held < most → TakesFront from to (drop held new) count → ReadsOn from to in_hand (take (held + count) new) most count
came_behind from to old new in_hand held count most is stays size room front =
    let fits : count ≤ length (drop held new) = front.within in
    record {
      chunk = take count (drop held new);
      counted = omega (arith, length-take count (drop held new), fits);
      added = take-add held count new ∙ ap (λ (first : List ℕ). first ++ take count (drop held new)) (stays ∙ is);
      moved = front.moved;
      within = omega (arith, length-take (held + count) new);
      at_end = λ none. front.at_end none (omega (arith, length-drop held new));
    }
