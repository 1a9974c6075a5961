-- Bytes that are put into a file that is long enough.
use Rattle.std.proofs.Common.{◌≡◌, ℕ, ◌+◌, ◌-◌, ◌<◌, List, [], ◌∷◌, ◌++◌, length, take, drop, ap, ◌∙◌, arith, refl, rules}
use Rattle.std.proofs.lemmas.List.{places, same_lists}
use Rattle.std.proofs.Math.ListN.{replicate}
use Rattle.farm_disk.specs.Images.{overlaid}

-- up to the offset the file is the same, however much longer it was made
front_same : (filler at size : ℕ) (old : List ℕ) →
    take at (old ++ replicate (at + size - length old) filler) ≡ take at (old ++ replicate at filler)
front_same filler at size old =
    same_lists _ _ (search (rules, places)) (λ k d within. grind (arith, places))

-- past the bytes nothing was added
back_same : (filler end : ℕ) (old : List ℕ) → drop end (old ++ replicate (end - length old) filler) ≡ drop end old
back_same filler end old =
    same_lists _ _ (search (rules, places)) (λ k d within. grind (arith, places))

-- such bytes lie over those that the file had before it was made longer
pub put_overlays : (filler at : ℕ) (bytes old longer : List ℕ) → 0 < length bytes →
    longer ≡ old ++ replicate (at + length bytes - length old) filler →
    take at longer ++ bytes ++ drop (at + length bytes) longer ≡ overlaid filler at bytes old
unfolding overlaid
put_overlays filler at [] old longer some is = absurd (omega (arith, some))
put_overlays filler at (byte ∷ bytes) old longer some is =
    let all = byte ∷ bytes in
    rw is
    (ap (λ front. front ++ all ++ drop (at + length all) (old ++ replicate (at + length all - length old) filler))
    (front_same filler at (length all) old)
    ∙ ap (λ back. take at (old ++ replicate at filler) ++ all ++ back) (back_same filler (at + length all) old))

-- no byte over others
pub overlaid-nil : (filler at : ℕ) (bytes old : List ℕ) → length bytes ≡ 0 → old ≡ overlaid filler at bytes old
unfolding overlaid
overlaid-nil filler at [] old none = refl
overlaid-nil filler at (byte ∷ bytes) old none = absurd (omega (arith, none))
