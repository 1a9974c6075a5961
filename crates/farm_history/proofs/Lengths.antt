-- How many bytes numbers and lists have.
use Rattle.std.proofs.Common.{◌≡◌, ℕ, ◌+◌, ◌*◌, ◌<◌, List, [], ◌∷◌, ◌++◌, length, take, get_or, refl, ap, ◌∙◌, arith, length-append, ℤ}
use Rattle.std.specs.List.{flat_map}
use Rattle.std.proofs.lemmas.List.Concat.{flat_map-cons, flat_map-append}
use Rattle.std.proofs.lemmas.List.{take_more}
use Rattle.farm_history.specs.Encoding.{signed_bytes}

-- a signed number has eight bytes
pub length-flat_map-signed : (numbers : List ℤ) → length (flat_map signed_bytes numbers) ≡ 8 * length numbers
length-flat_map-signed [] = refl
length-flat_map-signed (number ∷ numbers) =
    let rest = length-flat_map-signed numbers in
    let both = length-append (signed_bytes number) (flat_map signed_bytes numbers) in
    let whole = ap length (flat_map-cons signed_bytes number numbers) in
    omega arith

-- the bytes of a prefix of numbers, and of one number more
pub flat_map-one_more : (numbers : List ℤ) (index : ℕ) (number : ℤ) → index < length numbers →
    flat_map signed_bytes (take (index + 1) numbers) ≡ flat_map signed_bytes (take index numbers) ++ signed_bytes (get_or numbers index number)
flat_map-one_more numbers index number below =
    let one = get_or numbers index number in
    ap (flat_map signed_bytes) (take_more numbers index number below)
    ∙ flat_map-append signed_bytes (take index numbers) (one ∷ [])
    ∙ ap (λ bytes. flat_map signed_bytes (take index numbers) ++ bytes) (flat_map-cons signed_bytes one [])
