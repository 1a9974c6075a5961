-- Values of digits, cut off at a ceiling.
use Rattle.std.proofs.Common.{◌≡◌, ℕ, ◌+◌, ◌*◌, ◌^◌, min, zero, suc, List, [], ◌∷◌, ◌++◌, replicate, refl, sym, ap, ◌∙◌, arith}
use Rattle.std.proofs.Math.Nat.{pow-suc}
use Rattle.std.specs.Char.{digit_value}
use Rattle.std.specs.Str.Parse.{digits_value_after}

-- a number that is cut twice is cut once
pub cut_once : (n d top : ℕ) → min (min n top * 10 + d) top ≡ min (n * 10 + d) top
cut_once n d top = omega arith

-- to cut off before more digits changes nothing
pub cut_before : (top n : ℕ) (ds : List ℕ) → min (digits_value_after 10 (min n top) ds) top ≡ min (digits_value_after 10 n ds) top
cut_before top n [] = omega arith
cut_before top n (d ∷ ds) =
    sym (cut_before top (min n top * 10 + digit_value d) ds) ∙ ap (λ k. min (digits_value_after 10 k ds) top) (cut_once n (digit_value d) top) ∙ cut_before top (n * 10 + digit_value d) ds

-- the digits of a list after those of another
pub value-append : (n : ℕ) (xs ys : List ℕ) → digits_value_after 10 n (xs ++ ys) ≡ digits_value_after 10 (digits_value_after 10 n xs) ys
value-append n [] ys = refl
value-append n (x ∷ xs) ys = value-append (n * 10 + digit_value x) xs ys

-- zeros after a number scale it
value_zeros : (n k : ℕ) → digits_value_after 10 n (replicate k 48) ≡ n * 10 ^ k
value_zeros n zero = omega arith
value_zeros n (suc k) =
    let more : (n * 10 + 0) * 10 ^ k ≡ n * (10 ^ k * 10) = omega arith in
    value_zeros (n * 10 + 0) k ∙ more ∙ ap (λ scale. n * scale) (sym (pow-suc 10 k))

-- a cut value that is scaled and cut again is that of the digits and the zeros
pub cut_scaled : (top value magnitude k : ℕ) (ds : List ℕ) → value ≡ min (digits_value_after 10 0 ds) top → magnitude ≡ min (value * 10 ^ k) top →
    magnitude ≡ min (digits_value_after 10 0 (ds ++ replicate k 48)) top
cut_scaled top value magnitude k ds is scaled =
    let zeros = replicate k 48 in
    scaled
    ∙ ap (λ n. min n top) (sym (value_zeros value k))
    ∙ ap (λ n. min (digits_value_after 10 n zeros) top) is
    ∙ cut_before top (digits_value_after 10 0 ds) zeros
    ∙ ap (λ n. min n top) (sym (value-append 0 ds zeros))
