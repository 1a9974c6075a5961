-- What is in hand of a piece, from one byte up to another.
use Rattle.std.proofs.Common.{◌≡◌, ℕ, ◌+◌, ◌-◌, ◌≤◌, List, length, take, drop, sym, ap, subst, ◌∙◌, arith}
use Rattle.std.proofs.lemmas.List.{drop-drop, drop-take, take-take, length-take, length-drop, length-take-le}

-- what is left in hand, where this many bytes were cut off
pub in_hand_after : (piece : List ℕ) (start end count : ℕ) → count ≤ length (take (end - start) (drop start piece)) →
    take (end - (start + count)) (drop (start + count) piece) ≡ drop count (take (end - start) (drop start piece))
in_hand_after piece start end count within =
    let inside : count ≤ end - start = omega (arith, length-take (end - start) (drop start piece)) in
    let P : ℕ → Type 0 = λ n. take (end - (start + count)) (drop (start + count) piece) ≡ drop count (take n (drop start piece)) in
    let parts : count + (end - (start + count)) ≡ end - start = omega arith in
    subst P parts
    (ap (λ t. take (end - (start + count)) t) (sym (drop-drop count start piece))
    ∙ sym (drop-take count (end - (start + count)) (drop start piece)))

-- a prefix of the piece from its first byte in hand on is a prefix of what is in hand
pub front_again : (piece : List ℕ) (start end count : ℕ) → count ≤ length (take (end - start) (drop start piece)) →
    take (start + count - start) (drop start piece) ≡ take count (take (end - start) (drop start piece))
front_again piece start end count within =
    let count_is : start + count - start ≡ count = omega arith in
    let inside : count ≤ end - start = omega (arith, length-take (end - start) (drop start piece)) in
    ap (λ n. take n (drop start piece)) count_is ∙ sym (take-take count (end - start) (drop start piece) inside)

-- what is in hand of the piece is in hand of a loan of it
pub lent_in_hand : (lent piece in_hand : List ℕ) (start end : ℕ) → lent ≡ piece →
    take (end - start) (drop start piece) ≡ in_hand → take (end - start) (drop start lent) ≡ in_hand
lent_in_hand lent piece in_hand start end same shown = ap (λ t. take (end - start) (drop start t)) same ∙ shown

-- as many bytes are in hand as lie between the two
pub in_hand_length : (piece : List ℕ) (start end : ℕ) → end ≤ length piece → length (take (end - start) (drop start piece)) ≡ end - start
in_hand_length piece start end within =
    length-take-le (end - start) (drop start piece) (omega (arith, length-drop start piece))
