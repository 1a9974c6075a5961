-- The acts of a connection, some and then more.
use Rattle.std.proofs.Common.{◌≡◌, ◌∙◌, List, [], ◌∷◌, ◌++◌, append_assoc, ℕ, drop, map, refl, sym, ap, subst}
use Rattle.std.specs.List.{concat}
use Rattle.desk_posts.specs.Courses.{Act, Cuts, Exchanged, Took, bytes_of, exchanges_of}
use Rattle.desk_posts.specs.Exchanges.{Exchange, size_of}

-- the bytes of acts and then of more
pub bytes_of-append : (acts more : List Act) → bytes_of (acts ++ more) ≡ bytes_of acts ++ bytes_of more
bytes_of-append [] more = refl
bytes_of-append (Took bytes ∷ acts) more =
    ap (λ (rest : List ℕ). bytes ++ rest) (bytes_of-append acts more) ∙ sym (append_assoc bytes (bytes_of acts) (bytes_of more))
bytes_of-append (Exchanged exchange ∷ acts) more = bytes_of-append acts more

-- the exchanges of acts and then of more
pub exchanges_of-append : (acts more : List Act) → exchanges_of (acts ++ more) ≡ exchanges_of acts ++ exchanges_of more
exchanges_of-append [] more = refl
exchanges_of-append (Took bytes ∷ acts) more = exchanges_of-append acts more
exchanges_of-append (Exchanged exchange ∷ acts) more = ap (λ (rest : List Exchange). exchange ∷ rest) (exchanges_of-append acts more)

-- the bytes of takes
pub bytes_of_takes : (pieces : List (List ℕ)) → bytes_of (map Took pieces) ≡ concat pieces
bytes_of_takes [] = refl
bytes_of_takes (piece ∷ pieces) = ap (λ (rest : List ℕ). piece ++ rest) (bytes_of_takes pieces)

-- takes are no exchanges
pub exchanges_of_takes : (pieces : List (List ℕ)) → exchanges_of (map Took pieces) ≡ []
exchanges_of_takes [] = refl
exchanges_of_takes (piece ∷ pieces) = exchanges_of_takes pieces

-- requests are cut as acts say, and then as more acts say
pub cuts_more : (in_hand : List ℕ) (acts : List Act) (middle : List ℕ) (more : List Act) (left : List ℕ) → Cuts in_hand acts middle → Cuts middle more left →
    Cuts in_hand (acts ++ more) left
unfolding Cuts
cuts_more in_hand [] middle more left earlier later = subst (λ (bytes : List ℕ). Cuts bytes more left) earlier later
cuts_more in_hand (Took bytes ∷ acts) middle more left earlier later =
    (earlier.0, earlier.1, cuts_more (in_hand ++ bytes) acts middle more left earlier.2 later)
cuts_more in_hand (Exchanged exchange ∷ acts) middle more left earlier later =
    (earlier.0, cuts_more (drop (size_of exchange.heard) in_hand) acts middle more left earlier.1 later)
