-- What holds of each element of lists.
use Rattle.std.proofs.Common.{◌+◌, ◌<◌, List, ◌++◌, length, length-append, get_or, subst, arith}
use Rattle.std.proofs.lemmas.List.{get_or-append-add, get_or_append_left}
use Rattle.std.specs.List.{All}

-- what follows from a fact, element by element
pub all_by : {X : Type 0} (P Q : X → Type 0) (xs : List X) → ((x : X) → P x → Q x) → All P xs → All Q xs
all_by P Q xs implies all = λ k d within. implies (get_or xs k d) (all k d within)

-- what follows from two facts, element by element
pub all_by_both : {X : Type 0} (P Q R : X → Type 0) (xs : List X) → ((x : X) → P x → Q x → R x) → All P xs → All Q xs → All R xs
all_by_both P Q R xs implies first second = λ k d within. implies (get_or xs k d) (first k d within) (second k d within)

-- what holds of each element holds of each of the first ones
pub all_first : {X : Type 0} (P : X → Type 0) (xs ys : List X) → All P (xs ++ ys) → All P xs
all_first P xs ys all = λ k d within.
    let more : k < length (xs ++ ys) = omega (arith, within, length-append xs ys) in
    subst P (get_or_append_left xs ys d k within) (all k d more)

-- what holds of each element holds of each of the last ones
pub all_last : {X : Type 0} (P : X → Type 0) (xs ys : List X) → All P (xs ++ ys) → All P ys
all_last P xs ys all = λ k d within.
    let more : length xs + k < length (xs ++ ys) = omega (arith, within, length-append xs ys) in
    subst P (get_or-append-add xs ys k d) (all (length xs + k) d more)
