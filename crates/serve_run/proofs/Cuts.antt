-- A slice whose first elements were handed on.
use Rattle.std.proofs.Common.{◌≡◌, ◌∙◌, ⊎_elim, ℕ, List, ◌++◌, append-nil, drop, length, min, take, sym, ap, arith}
use Rattle.std.proofs.Math.Seq.{drop-append_seam}
use Rattle.std.proofs.lemmas.Bool.{cases_lt}
use Rattle.std.proofs.lemmas.List.{drop_all, length-take-le, map-append, take-append-drop, take-append-le, take_all}
use Rattle.shared_posts.specs.Callers.{outsides_of}
use Rattle.shared_posts.specs.declared.post.Post.{Post}

module _ {X : Type 0} (most count : ℕ) (xs part : List X) (is : count ≡ min (length xs) most) (same : length part ≡ length (take count xs)) where
  -- the first ones are as many as there are, or as the most
  pub first_taken : take most xs ≡ take count xs
  first_taken = ⊎_elim
      (λ more. let one : most ≡ count = omega (arith, is, more) in ap (λ (n : ℕ). take n xs) one)
      (λ no_more. take_all most xs no_more ∙ sym (take_all count xs (omega (arith, is, no_more))))
      (cases_lt most (length xs))

  -- afterwards they are what was made of them
  pub first_after : take most (part ++ drop count xs) ≡ part
  first_after = ⊎_elim
      (λ more.
      let one : count ≡ most = omega (arith, is, more) in
      let long : length part ≡ most = same ∙ length-take-le count xs (omega (arith, is)) ∙ one in
      take-append-le most part (drop count xs) (omega (arith, long)) ∙ take_all most part (omega (arith, long)))
      (λ no_more.
      let long : length part ≡ count = same ∙ length-take-le count xs (omega (arith, is)) in
      ap (λ (rest : List X). take most (part ++ rest)) (drop_all count xs (omega (arith, is, no_more)))
      ∙ ap (take most) (append-nil part) ∙ take_all most part (omega (arith, long, is)))
      (cases_lt most (length xs))

  -- and the others are as they were
  pub others_after : drop most (part ++ drop count xs) ≡ drop most xs
  others_after = ⊎_elim
      (λ more.
      let one : count ≡ most = omega (arith, is, more) in
      let long : length part ≡ most = same ∙ length-take-le count xs (omega (arith, is)) ∙ one in
      ap (λ (n : ℕ). drop n (part ++ drop count xs)) (sym long) ∙ drop-append_seam part (drop count xs) ∙ ap (λ (n : ℕ). drop n xs) one)
      (λ no_more.
      let long : length part ≡ count = same ∙ length-take-le count xs (omega (arith, is)) in
      ap (λ (rest : List X). drop most (part ++ rest)) (drop_all count xs (omega (arith, is, no_more)))
      ∙ ap (drop most) (append-nil part) ∙ drop_all most part (omega (arith, long, is)) ∙ sym (drop_all most xs no_more))
      (cases_lt most (length xs))

-- the objects stay if those that were handed on did
pub outsides_after : {X W C : Type 0} (count : ℕ) (posts part : List (Post X W C)) → outsides_of part ≡ outsides_of (take count posts) →
    outsides_of (part ++ drop count posts) ≡ outsides_of posts
outsides_after {X} {W} {C} count posts part same =
    let outside_of : Post X W C → X = λ post. post.outside in
    map-append outside_of part (drop count posts) ∙ ap (λ (first : List X). first ++ outsides_of (drop count posts)) same
    ∙ sym (map-append outside_of (take count posts) (drop count posts)) ∙ ap outsides_of (take-append-drop count posts)
