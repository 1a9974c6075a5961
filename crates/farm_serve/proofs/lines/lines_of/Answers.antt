-- Answers to the open goals of `lines_of`.
use Rattle.std.proofs.Common.{◌≡◌, ℕ, ◌≤◌, nat_le, true, length, sym, subst, arith}
use Rattle.std.specs.Prelude.{All, IsTrue}
use Rattle.std.proofs.lemmas.Bool.{and_parts}
use Rattle.std.proofs.lemmas.Bool.Decides.{nat_tests}
use Rattle.std.proofs.lemmas.List.Sums.{AllPass-from_list_all}
use Rattle.gauge_maps.specs.Maps.{is_line_map}
use Rattle.farm_serve.proofs.lines.lines_of.Goals as goal

-- what the test says of two numbers
at_most : (n m : ℕ) → nat_le n m ≡ true → n ≤ m
at_most n m is = grind (arith, nat_tests)

pub returns-clause-maps : goal.returns-clause-maps
returns-clause-maps g c =
    let site = c.site.result.now in
    subst (All (λ line. IsTrue (is_line_map line))) (sym c.get.ensures.items)
    (AllPass-from_list_all is_line_map site.lines (and_parts _ _ (and_parts _ _ site.has_lines).0).1)

pub returns-clause-few : goal.returns-clause-few
returns-clause-few g c =
    let site = c.site.result.now in
    subst (λ lines. length lines ≤ 16) (sym c.get.ensures.items)
    (at_most (length site.lines) 16 (and_parts _ _ (and_parts _ _ site.has_lines).0).0)
