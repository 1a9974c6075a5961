-- The figures that are kept for tanks stay those of the history, and those of an accepted entry are.
use Rattle.std.proofs.Common.{◌≡◌, ℕ, ◌+◌, ◌++◌, All, Contains, List, [], ◌∷◌, IfSome, Option, Some, None, Result, Ok, Err, option_and_then, refl, ap, sym, ◌∙◌, subst, length-append, arith}
use Rattle.std.proofs.lemmas.List.Elements.{All-weaker}
use Rattle.farm_chain.specs.Volumes.{AreInRange}
use Rattle.farm_fixed.specs.declared.records.ChainRule.{ChainRule}
use Rattle.farm_fixed.specs.declared.records.Quantities.{Quantities}
use Rattle.farm_history.specs.declared.entry.Entry.{Entry}
use Rattle.farm_history.specs.declared.plan.Named.{Named}
use Rattle.farm_history.specs.declared.verdict.Verdict.TheVariants.{Accept}
use Rattle.farm_history.specs.Figures.{calculated_at, figures_at, figures_of, named_by}
use Rattle.farm_history.specs.History.{History, last_place, with_entry}
use Rattle.farm_history.specs.Verdicts.{verdict}
use Rattle.farm_history.proofs.Accepted.{kept}
use Rattle.farm_indexes.specs.declared.figured.Figured.{Figured}
use Rattle.farm_indexes.specs.declared.last_figures.TankFigures.{TankFigures}
use Rattle.farm_indexes.specs.Figured.{AreFiguresOf, first_figures, second_figures}
use Rattle.farm_indexes.specs.LastFigures.{AreLastOf, ArePaired, IsCalculated}
use Rattle.history_lookups.specs.Pairs.{listed_one}
use Rattle.farm_indexes.proofs.FiguresStay.{figures_stay, sound_recorded}

-- figures stay those on what is named when an entry follows
calculated_more : (history : History) (entry : Entry) (pair : Named) (figures : Quantities) → IsCalculated history pair figures →
    IsCalculated (with_entry history entry) pair figures
calculated_more history entry pair figures are =
    let longer : last_place (with_entry history entry) ≡ last_place history + 1 = length-append history.entries (entry ∷ []) in
    record {
      recorded = record { reading = omega (arith, longer, are.recorded.reading); sample = omega (arith, longer, are.recorded.sample) };
      calculated = figures_stay history (entry ∷ []) pair are.recorded ∙ are.calculated;
      in_range = are.in_range;
    }

-- so do those that are kept for a tank
kept_more : (history : History) (entry : Entry) (pair : Named) (figures : Option Quantities) → IfSome figures (IsCalculated history pair) →
    IfSome figures (IsCalculated (with_entry history entry) pair)
kept_more history entry pair None are = tt
kept_more history entry pair (Some figures) are = calculated_more history entry pair figures are

-- so do those of all tanks
pub last_more : (history : History) (entry : Entry) (last : List TankFigures) → AreLastOf history last → AreLastOf (with_entry history entry) last
last_more history entry last are =
    All-weaker (λ (kept : TankFigures). IfSome kept.figures (IsCalculated history kept.pair))
    (λ (kept : TankFigures). IfSome kept.figures (IsCalculated (with_entry history entry) kept.pair))
    (λ kept here. kept_more history entry kept.pair kept.figures here) last are

-- where nothing is kept, all that is kept is so
pub none_last : (history : History) (last : List TankFigures) → All (λ (kept : TankFigures). kept.figures ≡ None) last → AreLastOf history last
none_last history last none =
    All-weaker (λ (kept : TankFigures). kept.figures ≡ None) (λ (kept : TankFigures). IfSome kept.figures (IsCalculated history kept.pair))
    (λ kept here. by kept.pair kept.figures here) last none
  where
    by : (pair : Named) (figures : Option Quantities) → figures ≡ None → IfSome figures (IsCalculated history pair)
    by pair None here = tt
    by pair (Some figures) here = let bad : Some figures ≡ None = here in cc

-- the figures of an accepted entry on what it names first are so
pub first_paired : (limit : ℕ) (history : History) (entry : Entry) (first second : Option Named) (figured : Figured) →
    verdict limit history entry ≡ Accept → listed_one first ++ listed_one second ≡ named_by history entry.cmd →
    AreFiguresOf history entry.cmd figured → ArePaired history first figured.first
first_paired limit history entry first second figured accepted named are = by first figured.first named are.first are.first_range
  where
    by : (first : Option Named) (figures : Option Quantities) → listed_one first ++ listed_one second ≡ named_by history entry.cmd →
        figures ≡ first_figures history (named_by history entry.cmd) → IfSome figures AreInRange → ArePaired history first figures
    by None figures named is range = tt
    by (Some pair) None named is range = tt
    by (Some pair) (Some figures) named is range =
        let known = kept limit history entry accepted in
        let In : List Named → Type 0 = λ pairs. Contains pairs pair in
        let sound = known.sound pair (subst In named (0, omega arith, refl)) in
        record {
          recorded = sound_recorded history pair sound;
          calculated = sym (is ∙ ap (first_figures history) (sym named));
          in_range = range;
        }

-- so are those on what it names second
pub second_paired : (limit : ℕ) (history : History) (entry : Entry) (first second : Option Named) (figured : Figured) →
    verdict limit history entry ≡ Accept → listed_one first ++ listed_one second ≡ named_by history entry.cmd → (first ≡ None → second ≡ None) →
    AreFiguresOf history entry.cmd figured → ArePaired history second figured.second
second_paired limit history entry first second figured accepted named order are =
    by first second figured.second named order are.second are.second_range
  where
    by : (first second : Option Named) (figures : Option Quantities) → listed_one first ++ listed_one second ≡ named_by history entry.cmd →
        (first ≡ None → second ≡ None) → figures ≡ second_figures history (named_by history entry.cmd) → IfSome figures AreInRange →
        ArePaired history second figures
    by first None figures named order is range = tt
    by first (Some pair) None named order is range = tt
    by None (Some pair) (Some figures) named order is range = let bad : Some pair ≡ None = order refl in cc
    by (Some before) (Some pair) (Some figures) named order is range =
        let known = kept limit history entry accepted in
        let In : List Named → Type 0 = λ pairs. Contains pairs pair in
        let sound = known.sound pair (subst In named (1, omega arith, refl)) in
        record {
          recorded = sound_recorded history pair sound;
          calculated = sym (is ∙ ap (second_figures history) (sym named));
          in_range = range;
        }

-- the calculation whose figures are kept is the one that has them
pub calculation_kept : (history : History) (pair : Named) (figures : Quantities) → IsCalculated history pair figures →
    Some (Ok figures) ≡ calculated_at history pair
unfolding figures_at
calculation_kept history pair figures are = by (calculated_at history pair) are.calculated
  where
    by : (calculated : Option (Result Quantities ChainRule)) → option_and_then figures_of calculated ≡ Some figures →
        Some (Ok figures) ≡ calculated
    by None is = let bad : None ≡ Some figures = is in cc
    by (Some (Ok found)) is = let same : Some found ≡ Some figures = is in cc
    by (Some (Err rule)) is = let bad : None ≡ Some figures = is in cc
