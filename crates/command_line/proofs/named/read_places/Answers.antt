-- Answers to the open goals of `read_places`.
use Rattle.std.proofs.Common.{◌≡◌, Option, Result, Ok, Err, map, string_bytes, refl, sym, ◌∙◌}
use Rattle.std.specs.Prelude.{IfOk, IfSome}
use Rattle.std.specs.Result.{result_ok}
use Rattle.command_line.specs.declared.command_names.CommandName.{CommandName}
use Rattle.command_line.specs.declared.command_names.CommandName.TheVariants as names
use Rattle.command_line.proofs.ReadValues.{HasNoPlace, unnamed}
use Rattle.command_line.proofs.named.read_places.Goals as goal

-- what holds of a result holds of its value
some_of : {X E : Type 0} (P : X → Type 0) (result : Result X E) (o : Option X) → o ≡ result_ok result → IfOk result P → IfSome o P
some_of P (Ok x) o is holds = rw is holds
some_of P (Err e) o is holds = rw is tt

-- a name other than these two has a place
placed : (name : CommandName) → (name ≡ names.Calc → ⊥) → (name ≡ names.Drill → ⊥) → HasNoPlace name → ⊥
placed names.Calc no_calc no_drill none = no_calc refl
placed names.Init no_calc no_drill none = none
placed names.Table no_calc no_drill none = none
placed names.Batch no_calc no_drill none = none
placed names.Serve no_calc no_drill none = none
placed names.Report no_calc no_drill none = none
placed names.Drill no_calc no_drill none = no_drill refl

pub returns-in_default-name : goal.returns-in_default-name
returns-in_default-name c =
    let words = map string_bytes c.args.words.now in
    let named = sym c.of_words.ensures.name ∙ c.in-Some.is in
    record {
      site = some_of _ c.places_of.result c.ok.result c.ok.ensures.value c.places_of.ensures.site;
      journal = some_of _ c.places_of.result c.ok.result c.ok.ensures.value c.places_of.ensures.journal;
      unnamed = λ folder file. absurd (placed c.in-Some.name c.in_default-name.not-Calc c.in_default-name.not-Drill (unnamed c.in-Some.name words named folder file));
    }
