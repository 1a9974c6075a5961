-- Answers to the open goals of `array`.
use Rattle.std.proofs.Common.{◌≡◌, Some, Ok, List, map, ap, sym, ◌∙◌}
use Rattle.toml.specs.Data.{as_array, get}
use Rattle.toml.specs.View.{array_view, view}
use Rattle.toml.specs.declared.value.Value.{Value}
use Rattle.site_keys.specs.Keys.{array_at}
use Rattle.site_keys.proofs.Arrays.{values_of-items_of}
use Rattle.site_keys.proofs.keys.Keys.array.Goals as goal

pub returns-in-Some-as_array : goal.returns-in-Some-as_array
unfolding array_at
returns-in-Some-as_array c =
    let found : get c.args.key.now (view c.self.inside.table.now) ≡ Some (view c.in-Some.value.now) = sym c.in-Some.ensures in
    let values : as_array (view c.in-Some.value.now) ≡ Some (array_view c.in-Some-as_array.values.now) = sym c.in-Some-as_array.ensures in
    let lent : map view c.in-Some-as_array.values.now.items ≡ map view c.as_slice.result.now = ap (λ (vs : List Value). map view vs) (sym c.as_slice.ensures.value) in
    record { values = rw (← c.self.view_is, found, values) (ap Ok (values_of-items_of (map view c.in-Some-as_array.values.now.items) ∙ lent)) }
