-- The calls of a link, one after another.
use Rattle.std.proofs.Common.{◌++◌, sym, ap, ◌∙◌, append_assoc, append-nil, Some, None}
use Rattle.farm_ports.specs.Links.{CallsAddUp, NoCallAddsNone}

-- calls that were added one after another were added as one list
pub calls_add_up : CallsAddUp
calls_add_up old middle None first second added then = tt
calls_add_up old None (Some new) first second added then = absurd then
calls_add_up None (Some middle) (Some new) first second added then = absurd added
calls_add_up (Some old) (Some middle) (Some new) first second added then =
    then ∙ ap (λ calls. calls ++ second) added ∙ append_assoc old first second

-- where no call was made the calls are those before
pub no_call_adds_none : NoCallAddsNone
no_call_adds_none None = tt
no_call_adds_none (Some calls) = sym (append-nil calls)
