-- The kinds of a tank's shell.
use Rattle.std.specs.Prelude.{ℕ, Bool, true, false, if◌then◌else◌, List, codes, Option, Some, None}
use Rattle.std.specs.Str.{bytes_eq}

-- whether a shell of a kind is insulated: no for `bare`, yes for `insulated`
unfoldable pub is_insulated : List ℕ → Option Bool
is_insulated kind =
    if bytes_eq kind (codes "bare") then Some false else (if bytes_eq kind (codes "insulated") then Some true else None)
