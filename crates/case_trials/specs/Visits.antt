-- What listeners have, as numbers alone.
use Rattle.std.specs.Prelude.{ℕ, List, map}
use Rattle.case_trials.specs.declared.visited.Visited.{Visited}

-- the ports that a listener was asked to listen on, and the bytes of each of its connections
abbrev pub seen : Visited → List ℕ × List (List ℕ)
seen visited = (visited.ports.items, map (λ written. written.items) visited.written.items)
