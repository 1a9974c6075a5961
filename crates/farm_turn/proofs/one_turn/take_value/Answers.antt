-- Answers to the open goals of `take_value`.
use Rattle.std.proofs.Common.{◌≡◌, ℕ, List, [], ◌∷◌, ◌∙◌, ap, sym, Some}
use Rattle.atomic_table.specs.Table.{rest}
use Rattle.farm_turn.proofs.one_turn.take_value.Goals as goal

-- the slot that is held is the only one
only_held : {S : Type 0} (held : List (ℕ × S)) (x : S) → held ≡ (0, x) ∷ [] → held ≡ (0, x) ∷ rest held
only_held held x e = e ∙ ap (λ r. (0, x) ∷ r) (sym (ap rest e))

pub exchange-found-requires : goal.exchange-found-requires
exchange-found-requires g c = (c.requires.fits, (Some c.requires.held.0, only_held c.args.seat.now.me.1 (Some c.requires.held.0) (ap (λ me. me.1) c.requires.held.1)))
