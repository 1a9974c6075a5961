-- The statuses of runs.
use Rattle.std.proofs.Common.{◌≡◌, ◌⊎◌, inl, inr, ℕ, Option, Some, None, IsSome}
use Rattle.std.specs.Prelude.{IfSome}

-- the status of a run that recovered nothing, or reported of what it recovered
pub either_status : {D : Type 0} {Nothing Reported : D → Type 0} (left : Option D) (status : ℕ) → IsSome left → IfSome left (λ new. Nothing new ⊎ Reported new) →
    ((new : D) → Nothing new → (status ≡ 3) ⊎ (status ≡ 5) ⊎ (status ≡ 6) ⊎ (status ≡ 7)) →
    ((new : D) → Reported new → (status ≡ 0) ⊎ (status ≡ 6) ⊎ (status ≡ 7)) →
    (status ≡ 0) ⊎ (status ≡ 3) ⊎ (status ≡ 5) ⊎ (status ≡ 6) ⊎ (status ≡ 7)
either_status None status some run nothing reported = cc
either_status (Some new) status some run nothing reported = elim run [
  | inl none ↦ inr (nothing new none)
  | inr told ↦
      elim (reported new told) [
        | inl zero ↦ inl zero
        | inr rest ↦ elim rest [ inl six ↦ inr (inr (inr (inl six))) | inr seven ↦ inr (inr (inr (inr seven))) ]
      ]
]
