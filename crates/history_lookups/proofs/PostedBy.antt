-- What a command posts, by its kind.
use Rattle.std.proofs.Common.{◌≡◌, ℕ, ◌+◌, List, [], Option, refl, sym, subst}
use Rattle.farm_stock.specs.declared.posting.Posting.{Posting}
use Rattle.farm_history.specs.declared.command.Command.{Command}
use Rattle.farm_history.specs.declared.command.Command.TheVariants.{Closing, Reverse, Settle}
use Rattle.farm_history.specs.declared.plan.Gauged.{Gauged}
use Rattle.farm_history.specs.History.{History, last_place}
use Rattle.farm_history.specs.Postings.{posted_by, postings_issued}
use Rattle.farm_history.specs.Tickets.{issued_by_closing}

-- a Closing posts what the ticket that it issues does, whatever its place
pub closing_posts : (history : History) (posted listed : List Posting) (command : Command) (movement : ℕ) (first : Gauged) (second : Option Gauged) →
    command ≡ Closing movement first second → ((place : ℕ) → listed ≡ postings_issued (issued_by_closing history place command)) →
    listed ≡ posted_by history posted command
unfolding posted_by
closing_posts history posted listed command movement first second is issues =
    let issues_here : listed ≡ postings_issued (issued_by_closing history (last_place history + 1) (Closing movement first second)) =
    subst (λ (c : Command). listed ≡ postings_issued (issued_by_closing history (last_place history + 1) c)) is (issues (last_place history + 1)) in
    subst (λ (c : Command). listed ≡ posted_by history posted c) (sym is) issues_here

-- a command that is no Closing, no Reverse and no Settle posts nothing
pub other_posts : (history : History) (posted : List Posting) (command : Command) →
    ((movement : ℕ) (first : Gauged) (second : Option Gauged) → command ≡ Closing movement first second → ⊥) →
    ((ticket : ℕ) → command ≡ Reverse ticket → ⊥) → ((tank : ℕ) (gauged : Gauged) → command ≡ Settle tank gauged → ⊥) →
    [] ≡ posted_by history posted command
unfolding posted_by
other_posts history posted (Closing movement first second) closing reverse settle = absurd (closing movement first second refl)
other_posts history posted (Reverse ticket) closing reverse settle = absurd (reverse ticket refl)
other_posts history posted (Settle tank gauged) closing reverse settle = absurd (settle tank gauged refl)
other_posts history posted command closing reverse settle = refl
