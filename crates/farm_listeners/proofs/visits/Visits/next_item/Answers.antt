-- Answers to the open goals of `next_item`.
use Rattle.std.proofs.Common.{◌≡◌, true}
use Rattle.std.proofs.lemmas.List.Elements.{All-head, All-rest}
use Rattle.std.specs.Vec.Iter.{into_iter_items}
use Rattle.farm_listeners.specs.Visits.{is_new}
use Rattle.farm_listeners.specs.declared.visit.Visit.{Visit}
use Rattle.farm_listeners.proofs.Talks.{new_is_fresh}
use Rattle.farm_listeners.proofs.visits.Visits.next_item.Goals as goal

abbrev IsNew : Visit → Type 0
IsNew item = is_new item ≡ true

pub invariant_of-self-in-Some-Idle : goal.invariant_of-self-in-Some-Idle
invariant_of-self-in-Some-Idle c =
    All-rest IsNew c.in-Some-Idle.field-0 (into_iter_items c.next.new.self) (into_iter_items c.self.inside.items)
    c.in-Some-Idle.ensures.cases.0 c.self.invariant

pub invariant_of-self-in-Some-Conn : goal.invariant_of-self-in-Some-Conn
invariant_of-self-in-Some-Conn c =
    All-rest IsNew c.in-Some-Conn.field-0 (into_iter_items c.next.new.self) (into_iter_items c.self.inside.items)
    c.in-Some-Conn.ensures.cases.0 c.self.invariant

-- the connection is the first of the items, which are all new
pub returns-in-Some-Conn-clause-fresh : goal.returns-in-Some-Conn-clause-fresh
returns-in-Some-Conn-clause-fresh c =
    let items = rw c.in-Some-Conn.ensures.cases.0 at c.self.invariant in
    let first = All-head IsNew c.in-Some-Conn.field-0 (into_iter_items c.next.new.self) items in
    new_is_fresh c.in-Some-Conn.talk (rw c.in-Some-Conn.field-0-is at first)
