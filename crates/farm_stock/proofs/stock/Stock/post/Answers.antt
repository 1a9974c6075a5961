-- Answers to the open goals of `post`.
use Rattle.std.proofs.Common.{◌≡◌, ◌++◌, drop, length, take, subst, arith}
use Rattle.std.proofs.lemmas.Grind.{common_steps}
use Rattle.farm_stock.specs.Postings.{posted}
use Rattle.farm_stock.specs.Sums.{IsSound}
use Rattle.farm_stock.proofs.Added.{book_raised, others_stay, sound_stays, tanks_stay}
use Rattle.farm_stock.proofs.stock.Stock.post.Goals as goal
use Rattle.farm_stock.proofs.stock.Stock.post.Goals.{After-add}

-- the books afterwards are those of the definition
is_posted : (c : After-add) →
    take c.self.inside.books.len (c.add.new.books ++ drop (length c.add.new.books) c.self.inside.books.items) ≡ posted c.args.self.now c.args.posting.now
is_posted c = grind (arith, common_steps)

pub invariant_of-self : goal.invariant_of-self
invariant_of-self c = rw (is_posted (goal.at.invariant_of-self c).After-add) (sound_stays c.args.posting.now.tank c.args.posting.now.amount c.args.self.now (subst IsSound c.self.view_is c.self.invariant) c.requires.sums)

pub returns-clause-book : goal.returns-clause-book
returns-clause-book c before there = rw (is_posted (goal.at.returns-clause-book c).After-add) (book_raised c.args.posting.now.tank c.args.posting.now.amount c.args.self.now before there)

pub returns-clause-others : goal.returns-clause-others
returns-clause-others c tank differs = rw (is_posted (goal.at.returns-clause-others c).After-add) (others_stay c.args.posting.now.tank c.args.posting.now.amount c.args.self.now tank differs)

pub returns-clause-tanks : goal.returns-clause-tanks
returns-clause-tanks c = rw (is_posted (goal.at.returns-clause-tanks c).After-add) (tanks_stay c.args.posting.now.tank c.args.posting.now.amount c.args.self.now)
