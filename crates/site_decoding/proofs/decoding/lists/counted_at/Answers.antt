-- Answers to the open goals of `counted_at`.
use Rattle.std.proofs.Common.{◌≡◌, [], ◌∷◌, ◌++◌, length-append, arith, rules}
use Rattle.std.proofs.lemmas.Result.{err_from_is_err_and}
use Rattle.site_decoding.specs.ByteReaders.{counted_at}
use Rattle.byte_readers.proofs.Counted.{goes_on}
use Rattle.site_decoding.proofs.Counted.{refused}
use Rattle.site_decoding.proofs.decoding.lists.counted_at.Goals as goal

pub returns-in_err-item-clause-reads : goal.returns-in_err-item-clause-reads
returns-in_err-item-clause-reads g c =
    let p = err_from_is_err_and c.from_residual-in_err-item.result c.from_residual-in_err-item.ensures.1 in
    let loop = c.loop-index in
    rw (p.1, p.2) (refused (g.T.Piece.reads c.args.format) loop.items.items c.args.count loop.index loop.rest.now c.in_err-item.field-0.0 (counted_at (g.T.Piece.reads c.args.format) c.args.count c.args.bytes.now) (omega arith) c.in_err-item.ensures.reads loop.invariant.whole)

pub loop-index-preserved : goal.loop-index-preserved
loop-index-preserved g c =
    let loop = c.loop-index in
    let pushed : c.push.new.self.items ≡ loop.items.items ++ c.in_ok-item.item ∷ [] = search rules in
    record {
      whole = rw pushed (goes_on (g.T.Piece.reads c.args.format) loop.items.items c.args.count loop.index loop.rest.now c.in_ok-item.item c.in_ok-item.after.now (counted_at (g.T.Piece.reads c.args.format) c.args.count c.args.bytes.now) (omega arith) c.in_ok-item.ensures.reads loop.invariant.whole);
      many = rw pushed (omega (arith, length-append loop.items.items (c.in_ok-item.item ∷ []), loop.invariant.many));
    }
