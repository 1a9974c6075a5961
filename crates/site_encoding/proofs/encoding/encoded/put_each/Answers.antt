-- Answers to the open goals of `put_each`.
use Rattle.std.proofs.Common.{All, subst}
use Rattle.std.proofs.lemmas.List.{take_all}
use Rattle.std.proofs.lemmas.List.Elements.{All-more}
use Rattle.site_encoding.proofs.Puts.{one_more_put, room_for_next}
use Rattle.site_encoding.proofs.encoding.encoded.put_each.Goals as goal

pub put-requires-clause-room : goal.put-requires-clause-room
put-requires-clause-room g c =
    room_for_next (g.T.Encoded.bytes c.args.format) c.args.items.now c.loop-item.item-index c.item-item.result c.item-item.result c.args.out.now c.loop-item.out c.loop-item-test.true
    c.item-item.is c.requires.room c.loop-item.invariant.put

pub loop-item-preserved : goal.loop-item-preserved
loop-item-preserved g c = record {
  put = one_more_put (g.T.Encoded.bytes c.args.format) c.args.items.now c.loop-item.item-index c.item-item.result c.item-item.result c.args.out.now c.loop-item.out c.put.new.out
      c.loop-item-test.true c.item-item.is c.loop-item.invariant.put c.put.ensures.put;
  typed =
      let item = subst g.T.Encoded.typed c.item-item.is c.put.ensures.typed in
      All-more g.T.Encoded.typed c.args.items.now c.loop-item.item-index c.item-item.result c.loop-item-test.true c.loop-item.invariant.typed item;
}

pub returns-clause-typed : goal.returns-clause-typed
returns-clause-typed g c =
    let whole = take_all c.loop-item.item-index c.args.items.now c.loop-item-test.false in
    subst (All g.T.Encoded.typed) whole c.loop-item.invariant.typed
