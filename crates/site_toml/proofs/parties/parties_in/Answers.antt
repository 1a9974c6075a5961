-- Answers to the open goals of `parties_in`.
use Rattle.std.proofs.Common.{refl, arith}
use Rattle.farm_site.specs.Parties.{is_party, party_number}
use Rattle.site_toml.specs.Parties.{party_of}
use Rattle.site_keys.proofs.PlacedFacts.{numbered_more, placed_length, placed_numbered}
use Rattle.site_toml.proofs.parties.parties_in.Goals as goal

pub loop-index-preserved : goal.loop-index-preserved
loop-index-preserved c =
    let earlier = c.loop-index.parties.items in
    let party = c.in_ok-party.party in
    let fresh = rw c.deref.ensures.value at c.in_ok-party.ensures.fresh in
    record {
      read =
          let here = rw c.deref.ensures.value at c.in_ok-party.ensures.party in
          rw (
            c.in_ok-put_by_number.ensures.placed,
            numbered_more party_number party_of earlier
                c.args.tables.now c.loop-index.index c.index-tables-index.result party (omega arith) c.index-tables-index.is here,
          ) c.loop-index.invariant.read;
      count = rw (c.in_ok-put_by_number.ensures.placed, placed_length party_number party earlier, c.loop-index.invariant.count) refl;
      sound = rw c.in_ok-put_by_number.ensures.placed (placed_numbered party_number is_party party earlier
          c.loop-index.invariant.sound c.in_ok-party.ensures.sound fresh);
    }
