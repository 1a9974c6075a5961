-- Answers to the open goals of `header`.
use Rattle.std.proofs.Common.{arith}
use Rattle.site_decoding.specs.Readers.{IsBytes}
use Rattle.farm_site.specs.Sites.{described}
use Rattle.site_decoding.proofs.BytesRead.{PartsAreRead}
use Rattle.farm_recovery.specs.Accepting.{taken_of}
use Rattle.farm_recovery.proofs.Judging.{header_accepted, header_refused}
use Rattle.farm_recovery.proofs.recovering.RecoveringTaker.header.Goals as goal

pub returns-in-Ok-new-clause-judged : goal.returns-in-Ok-new-clause-judged
returns-in-Ok-new-clause-judged g c =
    let all = c.decoding_laws.ensures in
    let laws : PartsAreRead = record { heads = all.heads; products = all.products; parties = all.parties; tanks = all.tanks; lines = all.lines } in
    header_accepted laws g.row.LIMIT (taken_of c.args.self.now) c.args.bytes.now (described c.in-Ok.site) c.requires.first c.in-Ok.ensures.sound c.in-Ok.ensures.found

pub returns-in-Err-BadSite-clause-judged : goal.returns-in-Err-BadSite-clause-judged
returns-in-Err-BadSite-clause-judged g c =
    let all = c.decoding_laws.ensures in
    let laws : PartsAreRead = record { heads = all.heads; products = all.products; parties = all.parties; tanks = all.tanks; lines = all.lines } in
    let fits : IsBytes c.args.bytes.now = λ i. omega (arith, c.type_inv.bytes i) in
    header_refused laws g.row.LIMIT (taken_of c.args.self.now) c.args.bytes.now fits c.requires.first (λ site.
    let lacking = c.in-Err-BadSite.ensures.only site.site site.sound site.encoded in
    let bad = c.in-Err-BadSite.field-0-is in
    cc (lacking, bad))
