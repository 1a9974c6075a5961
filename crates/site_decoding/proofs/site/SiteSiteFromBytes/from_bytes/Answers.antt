-- Answers to the open goals of `from_bytes`.
use Rattle.std.proofs.Common.{arith}
use Rattle.std.proofs.lemmas.Result.{IfOk-weaker}
use Rattle.site_decoding.specs.Readers.{IsBytes}
use Rattle.farm_site.specs.Sites.{described}
use Rattle.site_decoding.proofs.BytesRead.{PartsAreRead, found_site, one_encoding, only_site}
use Rattle.site_decoding.proofs.site.SiteSiteFromBytes.from_bytes.Goals as goal

pub returns-clause-found : goal.returns-clause-found
returns-clause-found c =
    let all = c.decoding_laws.ensures in
    let laws : PartsAreRead = record { heads = all.heads; products = all.products; parties = all.parties; tanks = all.tanks; lines = all.lines } in
    let fits : IsBytes c.args.bytes.now = λ i. omega (arith, c.type_inv.bytes i) in
    IfOk-weaker c.whole.result _ _ (λ site h. h.1) (found_site laws described c.whole.result c.args.bytes.now fits c.whole.ensures.whole)

pub returns-clause-sound : goal.returns-clause-sound
returns-clause-sound c =
    let all = c.decoding_laws.ensures in
    let laws : PartsAreRead = record { heads = all.heads; products = all.products; parties = all.parties; tanks = all.tanks; lines = all.lines } in
    let fits : IsBytes c.args.bytes.now = λ i. omega (arith, c.type_inv.bytes i) in
    IfOk-weaker c.whole.result _ _ (λ site h. h.0) (found_site laws described c.whole.result c.args.bytes.now fits c.whole.ensures.whole)

pub returns-clause-only : goal.returns-clause-only
returns-clause-only c =
    let all = c.decoding_laws.ensures in
    let laws : PartsAreRead = record { heads = all.heads; products = all.products; parties = all.parties; tanks = all.tanks; lines = all.lines } in
    only_site laws described c.whole.result c.args.bytes.now c.whole.ensures.whole

pub returns-clause-one_encoding : goal.returns-clause-one_encoding
returns-clause-one_encoding c =
    let all = c.decoding_laws.ensures in
    one_encoding (record { heads = all.heads; products = all.products; parties = all.parties; tanks = all.tanks; lines = all.lines })
