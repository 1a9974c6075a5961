-- Answers to the open goals of `whole`.
use Rattle.std.proofs.Common.{◌≡◌, Ok, arith}
use Rattle.site_decoding.specs.Decoding.{lines_at, tanks_at}
use Rattle.site_decoding.specs.Readers.{IsBytes}
use Rattle.site_decoding.proofs.BytesRead.{PartsAreRead, parts_read}
use Rattle.site_decoding.proofs.site.whole.Goals as goal

pub invariant_of-result : goal.invariant_of-result
invariant_of-result c =
    let all = c.decoding_laws.ensures in
    let laws : PartsAreRead = record { heads = all.heads; products = all.products; parties = all.parties; tanks = all.tanks; lines = all.lines } in
    let fits : IsBytes c.args.bytes.now = λ i. omega (arith, c.type_inv.bytes i) in
    let products = c.in_ok-products in
    let parties = c.in_ok-parties in
    let tanks = c.in_ok-tanks in
    let lines = c.in_ok-lines in
    let tanks_read : tanks_at c.in-Ok.read.0.0 products.products.items parties.rest.now ≡ Ok (tanks.tanks.items, tanks.rest.now) = rw c.deref.ensures.value at tanks.ensures.reads in
    let lines_read : lines_at tanks.tanks.items tanks.rest.now ≡ Ok (lines.lines.items, lines.rest.now) = rw c.deref-2.ensures.value at lines.ensures.reads in
    let site =
    parts_read laws c.args.bytes.now fits c.in-Ok.read.0 c.in-Ok.read.1.now c.in-Ok.ensures.reads products.products.items products.rest.now products.ensures.reads
    parties.parties.items parties.rest.now parties.ensures.reads tanks.tanks.items tanks.rest.now tanks_read lines.lines.items lines.rest.now lines_read in
    record {
      is_named = site.named;
      has_rounding = site.rounding;
      has_products = rw c.new.ensures.items site.products_sound.0;
      has_parties = rw c.new-2.ensures.items site.parties_sound;
      has_tanks = rw (c.new.ensures.items, c.new-3.ensures.items) site.tanks_sound.0;
      has_lines = rw (c.new-3.ensures.items, c.new-4.ensures.items) site.lines_sound.0;
    }
