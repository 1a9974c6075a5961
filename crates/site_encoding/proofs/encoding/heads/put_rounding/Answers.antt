-- Answers to the open goals of `put_rounding`.
use Rattle.std.proofs.Common.{◌≡◌, ◌+◌, ◌-◌, ◌<◌, length, get_or, ap, subst, arith}
use Rattle.std.specs.List.{flat_map}
use Rattle.std.proofs.lemmas.List.{take_all}
use Rattle.farm_rounding.specs.declared.mode.Mode.TheVariants.{HalfAway}
use Rattle.farm_rounding.specs.Table.{row_at}
use Rattle.site_encoding.specs.Buffers.{IsPut}
use Rattle.site_encoding.specs.Encoding.{row_bytes}
use Rattle.site_encoding.proofs.Puts.{one_more_put, room_for_next}
use Rattle.site_encoding.proofs.encoding.heads.put_rounding.Goals as goal

pub put_row-requires-clause-room : goal.put_row-requires-clause-room
put_row-requires-clause-room c =
    let rounding = c.args.rounding.now in
    let index = c.loop-index.index in
    let twelve = c.requires.rounding in
    let below : index < length rounding = omega arith in
    let before : (index + 1) - 1 ≡ index = omega arith in
    room_for_next row_bytes rounding index (row_at rounding (index + 1)) (1, HalfAway) c.args.out.now c.loop-index.out below
    (ap (λ k. get_or rounding k (1, HalfAway)) before) c.requires.room c.loop-index.invariant

pub loop-index-preserved : goal.loop-index-preserved
loop-index-preserved c =
    let rounding = c.args.rounding.now in
    let index = c.loop-index.index in
    let twelve = c.requires.rounding in
    let below : index < length rounding = omega arith in
    let before : (index + 1) - 1 ≡ index = omega arith in
    one_more_put row_bytes rounding index (row_at rounding (index + 1)) (1, HalfAway) c.args.out.now c.loop-index.out c.put_row.new.out below
    (ap (λ k. get_or rounding k (1, HalfAway)) before) c.loop-index.invariant c.put_row.ensures.put

pub returns : goal.returns
returns c =
    let rounding = c.args.rounding.now in
    let all = take_all c.loop-index.index rounding (omega (arith, c.requires.rounding)) in
    record { put = subst (λ rows. IsPut c.args.out.now c.loop-index.out (flat_map row_bytes rows)) all c.loop-index.invariant }
