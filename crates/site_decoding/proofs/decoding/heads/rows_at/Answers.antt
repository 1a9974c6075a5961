-- Answers to the open goals of `rows_at`.
use Rattle.std.proofs.Common.{◌<◌, length, take, arith}
use Rattle.std.proofs.lemmas.List.{length-set, take_more_set}
use Rattle.std.proofs.lemmas.Result.{err_from_is_err_and}
use Rattle.site_decoding.specs.ByteReaders.{counted_at}
use Rattle.site_decoding.specs.Decoding.{row_at}
use Rattle.byte_readers.proofs.Counted.{goes_on}
use Rattle.site_decoding.proofs.Counted.{refused}
use Rattle.site_decoding.proofs.decoding.heads.rows_at.Goals as goal

pub returns-in_err-row : goal.returns-in_err-row
returns-in_err-row c =
    let p = err_from_is_err_and c.from_residual.result c.from_residual.ensures.1 in
    let loop = c.loop-index in
    record { reads = rw (p.1, p.2) (refused (row_at c.args.format) (take loop.index loop.rows) 12 loop.index loop.rest.now c.in_err-row.field-0.0 (counted_at (row_at c.args.format) 12 c.args.bytes.now) (omega arith) c.in_err-row.ensures.reads loop.invariant.whole) }

pub loop-index-preserved : goal.loop-index-preserved
loop-index-preserved c =
    let loop = c.loop-index in
    let row = c.in_ok-row.row in
    let within : loop.index < length loop.rows = omega (arith, loop.invariant.twelve) in
    record {
      whole = rw (take_more_set loop.rows loop.index row within) (goes_on (row_at c.args.format) (take loop.index loop.rows) 12 loop.index loop.rest.now row c.in_ok-row.after.now (counted_at (row_at c.args.format) 12 c.args.bytes.now) (omega arith) c.in_ok-row.ensures.reads loop.invariant.whole);
      twelve = omega (arith, length-set loop.rows loop.index row, loop.invariant.twelve);
    }
