-- Answers to the open goals of `read`.
use Rattle.std.proofs.Common.{Ok, sym, ap, ◌∙◌, arith}
use Rattle.farm_history.proofs.EntryReader.{entry_found, entry_only, entry_place}
use Rattle.byte_readers.proofs.Readers.{ok_is}
use Rattle.farm_history.proofs.entry.Entry.read.Goals as goal

pub overflow_sub-result : goal.overflow_sub-result
overflow_sub-result c = (entry_place c.args.bytes.now c.in-Err.left (λ i. omega (arith, c.type_inv.bytes i)) c.in-Err.ensures.whole).0

pub returns-in-Ok-clause-found : goal.returns-in-Ok-clause-found
returns-in-Ok-clause-found c =
    let found = entry_found c.args.bytes.now c.in-Ok.entry (λ i. omega (arith, c.type_inv.bytes i)) c.in-Ok.ensures.whole in
    (found.0.1, found.1)

pub returns-in-Ok-clause-typed : goal.returns-in-Ok-clause-typed
returns-in-Ok-clause-typed c = (entry_found c.args.bytes.now c.in-Ok.entry (λ i. omega (arith, c.type_inv.bytes i)) c.in-Ok.ensures.whole).0.0

pub returns-in-Ok-clause-only : goal.returns-in-Ok-clause-only
returns-in-Ok-clause-only c = λ entry typed well_formed encoded.
    ap Ok (ok_is c.in-Ok.entry entry (sym c.in-Ok.ensures.whole ∙ entry_only c.args.bytes.now entry typed well_formed encoded))

pub returns-in-Err-clause-only : goal.returns-in-Err-clause-only
returns-in-Err-clause-only c = λ entry typed well_formed encoded.
    let read = entry_only c.args.bytes.now entry typed well_formed encoded in
    absurd (cc (c.in-Err.ensures.whole, read))

pub returns-in-Err-clause-offset : goal.returns-in-Err-clause-offset
returns-in-Err-clause-offset c = (entry_place c.args.bytes.now c.in-Err.left (λ i. omega (arith, c.type_inv.bytes i)) c.in-Err.ensures.whole).1
