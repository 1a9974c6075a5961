-- Answers to the open goals of `write_total`.
use Rattle.std.proofs.Common.{append_assoc, rules, w64}
use mir.Val.{SFits}
use Rattle.std.proofs.lemmas.Int.{to_z-of_z}
use Rattle.book_texts.proofs.summaries.write_total.Goals as goal

pub returns : goal.returns
returns c =
    let litres : SFits w64 c.args.total.litres = search rules in
    let kg : SFits w64 c.args.total.kg = search rules in
    let appended = simp to_z-of_z at c.append.ensures.appended in
    record { line = record { ok = simp append_assoc appended.ok; err = appended.err } }
