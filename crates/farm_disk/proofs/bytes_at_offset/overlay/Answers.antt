-- Answers to the open goals of `overlay`.
use Rattle.std.proofs.Common.{◌≡◌, ◌+◌, ◌-◌, ◌<◌, ◌++◌, length, drop, ◌∙◌, rules}
use Rattle.std.proofs.lemmas.List.{take_at}
use Rattle.std.proofs.Math.ListN.{replicate}
use Rattle.farm_disk.proofs.Overlays.{overlaid-nil, put_overlays}
use Rattle.farm_disk.proofs.bytes_at_offset.overlay.Goals as goal

-- no byte leaves the file
pub returns-then-is_empty-clause-over : goal.returns-then-is_empty-clause-over
returns-then-is_empty-clause-over c = overlaid-nil c.args.filler c.args.at c.args.bytes.now c.args.file.now.items (search rules)

-- the file was made long enough, and then the bytes were put into it
pub returns-clause-over : goal.returns-clause-over
returns-clause-over c =
    let some : 0 < length c.args.bytes.now = search rules in
    let end : c.in_ok-end.end ≡ c.args.at + length c.args.bytes.now = search rules in
    let longer : c.lengthen.new.file.items ≡
    c.args.file.now.items ++ replicate (c.args.at + length c.args.bytes.now - length c.args.file.now.items) c.args.filler =
    search rules in
    let size : length c.put.new.file ≡ c.lengthen.new.file.len = search rules in
    take_at c.put.new.file (drop (length c.put.new.file) c.lengthen.new.file.items) c.lengthen.new.file.len size
    ∙ c.put.ensures
    ∙ put_overlays c.args.filler c.args.at c.args.bytes.now c.args.file.now.items c.deref_mut.result.now some
    (c.deref_mut.ensures.value ∙ longer)
