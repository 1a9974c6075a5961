-- Answers to the open goals of `write`.
use Rattle.std.proofs.Common.{◌≡◌, ◌∷◌, ◌++◌, [], true, false, sym, ◌∙◌, ap, rules}
use Rattle.farm_disk.specs.declared.disk_call.DiskCall.TheVariants.{Write}
use Rattle.farm_disk.specs.Images.{written_at}
use Rattle.farm_disk.specs.Memory.{seen_of}
use Rattle.farm_disk.proofs.Replay.{seen_of_write, seen_of_failed}
use Rattle.farm_disk.proofs.recorded_calls.KeptDisk.write.Goals.{then-done+in_ok-overlay, else-done}
use Rattle.farm_disk.proofs.recorded_calls.KeptDisk.write.Goals as goal

pub invariant_of-self-2 : goal.invariant_of-self-2
invariant_of-self-2 c =
    let start = c.self.inside.start.items in
    let calls = c.self.inside.calls.items in
    let at = c.args.at in
    let bytes = c.args.bytes.now in
    elim c.if-done.branch [
      | then-done+in_ok-overlay w ↦
          let kept : c.push.new.self.items ≡ calls ++ Write at bytes true ∷ [] = search rules in
          let over : c.if-done.self-inside.seen.items ≡ written_at at bytes (seen_of start calls) = search rules in
          let same : c.if-done.self-inside.start.items ≡ start = ap (λ inside. inside.start.items) w.self-inside-is in
          over ∙ sym (seen_of_write start calls at bytes) ∙ ap (λ calls. seen_of start calls) (sym kept) ∙ ap (λ start. seen_of start c.push.new.self.items) (sym same)
      | else-done w ↦
          let kept : c.push.new.self.items ≡ calls ++ Write at bytes false ∷ [] = search rules in
          let over : c.if-done.self-inside.seen.items ≡ seen_of start calls = search rules in
          let same : c.if-done.self-inside.start.items ≡ start = ap (λ inside. inside.start.items) w.self-inside-is in
          over ∙ sym (seen_of_failed start calls at bytes) ∙ ap (λ calls. seen_of start calls) (sym kept) ∙ ap (λ start. seen_of start c.push.new.self.items) (sym same)
    ]
