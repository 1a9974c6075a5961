-- Answers to the open goals of `write_at`.
use Rattle.std.proofs.Common.{◌≡◌, ◌∷◌, ◌++◌, [], arith, rules, length-append}
use Rattle.farm_disk.proofs.MemoryCalls.{kept_passes, kept_write}
use Rattle.farm_disk.specs.declared.disk_call.DiskCall.TheVariants.{Write}
use Rattle.farm_disk.proofs.mem_disk.MemDiskDisk.write_at.Goals as goal

pub returns-then-is_ok-clause-states : goal.returns-then-is_ok-clause-states
returns-then-is_ok-clause-states c =
    let kept : c.write-kept.new.self.calls ≡ c.args.self.now.calls ++ Write c.args.at c.args.bytes.now c.is_ok.result ∷ [] = search rules in
    kept_write _ _ _ _ c.args.at c.args.bytes.now c.is_ok.result c.begin-answer.result (cc) kept c.is_ok.ensures.value

pub returns-then-is_ok-clause-moment : goal.returns-then-is_ok-clause-moment
returns-then-is_ok-clause-moment c =
    let kept : c.write-kept.new.self.calls ≡ c.args.self.now.calls ++ Write c.args.at c.args.bytes.now c.is_ok.result ∷ [] = search rules in
    kept_passes _ _ _ _ (simp kept (omega (arith, length-append c.args.self.now.calls (Write c.args.at c.args.bytes.now c.is_ok.result ∷ []))))
