-- Answers to the open goals of `sync`.
use Rattle.std.proofs.Common.{◌≡◌, ◌∷◌, ◌++◌, [], arith, rules, length-append}
use Rattle.farm_disk.proofs.MemoryCalls.{kept_passes, kept_sync}
use Rattle.farm_disk.specs.declared.disk_call.DiskCall.TheVariants.{Sync}
use Rattle.farm_disk.proofs.mem_disk.MemDiskDisk.sync.Goals as goal

pub returns-then-is_ok-clause-states : goal.returns-then-is_ok-clause-states
returns-then-is_ok-clause-states c =
    let kept : c.sync-kept.new.self.calls ≡ c.args.self.now.calls ++ Sync c.is_ok.result ∷ [] = search rules in
    kept_sync _ _ _ _ c.is_ok.result c.begin-answer.result (cc) kept c.is_ok.ensures.value

pub returns-then-is_ok-clause-moment : goal.returns-then-is_ok-clause-moment
returns-then-is_ok-clause-moment c =
    let kept : c.sync-kept.new.self.calls ≡ c.args.self.now.calls ++ Sync c.is_ok.result ∷ [] = search rules in
    kept_passes _ _ _ _ (simp kept (omega (arith, length-append c.args.self.now.calls (Sync c.is_ok.result ∷ []))))
