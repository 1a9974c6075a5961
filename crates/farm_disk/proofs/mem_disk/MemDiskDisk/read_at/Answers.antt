-- Answers to the open goals of `read_at`.
use Rattle.std.proofs.Common.{◌≡◌, length, rules}
use Rattle.farm_disk.proofs.MemoryCalls.{kept_reads}
use Rattle.farm_disk.proofs.mem_disk.MemDiskDisk.read_at.Goals as goal

pub returns-clause-bytes : goal.returns-clause-bytes
returns-clause-bytes c =
    let room : length c.copy_at.new.into ≡ length c.args.into.now = search rules in
    kept_reads _ _ _ _ c.seen.result.now c.args.at c.args.into.now c.copy_at.new.into c.copy_at.result (cc) (cc) c.seen.ensures room
    c.copy_at.ensures.whole c.copy_at.ensures.copied
