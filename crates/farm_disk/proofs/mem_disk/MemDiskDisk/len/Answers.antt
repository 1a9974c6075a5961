-- Answers to the open goals of `len`.
use Rattle.farm_disk.proofs.MemoryCalls.{kept_measures}
use Rattle.farm_disk.proofs.mem_disk.MemDiskDisk.len.Goals as goal

pub returns-clause-size : goal.returns-clause-size
returns-clause-size c = kept_measures _ _ _ _ c.seen.result.now (cc) (cc) c.seen.ensures
