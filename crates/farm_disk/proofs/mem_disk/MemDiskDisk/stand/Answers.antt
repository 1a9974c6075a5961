-- Answers to the open goals of `stand`.
use Rattle.farm_disk.proofs.Replay.{present_is_image}
use Rattle.farm_disk.proofs.mem_disk.MemDiskDisk.stand.Goals as goal

pub returns-clause-image : goal.returns-clause-image
returns-clause-image c = present_is_image c.args.self.now.start c.args.self.now.calls
