-- A run of `batch` in which no desk was recovered.
use Rattle.std.proofs.Common.{ℕ, List, Option, refl}
use Rattle.farm_base.specs.Counts.{Count}
use Rattle.farm_base.specs.Known.{Stream}
use Rattle.farm_disk.specs.Images.{State}
use Rattle.run_reports.specs.NoDesks.{RecoversNothing}
use Rattle.run_reports.specs.Reports.{Output}
use Rattle.farm_run.specs.BatchRuns.{NoDesk}

-- nothing was taken of the input
pub no_desk : (old left : Option (List State)) (disk : Count) (input : Option Stream) (source : ℕ) (output : Output) (status : ℕ) →
    RecoversNothing old left disk output status → NoDesk old left disk input input (record { before = source; now = source }) output status
no_desk old left disk input source output status nothing = record { nothing_recovered = nothing; input_kept = refl; quiet = refl }
