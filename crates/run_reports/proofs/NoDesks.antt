-- A run that recovers no desk.
use Rattle.std.proofs.Common.{◌≡◌, ◌≢◌, inl, inr, ℕ, List, [], Option, refl, arith}
use Rattle.farm_base.proofs.Known.{stays_same}
use Rattle.farm_base.specs.Counts.{Count, HasRisen, IsQuiet}
use Rattle.farm_base.specs.Known.{WhereKnown}
use Rattle.journaled_book.specs.Histories.{Recovers}
use Rattle.farm_recovery.specs.Laws.{RecoveredIsNotRefused}
use Rattle.farm_recovery.specs.Recovery.{IsRefused}
use Rattle.farm_disk.specs.Images.{State, present}
use Rattle.farm_disk.specs.Runs.{WritesNothing}
use Rattle.farm_history.specs.History.{History}
use Rattle.farm_journal.proofs.Known.{stays_writes_nothing}
use Rattle.farm_journal.specs.declared.faults.RecoverFault.{RecoverFault}
use Rattle.farm_journal.specs.declared.faults.RecoverFault.TheVariants.{NotJournal, Damaged, DiskFault, NoMemory}
use Rattle.run_reports.specs.declared.limits.TheConstants.{BOOK_LIMIT}
use Rattle.run_reports.specs.NoDesks.{NotRecovered, RecoversNothing, RefusesJournal}
use Rattle.run_reports.specs.Reports.{LacksMemory, Output, Says}
use Rattle.run_reports.specs.Texts.{disk_fault_line}
use Rattle.run_reports.proofs.Known.{known_map, where_known}
use Rattle.run_reports.proofs.Printing.{without_text}

module _ (old left : Option (List State)) (disk : Count) (output : Output) (status : ℕ)
    (wrote : WritesNothing old left) where
  -- there was no memory to recover it, or for the line that says where it is damaged
  lacking : IsQuiet disk → LacksMemory output status → RecoversNothing old left disk output status
  lacking still lacks = record {
    statuses = elim lacks.statuses [ inl six ↦ inr (inr (inl six)) | inr seven ↦ inr (inr (inr seven)) ];
    refused = λ three. elim lacks.statuses [ inl six ↦ absurd (omega arith) | inr seven ↦ absurd (omega arith) ];
    refused_only = λ history. where_known left _ (λ states recovers three. elim lacks.statuses [ inl six ↦ absurd (omega arith) | inr seven ↦ absurd (omega arith) ]);
    disk_failed = λ five. elim lacks.statuses [ inl six ↦ absurd (omega arith) | inr seven ↦ absurd (omega arith) ];
    faulted = λ six. (lacks.faulted six, without_text output _ _ (lacks.fault_said six []));
    memory_only = λ seven. (lacks.memory_only seven, without_text output _ _ (lacks.memory_said seven []));
    disk_quiet = λ _. still;
    wrote_nothing = wrote;
  }

  -- the bytes are refused, and the line of that was put
  refusing : (why : RecoverFault) → RefusesJournal left output why → IsQuiet disk → status ≡ 3 →
      ((history : History) → WhereKnown left (λ states. Recovers BOOK_LIMIT history (present states).seen → ⊥)) →
      RecoversNothing old left disk output status
  refusing why refuses still three recovers_not = record {
    statuses = inl three;
    refused = λ _. (why, refuses);
    refused_only = λ history. known_map left _ _ (λ states none recovers. absurd (none recovers)) (recovers_not history);
    disk_failed = λ five. absurd (omega (arith, three));
    faulted = λ six. absurd (omega (arith, three));
    memory_only = λ seven. absurd (omega (arith, three));
    disk_quiet = λ _. still;
    wrote_nothing = wrote;
  }

  -- the disk failed
  failing : HasRisen disk → status ≡ 5 → Says output [] [] disk_fault_line →
      RecoversNothing old left disk output status
  failing rose five said = record {
    statuses = inr (inl five);
    refused = λ three. absurd (omega (arith, five));
    refused_only = λ history. where_known left _ (λ states recovers three. absurd (omega (arith, five)));
    disk_failed = λ _. (rose, said);
    faulted = λ six. absurd (omega (arith, five));
    memory_only = λ seven. absurd (omega (arith, five));
    disk_quiet = λ other. absurd (other five);
    wrote_nothing = wrote;
  }

  -- a desk that wasn't recovered, and why
  pub not_recovered : (fault : RecoverFault) → RecoveredIsNotRefused → WhereKnown left (λ states. IsRefused BOOK_LIMIT (present states).seen fault) →
      (fault ≡ DiskFault → HasRisen disk) → (fault ≢ DiskFault → IsQuiet disk) → NotRecovered fault output status →
      RecoversNothing old left disk output status
  not_recovered NotJournal laws refused cause quiet said =
      refusing NotJournal (refused, said.1) (quiet (λ same. cc)) said.0
      (λ history. known_map left _ _ (λ states none recovers. (laws BOOK_LIMIT 0 history (present states).seen recovers).0 none) refused)
  not_recovered (Damaged place) laws refused cause quiet said =
      elim said.statuses [
        | inl three ↦ refusing (Damaged place) (refused, said.said three) (quiet (λ same. cc)) three
            (λ history. known_map left _ _ (λ states damaged recovers. (laws BOOK_LIMIT place history (present states).seen recovers).1 damaged) refused)
        | inr lacks ↦ lacking (quiet (λ same. cc)) lacks
      ]
  not_recovered DiskFault laws refused cause quiet said = failing (cause refl) said.0 said.1
  not_recovered NoMemory laws refused cause quiet said = lacking (quiet (λ same. cc)) said

-- there was no memory before the first call on the disk
pub not_asked : (disk : Option (List State)) (count : ℕ) (output : Output) (status : ℕ) → LacksMemory output status →
    RecoversNothing disk disk (record { before = count; now = count }) output status
not_asked disk count output status lacks =
    lacking disk disk (record { before = count; now = count }) output status (stays_writes_nothing disk disk (stays_same disk)) refl lacks
