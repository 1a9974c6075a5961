-- A run of `init`, from what its parts did.
use Rattle.std.proofs.Common.{◌≡◌, ◌≢◌, inl, inr, ℕ, ◌<◌, List, [], ◌∷◌, length, Option, refl, subst, arith}
use Rattle.farm_base.specs.Counts.{Count, HasRisen, IsQuiet}
use Rattle.farm_base.specs.Known.{Stays, WhereKnown}
use Rattle.farm_desk.specs.Asking.{IsCrashSafe}
use Rattle.farm_disk.specs.Images.{State, present}
use Rattle.farm_journal.specs.Creating.{GivesNone, IsCreateRefusal}
use Rattle.farm_journal.specs.declared.faults.CreateFault.{CreateFault}
use Rattle.farm_journal.specs.declared.faults.CreateFault.TheVariants.{NotEmpty, DiskFault, NoMemory}
use Rattle.farm_site.specs.Described.{Described}
use Rattle.run_reports.specs.declared.limits.TheConstants.{BOOK_LIMIT}
use Rattle.farm_run.specs.InitRuns.{FolderFailed, HasBytes, NotCreated, SiteInit}
use Rattle.run_reports.specs.Reports.{LacksMemory, Output, Puts}
use Rattle.run_reports.specs.Texts.{disk_fault_line, port_fault_line}
use Rattle.farm_run.specs.Texts.{not_empty_line}
use Rattle.run_reports.proofs.Printing.{says_last, without_text}
use Rattle.run_reports.proofs.Known.{known_map}

-- a list that is longer than the empty one isn't empty
some_bytes : (bytes : List ℕ) → 0 < length bytes → bytes ≢ []
some_bytes [] some = absurd (omega (arith, some))
some_bytes (byte ∷ bytes) some = λ none. cc

-- nor is one of another length than 0
other_length : (bytes : List ℕ) (size : ℕ) → size ≡ length bytes → size ≢ 0 → bytes ≢ []
other_length bytes size is some = some_bytes bytes (omega (arith, is, some))

-- a list of length 0 is empty
no_bytes : (bytes : List ℕ) (size : ℕ) → size ≡ length bytes → size ≡ 0 → bytes ≡ []
no_bytes [] size is none = refl
no_bytes (byte ∷ bytes) size is none = absurd (omega (arith, is, none))

module _ (site : Described) (old : Option (List State)) where
  -- there was no memory to make the journal
  pub lacking : (left : Option (List State)) (disk : Count) (output : Output) (status : ℕ) → IsQuiet disk → IsCrashSafe BOOK_LIMIT site old left →
      LacksMemory output status → SiteInit site old left disk output status
  lacking left disk output status quiet safe lacks = record {
    statuses = elim lacks.statuses [ inl six ↦ inr (inr (inr (inl six))) | inr seven ↦ inr (inr (inr (inr seven))) ];
    made = λ zero. elim lacks.statuses [ inl six ↦ absurd (omega arith) | inr seven ↦ absurd (omega arith) ];
    not_empty = λ three. elim lacks.statuses [ inl six ↦ absurd (omega arith) | inr seven ↦ absurd (omega arith) ];
    disk_failed = λ five. elim lacks.statuses [ inl six ↦ absurd (omega arith) | inr seven ↦ absurd (omega arith) ];
    faulted = λ six. (lacks.faulted six, without_text output _ _ (lacks.fault_said six []));
    memory_only = λ seven. (lacks.memory_only seven, without_text output _ _ (lacks.memory_said seven []));
    disk_quiet = λ _. quiet;
    crash_safe = safe;
  }

  -- the journal wasn't made, and it was reported why
  pub not_made : {D : Type 0} (trace : D → Option (List State)) (start left : D) (disk : Count) (fault : CreateFault) (output : Output) (status : ℕ) →
      trace start ≡ old → IsCreateRefusal trace start left fault → (fault ≡ DiskFault → HasRisen disk) → (fault ≢ DiskFault → IsQuiet disk) →
      IsCrashSafe BOOK_LIMIT site old (trace left) → NotCreated fault output status → SiteInit site old (trace left) disk output status
  not_made trace start left disk NotEmpty output status from refusal cause quiet safe said = record {
    statuses = inr (inl said.0);
    made = λ zero. absurd (omega (arith, said.0));
    not_empty = λ _. (
      (
        known_map (trace left) _ _ (λ states some. some_bytes (present states).seen some) refusal.0,
        subst (λ before. Stays before (trace left)) from refusal.1,
      ),
      said.1,
    );
    disk_failed = λ five. absurd (omega (arith, said.0));
    faulted = λ six. absurd (omega (arith, said.0));
    memory_only = λ seven. absurd (omega (arith, said.0));
    disk_quiet = λ _. quiet (λ same. cc);
    crash_safe = safe;
  }
  not_made trace start left disk DiskFault output status from refusal cause quiet safe said = record {
    statuses = inr (inr (inl said.0));
    made = λ zero. absurd (omega (arith, said.0));
    not_empty = λ three. absurd (omega (arith, said.0));
    disk_failed = λ _. (cause refl, said.1);
    faulted = λ six. absurd (omega (arith, said.0));
    memory_only = λ seven. absurd (omega (arith, said.0));
    disk_quiet = λ other. absurd (other said.0);
    crash_safe = safe;
  }
  not_made trace start left disk NoMemory output status from refusal cause quiet safe lacks = lacking (trace left) disk output status (quiet (λ same. cc)) safe lacks

module _ (old new : Option (List State)) (disk : Count) (output : Output) (status : ℕ) where
  -- the folder failed, and the disk is empty
  pub folder_failed : Stays old new → GivesNone new → IsQuiet disk → status ≡ 6 → Puts output port_fault_line → FolderFailed old new disk output status
  folder_failed stays none quiet six puts = record {
    statuses = inr (inr six);
    not_empty = λ three. absurd (omega (arith, six));
    disk_failed = λ five. absurd (omega (arith, six));
    faulted = λ _. (none, says_last output [] [] port_fault_line puts);
    disk_quiet = λ _. quiet;
    disk_kept = stays;
  }

  -- the folder failed, and the disk has bytes
  pub folder_failed_on_bytes : HasBytes old new → IsQuiet disk → status ≡ 3 → Puts output not_empty_line → FolderFailed old new disk output status
  folder_failed_on_bytes some quiet three puts = record {
    statuses = inl three;
    not_empty = λ _. (some, says_last output [] [] not_empty_line puts);
    disk_failed = λ five. absurd (omega (arith, three));
    faulted = λ six. absurd (omega (arith, three));
    disk_quiet = λ _. quiet;
    disk_kept = some.1;
  }

  -- the folder failed, and so did the disk
  pub folder_and_disk_failed : Stays old new → HasRisen disk → status ≡ 5 → Puts output disk_fault_line → FolderFailed old new disk output status
  folder_and_disk_failed stays rose five puts = record {
    statuses = inr (inl five);
    not_empty = λ three. absurd (omega (arith, five));
    disk_failed = λ _. (rose, says_last output [] [] disk_fault_line puts);
    faulted = λ six. absurd (omega (arith, five));
    disk_quiet = λ other. absurd (other five);
    disk_kept = stays;
  }

-- a disk that holds a number of bytes other than 0 has some
pub has_some : (trace : Option (List State)) (size : ℕ) → WhereKnown trace (λ states. size ≡ length (present states).seen) → size ≢ 0 →
    WhereKnown trace (λ states. (present states).seen ≢ [])
has_some trace size is some = known_map trace _ _ (λ states same. other_length (present states).seen size same some) is

-- one that holds no bytes gives none
pub has_none : (trace : Option (List State)) (size : ℕ) → WhereKnown trace (λ states. size ≡ length (present states).seen) → size ≡ 0 → GivesNone trace
has_none trace size is none = known_map trace _ _ (λ states same. no_bytes (present states).seen size same none) is
