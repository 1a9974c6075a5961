-- What a run of `serve` does.
use Rattle.std.specs.Prelude.{◌≡◌, ◌⊎◌, ℕ, ◌≤◌, Bool, false, All, Any, List, ◌++◌, drop, length, sum_by, take, Option, ℤ}
use Rattle.farm_base.specs.Counts.{Count, HasRisen, count_of}
use Rattle.farm_base.specs.Known.{WhereKnown}
use Rattle.farm_disk.specs.Images.{State, present}
use Rattle.farm_disk.specs.Runs.{WritesNothing}
use Rattle.farm_history.specs.History.{History}
use Rattle.farm_history.specs.Verdicts.{IsLegal}
use Rattle.farm_listeners.specs.Listeners.{Event}
use Rattle.farm_ports.specs.declared.links.LinkCall.{LinkCall}
use Rattle.journaled_book.specs.Histories.{Recovers, certain}
use Rattle.desk_access.specs.Access.{CallerState, Continues, entered_since}
use Rattle.desk_turns.specs.Closing.{entries_by}
use Rattle.shared_posts.specs.Callers.{outsides_of}
use Rattle.farm_serve.specs.Ends.{AnyRose, any_failed}
use Rattle.farm_serve.specs.Sharing.{EachStands, LineStands, PostStands}
use Rattle.shared_posts.specs.declared.post.Post.{Post}
use Rattle.book_texts.specs.Summaries.{IsSummary, summary_text}
use Rattle.run_reports.specs.Disks.{IsLater}
use Rattle.run_reports.specs.DisksLeft.{LeavesHistory}
use Rattle.run_reports.specs.Limits.{book_limit}
use Rattle.run_reports.specs.NoDesks.{RecoversNothing}
use Rattle.run_reports.specs.Reports.{LacksMemory, Output}
use Rattle.serve_run.specs.Summaries.{ReportsSummary}

-- No desk was recovered from the disk: nothing was written, no call was made on a listener or a link, and it was reported why.
pub record NoDesk {P Q : Type 0} (old new : Option (List State)) (disk : Count) (desks desks' : List P) (links links' : List Q) (output : Output) (status : ℕ) : Type 0 where
  pub nothing_recovered : RecoversNothing old new disk output status
  pub desks_kept : desks' ≡ desks
  pub links_kept : links' ≡ links

-- No post began, since there was no memory, and that was reported: no call was made on a listener or a link, and the history is as it was
-- found.
pub record NoPost {L M V W C : Type 0} (found : History) (moment : ℕ) (trace : Option (List State)) (disk : Count) (desks desks' : List (Post L V C))
    (links links' : List (Post M W C)) (output : Output) (status : ℕ) : Type 0 where
  pub desks_kept : outsides_of desks' ≡ outsides_of desks
  pub links_kept : outsides_of links' ≡ outsides_of links
  pub lacks : LacksMemory output status
  pub leaves : LeavesHistory found found 0 false moment trace disk

-- As many desk posts as there are workers and the gauge lines of the site, or as many as there are listeners and links, served the history that
-- was found, side by side, and the one that they left stands on the disk; its summary was put.
pub record PostsServed {L M V W C : Type 0} (events : L → Option (List Event)) (faults : L → ℕ) (calls : M → Option (List LinkCall)) (link_faults : M → ℕ)
    (may_give : ℤ → Type 0) (port workers rounds : ℕ) (found : History) (moment : ℕ) (trace : Option (List State)) (disk : Count)
    (desks desks' : List (Post L V C)) (links links' : List (Post M W C)) (output : Output) (status : ℕ) : Type 0 where
  pub final : History
  pub desk_callers : List CallerState
  pub line_callers : List CallerState
  -- the history is legal, and continues the one that was found
  pub legal : IsLegal book_limit final
  pub continues : Continues found final
  -- what each desk post and each line did, as a caller of its own, stands on it, and nothing was done with the others
  pub posts_stand : EachStands (PostStands events faults may_give book_limit port found final) 0 (take workers desks) (take workers desks') desk_callers
  pub lines_stand : EachStands (LineStands calls link_faults may_give book_limit rounds (length (take workers desks)) found final) 0
      (take (length found.site.lines) links) (take (length found.site.lines) links') line_callers
  pub other_desks : drop workers desks' ≡ drop workers desks
  pub other_links : drop (length found.site.lines) links' ≡ drop (length found.site.lines) links
  -- the entries since are just those of these callers, each under its number and in its order
  pub own : All (λ caller. caller.own ≡ entries_by caller.caller (entered_since found final)) (desk_callers ++ line_callers)
  pub entered : All (λ entry. Any (λ caller. caller.caller ≡ entry.caller) (desk_callers ++ line_callers)) (entered_since found final)
  -- what is left on the disk, its last entry in doubt or not, and the disk counted just the faults that were answered and the one of an
  -- entry in doubt; no reply rests on an entry in doubt
  pub doubt : Bool
  pub leaves : LeavesHistory found final (sum_by (λ caller. caller.faulted) (desk_callers ++ line_callers)) doubt moment trace disk
  pub certain : All (λ caller. caller.certain ≤ certain doubt final) (desk_callers ++ line_callers)
  -- what was put, and the status
  pub summary : IsSummary final (summary_text final)
  pub reports : ReportsSummary (summary_text final) doubt (any_failed (take workers desks')) output status
  -- the status of a port says that a call on a listener or on the output failed
  pub port_failed : status ≡ 6 → AnyRose faults (take workers desks) (take workers desks') ⊎ HasRisen output.count
  -- if nothing of that failed, nor the disk, the summary was put unless there was no memory
  pub complete : ¬ (HasRisen disk) → ¬ (AnyRose faults (take workers desks) (take workers desks')) → ¬ (HasRisen output.count) → (status ≡ 0) ⊎ (status ≡ 7)

-- A history that was found was served, or there was no memory for that.
abbrev pub ServedOrNot : {L M V W C : Type 0} → (L → Option (List Event)) → (L → ℕ) → (M → Option (List LinkCall)) → (M → ℕ) → (ℤ → Type 0) → ℕ → ℕ → ℕ →
    History → ℕ → Option (List State) → Count → List (Post L V C) → List (Post L V C) → List (Post M W C) → List (Post M W C) → Output → ℕ → Type 0
ServedOrNot events faults calls link_faults may_give port workers rounds found moment trace disk desks desks' links links' output status =
    NoPost found moment trace disk desks desks' links links' output status
    ⊎ PostsServed events faults calls link_faults may_give port workers rounds found moment trace disk desks desks' links links' output status

-- A desk was recovered from a disk, on which nothing was written before, and it was served or there was no memory for that.
pub record OnDesk {D L M V W C : Type 0} (trace : D → Option (List State)) (moment disk_faults : D → ℕ) (events : L → Option (List Event)) (faults : L → ℕ)
    (calls : M → Option (List LinkCall)) (link_faults : M → ℕ) (may_give : ℤ → Type 0) (port workers rounds : ℕ) (desks desks' : List (Post L V C))
    (links links' : List (Post M W C)) (old new : D) (output : Output) (status : ℕ) : Type 0 where
  pub recovered : D
  pub found : History
  pub recovers : WhereKnown (trace recovered) (λ states. Recovers book_limit found (present states).seen)
  pub wrote_nothing : WritesNothing (trace old) (trace recovered)
  pub disk_quiet : disk_faults recovered ≡ disk_faults old
  pub disk_later : IsLater (trace recovered) (trace new) (moment recovered) (moment new) (count_of disk_faults recovered new)
  pub served : ServedOrNot events faults calls link_faults may_give port workers rounds found (moment recovered) (trace new)
      (count_of disk_faults recovered new) desks desks' links links' output status

-- `serve` over a clock, the posts and the disk
abbrev pub ServeRun : {D L M V W C : Type 0} → (D → Option (List State)) → (D → ℕ) → (D → ℕ) → (L → Option (List Event)) → (L → ℕ) →
    (M → Option (List LinkCall)) → (M → ℕ) → (ℤ → Type 0) → ℕ → ℕ → ℕ → List (Post L V C) → List (Post L V C) → List (Post M W C) → List (Post M W C) →
    D → D → Output → ℕ → Type 0
ServeRun trace moment disk_faults events faults calls link_faults may_give port workers rounds desks desks' links links' old new output status =
    NoDesk (trace old) (trace new) (count_of disk_faults old new) desks desks' links links' output status
    ⊎ OnDesk trace moment disk_faults events faults calls link_faults may_give port workers rounds desks desks' links links' old new output status
