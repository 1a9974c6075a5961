-- A run of `serve` on a desk, from what serving it did and how the run ended.
use Rattle.std.proofs.Common.{◌≡◌, ◌∙◌, inl, inr, ℕ, ◌-◌, ◌^◌, ◌≤◌, Bool, true, false, List, ◌++◌, length, take, drop, min, Option, refl, sym, ap, subst, ℤ, arith}
use Rattle.std.specs.Prelude.{sum_by}
use Rattle.std.proofs.lemmas.List.Elements.{All-weaker}
use Rattle.farm_base.specs.Counts.{count_of, raised}
use Rattle.journaled_book.specs.Histories.{RecoversFront, RecoversNow, certain}
use Rattle.journaled_book.specs.Moments.{EachFrom}
use Rattle.farm_desk.specs.States.{DeskState, FoundState, IsDurable, IsJustMade}
use Rattle.farm_desk.specs.declared.opened.Opened.{Opened}
use Rattle.farm_disk.specs.Images.{State}
use Rattle.farm_disk.specs.Runs.{EachNow, Extends}
use Rattle.farm_history.specs.History.{last_place}
use Rattle.farm_history.specs.Verdicts.{IsLegal}
use Rattle.farm_listeners.specs.Listeners.{Event}
use Rattle.farm_ports.specs.declared.links.LinkCall.{LinkCall}
use Rattle.desk_access.specs.Access.{CallerState}
use Rattle.shared_posts.specs.Callers.{outsides_of}
use Rattle.farm_serve.specs.Ends.{AnyRose, any_failed}
use Rattle.farm_serve.specs.Sharing.{EachStands, LineStands, PostStands, ServesAll}
use Rattle.shared_posts.specs.declared.post.Post.{Post}
use Rattle.boxed_disk.specs.declared.boxed.BoxedDisk.{BoxedDisk}
use Rattle.book_texts.specs.Summaries.{summary_text}
use Rattle.run_reports.specs.declared.limits.TheConstants.{BOOK_LIMIT}
use Rattle.run_reports.specs.Disks.{IsLater}
use Rattle.run_reports.specs.DisksLeft.{LeavesHistory}
use Rattle.run_reports.specs.Reports.{LacksMemory, Output}
use Rattle.run_reports.proofs.DisksLeft.{later_more, leaves_history, surer_after}
use Rattle.serve_run.specs.Endings.{EndsDesk}
use Rattle.serve_run.specs.ServeRuns.{NoPost, PostsServed}
use Rattle.serve_run.specs.Summaries.{ReportsSummary}
use Rattle.serve_run.proofs.Cuts.{first_after, first_taken, others_after}
use Rattle.serve_run.proofs.DisksLeft.{made_unboxed, raised_again, raised_more, raised_not_below, unboxed}
use Rattle.serve_run.proofs.Failing.{any_rose}

-- what isn't true is false
is_false : (test : Bool) → ¬ (test ≡ true) → test ≡ false
is_false true not_true = absurd (not_true refl)
is_false false not_true = refl

module _ {D L M V W C : Type 0} (trace : D → Option (List State)) (moment disk_faults : D → ℕ) where
  -- no post began, and the desk was finished as it was
  pub no_post : (desk given : DeskState (BoxedDisk D)) (left : D) (doubt : Bool) (desks desks' : List (Post L V C)) (links links' : List (Post M W C))
      (output : Output) (status : ℕ) → IsJustMade (λ boxed. moment boxed.disk.value) (λ boxed. disk_faults boxed.disk.value) desk (last_place desk.history) →
      given ≡ desk → outsides_of desks' ≡ outsides_of desks → outsides_of links' ≡ outsides_of links → LacksMemory output status →
      (given.doubt ≡ false → doubt ≡ false) → EachFrom (trace left) given.opened.moment (RecoversFront BOOK_LIMIT given.history given.opened.entries) →
      EachNow (trace left) (RecoversNow BOOK_LIMIT doubt given.history) →
      (doubt ≡ true → disk_faults left ≡ raised 1 (disk_faults given.disk.disk.value)) →
      (doubt ≡ false → disk_faults left ≡ disk_faults given.disk.disk.value) →
      NoPost desk.history (moment desk.disk.disk.value) (trace left) (count_of disk_faults desk.disk.disk.value left) desks desks' links links' output status
  no_post desk given left doubt desks desks' links links' output status made same desks_kept links_kept lacks settled since now once quiet =
      let made_given = subst (λ (d : DeskState (BoxedDisk D)). IsJustMade (λ boxed. moment boxed.disk.value) (λ boxed. disk_faults boxed.disk.value) d (last_place d.history))
      (sym same) made in
      let leaves = leaves_history trace moment disk_faults (unboxed given) (unboxed given) left doubt 0 given.history
      (made_unboxed moment disk_faults given (last_place given.history) made_given) refl refl refl since now once quiet in
      subst (λ (d : DeskState (BoxedDisk D)). NoPost d.history (moment d.disk.disk.value) (trace left) (count_of disk_faults d.disk.disk.value left) desks desks'
      links links' output status) same (record {
        desks_kept = desks_kept;
        links_kept = links_kept;
        lacks = lacks;
        leaves = subst (λ (still : Bool). LeavesHistory given.history given.history 0 still (moment given.disk.disk.value) (trace left)
            (count_of disk_faults given.disk.disk.value left)) (settled made_given.certain) leaves;
      })

module _ {D L M V W C : Type 0} (trace : D → Option (List State)) (moment disk_faults : D → ℕ) (events : L → Option (List Event)) (faults : L → ℕ)
    (calls : M → Option (List LinkCall)) (link_faults : M → ℕ) (may_give : ℤ → Type 0) (port workers rounds : ℕ) (desk after : DeskState (BoxedDisk D))
    (desks part : List (Post L V C)) (links part' : List (Post M W C)) (left : D) (output : Output) (status posts lines : ℕ)
    (made : IsJustMade (λ boxed. moment boxed.disk.value) (λ boxed. disk_faults boxed.disk.value) desk (last_place desk.history))
    (serves : ServesAll events faults calls link_faults may_give BOOK_LIMIT port rounds desk after (take posts desks) part (take lines links) part')
    (durable : IsDurable (λ boxed. trace boxed.disk.value) (λ boxed. moment boxed.disk.value) (λ boxed. disk_faults boxed.disk.value) BOOK_LIMIT after)
    (ends : EndsDesk trace moment disk_faults after (any_failed part) left output status) where
  -- the faults of the disk that callers were answered
  abbrev faults_answered : ℕ
  faults_answered = sum_by (λ (caller : CallerState). caller.faulted) (serves.desk_callers ++ serves.line_callers)

  -- the numbers of the desk are those that it was made with
  opened_is : after.opened ≡ desk.opened
  opened_is = ap (λ (found : FoundState (BoxedDisk D)). found.opened) serves.callers.found

  -- and it has counted just these faults
  counted : disk_faults after.disk.disk.value ≡ raised faults_answered (disk_faults desk.disk.disk.value)
  counted =
      durable.counted ∙ ap (λ (failed : ℕ). raised failed after.opened.faults) serves.callers.failed
      ∙ raised_again faults_answered after.opened.faults
      ∙ ap (λ (opened : Opened). raised faults_answered opened.faults) opened_is ∙ ap (raised faults_answered) made.faults_is

  -- the disk is a later one, if its count wasn't above the last u64
  pub served_later : disk_faults desk.disk.disk.value ≤ 2 ^ 64 - 1 →
      IsLater (trace desk.disk.disk.value) (trace left) (moment desk.disk.disk.value) (moment left) (count_of disk_faults desk.disk.disk.value left)
  served_later small =
      let found_is : after.found ≡ desk.disk = ap (λ (found : FoundState (BoxedDisk D)). found.disk) serves.callers.found ∙ made.found_is in
      later_more _ (trace after.disk.disk.value) _ _ (moment after.disk.disk.value) _ _ (disk_faults after.disk.disk.value) _ (record {
        extends = subst (λ (boxed : BoxedDisk D). Extends (trace boxed.disk.value) (trace after.disk.disk.value)) found_is durable.extends;
        moment_on = subst (λ (m : ℕ). m ≤ moment after.disk.disk.value) (ap (λ (opened : Opened). opened.moment) opened_is ∙ made.moment_is) durable.moment_on;
        never_falls = subst (λ (n : ℕ). disk_faults desk.disk.disk.value ≤ n) (sym counted)
            (raised_not_below faults_answered (disk_faults desk.disk.disk.value) small);
      }) ends.disk_later

  module _ (posts_is : posts ≡ min (length desks) workers) (lines_is : lines ≡ min (length links) (length desk.history.site.lines))
      (same_desks : length part ≡ length (take posts desks)) (same_links : length part' ≡ length (take lines links)) (legal : IsLegal BOOK_LIMIT after.history) where
    -- the posts that ran, before and after
    first_desks : take workers desks ≡ take posts desks
    first_desks = first_taken workers posts desks part posts_is same_desks

    desks_after : take workers (part ++ drop posts desks) ≡ part
    desks_after = first_after workers posts desks part posts_is same_desks

    first_links : take (length desk.history.site.lines) links ≡ take lines links
    first_links = first_taken (length desk.history.site.lines) lines links part' lines_is same_links

    links_after : take (length desk.history.site.lines) (part' ++ drop lines links) ≡ part'
    links_after = first_after (length desk.history.site.lines) lines links part' lines_is same_links

    -- what desk posts and lines did
    abbrev posts_do : ℕ → Post L V C → Post L V C → CallerState → Type 0
    posts_do = PostStands events faults may_give BOOK_LIMIT port desk.history after.history

    abbrev lines_do : ℕ → ℕ → Post M W C → Post M W C → CallerState → Type 0
    lines_do = λ desk_posts. LineStands calls link_faults may_give BOOK_LIMIT rounds desk_posts desk.history after.history

    -- if a post ended since a call on its listener failed, the count of a listener rose
    rose : any_failed part ≡ true → AnyRose faults (take workers desks) (take workers (part ++ drop posts desks))
    rose failed =
        subst (λ (before : List (Post L V C)). AnyRose faults before (take workers (part ++ drop posts desks))) (sym first_desks)
        (subst (AnyRose faults (take posts desks)) (sym desks_after)
        (any_rose events faults may_give BOOK_LIMIT port desk.history after.history 0 (take posts desks) part serves.desk_callers serves.posts_stand failed))

    -- the history that the posts left, the disk and what was put
    pub posts_served : PostsServed events faults calls link_faults may_give port workers rounds desk.history (moment desk.disk.disk.value) (trace left)
        (count_of disk_faults desk.disk.disk.value left) desks (part ++ drop posts desks) links (part' ++ drop lines links) output status
    posts_served = record {
      final = after.history;
      desk_callers = serves.desk_callers;
      line_callers = serves.line_callers;
      legal = legal;
      continues = serves.continues;
      posts_stand =
          subst (λ (before : List (Post L V C)). EachStands posts_do 0 before (take workers (part ++ drop posts desks)) serves.desk_callers) (sym first_desks)
          (subst (λ (now : List (Post L V C)). EachStands posts_do 0 (take posts desks) now serves.desk_callers) (sym desks_after) serves.posts_stand);
      lines_stand =
          subst (λ (before : List (Post L V C)). EachStands (lines_do (length before)) 0 (take (length desk.history.site.lines) links)
          (take (length desk.history.site.lines) (part' ++ drop lines links)) serves.line_callers) (sym first_desks)
          (subst (λ (before : List (Post M W C)). EachStands (lines_do (length (take posts desks))) 0 before
          (take (length desk.history.site.lines) (part' ++ drop lines links)) serves.line_callers) (sym first_links)
          (subst (λ (now : List (Post M W C)). EachStands (lines_do (length (take posts desks))) 0 (take lines links) now serves.line_callers) (sym links_after)
          serves.lines_stand));
      other_desks = others_after workers posts desks part posts_is same_desks;
      other_links = others_after (length desk.history.site.lines) lines links part' lines_is same_links;
      own = serves.callers.own;
      entered = serves.callers.entered;
      doubt = ends.doubt;
      leaves = leaves_history trace moment disk_faults (unboxed desk) (unboxed after) left ends.doubt faults_answered after.history
          (made_unboxed moment disk_faults desk (last_place desk.history) made) opened_is refl counted ends.since ends.now ends.once ends.quiet;
      certain =
          All-weaker (λ (caller : CallerState). caller.certain ≤ certain after.doubt after.history)
          (λ (caller : CallerState). caller.certain ≤ certain ends.doubt after.history)
          (λ caller within. omega (arith, within, surer_after after.doubt ends.doubt after.history ends.settled))
          (serves.desk_callers ++ serves.line_callers) serves.callers.certain;
      summary = ends.summary;
      reports = subst (λ (now : List (Post L V C)). ReportsSummary (summary_text after.history) ends.doubt (any_failed now) output status) (sym desks_after) ends.reports;
      port_failed = λ six. elim (ends.reports.faulted six).1 [ inl failed ↦ inl (rose failed) | inr output_rose ↦ inr output_rose ];
      complete = λ disk_quiet posts_quiet output_quiet. ends.reports.complete
          (is_false ends.doubt (λ in_doubt. disk_quiet (raised_more faults_answered (disk_faults desk.disk.disk.value) (disk_faults after.disk.disk.value)
          (disk_faults left) counted (ends.once in_doubt))))
          (is_false (any_failed part) (λ failed. posts_quiet (rose failed))) output_quiet;
    }
