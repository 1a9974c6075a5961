-- Requests that follow one another on a history, and on one that continues it.
use Rattle.std.proofs.Common.{◌≡◌, ◌∙◌, ℕ, ◌≤◌, List, [], ◌∷◌, ◌++◌, append-nil, drop, take, refl, sym, ap, ap₂, subst, arith}
use Rattle.std.proofs.Math.Seq.{take-length}
use Rattle.std.proofs.lemmas.List.Elements.{All-cons, All-head, All-nil, All-tail}
use Rattle.std.specs.List.{All}
use Rattle.farm_history.specs.History.{History, last_place}
use Rattle.farm_history.specs.declared.entry.Entry.{Entry}
use Rattle.journaled_book.specs.Histories.{front_of}
use Rattle.desk_access.specs.Access.{AreFollowers, Continues}
use Rattle.desk_access.specs.Spans.{Follow, Span, entered_in}
use Rattle.desk_access.proofs.Fronts.{entries_of_longer, front_of_longer}

-- the entries up to the last one are all
pub all_taken : (history : History) (from : ℕ) → drop from history.entries ≡ drop from (take (last_place history) history.entries) ++ []
all_taken history from =
    sym (append-nil (drop from (take (last_place history) history.entries))
    ∙ ap (λ (entries : List Entry). drop from entries) (take-length history.entries))

module _ {X : Type 0} (span : X → Span) where
  -- the entries that a request speaks of are within the first ones, this many
  pub record IsWithin (most : ℕ) (request : X) : Type 0 where
    pub before : (span request).before ≤ most
    pub after : (span request).after ≤ most

  -- requests leave no shorter history
  pub follow_rises : (may_follow : History → History → Type 0) (history : History) (from : ℕ) (requests : List X) (to : ℕ) →
      Follow span may_follow history from requests to → from ≤ to
  unfolding Follow
  follow_rises may_follow history from [] to follow = follow.0
  follow_rises may_follow history from (request ∷ requests) to follow =
      omega (arith, follow.0, follow.2, follow_rises may_follow history (span request).after requests to follow.3)

  -- what they speak of is within the last history
  pub follow_within : (may_follow : History → History → Type 0) (history : History) (from : ℕ) (requests : List X) (to : ℕ) →
      Follow span may_follow history from requests to → All (IsWithin to) requests
  unfolding Follow
  follow_within may_follow history from [] to follow = All-nil (IsWithin to)
  follow_within may_follow history from (request ∷ requests) to follow =
      let rises = follow_rises may_follow history (span request).after requests to follow.3 in
      All-cons (IsWithin to) request requests (record { before = omega (arith, follow.2, rises); after = rises })
      (follow_within may_follow history (span request).after requests to follow.3)

  -- they follow one another on a history that continues theirs
  pub follow_on : (may_follow : History → History → Type 0) (first next : History) (from : ℕ) (requests : List X) (to : ℕ) → Continues first next →
      to ≤ last_place first → Follow span may_follow first from requests to → Follow span may_follow next from requests to
  unfolding Follow
  follow_on may_follow first next from [] to continues within follow = (
    follow.0,
    subst (λ (old : History). may_follow old (front_of next to)) (sym (front_of_longer first next from continues (omega (arith, within, follow.0))))
        (subst (λ (new : History). may_follow (front_of first from) new) (sym (front_of_longer first next to continues within)) follow.1),
  )
  follow_on may_follow first next from (request ∷ requests) to continues within follow =
      let rises = follow_rises may_follow first (span request).after requests to follow.3 in
      let there : (span request).before ≤ last_place first = omega (arith, within, follow.2, rises) in
      let earlier : from ≤ last_place first = omega (arith, there, follow.0) in (
        follow.0,
        subst (λ (old : History). may_follow old (front_of next (span request).before)) (sym (front_of_longer first next from continues earlier))
            (subst (λ (new : History). may_follow (front_of first from) new) (sym (front_of_longer first next (span request).before continues there)) follow.1),
        follow.2,
        follow_on may_follow first next (span request).after requests to continues within follow.3,
      )

  -- requests and then others follow one another
  pub follow_more : (may_follow : History → History → Type 0) → AreFollowers may_follow → (history : History) (from : ℕ) (requests : List X) (middle : ℕ)
      (others : List X) (to : ℕ) → Follow span may_follow history from requests middle → Follow span may_follow history middle others to →
      Follow span may_follow history from (requests ++ others) to
  unfolding Follow
  follow_more may_follow laws history from [] middle [] to earlier later =
      (omega (arith, earlier.0, later.0), laws.on (front_of history from) (front_of history middle) (front_of history to) earlier.1 later.1)
  follow_more may_follow laws history from [] middle (other ∷ others) to earlier later = (
    omega (arith, earlier.0, later.0),
    laws.on (front_of history from) (front_of history middle) (front_of history (span other).before) earlier.1 later.1,
    later.2,
    later.3,
  )
  follow_more may_follow laws history from (request ∷ requests) middle others to earlier later =
      (earlier.0, earlier.1, earlier.2, follow_more may_follow laws history (span request).after requests middle others to earlier.3 later)

  -- requests entered what they entered, on a history that continues theirs too
  pub entered_on : (first next : History) (requests : List X) → Continues first next → All (IsWithin (last_place first)) requests →
      entered_in span next requests ≡ entered_in span first requests
  entered_on first next [] continues within = refl
  entered_on first next (request ∷ requests) continues within =
      let here = All-head (IsWithin (last_place first)) request requests within in
      ap₂ (λ (one more : List Entry). one ++ more)
      (ap (λ (entries : List Entry). drop (span request).before entries) (entries_of_longer first next (span request).after continues here.after))
      (entered_on first next requests continues (All-tail (IsWithin (last_place first)) request requests within))
