-- How desk posts ended.
use Rattle.std.specs.Prelude.{◌⊎◌, ℕ, Bool, true, false, List, [], ◌∷◌, Option, None, Some}
use Rattle.std.specs.List.{list_any}
use Rattle.farm_base.specs.Counts.{HasRisen, count_of}
use Rattle.desk_posts.specs.declared.posts.PostEnd.{PostEnd}
use Rattle.desk_posts.specs.declared.posts.PostEnd.TheVariants as ends
use Rattle.shared_posts.specs.declared.post.Post.{Post}

-- whether a post ended since a call on its listener failed
abbrev pub has_failed : Option PostEnd → Bool
has_failed None = false
has_failed (Some ends.Stopped) = false
has_failed (Some ends.Ended) = false
has_failed (Some ends.ListenerFailed) = true

-- whether one of these posts did
abbrev pub any_failed : {X W C : Type 0} → List (Post X W C) → Bool
any_failed posts = list_any (λ post. has_failed post.end) posts

-- the count of one of the objects of posts rose
abbrev pub AnyRose : {X W C : Type 0} → (X → ℕ) → List (Post X W C) → List (Post X W C) → Type 0
AnyRose faults [] after = ⊥
AnyRose faults (old ∷ before) [] = ⊥
AnyRose faults (old ∷ before) (new ∷ after) = HasRisen (count_of faults old.outside new.outside) ⊎ AnyRose faults before after
