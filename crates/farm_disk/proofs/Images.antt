-- What a write and a sync make of the bytes that a crash may leave.
use Rattle.std.proofs.Common.{◌≡◌, ◌⊎◌, inl, inr, ⊎_elim, refl, ℕ, ◌+◌, ◌<◌, ◌≤◌, max, List, length, get_or, ◌∙◌, arith, rules, [], ◌∷◌}
use Rattle.std.proofs.lemmas.Bool.{cases_lt}
use Rattle.std.proofs.lemmas.List.{ext_get_or, places}
use Rattle.farm_disk.specs.Images.{IsCrashImage, State, begun, overlaid, written_at}
use Rattle.farm_disk.specs.Laws.{BegunKeepsImages, BegunReaches, EmptyWriteChangesNothing, WrittenOver, SyncedIsImage, SyncedIsOne, WrittenIsImage, WrittenReaches}

-- a position that is in no range from `at` on is before it or past it
beside_range : (at size i : ℕ) → ((at ≤ i) × (i < at + size) → ⊥) → (i < at) ⊎ (at + size ≤ i)
beside_range at size i beside =
    ⊎_elim inl (λ from. inr (⊎_elim (λ within. absurd (beside (from, within))) (λ past. past) (cases_lt i (at + size)))) (cases_lt i at)

-- what lies over others, of at least one byte, reaches as far as both
pub length-overlaid : (filler at : ℕ) (bytes old : List ℕ) → 0 < length bytes →
    length (overlaid filler at bytes old) ≡ max (length old) (at + length bytes)
unfolding overlaid
length-overlaid filler at [] old some = absurd (omega (arith, some))
length-overlaid filler at (byte ∷ bytes) old some = search (rules, places)

-- before the offset the others stand as they were
pub overlaid_before : (filler at : ℕ) (bytes old : List ℕ) (i : ℕ) → i < length old → i < at →
    get_or (overlaid filler at bytes old) i 0 ≡ get_or old i 0
unfolding overlaid
overlaid_before filler at [] old i within before = refl
overlaid_before filler at (byte ∷ bytes) old i within before = search (rules, places)

-- past the last of the bytes the others stand as they were
pub overlaid_after : (filler at : ℕ) (bytes old : List ℕ) (i : ℕ) → at + length bytes ≤ i →
    get_or (overlaid filler at bytes old) i 0 ≡ get_or old i 0
unfolding overlaid
overlaid_after filler at [] old i after = refl
overlaid_after filler at (byte ∷ bytes) old i after = search (rules, places)

-- the bytes stand from the offset on
pub overlaid_here : (filler at : ℕ) (bytes old : List ℕ) (i : ℕ) → i < length bytes →
    get_or (overlaid filler at bytes old) (at + i) 0 ≡ get_or bytes i 0
unfolding overlaid
overlaid_here filler at [] old i within = absurd (omega (arith, within))
overlaid_here filler at (byte ∷ bytes) old i within = search (rules, places)

-- between the end of the others and the offset of at least one byte stands the filler
pub overlaid_gap : (filler at : ℕ) (bytes old : List ℕ) (i : ℕ) → 0 < length bytes → length old ≤ i → i < at →
    get_or (overlaid filler at bytes old) i 0 ≡ filler
unfolding overlaid
overlaid_gap filler at [] old i some past before = absurd (omega (arith, some))
overlaid_gap filler at (byte ∷ bytes) old i some past before = search (rules, places)

-- so a write leaves zeros there; without a byte it leaves nothing there, which a list has as 0
written_gap : (at : ℕ) (bytes old : List ℕ) (i : ℕ) → length old ≤ i → i < at → get_or (written_at at bytes old) i 0 ≡ 0
unfolding overlaid
written_gap at [] old i past before = search (rules, places)
written_gap at (byte ∷ bytes) old i past before = overlaid_gap 0 at (byte ∷ bytes) old i (omega arith) past before

-- beside the bytes the others stand as they were
pub overlaid_beside : (filler at : ℕ) (bytes old : List ℕ) (i : ℕ) → i < length old →
    ((at ≤ i) × (i < at + length bytes) → ⊥) → get_or (overlaid filler at bytes old) i 0 ≡ get_or old i 0
overlaid_beside filler at bytes old i within beside =
    ⊎_elim (overlaid_before filler at bytes old i within) (overlaid_after filler at bytes old i)
    (beside_range at (length bytes) i beside)

-- after a good sync a crash leaves what reads give
pub synced_is_one : SyncedIsOne
synced_is_one state image is =
    ext_get_or 0 image state.seen (omega (arith, is.least, is.most))
    (λ i within. is.kept i (omega (arith, is.most)) (λ never. never))

-- and a crash may leave it
pub synced_is_image : SyncedIsImage
synced_is_image state = record { least = omega arith; most = omega arith; kept = λ i within free. refl }

-- one range more reaches no less far
pub begun_keeps_images : BegunKeepsImages
begun_keeps_images state at [] image is = is
begun_keeps_images state at (byte ∷ bytes) image is = record {
  least = is.least;
  most = omega (arith, is.most);
  kept = λ i within free. is.kept i within (λ before. free (inr before));
}

-- bytes over an image from before, of as many as a write that has begun since, are an image
pub overlaid_is_image : (filler at size : ℕ) (bytes : List ℕ) (state : State) (image : List ℕ) → 0 < size → length bytes ≡ size →
    IsCrashImage state image →
    IsCrashImage (record state { ranges = record { at = at; size = size } ∷ state.ranges }) (overlaid filler at bytes image)
overlaid_is_image filler at size bytes state image some whole is = record {
  least = omega (arith, is.least, length-overlaid filler at bytes image (omega (arith, some, whole)));
  most = omega (arith, is.most, length-overlaid filler at bytes image (omega (arith, some, whole)));
  kept = λ i within free.
      let same : get_or (overlaid filler at bytes image) i 0 ≡ get_or image i 0 =
      overlaid_beside filler at bytes image i (omega (arith, is.least))
      (λ here. free (inl (here.0, omega (arith, here.1)))) in
      same ∙ is.kept i within (λ before. free (inr before));
}

-- what a write makes of an image from before it is an image once it has begun
pub written_is_image : WrittenIsImage
unfolding overlaid
written_is_image state at [] image is = is
written_is_image state at (byte ∷ bytes) image is =
    overlaid_is_image 0 at (length (byte ∷ bytes)) (byte ∷ bytes) state image (omega arith) refl is

-- a write of at least one byte reaches as far as what there was and its own end
pub written_reaches : WrittenReaches
written_reaches at bytes old some = length-overlaid 0 at bytes old some

-- what a write makes of the bytes, position by position
pub written_over : WrittenOver
written_over at bytes old = record {
  here = overlaid_here 0 at bytes old;
  before = overlaid_before 0 at bytes old;
  after = overlaid_after 0 at bytes old;
  gap = written_gap at bytes old;
}

-- a write without a byte changes nothing
pub empty_write_changes_nothing : EmptyWriteChangesNothing
unfolding overlaid
empty_write_changes_nothing state at = (refl, refl)

-- a write of at least one byte that begins may reach as far as the writes before it and its own end
pub begun_reaches : BegunReaches
begun_reaches state at [] some = absurd (omega (arith, some))
begun_reaches state at (byte ∷ bytes) some = refl

-- a write that has begun leaves what reads give
pub begun_seen : (at : ℕ) (bytes : List ℕ) (state : State) → (begun at bytes state).seen ≡ state.seen
begun_seen at [] state = refl
begun_seen at (byte ∷ bytes) state = refl

-- and it leaves the base
pub begun_base : (at : ℕ) (bytes : List ℕ) (state : State) → (begun at bytes state).base ≡ state.base
begun_base at [] state = refl
begun_base at (byte ∷ bytes) state = refl
