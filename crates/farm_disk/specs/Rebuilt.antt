-- What a disk in memory rebuilds of the bytes that a crash leaves at a moment.
use Rattle.std.specs.Prelude.{◌≡◌, ◌⊎◌, ℕ, zero, suc, ◌<◌, ◌≤◌, Bool, true, false, if◌then◌else◌, List, [], ◌∷◌, length, slice_index, replicate}
use Rattle.farm_disk.specs.Images.{IsWritten, State, overlaid, reach, state_at, written_at}
use Rattle.farm_disk.specs.Memory.{MemState, states_of}
use Rattle.farm_disk.specs.declared.disk_call.DiskCall.{DiskCall}
use Rattle.farm_disk.specs.declared.disk_call.DiskCall.TheVariants.{Write, Sync}
use Rattle.farm_disk.specs.declared.crash_fill.Fill.{Fill}
use Rattle.farm_disk.specs.declared.crash_fill.Fill.TheVariants.{Old, New, Byte}

-- a call as a crash finds it: one that has begun and isn't over is one that isn't done
abbrev pub as_found : Bool → DiskCall → DiskCall
as_found true call = call
as_found false (Write at bytes done) = Write at bytes false
as_found false (Sync done) = Sync false

-- the calls that a crash at a moment finds, each of which takes two moments
abbrev pub found_at : List DiskCall → ℕ → List DiskCall
found_at [] moment = []
found_at (call ∷ calls) zero = []
found_at (call ∷ calls) (suc zero) = as_found false call ∷ []
found_at (call ∷ calls) (suc (suc moment)) = call ∷ found_at calls moment

-- what reads give after a call
abbrev pub seen_by : DiskCall → List ℕ → List ℕ
seen_by (Write at bytes done) seen = if done then written_at at bytes seen else seen
seen_by (Sync done) seen = seen

-- what each fill leaves where a write of these bytes has begun
abbrev pub filled : Fill → ℕ → List ℕ → List ℕ → List ℕ
filled Old at bytes image = image
filled New at bytes image = written_at at bytes image
filled (Byte value) at bytes image = overlaid value at (replicate (length bytes) value) image

-- what each fill leaves of an image after a call, by what reads give before it: after a good sync, just that
abbrev pub image_by : Fill → DiskCall → List ℕ → List ℕ → List ℕ
image_by fill (Write at bytes done) seen image = filled fill at bytes image
image_by fill (Sync done) seen image = if done then seen else image

-- what each fill leaves after these calls, from what reads give before them and an image from before them
abbrev pub rebuilt : Fill → List ℕ → List ℕ → List DiskCall → List ℕ
rebuilt fill seen image [] = image
rebuilt fill seen image (call ∷ calls) = rebuilt fill (seen_by call seen) (image_by fill call seen image) calls

-- what reads would give if each write that was begun since the last good sync had happened, in their order
abbrev pub all_written : List ℕ → List ℕ → List DiskCall → List ℕ
all_written seen written [] = written
all_written seen written (Write at bytes done ∷ calls) =
    all_written (if done then written_at at bytes seen else seen) (written_at at bytes written) calls
all_written seen written (Sync done ∷ calls) = all_written seen (if done then seen else written) calls

-- An image has the greatest length that the writes could reach, the base's byte at each position of the base that no write
-- covers, and one value at every other.
pub record IsCoveredBy (value : ℕ) (state : State) (image : List ℕ) : Type 0 where
  pub size : length image ≡ reach state
  pub kept : (position : ℕ) → position < length state.base → (IsWritten state.ranges position → ⊥) →
      slice_index image position ≡ slice_index state.base position
  pub covered : (position : ℕ) → position < length image → (length state.base ≤ position) ⊎ IsWritten state.ranges position →
      slice_index image position ≡ value

-- An image at a moment by each fill: the base; what reads would give if each begun write had happened; or one value wherever
-- a crash may leave any byte.
abbrev pub IsFilled : Fill → MemState → ℕ → List ℕ → Type 0
IsFilled Old disk moment image = image ≡ (state_at (states_of disk.start disk.calls) moment).base
IsFilled New disk moment image = image ≡ all_written disk.start disk.start (found_at disk.calls moment)
IsFilled (Byte value) disk moment image = IsCoveredBy value (state_at (states_of disk.start disk.calls) moment) image
