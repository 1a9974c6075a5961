-- What a desk keeps over a call, whatever a crash leaves.
use Rattle.std.specs.Prelude.{◌⊎◌, ℕ, ◌<◌, ◌≤◌, List, length, Option}
use Rattle.farm_disk.specs.Images.{State}
use Rattle.farm_disk.specs.Runs.{EachNow, EachSince}
use Rattle.farm_history.specs.History.{History, empty_history}
use Rattle.farm_journal.specs.Limits.{before_header}
use Rattle.farm_journal.specs.Recovery.{IsNotJournal}
use Rattle.farm_site.specs.Described.{Described}
use Rattle.journaled_book.specs.Histories.{Recovers, RecoversAtLeast, RecoversFront, certain}
use Rattle.journaled_book.specs.Moments.{EachFrom}
use Rattle.farm_desk.specs.States.{DeskState}

-- each image that a crash may leave since a call began encodes a prefix of the history that it left, with at least the entries that
-- weren't in doubt as it began
abbrev pub KeepsFront : {D : Type 0} → (D → Option (List State)) → ℕ → DeskState D → D → History → Type 0
KeepsFront trace limit old disk history =
    EachSince (trace old.disk) (trace disk) (RecoversFront limit history (certain old.doubt old.history))

-- What crashes keep from a moment on they keep later: if each image since that moment encoded a history of at least this many entries,
-- none of them in doubt, each does afterwards.
abbrev pub KeepsAcknowledged : {D : Type 0} → (D → Option (List State)) → ℕ → DeskState D → D → Type 0
KeepsAcknowledged trace limit old disk = (moment count : ℕ) → count ≤ certain old.doubt old.history →
    EachFrom (trace old.disk) moment (RecoversAtLeast limit count) → EachFrom (trace disk) moment (RecoversAtLeast limit count)

-- bytes are no journal, or encode a history of a site without an entry
abbrev pub IsNoneOrEmpty : ℕ → Described → List ℕ → Type 0
IsNoneOrEmpty limit site bytes = IsNotJournal bytes ⊎ Recovers limit (empty_history site) bytes

-- If every image at the start is shorter than 13 bytes, as of an empty disk, each image since is no journal, or encodes the history
-- of the site without an entry.
abbrev pub IsCrashSafe : ℕ → Described → Option (List State) → Option (List State) → Type 0
IsCrashSafe limit site old new = EachNow old (λ image. length image < before_header) → EachSince old new (IsNoneOrEmpty limit site)
