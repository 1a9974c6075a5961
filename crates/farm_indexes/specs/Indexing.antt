-- When indexes are those of a history.
use Rattle.std.specs.Prelude.{ℕ, if◌then◌else◌, nat_le}
use Rattle.key_index.specs.Keys as key_index
use Rattle.farm_history.specs.History.{History}
use Rattle.history_lookups.specs.Ledgers.{AreBooksOf}
use Rattle.farm_indexes.specs.Keys.{AreIndexed}
use Rattle.farm_indexes.specs.LastFigures.{AreLastOf}
use Rattle.farm_indexes.specs.Notes.{AreNotesOf}
use Rattle.farm_indexes.specs.OpenMoves.{AreMovesOf}
use Rattle.farm_indexes.specs.TankStates.{AreStatesOf}
use Rattle.farm_indexes.specs.declared.indexes.Indexes.{Indexes}

-- each index is what the history says: places of keys, notes of entries, states of tanks, open movements, last figures, books
pub record AreIndexesOf (history : History) (indexes : Indexes) : Type 0 where
  pub keys : AreIndexed indexes.keys history.entries
  pub notes : AreNotesOf history indexes.notes
  pub states : AreStatesOf history indexes.states
  pub moves : AreMovesOf history indexes.moves
  pub figures : AreLastOf history indexes.figures
  pub books : AreBooksOf history indexes.ledger

-- for how many entries more there is memory
unfoldable pub room : Indexes → ℕ
room indexes =
    let keys = key_index.room indexes.keys in
    if nat_le keys indexes.notes.room then keys else indexes.notes.room
