-- What objects of the outside show to clauses. One in memory shows what it holds and its calls, a real one what it stands over.
use Rattle.std.specs.Prelude.{◌≡◌, Bool, ℕ, ◌+◌, ◌-◌, ◌^◌, ◌==◌, min, List, IsTrue}
use Rattle.std.specs.List.{list_any}
use Rattle.farm_ports.specs.Folders.{File}

-- the calls of an object in memory: how many were made, the numbers, counted from 1, of those that are to fail, and its faults
pub record Calls : Type 0 where
  pub made : ℕ
  pub failing : List ℕ
  pub faults : ℕ

-- before the first call
abbrev pub no_calls : List ℕ → Calls
no_calls failing = record { made = 0; failing = failing; faults = 0 }

-- the next call is one of those that are to fail
abbrev pub FailsNext : Calls → Type 0
FailsNext calls = IsTrue (list_any (λ number. number == min (calls.made + 1) (2 ^ 64 - 1)) calls.failing)

-- one call more was made, and those that are to fail are the same
pub record CountsCall (old new : Calls) : Type 0 where
  pub made : new.made ≡ min (old.made + 1) (2 ^ 64 - 1)
  pub failing : new.failing ≡ old.failing

-- a script: its bytes, where each piece of them ends, how many of them were taken, and its takes
pub record ScriptState : Type 0 where
  pub bytes : List ℕ
  pub ends : List ℕ
  pub taken : ℕ
  pub calls : Calls

-- a gather: its bytes, for how many bytes it has memory, and its puts
pub record GatherState : Type 0 where
  pub bytes : List ℕ
  pub room : ℕ
  pub calls : Calls

-- a folder in memory: its files, and its reads
pub record FilesState : Type 0 where
  pub files : List File
  pub calls : Calls

-- a real object: what it stands over, and its faults
pub record Counted (A : Type 0) : Type 0 where
  pub over : A
  pub faults : ℕ

-- a link of the system: what it stands over, whether it has a connection, and its faults
pub record Connected (A : Type 0) : Type 0 where
  pub over : A
  pub connected : Bool
  pub faults : ℕ
