-- Bytes that are written over those of a disk.
use Rattle.std.specs.Prelude.{ℕ, List, ◌++◌, drop, length, take}

-- bytes with others in their place from an offset on
abbrev pub written_over : ℕ → List ℕ → List ℕ → List ℕ
written_over offset patch bytes = take offset bytes ++ patch ++ drop (length patch) (drop offset bytes)
