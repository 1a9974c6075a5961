-- Folders of files, and what a read of a file gives.
use Rattle.std.specs.Prelude.{◌≡◌, ℕ, List, [], ◌∷◌, map, take, bytes_eq, Option, Some, None, option_map, if◌then◌else◌, String, Vec, string_bytes}
use Rattle.std.specs.declared.alloc.Global.{Global}

-- a file of a folder, by its name
pub record File : Type 0 where
  pub name : List ℕ
  pub bytes : List ℕ

-- the files of these names and bytes, in their order
abbrev pub files_of : List (String Global × Vec ℕ Global) → List File
files_of = map (λ file. record { name = string_bytes file.0; bytes = file.1.items })

-- the bytes of the first file with a name
abbrev pub file_named : List ℕ → List File → Option (List ℕ)
file_named name [] = None
file_named name (file ∷ files) = if bytes_eq file.name name then Some file.bytes else file_named name files

-- a read gave the first `most` bytes of the first file with a name, or all of them where there are fewer
abbrev pub ReadsFile : List ℕ → ℕ → List ℕ → List File → Type 0
ReadsFile name most bytes files = option_map (take most) (file_named name files) ≡ Some bytes
