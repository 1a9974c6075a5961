-- The files of a site's folder: their bytes, and the tables that a TOML file has.
use Rattle.std.specs.Prelude.{◌≡◌, ℕ, nat_lt, if◌then◌else◌, List, length, Option, Some, None, Result, Ok, Err}
use Rattle.std.specs.Str.{is_utf8}
use Rattle.toml.specs.Data.{Members, table}
use Rattle.toml.specs.Parse.{parse_document}
use Rattle.farm_ports.specs.Folders.{File, file_named}
use Rattle.site_keys.specs.Codes.{code_of_text, code_of_too_long}
use Rattle.site_keys.specs.declared.fault.SiteFault.{SiteFault}
use Rattle.site_keys.specs.declared.fault.SiteReadFault.{SiteReadFault}
use Rattle.site_keys.specs.declared.fault.SiteReadFault.TheVariants.{Folder}
use Rattle.site_keys.specs.Limits.{most_file_bytes}
use Rattle.site_keys.specs.Keys.{Keys, keys_of}
use Rattle.site_keys.specs.Faults.{Refusal, Faulty, Missing, IsMissing, bad, fault_at}

-- the bytes of a file of this name that isn't too long; or it isn't there
abbrev pub within_limit : ℕ → List ℕ → Option (List ℕ) → Result (List ℕ) Refusal
within_limit item name None = Err (Missing name)
within_limit item name (Some bytes) = if nat_lt most_file_bytes (length bytes) then Err (Faulty (fault_at code_of_too_long item 0)) else Ok bytes

-- the bytes of the file with a name
abbrev pub content : List File → ℕ → List ℕ → Result (List ℕ) Refusal
content files item name = within_limit item name (file_named name files)

-- a call reports that the folder failed only if, by what a definition answers of the files, an expected one is missing
abbrev pub FailsAsMissing : {T A : Type 0} → Option (List File) → Result T SiteReadFault → (List File → Result A Refusal) → Type 0
FailsAsMissing known result answer = result ≡ Err Folder → (files : List File) → known ≡ Some files → IsMissing (answer files)

-- the keys of the table that a document is
abbrev pub keys_of_document : ℕ → Option Members → Result Keys SiteFault
keys_of_document item None = bad code_of_text item 0
keys_of_document item (Some members) = Ok (keys_of item (table members))

-- the keys of a file that is UTF-8 and TOML
unfoldable pub toml_of : ℕ → List ℕ → Result Keys SiteFault
toml_of item bytes = if is_utf8 bytes then keys_of_document item (parse_document bytes) else bad code_of_text item 0
