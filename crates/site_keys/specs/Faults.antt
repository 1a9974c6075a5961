-- Faults of a site: the first one, by its code, the item of its list (from 1, 0 for the top), and a detail.
use Rattle.std.specs.Prelude.{ℕ, min, Bool, true, false, List, Option, Some, None, Result, Ok, Err}
use Rattle.farm_base.specs.Steps.{or_fault}
use Rattle.farm_ports.specs.declared.fault.PortFault.{PortFault}
use Rattle.farm_ports.specs.declared.fault.PortFault.TheVariants as port
use Rattle.site_keys.specs.Codes.{code_of_field, code_of_range}
use Rattle.site_keys.specs.declared.fault.SiteFault.{SiteFault}
use Rattle.site_keys.specs.declared.fault.SiteReadFault.{SiteReadFault}
use Rattle.site_keys.specs.declared.fault.SiteReadFault.TheVariants.{NoMemory, Folder, Bad}

-- why the files of a folder are no site: the first fault that is found in them, or an expected file that is missing
pub data Refusal : Type 0 where
  Faulty : (fault : SiteFault) → Refusal
  Missing : (name : List ℕ) → Refusal

-- a fault by its code, item and detail
abbrev pub fault_at : ℕ → ℕ → ℕ → SiteFault
fault_at code item number = record { code = code; item = item; detail = number }

-- nothing but that fault
abbrev pub bad : {A : Type 0} → ℕ → ℕ → ℕ → Result A SiteFault
bad code item number = Err (fault_at code item number)

-- what is needed, or the fault that it is missing or of the wrong type
abbrev pub needed : {A : Type 0} → ℕ → Option A → Result A SiteFault
needed item value = or_fault (fault_at code_of_field item 0) value

-- a value that is in its range, or the fault that it isn't
abbrev pub ranged : {A : Type 0} → ℕ → Bool → A → Result A SiteFault
ranged item true value = Ok value
ranged item false value = bad code_of_range item 0

-- a record, row or number as a detail, which has at most 32 bits; no file within the limit has more
abbrev pub detail : ℕ → ℕ
detail n = min n 4294967295

-- what is found in a file, as a part of what is found in the folder
abbrev pub found : {A : Type 0} → Result A SiteFault → Result A Refusal
found (Ok value) = Ok value
found (Err fault) = Err (Faulty fault)

-- how a fault of the folder is reported
abbrev pub of_folder : PortFault → SiteReadFault
of_folder port.Failed = Folder
of_folder port.NoMemory = NoMemory

-- the fault in a file that a call reports, where it is neither out of memory nor stopped by the folder
abbrev pub reported : SiteReadFault → Option SiteFault
reported NoMemory = None
reported Folder = None
reported (Bad fault) = Some fault

-- the same, as a refusal of the folder's files
abbrev pub refusal_of : SiteReadFault → Option Refusal
refusal_of NoMemory = None
refusal_of Folder = None
refusal_of (Bad fault) = Some (Faulty fault)

-- an expected file is missing
abbrev pub IsMissing : {A : Type 0} → Result A Refusal → Type 0
IsMissing (Ok value) = ⊥
IsMissing (Err (Faulty fault)) = ⊥
IsMissing (Err (Missing name)) = Unit {0}

-- a fault that isn't the folder's
abbrev pub IsNotTheFolders : SiteReadFault → Type 0
IsNotTheFolders NoMemory = Unit {0}
IsNotTheFolders Folder = ⊥
IsNotTheFolders (Bad fault) = Unit {0}
