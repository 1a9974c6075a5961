-- The bytes of a journal: an opening, records, and a gate that isn't open. Numbers are big-endian.
use Rattle.std.specs.Prelude.{◌≡◌, ◌≢◌, ℕ, ◌≤◌, List, [], ◌∷◌, ◌++◌, length, take, drop, codes, All}
use Rattle.std.specs.Int.{to_be_bytes, w32}
use Rattle.farm_journal.specs.Limits.{max_body}

-- the gate of the header, open, and the name of the format
unfoldable pub signature : List ℕ
signature = 1 ∷ codes "FARMJNL1"

-- these bytes after their length in 4 bytes
unfoldable pub counted : List ℕ → List ℕ
counted bytes = to_be_bytes w32 (length bytes) ++ bytes

-- the opening: the signature, the length of the header, the header
unfoldable pub opening : List ℕ → List ℕ
opening header = signature ++ counted header

-- a record whose gate is open: the gate, the length of the body, the body
unfoldable pub open_record : List ℕ → List ℕ
open_record body = 1 ∷ counted body

-- records whose gates are open
abbrev pub open_records : List (List ℕ) → List ℕ
open_records [] = []
open_records (body ∷ bodies) = open_record body ++ open_records bodies

-- all that counts of a journal: its opening, and an open record of each body
unfoldable pub counting : List ℕ → List (List ℕ) → List ℕ
counting header bodies = opening header ++ open_records bodies

-- at the expected offset there is a gate, and it isn't open
abbrev pub IsClosed : List ℕ → Type 0
IsClosed [] = ⊥
IsClosed (gate ∷ rest) = gate ≢ 1

-- no more bytes than a header or a body may have
abbrev pub IsShort : List ℕ → Type 0
IsShort bytes = length bytes ≤ max_body

-- The bytes are a journal of this header and these bodies: its opening, an open record of each body, and a gate that isn't open.
-- What stands after that gate counts for nothing.
pub record IsJournalOf (header : List ℕ) (bodies : List (List ℕ)) (bytes : List ℕ) : Type 0 where
  pub begins : take (length (counting header bodies)) bytes ≡ counting header bodies
  pub closed : IsClosed (drop (length (counting header bodies)) bytes)
  pub short_header : IsShort header
  pub short_bodies : All IsShort bodies
