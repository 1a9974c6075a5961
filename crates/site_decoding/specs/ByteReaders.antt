-- The readers of `byte_readers` for a site, with `BadSite` where bytes begin with no such value, and readers of texts, of what may be missing,
-- and of lists.
use Rattle.std.specs.Prelude.{◌≡◌, ℕ, ◌==◌, Bool, true, false, nat_le, nat_lt, if◌then◌else◌, List, length, take, drop, Option, Some, None, Result, Ok, Err, ℤ, pos}
use Rattle.std.specs.Int.{Width}
use Rattle.farm_base.specs.Steps.{IsRefusedAs}
use Rattle.byte_readers.specs.ByteReaders as readers
use Rattle.site_decoding.specs.declared.fault.SiteBytesFault.{SiteBytesFault}
use Rattle.site_decoding.specs.declared.fault.SiteBytesFault.TheVariants.{BadSite, NoMemory}
pub use Rattle.byte_readers.specs.ByteReaders.{then_at, ◌▸◌, after_at, made_at, counted_at}

-- the fault of bytes that a call reports, where it isn't out of memory
abbrev pub reported : SiteBytesFault → Option SiteBytesFault
reported BadSite = Some BadSite
reported NoMemory = None

-- a call answers what a reader gives, its value seen by a view, unless it is out of memory
abbrev pub Gives : {X Y : Type 0} → (X → Y) → Result X SiteBytesFault → Result Y SiteBytesFault → Type 0
Gives view (Ok x) read = read ≡ Ok (view x)
Gives view (Err fault) read = IsRefusedAs (reported fault) read

-- a reader of values
abbrev pub Reader : Type 0 → Type 0
Reader = readers.Reader SiteBytesFault

-- a value that passes a test
abbrev pub tested_at : {A : Type 0} → (A → Bool) → Reader A → Reader A
tested_at test = readers.tested_at test (λ _. BadSite)

-- a byte
abbrev pub byte_at : Reader ℕ
byte_at = readers.byte_at BadSite

-- a byte up to this one
unfoldable pub byte_up_to : ℕ → Reader ℕ
byte_up_to most = tested_at (λ byte. nat_le byte most) byte_at

-- yes or no
unfoldable pub flag_at : Reader Bool
flag_at = made_at (λ byte. byte == 1) (byte_up_to 1)

-- a number of a width, high byte first
abbrev pub number_at : Width → Reader ℕ
number_at = readers.number_at BadSite

-- a whole number that isn't below 0
unfoldable pub natural_at : Width → Reader ℤ
natural_at w = made_at pos (number_at w)

-- a signed number
abbrev pub signed_at : Width → Reader ℤ
signed_at = readers.signed_at BadSite

-- this many bytes
abbrev pub bytes_at : ℕ → Reader (List ℕ)
bytes_at count bytes = if nat_lt (length bytes) count then Err BadSite else Ok (take count bytes, drop count bytes)

-- a text
unfoldable pub text_at : Reader (List ℕ)
text_at = after_at byte_at bytes_at

-- a thing, or nothing, after the byte that says which
abbrev pub option_after : {A : Type 0} → Reader A → Bool → Reader (Option A)
option_after read false bytes = Ok (None, bytes)
option_after read true bytes = made_at Some read bytes

-- a thing that may be missing
abbrev pub option_at : {A : Type 0} → Reader A → Reader (Option A)
option_at read = after_at flag_at (option_after read)

-- a list after its count of one byte
abbrev pub short_list_at : {A : Type 0} → Reader A → Reader (List A)
short_list_at read = after_at byte_at (counted_at read)

-- a list after its count of several bytes
abbrev pub list_at : {A : Type 0} → Width → Reader A → Reader (List A)
list_at w read = after_at (number_at w) (counted_at read)
