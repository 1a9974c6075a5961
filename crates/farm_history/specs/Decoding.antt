-- Reading the bytes of an entry from left to right. A reader gives a value and the bytes after it. Where there is no such value it
-- gives how many bytes are left from the first bad one on: 0 where bytes are missing.
use Rattle.std.specs.Prelude.{ℕ, ◌-◌, ◌==◌, ◌||◌, Bool, nat_le, nat_lt, if◌then◌else◌, List, [], ◌∷◌, ◌++◌, length, replicate, Option, Some, None, Result, Ok, Err, ℤ, pos}
use Rattle.std.specs.Int.{Width, w16, w32, w64}
use Rattle.farm_base.specs.Steps.{◌>>=◌}
use Rattle.byte_readers.specs.ByteReaders as readers
use Rattle.byte_readers.specs.ByteReaders.{then_at, ◌▸◌, made_at, tested_at, counted_at}
use Rattle.farm_history.specs.declared.few.Few.{Few}
use Rattle.farm_history.specs.declared.command.Command.{Command}
use Rattle.farm_history.specs.declared.command.Command.TheVariants.{Gauge, Dip, Sample, Opening, Closing, Cancel, Reverse, Settle, Stop}
use Rattle.farm_history.specs.declared.entry.Entry.{Entry}
use Rattle.farm_history.specs.declared.plan.Gauged.{Gauged}
use Rattle.farm_history.specs.declared.plan.Plan.{Plan}
use Rattle.farm_history.specs.declared.plan.Plan.TheVariants.{Outside, Transfer}
use Rattle.farm_ticket.specs.declared.side.Way.{Way}
use Rattle.farm_ticket.specs.declared.side.Way.TheVariants.{Inward, Outward}
use Rattle.farm_history.specs.Limits.{latest_moment, most_in_list}
use Rattle.farm_history.specs.Encoding.{signed_bytes}

-- a reader of values
abbrev pub Reader : Type 0 → Type 0
Reader = readers.Reader ℕ

-- a number of a width, high byte first
abbrev pub number_at : Width → Reader ℕ
number_at = readers.number_at 0

-- a signed number of 64 bits
abbrev pub signed_at : Reader ℤ
signed_at = readers.signed_at 0 w64

-- a byte that passes a test
abbrev pub byte_at : (ℕ → Bool) → Reader ℕ
byte_at may_stand = tested_at may_stand length (readers.byte_at 0)

-- how many bytes are left at the first that makes a number too great, whatever follows: compared with the bytes of the greatest number
abbrev pub first_above : List ℕ → List ℕ → Option ℕ
first_above [] bytes = None
first_above (most ∷ mosts) [] = None
first_above (most ∷ mosts) (byte ∷ bytes) =
    if nat_lt byte most then None else (if byte == most then first_above mosts bytes else Some (length (byte ∷ bytes)))

-- what was read, unless there is a bad byte first
abbrev pub unless_above : {A : Type 0} → Option ℕ → Result A ℕ → Result A ℕ
unless_above None read = read
unless_above (Some left) read = Err left

-- a moment that an entry may have
unfoldable pub moment_at : Reader ℤ
moment_at bytes = unless_above (first_above (signed_bytes latest_moment) bytes) (signed_at bytes)

-- this many signed numbers
abbrev pub numbers_at : ℕ → Reader (List ℤ)
numbers_at = counted_at signed_at

-- numbers, and zeros after this many of them
abbrev pub padded : ℕ → List ℤ → List ℤ
padded count numbers = numbers ++ replicate (most_in_list - count) (pos 0)

-- the short list of a count and as many numbers
abbrev pub list_of : ℕ × List ℤ → Few
list_of counted = record { count = counted.0; values = padded counted.0 counted.1 }

-- a short list
unfoldable pub list_at : Reader Few
list_at = made_at list_of (then_at (byte_at (λ count. nat_le count most_in_list)) numbers_at)

-- the kind of a dip
unfoldable pub kind_at : Reader Bool
kind_at = made_at (λ kind. kind == 1) (byte_at (λ kind. nat_le kind 1))

-- a gauge reading after its tag
unfoldable pub gauge_at : Reader Command
gauge_at = made_at (λ f. Gauge f.0 f.1.0 f.1.1.0 f.1.1.1.0 f.1.1.1.1) (number_at w16 ▸ signed_at ▸ signed_at ▸ signed_at ▸ signed_at)

-- a dip after its tag
unfoldable pub dip_at : Reader Command
dip_at = made_at (λ f. Dip f.0 f.1.0 f.1.1.0 f.1.1.1.0 f.1.1.1.1.0 f.1.1.1.1.1) (number_at w16 ▸ kind_at ▸ list_at ▸ list_at ▸ list_at ▸ signed_at)

-- a sample after its tag
unfoldable pub sample_at : Reader Command
sample_at = made_at (λ f. Sample f.0 f.1.0 f.1.1) (number_at w16 ▸ signed_at ▸ signed_at)

-- a reading and a sample that are named
unfoldable pub gauged_at : Reader Gauged
gauged_at = made_at (λ f. record { reading = f.0; sample = f.1 }) (number_at w32 ▸ number_at w32)

-- a byte is the way of a plan: 1 for a receipt, 2 for a delivery, 3 for a transfer
abbrev pub is_way : ℕ → Bool
is_way way = way == 1 || way == 2 || way == 3

-- a receipt or a delivery after its way
unfoldable pub outside_at : Way → Reader Plan
outside_at way = made_at (λ f. Outside way f.0 f.1.0 f.1.1) (number_at w16 ▸ number_at w16 ▸ gauged_at)

-- a transfer after its way
unfoldable pub transfer_at : Reader Plan
transfer_at = made_at (λ f. Transfer f.0 f.1.0 f.1.1.0 f.1.1.1) (number_at w16 ▸ number_at w16 ▸ gauged_at ▸ gauged_at)

-- the plan of a way
abbrev pub plan_of_way : ℕ → Reader Plan
plan_of_way way bytes =
    if way == 1 then outside_at Inward bytes else (if way == 2 then outside_at Outward bytes else transfer_at bytes)

-- a plan
unfoldable pub plan_at : Reader Plan
plan_at = made_at (λ planned. planned.1) (then_at (byte_at is_way) plan_of_way)

-- what is named for a second tank, after the byte that says whether anything is
abbrev pub second_after : ℕ → Reader (Option Gauged)
second_after flag bytes = if flag == 0 then Ok (None, bytes) else made_at Some gauged_at bytes

-- what is named for a second tank
unfoldable pub second_at : Reader (Option Gauged)
second_at = made_at (λ flagged. flagged.1) (then_at (byte_at (λ flag. nat_le flag 1)) second_after)

-- an Opening after its tag
unfoldable pub opening_at : Reader Command
opening_at = made_at Opening plan_at

-- a Closing after its tag
unfoldable pub closing_at : Reader Command
closing_at = made_at (λ f. Closing f.0 f.1.0 f.1.1) (number_at w32 ▸ gauged_at ▸ second_at)

-- a Cancel after its tag
unfoldable pub cancel_at : Reader Command
cancel_at = made_at Cancel (number_at w32)

-- a Settle after its tag
unfoldable pub settle_at : Reader Command
settle_at = made_at (λ f. Settle f.0 f.1) (number_at w16 ▸ gauged_at)

-- a Reverse after its tag
unfoldable pub reverse_at : Reader Command
reverse_at = made_at Reverse (number_at w32)

-- a byte is the tag of a command
abbrev pub is_tag : ℕ → Bool
is_tag tag = tag == 1 || tag == 2 || tag == 3 || tag == 4 || tag == 5 || tag == 6 || tag == 7 || tag == 8 || tag == 9

-- the command of a tag
unfoldable pub fields_at : ℕ → Reader Command
fields_at tag bytes =
    if tag == 1 then gauge_at bytes
    else (if tag == 2 then dip_at bytes
    else (if tag == 3 then sample_at bytes
    else (if tag == 4 then opening_at bytes
    else (if tag == 5 then closing_at bytes
    else (if tag == 6 then cancel_at bytes
    else (if tag == 7 then settle_at bytes
    else (if tag == 8 then reverse_at bytes else Ok (Stop, bytes))))))))

-- a command
unfoldable pub command_at : Reader Command
command_at = made_at (λ tagged. tagged.1) (then_at (byte_at is_tag) fields_at)

-- the entry of its five parts
abbrev pub entry_of : ℕ × (ℕ × (ℕ × (ℤ × Command))) → Entry
entry_of f = record { caller = f.0; account = f.1.0; key = f.1.1.0; at = f.1.1.1.0; cmd = f.1.1.1.1 }

-- an entry, and the bytes after it
unfoldable pub entry_at : Reader Entry
entry_at = made_at entry_of (number_at w32 ▸ number_at w32 ▸ number_at w64 ▸ moment_at ▸ command_at)

-- the entry that bytes are, with none after it
unfoldable pub whole_entry : List ℕ → Result Entry ℕ
whole_entry bytes = entry_at bytes >>= λ read. if length read.1 == 0 then Ok read.0 else Err (length read.1)
