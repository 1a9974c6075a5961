-- The records that a reader over a text has left.
use Rattle.std.specs.Prelude.{◌≡◌, ℕ, ◌+◌, Bool, false, List, [], length, Option, Some, None}
use Rattle.std.specs.Borrow.{Bor}
use Rattle.csv.specs.Machine.{ends_at_end}
use Rattle.csv.specs.Reading.{Ready, default_config, expected_len, is_flexible, reader_config, reader_state, reader_trim, records_from, source_of}
use Rattle.csv.specs.declared.error.ErrorKind.{ErrorKind}
use Rattle.csv.specs.declared.error.ErrorKind.TheVariants as kind
use Rattle.csv.specs.declared.parser.State.{State}
use Rattle.csv.specs.declared.reader.Reader.{Reader}
use Rattle.csv.specs.declared.reader.Trim.TheVariants as trim
use Rattle.farm_csv.specs.Records.{have_this_length, have_equal_lengths}
use Rattle.farm_csv.specs.declared.fault.CsvFault.{CsvFault}
use Rattle.farm_csv.specs.declared.fault.CsvFault.TheVariants.{Uneven, NoMemory}

-- the bytes that a reader over a text has left, where it has not failed
abbrev pub bytes_left : Reader (Bor (List ℕ)) → Option (List ℕ)
bytes_left reader = source_of (λ text. Some text.now) reader

-- the records of the bytes that are left, after a state of the reader
abbrev pub left_from : State → Option (List ℕ) → List (List (List ℕ))
left_from state None = []
left_from state (Some bytes) = records_from default_config (length bytes + 1) state bytes

-- the records that a reader has left
abbrev pub left_of : Reader (Bor (List ℕ)) → List (List (List ℕ))
left_of reader = left_from (reader_state reader) (bytes_left reader)

-- records have the expected length, or that of the first if no length is expected
abbrev pub have_length : Option ℕ → List (List (List ℕ)) → Bool
have_length None records = have_equal_lengths records
have_length (Some size) records = have_this_length size records

-- the records that a reader has left have the length of those before
abbrev pub is_even_left : Reader (Bor (List ℕ)) → Bool
is_even_left reader = have_length (expected_len reader) (left_of reader)

-- A reader that reads by the defaults stands at the start of a record, and reads each whole: it gives the next record, a header like the others,
-- refuses another length, and has not failed.
pub record IsAtRecord (reader : Reader (Bor (List ℕ))) : Type 0 where
  pub whole_fields : reader_trim reader ≡ trim.None
  pub ready : Ready reader
  pub rules : reader_config reader ≡ default_config
  pub one_length : is_flexible reader ≡ false
  pub between : ends_at_end (reader_state reader) ≡ false
  pub bytes : List ℕ
  pub unread : bytes_left reader ≡ Some bytes

-- what an error of the reader is reported as
abbrev pub fault_of : ErrorKind → CsvFault
fault_of (kind.UnequalLengths place expected len) = Uneven
fault_of (kind.Io e) = NoMemory
fault_of (kind.Utf8 place err) = NoMemory
fault_of kind.OutOfMemory = NoMemory
fault_of (kind.Serialize text) = NoMemory
fault_of (kind.Deserialize place err) = NoMemory
