-- What a read of a file says of its content.
use Rattle.std.proofs.Common.{◌≡◌, ℕ, option_map, ◌+◌, ◌<◌, ◌≤◌, List, length, take, Option, Some, None, Ok, Err, refl, sym, ap, ◌∙◌, arith}
use Rattle.std.proofs.lemmas.List.{take_all, length-take}
use Rattle.farm_base.proofs.BoolTests.{le-ltb, lt-ltb}
use Rattle.site_keys.specs.declared.codes.TheConstants.{TOO_LONG}
use Rattle.site_keys.specs.declared.files.TheConstants.{MOST_FILE_BYTES}
use Rattle.site_keys.specs.Faults.{Faulty, fault_at}
use Rattle.site_keys.specs.Files.{within_limit}

-- a file of which no more than the limit was read is whole
pub whole_file : (item : ℕ) (name : List ℕ) (file : Option (List ℕ)) (bytes : List ℕ) → option_map (take (MOST_FILE_BYTES + 1)) file ≡ Some bytes →
    length bytes ≤ MOST_FILE_BYTES → within_limit item name file ≡ Ok bytes
whole_file item name None bytes read short = cc read
whole_file item name (Some all) bytes read short =
    let front : take (MOST_FILE_BYTES + 1) all ≡ bytes = cc read in
    let count : length (take (MOST_FILE_BYTES + 1) all) ≡ length bytes = ap length front in
    let few : length all ≤ MOST_FILE_BYTES = omega (arith, length-take (MOST_FILE_BYTES + 1) all, count) in
    rw (le-ltb MOST_FILE_BYTES (length all) few) (ap Ok (sym (take_all (MOST_FILE_BYTES + 1) all (omega arith)) ∙ front))

-- and one of which more was read is too long
pub long_file : (item : ℕ) (name : List ℕ) (file : Option (List ℕ)) (bytes : List ℕ) → option_map (take (MOST_FILE_BYTES + 1)) file ≡ Some bytes →
    MOST_FILE_BYTES < length bytes → within_limit item name file ≡ Err (Faulty (fault_at TOO_LONG item 0))
long_file item name None bytes read long = cc read
long_file item name (Some all) bytes read long =
    let front : take (MOST_FILE_BYTES + 1) all ≡ bytes = cc read in
    let count : length (take (MOST_FILE_BYTES + 1) all) ≡ length bytes = ap length front in
    rw (lt-ltb MOST_FILE_BYTES (length all) (omega (arith, length-take (MOST_FILE_BYTES + 1) all, count))) refl
