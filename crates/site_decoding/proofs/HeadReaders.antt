-- The readers of names, of rounding tables and of the head of a site.
use Rattle.std.proofs.Common.{◌≡◌, ℕ, zero, suc, ◌-◌, ◌^◌, ◌<◌, ◌≤◌, true, List, [], ◌∷◌, length, get_or, Option, Some, None, ◌+◌, refl, sym, subst, arith}
use Rattle.std.specs.Prelude.{is_none, All, IsTrue}
use Rattle.std.specs.List.{flat_map, list_all}
use Rattle.std.proofs.lemmas.Bool.Decides.{nat_tests}
use Rattle.std.proofs.lemmas.List.{get_or_default}
use Rattle.farm_base.proofs.BoolTests.{and_parts, leb-true}
use Rattle.farm_fixed.specs.Range.{is_between}
use Rattle.farm_rounding.specs.declared.mode.Mode.{Mode}
use Rattle.farm_rounding.specs.declared.mode.Mode.TheVariants.{HalfAway, TowardZero, HalfEven}
use Rattle.farm_rounding.specs.Multiple.{is_step}
use Rattle.farm_rounding.specs.Table.{IsTable, Row, first_bad_row, row_at as row_of_table}
use Rattle.farm_rounding.proofs.Rows.{first_bad_of, table_from_rows}
use Rattle.farm_site.specs.declared.formats.Format.{Format}
use Rattle.farm_site.specs.declared.formats.Format.TheVariants.{One, Two}
use Rattle.farm_site.specs.Formats.{format_number, format_of, is_half_even}
use Rattle.farm_site.specs.Names.{is_name}
use Rattle.site_decoding.specs.Decoding.{format_at, head_at, mode_at, mode_of, most_mode_byte, name_at, row_at, rounding_at}
use Rattle.site_encoding.specs.Encoding.{mode_byte, row_bytes, text_bytes}
use Rattle.site_decoding.specs.Parts.{IsHead, IsRowIn, IsSaidIn, IsTableIn, head_bytes}
use Rattle.site_decoding.specs.Readers.{IsReader}
use Rattle.byte_readers.proofs.ListReaders.{all_as, counted_reader}
use Rattle.site_decoding.proofs.NumberReaders.{byte_reader, byte_up_to_reader, text_reader}
use Rattle.site_decoding.proofs.Readers.{made_reader, reader_as, tested_reader, then_reader}

-- a name has at most 32 bytes
pub name_length : (name : List ℕ) → is_name name ≡ true → length name ≤ 32
name_length name test =
    let counted = and_parts (is_between 1 32 (length name)) (list_all (is_between 32 126) name) test in
    leb-true (length name) 32 (and_parts _ _ counted.0).1

-- names
pub name_reader : IsReader (λ name. IsTrue (is_name name)) text_bytes name_at
unfolding name_at
name_reader = reader_as (tested_reader is_name text_reader) (λ name h. h.1) (λ name h. (omega (arith, name_length name h), h))

-- The rounding table.

-- the byte of a mode of a format isn't above its last
mode_within : (format : Format) (mode : Mode) → IsSaidIn format (is_half_even mode) → mode_byte mode ≤ most_mode_byte format
mode_within One HalfAway h = omega arith
mode_within One TowardZero h = omega arith
mode_within One HalfEven h = absurd (cc h)
mode_within Two HalfAway h = omega arith
mode_within Two TowardZero h = omega arith
mode_within Two HalfEven h = omega arith

-- a byte that isn't above the last of a format is a mode of it
mode_there : (format : Format) (byte : ℕ) → byte ≤ most_mode_byte format → IsSaidIn format (is_half_even (mode_of byte))
mode_there One zero h = refl
mode_there One (suc zero) h = refl
mode_there One (suc (suc byte)) h = absurd (omega (arith, h))
mode_there Two byte h = tt

-- the byte of the mode of a byte is the byte
mode_same : (byte : ℕ) → byte ≤ 2 → mode_byte (mode_of byte) ∷ [] ≡ byte ∷ []
mode_same zero h = refl
mode_same (suc zero) h = refl
mode_same (suc (suc zero)) h = refl
mode_same (suc (suc (suc byte))) h = absurd (omega (arith, h))

-- and a mode is that of its byte
mode_back : (mode : Mode) → mode_of (mode_byte mode) ≡ mode
mode_back HalfAway = refl
mode_back TowardZero = refl
mode_back HalfEven = refl

-- the last byte of a mode is 1 or 2
few_modes : (format : Format) → most_mode_byte format ≤ 2
few_modes One = omega arith
few_modes Two = omega arith

-- modes
mode_reader : (format : Format) → IsReader (λ mode. IsSaidIn format (is_half_even mode)) (λ mode. mode_byte mode ∷ []) (mode_at format)
unfolding mode_at
mode_reader format =
    let few = few_modes format in
    made_reader (byte_up_to_reader (most_mode_byte format) (omega (arith, few))) (record {
      to = mode_there format;
      same = λ byte h. mode_same byte (omega (arith, h, few));
      of = mode_byte;
      back = λ mode h. mode_back mode;
      of_fits = mode_within format;
    })

-- a row has a step of one byte
abbrev IsByteRow : Row → Type 0
IsByteRow row = row.0 < 2 ^ 8

-- and a mode of its format
abbrev IsByteRowIn : Format → Row → Type 0
IsByteRowIn format row = IsByteRow row × IsRowIn format row

-- rows of a rounding table
row_reader : (format : Format) → IsReader (IsByteRowIn format) row_bytes (row_at format)
unfolding row_at
row_reader format = then_reader byte_reader (λ step h. mode_reader format)

-- no row is bad
none_bad : (bad : Option ℕ) → is_none bad ≡ true → bad ≡ None
none_bad None test = refl
none_bad (Some n) test = cc

-- rows without a bad one test so
rows_good : (rows : List Row) → IsTable rows → is_none (first_bad_row 1 rows) ≡ true
rows_good rows table = by (first_bad_row 1 rows) refl
  where
    by : (bad : Option ℕ) → first_bad_row 1 rows ≡ bad → is_none (first_bad_row 1 rows) ≡ true
    by None e = rw e refl
    by (Some n) e =
        let first = first_bad_of rows n e in
        let P : ℕ → Type 0 = λ number. (row_of_table rows number).0 ≡ 1 in
        absurd (first.bad (record { step = table.steps n; ties = λ here. subst P (sym here) table.ties }))

-- a step is of one byte
step_small : (step : ℕ) → is_step step ≡ true → step < 2 ^ 8
step_small step test = grind (arith, nat_tests)

-- the rows of a table have steps of one byte
steps_small : (rows : List Row) → IsTable rows → All IsByteRow rows
steps_small rows table k row within =
    let P : Row → Type 0 = λ row. row.0 < 2 ^ 8 in
    let index : k + 1 - 1 ≡ k = omega arith in
    let step : is_step (get_or rows k (1, HalfAway)).0 ≡ true = subst (λ i. is_step (get_or rows i (1, HalfAway)).0 ≡ true) index (table.steps (k + 1)) in
    subst P (get_or_default rows k (1, HalfAway) row within) (step_small (get_or rows k (1, HalfAway)).0 step)

-- rounding tables
rounding_reader : (format : Format) → IsReader (IsTableIn format) (flat_map row_bytes) (rounding_at format)
unfolding rounding_at
rounding_reader format =
    reader_as (tested_reader (λ rows. is_none (first_bad_row 1 rows)) (counted_reader (row_reader format) 12))
    (λ rows h. (table_from_rows rows h.0.0 (none_bad (first_bad_row 1 rows) h.1), all_as (IsByteRowIn format) (IsRowIn format) rows (λ row i. i.1) h.0.1))
    (λ rows h. ((h.0.twelve, λ k d within. (steps_small rows h.0 k d within, h.1 k d within)), rows_good rows h.0))

-- The head.

-- a number from 1 to 2 is that of its format
format_same : (number : ℕ) → is_between 1 2 number ≡ true → format_number (format_of number) ∷ [] ≡ number ∷ []
format_same zero h = cc
format_same (suc zero) h = refl
format_same (suc (suc zero)) h = refl
format_same (suc (suc (suc number))) h = absurd (omega (arith, leb-true (suc (suc (suc number))) 2 (and_parts _ _ h).1))

-- and a format is that of its number
format_back : (format : Format) → format_of (format_number format) ≡ format
format_back One = refl
format_back Two = refl

-- the number of a format is from 1 to 2
format_within : (format : Format) → (format_number format < 2 ^ 8) × (is_between 1 2 (format_number format) ≡ true)
format_within One = (omega arith, refl)
format_within Two = (omega arith, refl)

-- formats
format_reader : IsReader (λ format. Unit {0}) (λ format. format_number format ∷ []) format_at
unfolding format_at
format_reader =
    made_reader (tested_reader (is_between 1 2) byte_reader) (record {
      to = λ number h. tt;
      same = λ number h. format_same number h.1;
      of = format_number;
      back = λ format h. format_back format;
      of_fits = λ format h. format_within format;
    })

-- heads of sites
pub head_reader : IsReader IsHead head_bytes head_at
unfolding head_at
head_reader =
    reader_as (then_reader format_reader (λ format h. then_reader name_reader (λ name i. rounding_reader format))) (λ head h. h.1) (λ head h. (tt, h))
