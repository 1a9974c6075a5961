-- The grid of a text and its faults in the words of the rule.
use Rattle.std.proofs.Common.{◌≡◌, ℕ, ◌+◌, ◌&&◌, ◌==◌, Bool, true, false, if◌then◌else◌, List, [], ◌∷◌, ◌++◌, length, All, Option, Some, None, nat_lt, refl, subst, ap, arith}
use Rattle.std.proofs.lemmas.Bool.Decides.{nat_tests}
use Rattle.std.proofs.lemmas.List.Elements.{All-cons, All-nil}
use Rattle.std.specs.Prelude.{IfSome, IsSome, MatchResult, Result, Ok, Err}
use Rattle.farm_base.specs.Steps.{IsRefusedAs}
use Rattle.farm_csv.specs.Records.{have_this_length, have_equal_lengths, records_of}
use Rattle.farm_csv.specs.Rows.{below_header}
use Rattle.farm_vcf.specs.declared.fault.VcfFault.{VcfFault}
use Rattle.farm_vcf.specs.declared.rows.Listed.{Listed}
use Rattle.farm_vcf.specs.Blocks.{IsFaultOfRows, IsGridOf}
use Rattle.farm_vcf.specs.Faults.{FactorFault, Csv, BadField, TooMany, NotGrid, reported}
use Rattle.farm_vcf.specs.Grid.{Grid}
use Rattle.farm_vcf.specs.Records.{IsFaultOfText, IsFirstBadRecord, IsGridOfText, IsUneven, grid_within_limit, grid_of_records, grid_under_header, row_of, rows_below_header, rows_from, vcf_of, with_row}
use Rattle.farm_vcf.specs.Rows.{grid_of_rows}
use Rattle.farm_vcf.proofs.Meanings.{answered_right, reported_right, rows_mean}

-- record m, counted from a number, is the first that is no row
record FoundRecord (number : ℕ) (records : List (List (List ℕ))) (m : ℕ) : Type 0 where
  front : List (List (List ℕ))
  bad : List (List ℕ)
  back : List (List (List ℕ))
  split : records ≡ front ++ (bad ∷ back)
  counted : m ≡ number + length front
  rows_before : All (λ fields. IsSome (row_of fields)) front
  no_row : row_of bad ≡ None

-- records that aren't rows are refused at one of them
record IsRefusedRecord (number : ℕ) (records : List (List (List ℕ))) (fault : FactorFault) : Type 0 where
  m : ℕ
  is : BadField m ≡ fault
  found : FoundRecord number records m

-- a row that is there is some row
some_row : (fields : List (List ℕ)) (row : Option Listed) (listed : Listed) → row_of fields ≡ row → row ≡ Some listed → IsSome (row_of fields)
some_row fields row listed e is = rw (e, is) refl

-- the record at which the rows are refused
refused_record : (number : ℕ) (records : List (List (List ℕ))) (fault : FactorFault) → rows_from number records ≡ Err fault → IsRefusedRecord number records fault
refused_record number [] fault is = cc
refused_record number (fields ∷ records) fault is = by (row_of fields) (rows_from (number + 1) records) refl is (refused_record (number + 1) records fault)
  where
    by : (row : Option Listed) (rows : Result (List Listed) FactorFault) → row_of fields ≡ row → with_row number row rows ≡ Err fault →
        (rows ≡ Err fault → IsRefusedRecord (number + 1) records fault) → IsRefusedRecord number (fields ∷ records) fault
    by None rows e is more = record {
      m = number;
      is = cc;
      found = record {
        front = [];
        bad = fields;
        back = records;
        split = refl;
        counted = omega arith;
        rows_before = All-nil (λ fields. IsSome (row_of fields));
        no_row = e;
      };
    }
    by (Some row) (Err other) e is more =
        let rest = more is in
        record {
          m = rest.m;
          is = rest.is;
          found = record {
            front = fields ∷ rest.found.front;
            bad = rest.found.bad;
            back = rest.found.back;
            split = ap (λ list. fields ∷ list) rest.found.split;
            counted = omega (arith, rest.found.counted);
            rows_before = All-cons (λ fields. IsSome (row_of fields)) fields rest.found.front (some_row fields (Some row) row e refl) rest.found.rows_before;
            no_row = rest.found.no_row;
          };
        }
    by (Some row) (Ok rows) e is more = cc

-- counted from 1, it is the first bad record
first_bad_record : (records : List (List (List ℕ))) (m : ℕ) → FoundRecord 1 records m → IsFirstBadRecord records m
first_bad_record records m found = record {
  front = found.front;
  bad = found.bad;
  back = found.back;
  split = found.split;
  counted = omega (arith, found.counted);
  rows_before = found.rows_before;
  no_row = found.no_row;
}

-- so a text whose rows aren't read is refused there
not_read : (text : List ℕ) (fault : FactorFault) → have_equal_lengths (records_of text) ≡ true → rows_below_header (records_of text) ≡ Err fault → IsFaultOfText text fault
not_read text fault even is =
    let refused = refused_record 1 (below_header (records_of text)) fault is in
    let P : FactorFault → Type 0 = λ other. IsFaultOfText text other in
    subst P refused.is (even, first_bad_record (below_header (records_of text)) refused.m refused.found)

-- a record of another length than this, with those before and after it
record OtherLength (size : ℕ) (records : List (List (List ℕ))) : Type 0 where
  front : List (List (List ℕ))
  other : List (List ℕ)
  back : List (List (List ℕ))
  split : records ≡ front ++ (other ∷ back)
  differs : ¬ (length other ≡ size)

-- where not all records have a length, one has another
other_length : (size : ℕ) (records : List (List (List ℕ))) → have_this_length size records ≡ false → OtherLength size records
other_length size [] uneven = cc
other_length size (fields ∷ records) uneven = by (length fields == size) refl uneven (other_length size records)
  where
    by : (b : Bool) → (length fields == size) ≡ b → (length fields == size && have_this_length size records) ≡ false → (have_this_length size records ≡ false → OtherLength size records) →
        OtherLength size (fields ∷ records)
    by true e is more =
        let rest = more (rw e at is) in
        record {
          front = fields ∷ rest.front;
          other = rest.other;
          back = rest.back;
          split = ap (λ list. fields ∷ list) rest.split;
          differs = rest.differs;
        }
    by false e is more = record {
      front = [];
      other = fields;
      back = records;
      split = refl;
      differs = λ same. grind (arith, nat_tests);
    }

-- records that aren't of one length are uneven
uneven_is : (records : List (List (List ℕ))) → have_equal_lengths records ≡ false → IsUneven records
unfolding have_equal_lengths
uneven_is [] uneven = cc
uneven_is (header ∷ records) uneven =
    let found = other_length (length header) records uneven in
    record {
      header = header;
      front = found.front;
      other = found.other;
      back = found.back;
      split = ap (λ list. header ∷ list) found.split;
      differs = found.differs;
    }

-- the grid of the rows of a text, or its fault
few_mean : (text : List ℕ) (few : Result (List Listed) FactorFault) → have_equal_lengths (records_of text) ≡ true → rows_below_header (records_of text) ≡ few →
    MatchResult (grid_within_limit few) (IsGridOfText text) (IsFaultOfText text)
few_mean text (Err fault) even is = not_read text fault even is
few_mean text (Ok rows) even is = by (nat_lt 100000 (length rows)) (grid_of_rows rows) refl (rows_mean rows)
  where
    by : (many : Bool) (grid : Result Grid FactorFault) → nat_lt 100000 (length rows) ≡ many → MatchResult grid (IsGridOf rows) (IsFaultOfRows rows) →
        MatchResult (if many then Err TooMany else grid) (IsGridOfText text) (IsFaultOfText text)
    by true grid e mean = record { rows = rows; read = record { even = even; read = is }; many = grind (arith, nat_tests) }
    by false (Ok grid) e mean = record { rows = rows; read = record { even = even; read = is }; few = grind (arith, nat_tests); grid_of = mean }
    by false (Err (NotGrid number)) e mean = record { rows = rows; read = record { even = even; read = is }; few = grind (arith, nat_tests); breaks = mean }
    by false (Err Csv) e mean = absurd mean
    by false (Err (BadField number)) e mean = absurd mean
    by false (Err TooMany) e mean = absurd mean

-- the grid of a text, or its fault
text_means : (text : List ℕ) → MatchResult (vcf_of text) (IsGridOfText text) (IsFaultOfText text)
unfolding grid_of_records grid_under_header
text_means text = by (have_equal_lengths (records_of text)) refl (λ even. few_mean text (rows_below_header (records_of text)) even refl)
  where
    by : (even : Bool) → have_equal_lengths (records_of text) ≡ even → (have_equal_lengths (records_of text) ≡ true → MatchResult (grid_within_limit (rows_below_header (records_of text))) (IsGridOfText text) (IsFaultOfText text)) →
        MatchResult (if even then grid_within_limit (rows_below_header (records_of text)) else Err Csv) (IsGridOfText text) (IsFaultOfText text)
    by true e mean = mean e
    by false e mean = uneven_is (records_of text) e

-- what a call answers for a text is right
pub answer_of_text : (text : List ℕ) (answer : Result Grid VcfFault) → MatchResult answer (λ grid. vcf_of text ≡ Ok grid) (λ fault. IsRefusedAs (reported fault) (vcf_of text)) →
    MatchResult answer (IsGridOfText text) (λ fault. IfSome (reported fault) (IsFaultOfText text))
answer_of_text text (Ok grid) is = answered_right (IsGridOfText text) (IsFaultOfText text) (vcf_of text) grid (text_means text) is
answer_of_text text (Err fault) is = reported_right (IsGridOfText text) (IsFaultOfText text) (vcf_of text) (reported fault) (text_means text) is
