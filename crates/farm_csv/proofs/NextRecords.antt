-- A record takes a byte at least, so the records of a text are as many as its bytes at most.
use Rattle.std.proofs.Common.{◌≡◌, ℕ, zero, suc, ◌+◌, ◌-◌, ◌≤◌, ◌==◌, Bool, true, false, if◌then◌else◌, List, [], ◌∷◌, ◌++◌, length, Some, None, refl, sym, ◌∙◌, subst, ap, add-one, arith}
use Rattle.csv.specs.Machine.{Read, after_end, ends_at_end, ends_with, field_after, fields_after, in_field, is_end, next_record, start_field, start_record, step}
use Rattle.csv.specs.Reading.{default_config, is_bom, records_from, records_next, strip_bom}
use Rattle.farm_csv.specs.Records.{records_of}
use Rattle.csv.specs.declared.parser.Action.{Action}
use Rattle.csv.specs.declared.parser.Action.TheVariants as act
use Rattle.csv.specs.declared.parser.State.{State}
use Rattle.csv.specs.declared.parser.State.TheVariants as st
use Rattle.csv.specs.declared.parser.Terminator.TheVariants as term
use Rattle.std.specs.Prelude.{Option}

-- where a step ends a record, the end of the text ends no other
abbrev Between : State × Action → Type 0
Between next = is_end next.1 ≡ true → ends_at_end next.0 ≡ false

-- so of a choice between two steps, where it is so of each
between_either : (b : Bool) (one other : State × Action) → Between one → Between other → Between (if b then one else other)
between_either true one other first second = first
between_either false one other first second = second

-- after the end of a record the end of the text ends no other
after_end_between : (b : Bool) → ends_at_end (if b then st.AfterCr else st.StartRecord) ≡ false
after_end_between true = refl
after_end_between false = refl

-- so of the steps in a field
in_field_between : (c : ℕ) → Between (in_field default_config c)
in_field_between c = between_either (c == 44) (st.StartField, act.EndField) _ (λ e. cc)
    (between_either (ends_with term.CRLF c) (after_end term.CRLF c, act.EndRecord) (st.InField, act.Copy) (λ e. after_end_between (c == 13)) (λ e. cc))

-- so of the steps at the start of a field
start_field_between : (c : ℕ) → Between (start_field default_config c)
start_field_between c = between_either (c == 34) (st.InQuoted, act.Skip) (in_field default_config c) (λ e. cc) (in_field_between c)

-- so of the steps at the start of a record
start_record_between : (c : ℕ) → Between (start_record default_config c)
start_record_between c = between_either (ends_with term.CRLF c) (st.StartRecord, act.Skip) (start_field default_config c) (λ e. cc) (start_field_between c)

-- so of every step
step_between : (s : State) (c : ℕ) → Between (step default_config s c)
step_between st.StartRecord c = start_record_between c
step_between st.StartField c = start_field_between c
step_between st.InField c = in_field_between c
step_between st.InQuoted c = between_either (c == 34) (st.AfterQuote, act.Skip) (st.InQuoted, act.Copy) (λ e. cc) (λ e. cc)
step_between st.InEscape c = λ e. cc
step_between st.AfterQuote c = between_either (c == 34) (st.InQuoted, act.Copy) (in_field default_config c) (λ e. cc) (in_field_between c)
step_between st.InComment c = between_either (c == 10) (st.StartRecord, act.Skip) (st.InComment, act.Skip) (λ e. cc) (λ e. cc)
step_between st.AfterCr c = between_either (c == 10) (st.StartRecord, act.Skip) (start_record default_config c) (λ e. cc) (start_record_between c)

-- a record takes a byte at least, or the text has none
pub next_shorter : (s : State) (fields : List (List ℕ)) (field xs : List ℕ) (p : Read) → next_record default_config s fields field xs ≡ Some p → (ends_at_end p.1 ≡ false) × (length p.2 ≤ length xs - 1)
unfolding next_record
next_shorter s fields field [] p e = by (ends_at_end s) e
  where
    by : (b : Bool) → (if b then Some (fields ++ (field ∷ []), st.StartRecord, []) else None) ≡ Some p → (ends_at_end p.1 ≡ false) × (length p.2 ≤ length {A = ℕ} [] - 1)
    by true e =
        let last : Read = (fields ++ (field ∷ []), st.StartRecord, []) in
        let same : last ≡ p = cc in
        let P : Read → Type 0 = λ q. (ends_at_end q.1 ≡ false) × (length q.2 ≤ 0 - 1) in
        subst P same (refl, omega arith)
    by false e = cc
next_shorter s fields field (c ∷ rest) p e = by (is_end (step default_config s c).1) refl e (next_shorter (step default_config s c).0 _ _ rest p)
  where
    by : (b : Bool) → is_end (step default_config s c).1 ≡ b →
        (if is_end (step default_config s c).1 then Some (fields_after (step default_config s c).1 fields field, (step default_config s c).0, rest)
        else next_record default_config (step default_config s c).0 (fields_after (step default_config s c).1 fields field) (field_after (step default_config s c).1 c field) rest) ≡ Some p →
        (next_record default_config (step default_config s c).0 (fields_after (step default_config s c).1 fields field) (field_after (step default_config s c).1 c field) rest ≡ Some p → (ends_at_end p.1 ≡ false) × (length p.2 ≤ length rest - 1)) →
        (ends_at_end p.1 ≡ false) × (length p.2 ≤ length (c ∷ rest) - 1)
    by true is e more =
        let last : Read = (fields_after (step default_config s c).1 fields field, (step default_config s c).0, rest) in
        let found : Some last ≡ Some p = rw is at e in
        let same : last ≡ p = cc in
        let P : Read → Type 0 = λ q. (ends_at_end q.1 ≡ false) × (length q.2 ≤ length (c ∷ rest) - 1) in
        subst P same (step_between s c is, omega arith)
    by false is e more = let m = more (rw is at e) in (m.0, omega (arith, m.1))

-- no record is left at the end of a text, between two records
pub none_left : (s : State) (p : Read) → ends_at_end s ≡ false → next_record default_config s [] [] [] ≡ Some p → ⊥
unfolding next_record
none_left s p calm e = let none : None ≡ Some p = (rw calm at e) in cc

-- no record is left at the end of a text, between two records
pub none_at_end : (s : State) → ends_at_end s ≡ false → next_record default_config s [] [] [] ≡ None
unfolding next_record
none_at_end s calm = rw calm refl

-- from a state that ends no record, an empty text has no records
none_from : (n : ℕ) (s : State) → ends_at_end s ≡ false → records_from default_config n s [] ≡ []
unfolding records_from
none_from zero s calm = refl
none_from (suc n) s calm = rw (none_at_end s calm) refl

-- the records of a text are the same, whatever number of them is asked for beyond its bytes
pub enough : (n m : ℕ) (s : State) (xs : List ℕ) → length xs ≤ n → length xs ≤ m → ends_at_end s ≡ false → records_from default_config n s xs ≡ records_from default_config m s xs
unfolding records_from
enough n m s [] within room calm = rw (none_from n s calm, none_from m s calm) refl
enough zero m s (c ∷ xs) within room calm = absurd (omega arith)
enough (suc n) zero s (c ∷ xs) within room calm = absurd (omega arith)
enough (suc n) (suc m) s (c ∷ xs) within room calm = by (next_record default_config s [] [] (c ∷ xs)) refl (λ p. enough n m p.1 p.2)
  where
    by : (o : Option Read) → next_record default_config s [] [] (c ∷ xs) ≡ o →
        ((p : Read) → length p.2 ≤ n → length p.2 ≤ m → ends_at_end p.1 ≡ false → records_from default_config n p.1 p.2 ≡ records_from default_config m p.1 p.2) →
        records_next (records_from default_config n) o ≡ records_next (records_from default_config m) o
    by None e more = refl
    by (Some p) e more =
        let next = next_shorter s [] [] (c ∷ xs) p e in
        ap (λ rest. p.0 ∷ rest) (more p (omega (arith, next.1)) (omega (arith, next.1)) next.0)

-- the first record of a text, and those after it
pub first_of : (s : State) (xs : List ℕ) (p : Read) → ends_at_end s ≡ false → next_record default_config s [] [] xs ≡ Some p →
    (records_from default_config (length xs + 1) s xs ≡ p.0 ∷ records_from default_config (length p.2 + 1) p.1 p.2) × (ends_at_end p.1 ≡ false)
unfolding records_from
first_of s [] p calm e = absurd (none_left s p calm e)
first_of s (c ∷ xs) p calm e =
    let next = next_shorter s [] [] (c ∷ xs) p e in
    (rw (add-one (length (c ∷ xs)), e) (ap (λ rest. p.0 ∷ rest) (enough (length (c ∷ xs)) (length p.2 + 1) p.1 p.2 (omega (arith, next.1)) (omega arith) next.0)), next.0)

-- a text with no record has none
pub none_of : (s : State) (xs : List ℕ) → next_record default_config s [] [] xs ≡ None → records_from default_config (length xs + 1) s xs ≡ []
unfolding records_from
none_of s xs none = rw (add-one (length xs), none) refl

-- records are as many at most as are asked for
pub at_most : (n : ℕ) (s : State) (xs : List ℕ) → length (records_from default_config n s xs) ≤ n
unfolding records_from
at_most zero s xs = omega arith
at_most (suc n) s xs = by (next_record default_config s [] [] xs) (λ p. at_most n p.1 p.2)
  where
    by : (o : Option Read) → ((p : Read) → length (records_from default_config n p.1 p.2) ≤ n) → length (records_next (records_from default_config n) o) ≤ suc n
    by None more = omega arith
    by (Some p) more = omega (arith, more p)

-- a text without its byte order mark is no longer
unmarked : (text : List ℕ) → length (strip_bom text) ≤ length text
unfolding strip_bom
unmarked [] = omega arith
unmarked (a ∷ []) = omega arith
unmarked (a ∷ b ∷ []) = omega arith
unmarked (a ∷ b ∷ c ∷ rest) = by (is_bom a b c)
  where
    by : (b2 : Bool) → length (if b2 then rest else a ∷ b ∷ c ∷ rest) ≤ length (a ∷ b ∷ c ∷ rest)
    by true = omega arith
    by false = omega arith

-- so the records below the first are no more than the bytes of a text
pub below_within : (text : List ℕ) (first : List (List ℕ)) (records left : List (List (List ℕ))) → left ≡ records_of text → left ≡ first ∷ records → length records ≤ length text
below_within text first records left is split =
    let all = at_most (length (strip_bom text) + 1) st.StartRecord (strip_bom text) in
    let same : length (records_of text) ≡ length (first ∷ records) = ap length (sym is ∙ split) in
    omega (arith, all, same, unmarked text)
