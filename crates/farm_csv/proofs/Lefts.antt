-- What a read of the next record leaves of a text.
use Rattle.std.proofs.Common.{◌≡◌, ◌≢◌, ℕ, Bor, true, false, List, [], ◌∷◌, length, Option, Some, None, refl, sym, ap, ◌∙◌, inl, eq-eqb, ne_eqb}
use Rattle.std.specs.Prelude.{IfSome}
use Rattle.csv.specs.Machine.{Read, ends_at_end, next_record}
use Rattle.csv.specs.Reading.{ExplainsRead, NextIs, Reached, ReadRecord, ReadsNext, default_config, is_flexible, took_first}
use Rattle.csv.specs.declared.error.ErrorKind.{ErrorKind}
use Rattle.csv.specs.declared.error.ErrorKind.TheVariants as kind
use Rattle.csv.specs.declared.parser.State.{State}
use Rattle.csv.specs.declared.reader.Reader.{Reader}
use Rattle.csv.proofs.ReadFacts.{rows-end, rows-more}
use Rattle.farm_csv.specs.Reader.{IsAtRecord, bytes_left, fault_of, have_length, is_even_left, left_from, left_of}
use Rattle.farm_csv.specs.Records.{have_equal_lengths}
use Rattle.farm_csv.specs.Rows.{IsFaultOfLengths}
use Rattle.farm_csv.proofs.NextRecords.{first_of, none_of}

-- a record was taken, and a reader has those after it left
pub record Taken (old new : Reader (Bor (List ℕ))) (fields : List (List ℕ)) : Type 0 where
  pub at_record : IsAtRecord new
  pub record_is : left_of old ≡ fields ∷ left_of new
  pub even : is_even_left old ≡ is_even_left new

-- the record that was taken, and those after it
taken_from : (s t : State) (before after : Option (List ℕ)) (y z : List ℕ) (p : Read) (f : List (List ℕ)) → before ≡ Some y → after ≡ Some z → ends_at_end s ≡ false → next_record default_config s [] [] y ≡ Some p →
    f ≡ p.0 → p.1 ≡ t → p.2 ≡ z → (left_from s before ≡ f ∷ left_from t after) × (ends_at_end t ≡ false)
taken_from s t before after y z p f unread more calm e is state rest =
    let first = first_of s y p calm e in
    rw (unread, more, is, ← state, ← rest) (first.0, first.1)

-- a record of the expected length changes nothing of whether all are of one length
even_on : (old new : Option ℕ) (f : List (List ℕ)) (more : List (List (List ℕ))) → IfSome old (λ e. new ≡ Some e) → new ≡ Some (length f) → have_length old (f ∷ more) ≡ have_length new more
unfolding have_equal_lengths
even_on None new f more kept is = rw is refl
even_on (Some size) new f more kept is =
    let same : length f ≡ size = cc in
    rw (kept, eq-eqb (length f) size same) refl

-- what a read that found a record did
pub taken : (old new : Reader (Bor (List ℕ))) (f : List (List ℕ)) → IsAtRecord old → is_flexible new ≡ is_flexible old → took_first new ≡ true → ReadRecord (λ text. Some text.now) old new true f → Taken old new f
unfolding Reached
taken old new f at_record flexible first read =
    let more = rows-more (λ (text : Bor (List ℕ)). Some text.now) old new f default_config old.state at_record.bytes at_record.bytes [] at_record.rules at_record.unread (refl, refl) read in
    let left = taken_from old.state new.state (bytes_left old) (bytes_left new) at_record.bytes more.0 more.2.0 f at_record.unread more.1 at_record.between more.2.1 more.2.2 more.2.3.0 more.2.3.1 in
    let lengths = read.5 refl at_record.one_length in
    record {
      at_record = record {
        whole_fields = read.3 ∙ at_record.whole_fields;
        ready = inl first;
        rules = read.2 ∙ at_record.rules;
        one_length = flexible ∙ at_record.one_length;
        between = left.1;
        bytes = more.0;
        unread = more.1;
      };
      record_is = left.0;
      even = rw left.0 (even_on old.expected new.expected f (left_of new) lengths.0 lengths.1);
    }

-- no records are of one length
even_none : (due : Option ℕ) → have_length due [] ≡ true
unfolding have_equal_lengths
even_none None = refl
even_none (Some size) = refl

-- where no record follows, none is left, and none differs in length
none_left_from : (s : State) (before : Option (List ℕ)) (y : List ℕ) (due : Option ℕ) → before ≡ Some y → next_record default_config s [] [] y ≡ None → (left_from s before ≡ []) × (have_length due (left_from s before) ≡ true)
none_left_from s before y due unread none =
    let all = none_of s y none in
    rw (unread, all) (refl, even_none due)

-- a read that found no record: none was left
pub none_taken : (old new : Reader (Bor (List ℕ))) (f : List (List ℕ)) → IsAtRecord old → ReadRecord (λ text. Some text.now) old new false f → (left_of old ≡ []) × (is_even_left old ≡ true)
none_taken old new f at_record read =
    none_left_from old.state (bytes_left old) at_record.bytes old.expected at_record.unread
    (rows-end (λ (text : Bor (List ℕ)). Some text.now) old new f default_config at_record.bytes at_record.rules at_record.unread read)

-- a read that found a record found the next one of the text
next_of : (s : State) (y : List ℕ) (after : Option (List ℕ)) (fields : List (List ℕ)) (s2 : State) → ReadsNext default_config s (Some y) after true fields s2 →
    (p : Read) × (next_record default_config s [] [] y ≡ Some p) × (fields ≡ p.0)
next_of s y None fields s2 h = absurd h
next_of s y (Some ys) fields s2 h = by (next_record default_config s [] [] y) refl h
  where
    by : (o : Option Read) → next_record default_config s [] [] y ≡ o → NextIs o true fields s2 ys → (p : Read) × (next_record default_config s [] [] y ≡ Some p) × (fields ≡ p.0)
    by None e h = cc
    by (Some p) e h = (p, e, h.1)

-- records of which the first hasn't the expected length
uneven_from : (s : State) (before : Option (List ℕ)) (y : List ℕ) (p : Read) (due : Option ℕ) (size len : ℕ) (f : List (List ℕ)) → before ≡ Some y → ends_at_end s ≡ false → next_record default_config s [] [] y ≡ Some p → f ≡ p.0 →
    due ≡ Some size → size ≢ len → length f ≡ len → have_length due (left_from s before) ≡ false
uneven_from s before y p due size len f unread calm e is expects other counted =
    let first = first_of s y p calm e in
    let differs : length p.0 ≢ size = λ same. other (sym same ∙ ap length (sym is) ∙ counted) in
    rw (unread, first.0, expects, ne_eqb (length p.0) size differs) refl

-- unequal lengths are reported only of records that have them
pub fault_is : (old new : Reader (Bor (List ℕ))) (why : ErrorKind) → IsAtRecord old → ExplainsRead (λ text. Some text.now) old new false why → IsFaultOfLengths (is_even_left old) (fault_of why)
fault_is old new (kind.UnequalLengths place expected len) at_record why =
    let next = next_of old.state at_record.bytes _ why.3 new.state (rw (at_record.rules, at_record.unread) at why.4) in
    uneven_from old.state (bytes_left old) at_record.bytes next.0 old.expected expected len why.3 at_record.unread at_record.between next.1 next.2 why.1 why.2 why.5
fault_is old new (kind.Io e) at_record why = tt
fault_is old new (kind.Utf8 place err) at_record why = tt
fault_is old new kind.OutOfMemory at_record why = tt
fault_is old new (kind.Serialize what) at_record why = tt
fault_is old new (kind.Deserialize place err) at_record why = tt
