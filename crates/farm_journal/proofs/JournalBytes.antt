-- How the bytes of a journal are put together.
use Rattle.std.proofs.Common.{◌≡◌, ◌≢◌, ℕ, ◌+◌, ◌<◌, List, [], ◌∷◌, ◌++◌, length, take, drop, refl, sym, ap, ◌∙◌, subst, arith, append_assoc, length-append}
use Rattle.std.proofs.lemmas.List.{append-nil, drop_at, length-replicate, length-take-le, length_push, take-append-drop, take_at}
use Rattle.std.proofs.lemmas.List.Elements.{All-push}
use Rattle.std.proofs.Math.ListN.{replicate}
use Rattle.std.proofs.Math.Seq.{drop-append-add}
use Rattle.std.specs.Int.{to_be_bytes, w32}
use Rattle.std.specs.Prelude.{All}
use Rattle.farm_disk.specs.Images.{overlaid, written_at}
use Rattle.farm_journal.specs.Layout.{IsClosed, IsJournalOf, IsShort, counted, counting, open_record, open_records, opening, signature}
use Rattle.farm_journal.specs.Standing.{with_open}

-- a length takes 4 bytes
pub length-counted : (bytes : List ℕ) → length (counted bytes) ≡ 4 + length bytes
unfolding counted
length-counted bytes = omega (arith, length-append (to_be_bytes w32 (length bytes)) bytes)

-- an open record takes 5 bytes more than its body
pub length-open_record : (body : List ℕ) → length (open_record body) ≡ 5 + length body
unfolding open_record
length-open_record body = omega (arith, length-counted body)

-- an opening takes 13 bytes more than its header
pub length-opening : (header : List ℕ) → length (opening header) ≡ 13 + length header
unfolding opening signature
length-opening header = omega (arith, length-counted header)

-- open records, and then one more
pub open_records-push : (bodies : List (List ℕ)) (body : List ℕ) → open_records (bodies ++ body ∷ []) ≡ open_records bodies ++ open_record body
open_records-push [] body = append-nil (open_record body)
open_records-push (first ∷ bodies) body =
    ap (λ records. open_record first ++ records) (open_records-push bodies body)
    ∙ sym (append_assoc (open_record first) (open_records bodies) (open_record body))

-- what counts of a journal with one body more is what counted, and an open record
pub counting-push : (header : List ℕ) (bodies : List (List ℕ)) (body : List ℕ) →
    counting header (bodies ++ body ∷ []) ≡ counting header bodies ++ open_record body
unfolding counting
counting-push header bodies body =
    ap (λ records. opening header ++ records) (open_records-push bodies body)
    ∙ sym (append_assoc (opening header) (open_records bodies) (open_record body))

-- without a body just the opening counts
pub counting-empty : (header : List ℕ) → counting header [] ≡ opening header
unfolding counting
counting-empty header = append-nil (opening header)

-- the offset of the gate after one body more
pub length-counting-push : (header : List ℕ) (bodies : List (List ℕ)) (body : List ℕ) →
    length (counting header (bodies ++ body ∷ [])) ≡ length (counting header bodies) + 5 + length body
length-counting-push header bodies body =
    omega (arith, ap length (counting-push header bodies body), length-append (counting header bodies) (open_record body), length-open_record body)

-- a journal's bytes are what counts, a gate that isn't open, and a rest
pub record Parts (header : List ℕ) (bodies : List (List ℕ)) (bytes : List ℕ) : Type 0 where
  pub gate : ℕ
  pub rest : List ℕ
  pub split : bytes ≡ counting header bodies ++ gate ∷ rest
  pub closed : gate ≢ 1

-- what counts, and after it bytes that begin with no open gate, are those parts
closed_parts : (header : List ℕ) (bodies : List (List ℕ)) (bytes back : List ℕ) →
    bytes ≡ counting header bodies ++ back → IsClosed back → Parts header bodies bytes
closed_parts header bodies bytes [] split closed = absurd closed
closed_parts header bodies bytes (gate ∷ rest) split closed = record { gate = gate; rest = rest; split = split; closed = closed }

-- a journal's bytes have those parts
pub parts_of : (header : List ℕ) (bodies : List (List ℕ)) (bytes : List ℕ) → IsJournalOf header bodies bytes → Parts header bodies bytes
parts_of header bodies bytes is =
    let gate = length (counting header bodies) in
    closed_parts header bodies bytes (drop gate bytes)
    (sym (take-append-drop gate bytes) ∙ ap (λ front. front ++ drop gate bytes) is.begins) is.closed

-- such bytes are a journal
pub journal_of : (header : List ℕ) (bodies : List (List ℕ)) (bytes : List ℕ) (gate : ℕ) (rest : List ℕ) →
    bytes ≡ counting header bodies ++ gate ∷ rest → gate ≢ 1 → IsShort header → All IsShort bodies → IsJournalOf header bodies bytes
journal_of header bodies bytes gate rest split closed short_header short_bodies =
    let size = length (counting header bodies) in
    record {
      begins = ap (λ bytes. take size bytes) split ∙ take_at (counting header bodies) (gate ∷ rest) size refl;
      closed = subst IsClosed (sym (ap (λ bytes. drop size bytes) split ∙ drop_at (counting header bodies) (gate ∷ rest) size refl)) closed;
      short_header = short_header;
      short_bodies = short_bodies;
    }

-- bytes that are written where others end stand there over what stood there
pub written_seam : (at : ℕ) (front bytes back : List ℕ) → length front ≡ at → 0 < length bytes →
    written_at at bytes (front ++ back) ≡ front ++ (bytes ++ drop (length bytes) back)
unfolding overlaid
written_seam at front [] back ends some = absurd (omega arith)
written_seam at front (byte ∷ bytes) back ends some =
    let zeros : List ℕ = replicate at 0 in
    let whole : front ++ back ++ zeros ≡ front ++ (back ++ zeros) = append_assoc front back zeros in
    let past : length front + length (byte ∷ bytes) ≡ at + length (byte ∷ bytes) = omega arith in
    let left : take at (front ++ back ++ zeros) ≡ front = ap (λ bytes. take at bytes) whole ∙ take_at front (back ++ zeros) at ends in
    let right : drop (at + length (byte ∷ bytes)) (front ++ back) ≡ drop (length (byte ∷ bytes)) back =
    ap (λ end. drop end (front ++ back)) (sym past) ∙ drop-append-add front back (length (byte ∷ bytes)) in
    ap (λ left. left ++ (byte ∷ bytes) ++ drop (at + length (byte ∷ bytes)) (front ++ back)) left
    ∙ ap (λ right. front ++ (byte ∷ bytes) ++ right) right
    ∙ append_assoc front (byte ∷ bytes) (drop (length (byte ∷ bytes)) back)

-- a gate that is opened stays the one byte that it was
pub with_open_seam : (at : ℕ) (front : List ℕ) (gate : ℕ) (rest : List ℕ) → length front ≡ at →
    with_open at (front ++ gate ∷ rest) ≡ front ++ 1 ∷ rest
with_open_seam at front gate rest ends = written_seam at front (1 ∷ []) (gate ∷ rest) ends (omega arith)

-- a gate that is open stays as it is
pub with_open-with_open : (at : ℕ) (bytes : List ℕ) → with_open at (with_open at bytes) ≡ with_open at bytes
unfolding overlaid
with_open-with_open at bytes =
    let front = take at (bytes ++ replicate at 0) in
    let back = drop (at + 1) bytes in
    let ends : length front ≡ at = length-take-le at (bytes ++ replicate at 0) (omega (arith, length-append bytes (replicate at 0), length-replicate {A = ℕ} at 0)) in
    let is : front ++ (1 ∷ []) ++ back ≡ front ++ 1 ∷ back = append_assoc front (1 ∷ []) back in
    ap (λ bytes. with_open at bytes) is ∙ with_open_seam at front 1 back ends ∙ sym is

-- what a write past the gate makes of a journal's bytes
written_split : (header : List ℕ) (bodies : List (List ℕ)) (bytes seen : List ℕ) (gate : ℕ) (rest : List ℕ) → 0 < length bytes →
    seen ≡ counting header bodies ++ gate ∷ rest →
    written_at (length (counting header bodies) + 1) bytes seen ≡ counting header bodies ++ gate ∷ (bytes ++ drop (length bytes) rest)
written_split header bodies bytes seen gate rest some split =
    let front = counting header bodies in
    let past = length front + 1 in
    let ends : length (front ++ gate ∷ []) ≡ past = length_push front gate in
    ap (λ seen. written_at past bytes seen) (split ∙ sym (append_assoc front (gate ∷ []) rest))
    ∙ written_seam past (front ++ gate ∷ []) bytes rest ends some
    ∙ append_assoc front (gate ∷ []) (bytes ++ drop (length bytes) rest)

-- an open gate, a counted body and a closed gate are a record more and a gate
record_then : (header : List ℕ) (bodies : List (List ℕ)) (body rest : List ℕ) →
    counting header bodies ++ 1 ∷ (counted body ++ 0 ∷ [] ++ rest) ≡ counting header (bodies ++ body ∷ []) ++ 0 ∷ rest
unfolding open_record
record_then header bodies body rest =
    let front = counting header bodies in
    ap (λ back. front ++ 1 ∷ back) (append_assoc (counted body) (0 ∷ []) rest)
    ∙ sym (append_assoc front (open_record body) (0 ∷ rest))
    ∙ ap (λ front. front ++ 0 ∷ rest) (sym (counting-push header bodies body))

-- a write past the gate leaves a journal what it is
pub written_past : (header : List ℕ) (bodies : List (List ℕ)) (bytes seen : List ℕ) → 0 < length bytes →
    IsJournalOf header bodies seen → IsJournalOf header bodies (written_at (length (counting header bodies) + 1) bytes seen)
written_past header bodies bytes seen some is =
    let parts = parts_of header bodies seen is in
    let size = length (counting header bodies) in
    journal_of header bodies (written_at (size + 1) bytes seen) parts.gate (bytes ++ drop (length bytes) parts.rest)
    (written_split header bodies bytes seen parts.gate parts.rest some parts.split) parts.closed is.short_header is.short_bodies

-- and once the gate is opened the journal has the body that was written with a closed gate after it
pub opened_put : (header : List ℕ) (bodies : List (List ℕ)) (body seen : List ℕ) → IsShort body → IsJournalOf header bodies seen →
    IsJournalOf header (bodies ++ body ∷ [])
    (with_open (length (counting header bodies)) (written_at (length (counting header bodies) + 1) (counted body ++ 0 ∷ []) seen))
opened_put header bodies body seen short is =
    let parts = parts_of header bodies seen is in
    let front = counting header bodies in
    let size = length front in
    let record_bytes = counted body ++ 0 ∷ [] in
    let rest = drop (length record_bytes) parts.rest in
    let some : 0 < length record_bytes = omega (arith, length-append (counted body) (0 ∷ [])) in
    let opened : with_open size (written_at (size + 1) record_bytes seen) ≡ front ++ 1 ∷ (record_bytes ++ rest) =
    ap (λ bytes. with_open size bytes) (written_split header bodies record_bytes seen parts.gate parts.rest some parts.split)
    ∙ with_open_seam size front parts.gate (record_bytes ++ rest) refl in
    journal_of header (bodies ++ body ∷ []) _ 0 rest
    (opened ∙ record_then header bodies body rest) (omega arith) is.short_header (All-push IsShort bodies body is.short_bodies short)
