-- The bytes of what was taken, record by record.
use Rattle.std.proofs.Common.{◌≡◌, ◌≢◌, ◌⊎◌, inl, inr, ⊎_elim, ℕ, suc, ◌+◌, ◌*◌, ◌^◌, ◌<◌, ◌≤◌, List, [], ◌∷◌, ◌++◌, length, take, drop, refl, sym, ap, ◌∙◌, subst, arith, append_assoc, length-append, length-take, length-drop}
use Rattle.std.specs.Int.{from_be_bytes, to_be_bytes, w32}
use Rattle.std.specs.List.{All}
use Rattle.std.specs.Bool.{IsTrue}
use Rattle.std.proofs.lemmas.List.{append-nil, drop-drop, drop-take, same_from_push}
use Rattle.std.proofs.lemmas.Nat.{from_be_bytes-to_be_bytes_4}
use Rattle.std.proofs.Math.Seq.{take-add}
use Rattle.farm_journal.specs.Limits.{max_body}
use Rattle.farm_journal.specs.Layout.{IsShort, counted, counting, open_record, open_records, opening, signature}
use Rattle.farm_journal.specs.Progress.{counting_of}
use Rattle.farm_journal.specs.Recovery.{Accepts, AreAccepted, IsWhole, counted_in, size_at}
use Rattle.farm_journal.specs.Windows.{BeginsWith, IsCounted}
use Rattle.farm_journal.proofs.Fronts.{begins_append, begins_front, begins_size, begins_take, begins_then}
use Rattle.farm_journal.proofs.JournalBytes.{length-counted, open_records-push}

-- the bytes that are counted are as many as their length says
pub counted_size : (size : ℕ) (ahead : List ℕ) → IsCounted size ahead → length (take size (drop 4 ahead)) ≡ size
counted_size size ahead is = omega (arith, is.has_all, length-take size (drop 4 ahead), length-drop 4 ahead)

-- their length and they are what is ahead
pub counted_ahead : (size : ℕ) (ahead : List ℕ) → IsCounted size ahead → counted (take size (drop 4 ahead)) ≡ take (4 + size) ahead
unfolding counted
counted_ahead size ahead is =
    ap (λ count. to_be_bytes w32 count ++ take size (drop 4 ahead)) (counted_size size ahead is)
    ∙ ap (λ front. front ++ take size (drop 4 ahead)) (sym is.counts)
    ∙ sym (take-add 4 size ahead)

-- where they are ahead of bytes that are left, those are whole, and these are the ones that are counted there
pub whole_left : (size : ℕ) (ahead left : List ℕ) → IsCounted size ahead → BeginsWith ahead left →
    IsWhole left × (counted_in left ≡ take size (drop 4 ahead))
whole_left size ahead left is begins =
    let few : size < 2 ^ 32 = omega (arith, is.within) in
    let front : take 4 left ≡ to_be_bytes w32 size = begins_front 4 ahead left (omega (arith, is.has_all)) begins ∙ is.counts in
    let counts : size_at left ≡ size = ap (λ bytes. from_be_bytes w32 bytes) front ∙ from_be_bytes-to_be_bytes_4 size few in
    let all : take (4 + size) left ≡ take (4 + size) ahead = begins_front (4 + size) ahead left is.has_all begins in (
      record {
        has_size = omega (arith, is.has_all, begins_size ahead left begins);
        within = omega (arith, is.within, counts);
        has_all = omega (arith, is.has_all, begins_size ahead left begins, counts);
      },
      ap (λ size. take size (drop 4 left)) counts ∙ sym (drop-take 4 size left) ∙ ap (λ bytes. drop 4 bytes) all ∙ drop-take 4 size ahead,
    )

-- what counts once one body more was taken
pub counting_push : (taken : List (List ℕ)) (body : List ℕ) → taken ≢ [] →
    counting_of (taken ++ body ∷ []) ≡ counting_of taken ++ open_record body
unfolding counting
counting_push [] body some = absurd (some refl)
counting_push (header ∷ bodies) body some =
    ap (λ records. opening header ++ records) (open_records-push bodies body)
    ∙ sym (append_assoc (opening header) (open_records bodies) (open_record body))

-- of what was taken there is something, once there is one more
pub push_some : (taken : List (List ℕ)) (body : List ℕ) → taken ++ body ∷ [] ≢ []
push_some taken body none = absurd (omega (arith, ap length none, length-append taken (body ∷ [])))

-- a list is empty, or has a last element
last_of : (items : List (List ℕ)) → (items ≡ []) ⊎ ((front : List (List ℕ)) × (last : List ℕ) × (items ≡ front ++ last ∷ []))
last_of [] = inl refl
last_of (first ∷ items) =
    ⊎_elim (λ none. inr ([], first, ap (λ items. first ∷ items) none))
    (λ some. inr (first ∷ some.0, some.1, ap (λ items. first ∷ items) some.2)) (last_of items)

-- one more is accepted after those that were
pub accepted_push : (accepts : Accepts) (taken : List (List ℕ)) (body : List ℕ) → AreAccepted accepts taken →
    IsTrue (accepts taken body) → AreAccepted accepts (taken ++ body ∷ [])
accepted_push accepts taken body accepted is front back bytes split =
    ⊎_elim (λ none.
    let same = same_from_push taken front body bytes (split ∙ ap (λ back. front ++ bytes ∷ back) none) in
    ap (λ taken. accepts taken bytes) (sym same.0) ∙ ap (λ body. accepts taken body) (sym same.1) ∙ is)
    (λ some.
    let longer : front ++ bytes ∷ back ≡ (front ++ bytes ∷ some.0) ++ some.1 ∷ [] =
    ap (λ back. front ++ bytes ∷ back) some.2 ∙ sym (append_assoc front (bytes ∷ some.0) (some.1 ∷ [])) in
    let same = same_from_push taken (front ++ bytes ∷ some.0) body some.1 (split ∙ longer) in
    accepted front some.0 bytes same.0)
    (last_of back)

-- a record whose gate is open is read after what counts
pub record_read : (taken : List (List ℕ)) (offset size : ℕ) (ahead seen : List ℕ) → taken ≢ [] → offset ≡ length (counting_of taken) →
    BeginsWith (counting_of taken) seen → BeginsWith (1 ∷ []) (drop offset seen) → IsCounted size ahead →
    BeginsWith ahead (drop (offset + 1) seen) → BeginsWith (counting_of (taken ++ take size (drop 4 ahead) ∷ [])) seen
unfolding open_record
record_read taken offset size ahead seen some reached begins gate is shown =
    let body = take size (drop 4 ahead) in
    let left = drop offset seen in
    let rest : drop 1 left ≡ drop (offset + 1) seen = drop-drop 1 offset seen in
    let counts : BeginsWith (take (4 + size) ahead) (drop (offset + 1) seen) =
    begins_then (take (4 + size) ahead) ahead (drop (offset + 1) seen) (begins_take (4 + size) ahead is.has_all) shown in
    let goes_on : BeginsWith (counted body) (drop 1 left) =
    subst (λ bytes. BeginsWith (counted body) bytes) (sym rest)
    (subst (λ front. BeginsWith front (drop (offset + 1) seen)) (sym (counted_ahead size ahead is)) counts) in
    subst (λ front. BeginsWith front seen) (sym (counting_push taken body some))
    (begins_append (counting_of taken) (open_record body) seen begins
    (subst (λ offset. BeginsWith (open_record body) (drop offset seen)) reached
    (begins_append (1 ∷ []) (counted body) left gate goes_on)))

-- it has this many bytes
pub record_size : (taken : List (List ℕ)) (offset size : ℕ) (ahead : List ℕ) → taken ≢ [] → offset ≡ length (counting_of taken) →
    IsCounted size ahead → offset + 1 + (4 + size) ≡ length (counting_of (taken ++ take size (drop 4 ahead) ∷ []))
unfolding open_record
record_size taken offset size ahead some reached is =
    let body = take size (drop 4 ahead) in
    let counts : length (counted body) ≡ 4 + size =
    omega (arith, ap length (counted_ahead size ahead is), length-take (4 + size) ahead, is.has_all) in
    omega (arith, ap length (counting_push taken body some), length-append (counting_of taken) (open_record body), counts)

-- all that counts of a header is its opening
pub counting_header : (header : List ℕ) → counting_of (header ∷ []) ≡ signature ++ counted header
unfolding counting opening
counting_header header = append-nil (signature ++ counted header)

-- a header is read after the signature
pub header_read : (size : ℕ) (ahead seen : List ℕ) → BeginsWith signature seen → IsCounted size ahead →
    BeginsWith ahead (drop 9 seen) → BeginsWith (counting_of (take size (drop 4 ahead) ∷ [])) seen
unfolding signature
header_read size ahead seen begins is shown =
    let header = take size (drop 4 ahead) in
    let counts : BeginsWith (take (4 + size) ahead) (drop 9 seen) =
    begins_then (take (4 + size) ahead) ahead (drop 9 seen) (begins_take (4 + size) ahead is.has_all) shown in
    subst (λ front. BeginsWith front seen) (sym (counting_header header))
    (begins_append signature (counted header) seen begins
    (subst (λ front. BeginsWith front (drop 9 seen)) (sym (counted_ahead size ahead is)) counts))

-- it has this many bytes
pub header_size : (size : ℕ) (ahead : List ℕ) → IsCounted size ahead →
    9 + (4 + size) ≡ length (counting_of (take size (drop 4 ahead) ∷ []))
unfolding signature
header_size size ahead is =
    let header = take size (drop 4 ahead) in
    let counts : length (counted header) ≡ 4 + size =
    omega (arith, ap length (counted_ahead size ahead is), length-take (4 + size) ahead, is.has_all) in
    omega (arith, ap length (counting_header header), length-append signature (counted header), counts)

-- open records of short bodies
records_within : (bodies : List (List ℕ)) → All IsShort bodies → length (open_records bodies) ≤ length bodies * 2 ^ 25
unfolding open_record
records_within [] short = omega arith
records_within (body ∷ bodies) short =
    let rest = records_within bodies (λ k d within. short (suc k) d (omega arith)) in
    let first : length body ≤ max_body = short 0 [] (omega arith) in
    omega (arith, rest, first, length-append (open_record body) (open_records bodies), length-counted body)

-- each header and each body takes at most 2 ^ 25 bytes
pub counting_within : (taken : List (List ℕ)) → All IsShort taken → length (counting_of taken) ≤ length taken * 2 ^ 25
unfolding counting opening signature
counting_within [] short = omega arith
counting_within (header ∷ bodies) short =
    let rest = records_within bodies (λ k d within. short (suc k) d (omega arith)) in
    let first : length header ≤ max_body = short 0 [] (omega arith) in
    omega (arith, rest, first, length-append (opening header) (open_records bodies), length-append signature (counted header), length-counted header)
