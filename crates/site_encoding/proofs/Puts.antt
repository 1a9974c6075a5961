-- Bytes that are put one after another: two of them, and those of a prefix of items and of one more.
use Rattle.std.proofs.Common.{◌≡◌, ℕ, ◌+◌, ◌<◌, List, [], ◌∷◌, ◌++◌, length, take, get_or, ap, ◌∙◌, sym, append_assoc, arith, length-append, append-nil}
use Rattle.std.specs.Prelude.{Vec}
use Rattle.std.specs.declared.alloc.Global.{Global}
use Rattle.std.specs.List.{flat_map}
use Rattle.std.proofs.lemmas.List.Concat.{flat_map-cons, flat_map-append}
use Rattle.std.proofs.lemmas.List.Folds.{length-flat_map-take}
use Rattle.std.proofs.lemmas.List.{take_more}
use Rattle.site_encoding.specs.Buffers.{HasRoom, IsPut}

-- two texts that are put one after the other are put as one
pub two_put : (old now new : Vec ℕ Global) (first second : List ℕ) → IsPut old now first → IsPut now new second → IsPut old new (first ++ second)
two_put old now new first second before after =
    let len_before = before.len in
    let len = after.len in
    let both = length-append first second in
    let capacity_before = before.capacity in
    let capacity = after.capacity in
    record {
      items = after.items ∙ ap (λ text. text ++ second) before.items ∙ append_assoc old.items first second;
      len = omega arith;
      capacity = omega arith;
    }

-- the bytes of a prefix of items and of one more
pub flat_map-one_more : {A : Type 0} (item : A → List ℕ) (items : List A) (i : ℕ) (d : A) → i < length items →
    flat_map item (take (i + 1) items) ≡ flat_map item (take i items) ++ item (get_or items i d)
flat_map-one_more item items i d below =
    let one = get_or items i d in
    ap (flat_map item) (take_more items i d below)
    ∙ flat_map-append item (take i items) (one ∷ [])
    ∙ ap (λ bytes. flat_map item (take i items) ++ bytes) (flat_map-cons item one [] ∙ append-nil (item one))

-- after the bytes of a prefix of items there is room for those of the next
pub room_for_next : {A : Type 0} (item : A → List ℕ) (items : List A) (i : ℕ) (one d : A) (old now : Vec ℕ Global) → i < length items →
    one ≡ get_or items i d → HasRoom old (flat_map item items) → IsPut old now (flat_map item (take i items)) → HasRoom now (item one)
room_for_next item items i one d old now below is room so_far =
    let whole = length-flat_map-take item items i d below in
    let same = ap (λ x. length (item x)) is in
    let len = so_far.len in
    let capacity = so_far.capacity in
    let had = room.room in
    record { room = omega arith }

-- the bytes of a prefix of items and those of the next are those of one item more
pub one_more_put : {A : Type 0} (item : A → List ℕ) (items : List A) (i : ℕ) (one d : A) (old now new : Vec ℕ Global) → i < length items →
    one ≡ get_or items i d → IsPut old now (flat_map item (take i items)) → IsPut now new (item one) → IsPut old new (flat_map item (take (i + 1) items))
one_more_put item items i one d old now new below is so_far put =
    let more = flat_map-one_more item items i d below ∙ ap (λ x. flat_map item (take i items) ++ item x) (sym is) in
    let both = length-append (flat_map item (take i items)) (item one) in
    let more_len = ap length more in
    let len_before = so_far.len in
    let len = put.len in
    let capacity_before = so_far.capacity in
    let capacity = put.capacity in
    record {
      items = put.items ∙ ap (λ text. text ++ item one) so_far.items ∙ append_assoc old.items (flat_map item (take i items)) (item one) ∙ ap (λ bytes. old.items ++ bytes) (sym more);
      len = omega arith;
      capacity = omega arith;
    }

-- the length of the bytes of a prefix of items, and of one more
pub length-one_more : {A : Type 0} (item : A → List ℕ) (items : List A) (i : ℕ) (one d : A) → i < length items → one ≡ get_or items i d →
    length (flat_map item (take (i + 1) items)) ≡ length (flat_map item (take i items)) + length (item one)
length-one_more item items i one d below is =
    ap length (flat_map-one_more item items i d below ∙ ap (λ x. flat_map item (take i items) ++ item x) (sym is))
    ∙ length-append (flat_map item (take i items)) (item one)
