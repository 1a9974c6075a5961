-- A response that comes piece after piece.
use Rattle.std.proofs.Common.{◌≡◌, ◌⊎◌, inl, inr, ℕ, ◌+◌, ◌≤◌, List, [], ◌∷◌, ◌++◌, length, take, drop, sym, ap, subst, refl, ◌∙◌, arith, Option, true, false, le_refl, drop_at, length-take-le, Result, Ok, Err}
use Rattle.std.specs.List.{concat}
use Rattle.std.proofs.Math.Seq.{take-add}
use Rattle.std.proofs.lemmas.List.{map-append, take-append-le}
use Rattle.std.proofs.lemmas.Slice.{take-put_mid_below}
use borrow.Rule.Slice.PartMut.{put_mid, post_of}
use Rattle.farm_ports.specs.declared.ports.Failed.{Failed}
use Rattle.farm_ports.specs.declared.links.LinkCall.{LinkCall}
use Rattle.farm_ports.specs.declared.links.LinkCall.TheVariants.{Received}
use Rattle.farm_ports.specs.Links.{AddsCalls, Receives}
use Rattle.farm_ports.proofs.LinkCalls.{calls_add_up, no_call_adds_none}
use Rattle.modbus_frame.specs.declared.expect.Expect.{Expect}
use Rattle.modbus_frame.specs.declared.frame.Frame.{Frame}
use Rattle.modbus_frame.specs.declared.frame.Frame.TheVariants.{Need, Words, Exception, Wrong}
use Rattle.modbus_frame.specs.Fields.{IsDecided, frame_answer}
use Rattle.modbus_poll.proofs.SentPieces.{concat_more}
use Rattle.modbus_poll.specs.Pieces.{ReceivesAsNeeded, ReceivesPiece, ReceivesWhole, StopsReceiving, TakesPiece, received}

-- bytes came, in pieces with as many bytes as were needed at most
pub record HasCome (old new : Option (List LinkCall)) (expect : Expect) (bytes : List ℕ) : Type 0 where
  pub came : List (List ℕ)
  pub as_needed : ReceivesAsNeeded expect came
  pub joined : concat came ≡ bytes
  pub made : AddsCalls old new (received came)

-- an item stands last of a list, or before the last
record IsLast {A : Type 0} (items before : List A) (last item : A) : Type 0 where
  all_before : before ≡ items
  it : item ≡ last

-- an item stands before the last of a list
record IsEarlier {A : Type 0} (items before : List A) (item : A) : Type 0 where
  rest : List A
  split : items ≡ before ++ item ∷ rest

-- an item before one more is an item
later : {A : Type 0} (first : A) (items before : List A) (last item : A) →
    IsLast items before last item ⊎ IsEarlier items before item → IsLast (first ∷ items) (first ∷ before) last item ⊎ IsEarlier (first ∷ items) (first ∷ before) item
later first items before last item (inl is) = inl (record { all_before = ap (λ t. first ∷ t) is.all_before; it = is.it })
later first items before last item (inr is) = inr (record { rest = is.rest; split = ap (λ t. first ∷ t) is.split })

-- so is each item of a list
last_or_earlier : {A : Type 0} (items before : List A) (last item : A) (after : List A) → items ++ last ∷ [] ≡ before ++ item ∷ after →
    IsLast items before last item ⊎ IsEarlier items before item
last_or_earlier [] [] last item after is = inl (record { all_before = refl; it = cc })
last_or_earlier [] (b ∷ []) last item after is = cc
last_or_earlier [] (b ∷ c ∷ before) last item after is = cc
last_or_earlier (a ∷ items) [] last item after is =
    let same : item ≡ a = cc in
    inr (record { rest = items; split = ap (λ t. t ∷ items) (sym same) })
last_or_earlier (a ∷ items) (b ∷ before) last item after is =
    let same : a ≡ b = cc in
    let tails : items ++ last ∷ [] ≡ before ++ item ∷ after = cc in
    let P : _ → Type 0 = λ x. IsLast (a ∷ items) (x ∷ before) last item ⊎ IsEarlier (a ∷ items) (x ∷ before) item in
    subst P same (later a items before last item (last_or_earlier items before last item after tails))

-- what holds of a piece and of the pieces before it
abbrev NeedsPiece : Expect → List (List ℕ) → List ℕ → Type 0
NeedsPiece expect before piece = (n : ℕ) × (frame_answer expect (concat before) ≡ Need n) × (1 ≤ length piece) × (length piece ≤ n)

-- it holds of each piece, and of one more
piece_of : (expect : Expect) (came : List (List ℕ)) (more : List ℕ) → ReceivesAsNeeded expect came → NeedsPiece expect came more →
    (before : List (List ℕ)) (piece : List ℕ) → IsLast came before more piece ⊎ IsEarlier came before piece → NeedsPiece expect before piece
piece_of expect came more each here before piece (inl is) =
    let P : List (List ℕ) → Type 0 = λ x. NeedsPiece expect x piece in
    let Q : List ℕ → Type 0 = λ x. NeedsPiece expect came x in
    subst P (sym is.all_before) (subst Q (sym is.it) here)
piece_of expect came more each here before piece (inr is) = each.each before piece is.rest is.split

-- one piece more came as needed
more_as_needed : (expect : Expect) (came : List (List ℕ)) (more : List ℕ) → ReceivesAsNeeded expect came → NeedsPiece expect came more →
    ReceivesAsNeeded expect (came ++ more ∷ [])
more_as_needed expect came more each here = record {
  each = λ before piece after is. piece_of expect came more each here before piece (last_or_earlier came before more piece after is);
}

-- there is no piece among none
no_piece : (before : List (List ℕ)) (piece : List ℕ) (after : List (List ℕ)) → [] ≡ before ++ piece ∷ after → ⊥
no_piece [] piece after is = cc
no_piece (b ∷ before) piece after is = cc

-- none came yet
pub none_came : (expect : Expect) → ReceivesAsNeeded expect []
none_came expect = record { each = λ before piece after is. absurd (no_piece before piece after is) }

-- no piece came yet
pub none_has_come : (calls : Option (List LinkCall)) (expect : Expect) → HasCome calls calls expect []
none_has_come calls expect = record { came = []; as_needed = none_came expect; joined = refl; made = no_call_adds_none calls }

-- one piece more came
pub has_come_more : (old middle new : Option (List LinkCall)) (expect : Expect) (before after : List ℕ) (size needed count : ℕ) →
    HasCome old middle expect (take size before) → frame_answer expect (take size before) ≡ Need needed →
    TakesPiece middle new before after size needed count → HasCome old new expect (take (size + count) after)
has_come_more old middle new expect before after size needed count then needs took =
    let P : List LinkCall → Type 0 = λ calls. AddsCalls old new calls in
    let here : NeedsPiece expect then.came took.piece =
    (needed, ap (λ t. frame_answer expect t) then.joined ∙ needs, omega (arith, took.counted, took.some), omega (arith, took.counted, took.within)) in
    record {
      came = then.came ++ took.piece ∷ [];
      as_needed = more_as_needed expect then.came took.piece then.as_needed here;
      joined = concat_more then.came took.piece ∙ ap (λ t. t ++ took.piece) then.joined ∙ sym took.front;
      made = subst P (sym (map-append (λ piece. Received piece false) then.came (took.piece ∷ [])))
          (calls_add_up old middle new (received then.came) (Received took.piece false ∷ []) then.made took.made);
    }

-- a piece that came into a part of a buffer stands there
front_of_part : (offset size count : ℕ) (buffer part : List ℕ) → offset ≤ length buffer → count ≤ length part →
    take (offset + count) (put_mid offset size buffer part) ≡ take offset buffer ++ take count part
front_of_part offset size count buffer part within fits =
    take-add offset count (put_mid offset size buffer part)
    ∙ ap (λ t. t ++ take count (drop offset (put_mid offset size buffer part))) (take-put_mid_below offset size buffer part offset (le_refl offset) within)
    ∙ ap (λ t. take offset buffer ++ take count t) (drop_at (take offset buffer) (part ++ post_of offset size buffer) offset (length-take-le offset buffer within))
    ∙ ap (λ t. take offset buffer ++ t) (take-append-le count part (post_of offset size buffer) fits)

-- a receive into a part of a buffer gives a piece
pub takes_piece : (old new : Option (List LinkCall)) (buffer part : List ℕ) (offset size most : ℕ) → 1 ≤ most → offset + most ≤ length buffer →
    length part ≡ most → (result : Result ℕ Failed) → Receives old new part result →
    ReceivesPiece old new buffer (put_mid offset size buffer part) offset most result
takes_piece old new buffer part offset size most room within long (Ok count) took = record {
  piece = take count part;
  counted = length-take-le count part took.within;
  some = took.some (omega arith);
  within = omega (arith, took.within);
  front = front_of_part offset size count buffer part (omega arith) took.within;
  made = took.call;
}
takes_piece old new buffer part offset size most room within long (Err e) failed = failed

-- what isn't undecided is decided
is_decided : (frame : Frame) → ((n : ℕ) → frame ≡ Need n → ⊥) → IsDecided frame
is_decided (Need n) other = absurd (other n refl)
is_decided (Words registers used) other = tt
is_decided (Exception code used) other = tt
is_decided (Wrong field) other = tt

-- the response is decided
pub receives_whole : (old new : Option (List LinkCall)) (expect : Expect) (bytes : List ℕ) (frame : Frame) → HasCome old new expect bytes →
    frame ≡ frame_answer expect bytes → ((n : ℕ) → frame ≡ Need n → ⊥) → ReceivesWhole old new expect frame
receives_whole old new expect bytes frame then is other = record {
  came = then.came;
  as_needed = then.as_needed;
  is = ap (λ t. frame_answer expect t) then.joined ∙ sym is;
  decided = is_decided frame other;
  made = then.made;
}

-- a receive failed
pub stops_receiving : (old middle new : Option (List LinkCall)) (expect : Expect) (bytes : List ℕ) (needed : ℕ) → HasCome old middle expect bytes →
    frame_answer expect bytes ≡ Need needed → AddsCalls middle new (Received [] true ∷ []) → StopsReceiving old new expect
stops_receiving old middle new expect bytes needed then needs failed = record {
  came = then.came;
  as_needed = then.as_needed;
  needed = needed;
  undecided = ap (λ t. frame_answer expect t) then.joined ∙ needs;
  made = calls_add_up old middle new (received then.came) (Received [] true ∷ []) then.made failed;
}
