-- Bytes that are taken since no request is in hand.
use Rattle.std.proofs.Common.{◌≡◌, ◌≢◌, ◌∙◌, ℕ, List, [], ◌∷◌, ◌++◌, length, map, append-nil, Option, None, Ok, refl, sym, ap, subst, arith}
use Rattle.std.specs.List.{concat}
use Rattle.std.proofs.lemmas.List.Folds.{concat-append}
use Rattle.farm_base.specs.Known.{Stream, Takes}
use Rattle.farm_base.proofs.Additions.{takings_add_up}
use Rattle.farm_base.proofs.Known.{takes_none}
use Rattle.farm_ports.specs.Ports.{ReadsOn}
use Rattle.http_requests.specs.Hearing.{IsHeard}
use Rattle.http_requests.specs.declared.heard.Heard.TheVariants.{Need}
use Rattle.desk_posts.specs.Calls.{HearsNext}
use Rattle.desk_posts.specs.Courses.{Cuts, Took}

-- bytes were taken, each time since no request was in hand
pub record TakenSince (from to : Option Stream) (before after : List ℕ) : Type 0 where
  pub pieces : List (List ℕ)
  pub cut : Cuts before (map Took pieces) after
  pub moved : Takes from to (concat pieces)

-- none are taken yet
pub taken_none : (stream : Option Stream) (in_hand : List ℕ) → TakenSince stream stream in_hand in_hand
unfolding Cuts
taken_none stream in_hand = record { pieces = []; cut = refl; moved = takes_none stream }

-- a piece more is cut from what is in hand
cuts_more : (before after bytes : List ℕ) (pieces : List (List ℕ)) → Cuts before (map Took pieces) after → IsHeard after Need → bytes ≢ [] →
    Cuts before (map Took (pieces ++ bytes ∷ [])) (after ++ bytes)
unfolding Cuts
cuts_more before after bytes [] cut need some =
    (subst (λ (in_hand : List ℕ). IsHeard in_hand Need) cut need, some, ap (λ (in_hand : List ℕ). in_hand ++ bytes) cut)
cuts_more before after bytes (piece ∷ pieces) cut need some = (cut.0, cut.1, cuts_more (before ++ piece) after bytes pieces cut.2 need some)

-- pieces with one more are their bytes with its bytes
concat_more : (pieces : List (List ℕ)) (bytes : List ℕ) → concat (pieces ++ bytes ∷ []) ≡ concat pieces ++ bytes
concat_more pieces bytes = concat-append pieces (bytes ∷ []) ∙ ap (λ (more : List ℕ). concat pieces ++ more) (append-nil bytes)

-- a piece more is taken
taken_more : (from middle to : Option Stream) (before after bytes now : List ℕ) → TakenSince from middle before after → IsHeard after Need →
    length bytes ≢ 0 → Takes middle to bytes → now ≡ after ++ bytes → TakenSince from to before now
taken_more from middle to before after bytes now taken need some more added =
    subst (λ (in_hand : List ℕ). TakenSince from to before in_hand) (sym added) (record {
      pieces = taken.pieces ++ bytes ∷ [];
      cut = cuts_more before after bytes taken.pieces taken.cut need (λ none. some (ap length none));
      moved = subst (λ (all : List ℕ). Takes from to all) (sym (concat_more taken.pieces bytes))
          (takings_add_up from middle to (concat taken.pieces) bytes taken.moved more);
    })

-- a take that brought nothing leaves what is in hand
taken_on : (from middle to : Option Stream) (before after : List ℕ) → TakenSince from middle before after → Takes middle to [] →
    TakenSince from to before after
taken_on from middle to before after taken more = record {
  pieces = taken.pieces;
  cut = taken.cut;
  moved = subst (λ (all : List ℕ). Takes from to all) (append-nil (concat taken.pieces))
      (takings_add_up from middle to (concat taken.pieces) [] taken.moved more);
}

-- bytes whose number is 0 are the empty list
no_bytes : (bytes : List ℕ) → length bytes ≡ 0 → bytes ≡ []
no_bytes [] none = refl
no_bytes (byte ∷ bytes) none = absurd (omega (arith, none))

-- a read that brought bytes
pub read_more : (from middle to : Option Stream) (before in_hand now : List ℕ) (most count : ℕ) → TakenSince from middle before in_hand → IsHeard in_hand Need →
    ReadsOn middle to in_hand now most count → count ≢ 0 → TakenSince from to before now
read_more from middle to before in_hand now most count taken need reads some =
    taken_more from middle to before in_hand reads.chunk now taken need (λ none. some (sym reads.counted ∙ none)) reads.moved reads.added

-- a read that brought none: the input ended with no whole request in hand
pub read_end : {E : Type 0} (from middle to : Option Stream) (before in_hand now : List ℕ) (most count : ℕ) → TakenSince from middle before in_hand →
    IsHeard in_hand Need → ReadsOn middle to in_hand now most count → count ≡ 0 → HearsNext {E = E} from to before now (Ok None)
read_end {E} from middle to before in_hand now most count taken need reads is_end =
    let none : reads.chunk ≡ [] = no_bytes reads.chunk (reads.counted ∙ is_end) in
    let same : now ≡ in_hand = reads.added ∙ ap (λ (more : List ℕ). in_hand ++ more) none ∙ append-nil in_hand in
    let still : TakenSince from to before in_hand =
    taken_on from middle to before in_hand taken (subst (λ (bytes : List ℕ). Takes middle to bytes) none reads.moved) in
    subst (λ (left : List ℕ). HearsNext {E = E} from to before left (Ok None)) (sym same)
    (record { pieces = still.pieces; cut = still.cut; moved = still.moved; next = (need, reads.at_end is_end) })
