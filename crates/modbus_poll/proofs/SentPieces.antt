-- A request that is sent piece after piece.
use Rattle.std.proofs.Common.{◌≡◌, ℕ, ◌+◌, ◌-◌, ◌<◌, ◌≤◌, List, [], ◌∷◌, ◌++◌, length, take, drop, sym, ap, subst, refl, ◌∙◌, arith, length-take, length-drop, append-nil, Option, true, false}
use Rattle.std.specs.Prelude.{All}
use Rattle.std.specs.List.{concat}
use Rattle.std.proofs.lemmas.List.{take_all, map-append, take-append-drop}
use Rattle.std.proofs.lemmas.List.Elements.{All-append, All-cons}
use Rattle.std.proofs.lemmas.List.Folds.{concat-append}
use Rattle.farm_ports.specs.declared.links.LinkCall.{LinkCall}
use Rattle.farm_ports.specs.declared.links.LinkCall.TheVariants.{Sent}
use Rattle.farm_ports.specs.Links.{AddsCalls, SendsFront}
use Rattle.farm_ports.proofs.LinkCalls.{calls_add_up, no_call_adds_none}
use Rattle.farm_ports.proofs.Parts.{fronts_join}
use Rattle.modbus_poll.specs.Pieces.{SendsWhole, StopsSending, sent}

-- bytes were sent, in pieces with at least one byte
pub record HasSent (old new : Option (List LinkCall)) (bytes : List ℕ) : Type 0 where
  pub pieces : List (List ℕ)
  pub some : All (λ piece. 1 ≤ length piece) pieces
  pub joined : concat pieces ≡ bytes
  pub made : AddsCalls old new (sent pieces)

-- pieces and one more, joined
pub concat_more : (pieces : List (List ℕ)) (piece : List ℕ) → concat (pieces ++ piece ∷ []) ≡ concat pieces ++ piece
concat_more pieces piece = concat-append pieces (piece ∷ []) ∙ ap (λ t. concat pieces ++ t) (append-nil piece)

-- each of no pieces has at least one byte
no_pieces : All (λ (piece : List ℕ). 1 ≤ length piece) []
no_pieces k d below = absurd (omega arith)

-- nothing was sent yet
pub none_sent : (calls : Option (List LinkCall)) → HasSent calls calls []
none_sent calls = record { pieces = []; some = no_pieces; joined = refl; made = no_call_adds_none calls }

-- one piece more was sent
pub has_sent_more : (old middle new : Option (List LinkCall)) (request : List ℕ) (done count : ℕ) → done < length request →
    HasSent old middle (take done request) → SendsFront middle new (take (length request - done) (drop done request)) count →
    HasSent old new (take (done + count) request)
has_sent_more old middle new request done count before then put =
    let piece : List ℕ = take count (take (length request - done) (drop done request)) in
    let rest : length (take (length request - done) (drop done request)) ≡ length request - done =
    omega (arith, length-take (length request - done) (drop done request), length-drop done request) in
    let room : 1 ≤ count = put.some (omega arith) in
    let size : 1 ≤ length piece = omega (arith, length-take count (take (length request - done) (drop done request)), put.within) in
    let P : List LinkCall → Type 0 = λ calls. AddsCalls old new calls in
    record {
      pieces = then.pieces ++ piece ∷ [];
      some = All-append (λ piece. 1 ≤ length piece) then.pieces (piece ∷ []) then.some (All-cons (λ piece. 1 ≤ length piece) piece [] size no_pieces);
      joined = concat_more then.pieces piece ∙ ap (λ t. t ++ piece) then.joined ∙ fronts_join request done count;
      made = subst P (sym (map-append (λ piece. Sent piece false) then.pieces (piece ∷ [])))
          (calls_add_up old middle new (sent then.pieces) (Sent piece false ∷ []) then.made put.call);
    }

-- all of a request was sent
pub sends_whole : (old new : Option (List LinkCall)) (request : List ℕ) (done : ℕ) → length request ≤ done → HasSent old new (take done request) →
    SendsWhole old new request
sends_whole old new request done all then = record {
  pieces = then.pieces;
  whole = record { some = then.some; whole = then.joined ∙ take_all done request all };
  made = then.made;
}

-- a send failed
pub stops_sending : (old middle new : Option (List LinkCall)) (request : List ℕ) (done : ℕ) → done < length request →
    HasSent old middle (take done request) → AddsCalls middle new (Sent [] true ∷ []) → StopsSending old new request
stops_sending old middle new request done before then failed = record {
  pieces = then.pieces;
  front = record {
    some = then.some;
    rest = drop done request;
    left = omega (arith, length-drop done request);
    front = ap (λ t. t ++ drop done request) then.joined ∙ take-append-drop done request;
  };
  made = calls_add_up old middle new (sent then.pieces) (Sent [] true ∷ []) then.made failed;
}
