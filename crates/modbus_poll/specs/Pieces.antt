-- A request that is sent in pieces, and a response that comes in pieces.
use Rattle.std.specs.Prelude.{◌≡◌, ◌⊎◌, ℕ, ◌+◌, ◌≤◌, All, true, false, List, [], ◌∷◌, ◌++◌, length, map, take, Option, Result, Ok, Err}
use Rattle.std.specs.List.{concat}
use Rattle.farm_ports.specs.declared.links.LinkCall.{LinkCall}
use Rattle.farm_ports.specs.declared.links.LinkCall.TheVariants.{Sent, Received}
use Rattle.farm_ports.specs.Links.{AddsCalls}
use Rattle.modbus_frame.specs.declared.expect.Expect.{Expect}
use Rattle.modbus_frame.specs.declared.frame.Frame.{Frame}
use Rattle.modbus_frame.specs.declared.frame.Frame.TheVariants.{Need}
use Rattle.modbus_frame.specs.Fields.{IsDecided, frame_answer}
use Rattle.modbus_frame.specs.Requests.{request_frame}

-- the calls that sent these pieces
abbrev pub sent : List (List ℕ) → List LinkCall
sent pieces = map (λ piece. Sent piece false) pieces

-- the calls that received these pieces
abbrev pub received : List (List ℕ) → List LinkCall
received pieces = map (λ piece. Received piece false) pieces

-- a request was sent whole, in pieces with at least one byte
pub record IsSent (request : List ℕ) (pieces : List (List ℕ)) : Type 0 where
  pub some : All (λ piece. 1 ≤ length piece) pieces
  pub whole : concat pieces ≡ request

-- a prefix of a request was sent, and not all of it, in pieces with at least one byte
pub record IsPartlySent (request : List ℕ) (pieces : List (List ℕ)) : Type 0 where
  pub some : All (λ piece. 1 ≤ length piece) pieces
  pub rest : List ℕ
  pub left : 1 ≤ length rest
  pub front : concat pieces ++ rest ≡ request

-- pieces came one after another: each has at least one byte, and at most as many as the bytes before it still need
pub record ReceivesAsNeeded (expect : Expect) (pieces : List (List ℕ)) : Type 0 where
  pub each : (before : List (List ℕ)) (piece : List ℕ) (after : List (List ℕ)) → pieces ≡ before ++ piece ∷ after →
      (n : ℕ) × (frame_answer expect (concat before) ≡ Need n) × (1 ≤ length piece) × (length piece ≤ n)

-- a request was sent whole
pub record SendsWhole (old new : Option (List LinkCall)) (request : List ℕ) : Type 0 where
  pub pieces : List (List ℕ)
  pub whole : IsSent request pieces
  pub made : AddsCalls old new (sent pieces)

-- a prefix of a request was sent, and then a send failed
pub record StopsSending (old new : Option (List LinkCall)) (request : List ℕ) : Type 0 where
  pub pieces : List (List ℕ)
  pub front : IsPartlySent request pieces
  pub made : AddsCalls old new (sent pieces ++ Sent [] true ∷ [])

-- a request was sent whole, or a send failed before
abbrev pub SendsRequest : {T E : Type 0} → Option (List LinkCall) → Option (List LinkCall) → List ℕ → Result T E → Type 0
SendsRequest old new request (Ok done) = SendsWhole old new request
SendsRequest old new request (Err e) = StopsSending old new request

-- a piece came into a buffer at an offset: at least one byte, and at most this many
pub record TakesPiece (old new : Option (List LinkCall)) (before after : List ℕ) (offset most count : ℕ) : Type 0 where
  pub piece : List ℕ
  pub counted : length piece ≡ count
  pub some : 1 ≤ count
  pub within : count ≤ most
  pub front : take (offset + count) after ≡ take offset before ++ piece
  pub made : AddsCalls old new (Received piece false ∷ [])

-- a piece came, or the receive failed
abbrev pub ReceivesPiece : {E : Type 0} → Option (List LinkCall) → Option (List LinkCall) → List ℕ → List ℕ → ℕ → ℕ → Result ℕ E → Type 0
ReceivesPiece old new before after offset most (Ok count) = TakesPiece old new before after offset most count
ReceivesPiece old new before after offset most (Err e) = AddsCalls old new (Received [] true ∷ [])

-- a response came, up to where it is decided what it is
pub record ReceivesWhole (old new : Option (List LinkCall)) (expect : Expect) (frame : Frame) : Type 0 where
  pub came : List (List ℕ)
  pub as_needed : ReceivesAsNeeded expect came
  pub is : frame_answer expect (concat came) ≡ frame
  pub decided : IsDecided frame
  pub made : AddsCalls old new (received came)

-- a prefix of a response came, and then a receive failed
pub record StopsReceiving (old new : Option (List LinkCall)) (expect : Expect) : Type 0 where
  pub came : List (List ℕ)
  pub as_needed : ReceivesAsNeeded expect came
  pub needed : ℕ
  pub undecided : frame_answer expect (concat came) ≡ Need needed
  pub made : AddsCalls old new (received came ++ Received [] true ∷ [])

-- a response came whole, or a receive failed before
abbrev pub ReceivesResponse : {E : Type 0} → Option (List LinkCall) → Option (List LinkCall) → Expect → Result Frame E → Type 0
ReceivesResponse old new expect (Ok frame) = ReceivesWhole old new expect frame
ReceivesResponse old new expect (Err e) = StopsReceiving old new expect

-- a request was sent whole and its response came
pub record IsAnswered (old new : Option (List LinkCall)) (expect : Expect) (frame : Frame) : Type 0 where
  pub middle : Option (List LinkCall)
  pub sends : SendsWhole old middle (request_frame expect)
  pub receives : ReceivesWhole middle new expect frame

-- a request was sent whole, and a receive failed before its response was decided
pub record IsUnanswered (old new : Option (List LinkCall)) (expect : Expect) : Type 0 where
  pub middle : Option (List LinkCall)
  pub sends : SendsWhole old middle (request_frame expect)
  pub receives : StopsReceiving middle new expect

-- a request was answered, or the link failed on the way
abbrev pub Exchanges : {E : Type 0} → Option (List LinkCall) → Option (List LinkCall) → Expect → Result Frame E → Type 0
Exchanges old new expect (Ok frame) = IsAnswered old new expect frame
Exchanges old new expect (Err e) = StopsSending old new (request_frame expect) ⊎ IsUnanswered old new expect
