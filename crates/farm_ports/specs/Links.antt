-- What a call on a link adds to the calls that the link is known to have taken.
use Rattle.std.specs.Prelude.{◌≡◌, ℕ, ◌<◌, ◌≤◌, true, false, List, [], ◌∷◌, ◌++◌, length, take, Option, Some, None, Result, Ok, Err}
use Rattle.farm_ports.specs.declared.links.LinkCall.{LinkCall}
use Rattle.farm_ports.specs.declared.links.LinkCall.TheVariants.{Connect, Sent, Received}

-- where the calls are known afterwards, they are those before and then these
abbrev pub AddsCalls : Option (List LinkCall) → Option (List LinkCall) → List LinkCall → Type 0
AddsCalls old None calls = Unit {0}
AddsCalls None (Some new) calls = ⊥
AddsCalls (Some old) (Some new) calls = new ≡ old ++ calls

-- a connect is kept with its host and port, and with whether it failed
abbrev pub Connects : {T E : Type 0} → Option (List LinkCall) → Option (List LinkCall) → List ℕ → ℕ → Result T E → Type 0
Connects old new host port (Ok done) = AddsCalls old new (Connect host port false ∷ [])
Connects old new host port (Err e) = AddsCalls old new (Connect host port true ∷ [])

-- a send took this many bytes off the front of the piece, at least one of a piece that has any
pub record SendsFront (old new : Option (List LinkCall)) (piece : List ℕ) (count : ℕ) : Type 0 where
  pub within : count ≤ length piece
  pub some : 0 < length piece → 0 < count
  pub call : AddsCalls old new (Sent (take count piece) false ∷ [])

-- a send is kept with the bytes that it took, and one that failed with none
abbrev pub Sends : {E : Type 0} → Option (List LinkCall) → Option (List LinkCall) → List ℕ → Result ℕ E → Type 0
Sends old new piece (Ok count) = SendsFront old new piece count
Sends old new piece (Err e) = AddsCalls old new (Sent [] true ∷ [])

-- a receive gave this many bytes into the front of the buffer, at least one into a buffer that has room
pub record ReceivesFront (old new : Option (List LinkCall)) (buffer : List ℕ) (count : ℕ) : Type 0 where
  pub within : count ≤ length buffer
  pub some : 0 < length buffer → 0 < count
  pub call : AddsCalls old new (Received (take count buffer) false ∷ [])

-- a receive is kept with the bytes that it gave, and one that failed with none
abbrev pub Receives : {E : Type 0} → Option (List LinkCall) → Option (List LinkCall) → List ℕ → Result ℕ E → Type 0
Receives old new buffer (Ok count) = ReceivesFront old new buffer count
Receives old new buffer (Err e) = AddsCalls old new (Received [] true ∷ [])

-- calls that were added one after another were added as one list
abbrev pub CallsAddUp : Type 0
CallsAddUp = (old middle new : Option (List LinkCall)) (first second : List LinkCall) →
    AddsCalls old middle first → AddsCalls middle new second → AddsCalls old new (first ++ second)

-- where no call was made the calls are those before
abbrev pub NoCallAddsNone : Type 0
NoCallAddsNone = (calls : Option (List LinkCall)) → AddsCalls calls calls []
