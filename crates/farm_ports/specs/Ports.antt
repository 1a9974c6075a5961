-- What a call on a source or a sink does to the bytes that the object is known to hold.
use Rattle.std.specs.Prelude.{◌≡◌, ℕ, ◌<◌, ◌≤◌, List, [], ◌++◌, length, take, Option, Result, Ok, Err}
use Rattle.farm_base.specs.Known.{Adds, Stream, Takes, WhereKnown}

-- A take gave this many bytes off the front of what was left; none for a buffer with room only at the end.
pub record TakesFront (old new : Option Stream) (buffer : List ℕ) (count : ℕ) : Type 0 where
  pub within : count ≤ length buffer
  pub moved : Takes old new (take count buffer)
  pub at_end : count ≡ 0 → 0 < length buffer → WhereKnown new (λ stream. stream.left ≡ [])

-- a take that failed took nothing
abbrev pub TakeGives : {E : Type 0} → Option Stream → Option Stream → List ℕ → Result ℕ E → Type 0
TakeGives old new buffer (Ok count) = TakesFront old new buffer count
TakeGives old new buffer (Err e) = Takes old new []

-- A put added this many bytes off the front of the piece, at least one of a piece that has any.
pub record PutsFront (old new : Option (List ℕ)) (piece : List ℕ) (count : ℕ) : Type 0 where
  pub within : count ≤ length piece
  pub some : 0 < length piece → 0 < count
  pub added : Adds old new (take count piece)

-- a put that failed added nothing
abbrev pub PutGives : {E : Type 0} → Option (List ℕ) → Option (List ℕ) → List ℕ → Result ℕ E → Type 0
PutGives old new piece (Ok count) = PutsFront old new piece count
PutGives old new piece (Err e) = Adds old new []

-- All of the text was added, or the call failed and a prefix of it was.
abbrev pub PutsAll : {E T : Type 0} → Option (List ℕ) → Option (List ℕ) → List ℕ → Result T E → Type 0
PutsAll old new text (Ok done) = Adds old new text
PutsAll old new text (Err e) = (n : ℕ) × (n ≤ length text) × Adds old new (take n text)

-- At most `most` bytes were read: as many where the source has them, else all that was left.
pub record ReadsUpTo (old new : Option Stream) (most : ℕ) (bytes : List ℕ) : Type 0 where
  pub within : length bytes ≤ most
  pub moved : Takes old new bytes
  pub to_end : length bytes < most → WhereKnown new (λ stream. stream.left ≡ [])

-- One read moved this many bytes to the end of a list that then has at most `most`; 0 is the end.
pub record ReadsOn (old new : Option Stream) (before after : List ℕ) (most count : ℕ) : Type 0 where
  pub chunk : List ℕ
  pub counted : length chunk ≡ count
  pub added : after ≡ before ++ chunk
  pub moved : Takes old new chunk
  pub within : length after ≤ most
  pub at_end : count ≡ 0 → WhereKnown new (λ stream. stream.left ≡ [])
