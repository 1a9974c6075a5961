-- How a reader of lines cuts them off the pieces that a source gives.
use Rattle.std.specs.Prelude.{◌≡◌, ◌≢◌, ◌⊎◌, ℕ, ◌+◌, ◌≤◌, nat_lt, Bool, true, false, if◌then◌else◌, List, [], ◌∷◌, ◌++◌, length, Option, None, Some, Result, Ok, Err}
use Rattle.farm_base.specs.Counts.{Count, HasRisen}
use Rattle.farm_base.specs.Known.{Stream, Takes, WhereKnown}
use Rattle.batch_lines.specs.Limits.{line_feed, most_request_line_bytes, most_bytes}
use Rattle.batch_lines.specs.declared.reader.Cut.{Cut}
use Rattle.batch_lines.specs.declared.reader.Cut.TheVariants.{Line, Last, End, Long, Failed}
use Rattle.batch_lines.specs.declared.reader.Moved.{Moved}
use Rattle.batch_lines.specs.declared.reader.Moved.TheVariants as moves
use Rattle.batch_lines.specs.Lines.{HasByteTooMany, IsOneLine}

-- A reader of lines: what it took and hasn't cut off yet, what it kept of the line that it reads and how long that is, and how many
-- bytes it has cut off, line feeds counted.
pub record ReaderState : Type 0 where
  pub in_hand : List ℕ
  pub line : Option (List ℕ)
  pub length : ℕ
  pub passed : ℕ

-- nothing is left of a stream
abbrev pub AtEnd : Option Stream → Type 0
AtEnd stream = WhereKnown stream (λ known. known.left ≡ [])

-- what is kept of a line: all of it, or nothing where it is too long
abbrev pub kept : List ℕ → Option (List ℕ)
kept line = if nat_lt most_request_line_bytes (length line) then None else Some line

-- a reader has read this of a line
pub record Holds (reader : ReaderState) (line : List ℕ) : Type 0 where
  pub line_is : reader.line ≡ kept line
  pub length_is : reader.length ≡ length line

-- what a reader has read of a line became longer by a text
abbrev pub Extends : ReaderState → ReaderState → List ℕ → Type 0
Extends old new text = (line : List ℕ) → Holds old line → Holds new (line ++ text)

-- a text before a line feed was cut off, and the line feed
pub record CutsEnd (old new : ReaderState) : Type 0 where
  pub text : List ℕ
  pub split : old.in_hand ≡ text ++ line_feed ∷ new.in_hand
  pub one_line : IsOneLine text
  pub extends : Extends old new text
  pub passed : new.passed ≡ old.passed + length text + 1
  pub within : new.passed ≤ most_bytes

-- all that was in hand was cut off; no line feed is in it
pub record CutsAll (old new : ReaderState) : Type 0 where
  pub empty : new.in_hand ≡ []
  pub one_line : IsOneLine old.in_hand
  pub extends : Extends old new old.in_hand
  pub passed : new.passed ≡ old.passed + length old.in_hand
  pub within : new.passed ≤ most_bytes

-- what is in hand holds a byte too many, and nothing was cut off
pub record FindsTooMany (old new : ReaderState) : Type 0 where
  pub too_many : HasByteTooMany old.passed old.in_hand
  pub as_before : new ≡ old

-- what one cut into the bytes in hand does
abbrev pub Moves : ReaderState → ReaderState → Moved → Type 0
Moves old new moves.Ended = CutsEnd old new
Moves old new moves.All = CutsAll old new
Moves old new moves.Long = FindsTooMany old new

-- the next line is in hand whole, with its line feed, and within the limit
pub record HoldsLine (reader : ReaderState) : Type 0 where
  pub line : List ℕ
  pub rest : List ℕ
  pub split : reader.in_hand ≡ line ++ line_feed ∷ rest
  pub one_line : IsOneLine line
  pub within : reader.passed + length line + 1 ≤ most_bytes

-- a line was read, and the line feed after it; nothing was taken where the whole line was in hand
pub record ReadsLine (old new : ReaderState) (from to : Option Stream) : Type 0 where
  pub line : List ℕ
  pub taken : List ℕ
  pub moved : Takes from to taken
  pub none_early : IsOneLine old.in_hand ⊎ (taken ≡ [])
  pub split : old.in_hand ++ taken ≡ line ++ line_feed ∷ new.in_hand
  pub one_line : IsOneLine line
  pub held : new.line ≡ kept line
  pub passed : new.passed ≡ old.passed + length line + 1
  pub within : new.passed ≤ most_bytes

-- the last line was read; it isn't empty, and no line feed is after it
pub record ReadsLast (old new : ReaderState) (from to : Option Stream) : Type 0 where
  pub line : List ℕ
  pub taken : List ℕ
  pub moved : Takes from to taken
  pub split : old.in_hand ++ taken ≡ line
  pub some : line ≢ []
  pub one_line : IsOneLine line
  pub held : new.line ≡ kept line
  pub empty : new.in_hand ≡ []
  pub passed : new.passed ≡ old.passed + length line
  pub within : new.passed ≤ most_bytes
  pub at_end : AtEnd to

-- nothing was in hand, and nothing was left
pub record ReadsNothing (old new : ReaderState) (from to : Option Stream) : Type 0 where
  pub moved : Takes from to []
  pub nothing : old.in_hand ≡ []
  pub empty : new.in_hand ≡ []
  pub at_end : AtEnd to

-- the line holds a byte too many
pub record ReadsTooMuch (old : ReaderState) (from to : Option Stream) : Type 0 where
  pub taken : List ℕ
  pub moved : Takes from to taken
  pub too_many : HasByteTooMany old.passed (old.in_hand ++ taken)

-- the source failed
pub record Fails (from to : Option Stream) (source : Count) : Type 0 where
  pub taken : List ℕ
  pub moved : Takes from to taken
  pub risen : HasRisen source

-- the source failed before there was a whole line
pub record ReadsFault (old : ReaderState) (from to : Option Stream) (source : Count) : Type 0 where
  pub taken : List ℕ
  pub moved : Takes from to taken
  pub one_line : IsOneLine (old.in_hand ++ taken)
  pub risen : HasRisen source

-- A line was begun and not ended: this much of it was read and cut off, and what was taken behind that is in hand.
pub record StopsWithin (old new : ReaderState) (from to : Option Stream) : Type 0 where
  pub line : List ℕ
  pub taken : List ℕ
  pub moved : Takes from to taken
  pub split : old.in_hand ++ taken ≡ line ++ new.in_hand
  pub one_line : IsOneLine line
  pub held : Holds new line
  pub passed : new.passed ≡ old.passed + length line

-- what reading a line does
abbrev pub Reads : ReaderState → ReaderState → Option Stream → Option Stream → Count → Cut → Type 0
Reads old new from to source Line = ReadsLine old new from to
Reads old new from to source Last = ReadsLast old new from to
Reads old new from to source End = ReadsNothing old new from to
Reads old new from to source Long = ReadsTooMuch old from to
Reads old new from to source Failed = ReadsFault old from to source

-- what was taken came to what was in hand; nothing was cut off, and the line that was read last is kept
pub record TakesOn (old new : ReaderState) (from to : Option Stream) : Type 0 where
  pub taken : List ℕ
  pub moved : Takes from to taken
  pub in_hand : new.in_hand ≡ old.in_hand ++ taken
  pub line : new.line ≡ old.line
  pub passed : new.passed ≡ old.passed

-- a look for one byte more: there is one, or nothing was in hand and nothing was left, or the source failed
abbrev pub LooksOn : {E : Type 0} → ReaderState → Option Stream → Option Stream → Count → Result Bool E → Type 0
LooksOn old from to source (Ok true) = (taken : List ℕ) × Takes from to taken × (old.in_hand ++ taken ≢ [])
LooksOn old from to source (Ok false) = Takes from to [] × (old.in_hand ≡ []) × AtEnd to
LooksOn old from to source (Err e) = Fails from to source
