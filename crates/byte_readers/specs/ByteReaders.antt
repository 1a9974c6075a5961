-- Readers of bytes from left to right: of bytes and numbers, of one value after another, and of many of a kind. A reader gives a value and
-- the bytes after it, or a fault where bytes begin with no such value. The fault where bytes are missing is the first argument of those
-- that read bytes: each format has its own.
use Rattle.std.specs.Prelude.{◌≡◌, ℕ, zero, suc, Bool, nat_lt, if◌then◌else◌, List, [], ◌∷◌, length, take, drop, Result, Ok, Err, ℤ}
use Rattle.std.specs.Int.{Width, byte_len, cast_signed, from_be_bytes}
use Rattle.farm_base.specs.Steps.{◌>>=◌}

-- a call answers what a reader gives, its value seen by a view
abbrev pub Gives : {F X Y : Type 0} → (X → Y) → Result X F → Result Y F → Type 0
Gives view (Ok x) read = read ≡ Ok (view x)
Gives view (Err fault) read = read ≡ Err fault

-- a reader of values
abbrev pub Reader : Type 0 → Type 0 → Type 0
Reader F A = List ℕ → Result (A × List ℕ) F

-- one value, and then another whose reader depends on the first
abbrev pub then_at : {F A B : Type 0} → Reader F A → (A → Reader F B) → Reader F (A × B)
then_at first second bytes = first bytes >>= λ a. second a.0 a.1 >>= λ b. Ok ((a.0, b.0), b.1)

infixr 12 ◌▸◌
-- one value and then another
abbrev pub ◌▸◌ : {F A B : Type 0} → Reader F A → Reader F B → Reader F (A × B)
first ▸ second = then_at first (λ _. second)

-- what follows a value and is read by it
abbrev pub after_at : {F A B : Type 0} → Reader F A → (A → Reader F B) → Reader F B
after_at first second bytes = first bytes >>= λ a. second a.0 a.1

-- what is made of a value
abbrev pub made_at : {F A B : Type 0} → (A → B) → Reader F A → Reader F B
made_at make read bytes = read bytes >>= λ a. Ok (make a.0, a.1)

-- a value that passes a test; for one that doesn't, the fault of the bytes that it was read from
abbrev pub tested_at : {F A : Type 0} → (A → Bool) → (List ℕ → F) → Reader F A → Reader F A
tested_at test fault read bytes = read bytes >>= λ a. if test a.0 then Ok a else Err (fault bytes)

-- a byte
abbrev pub byte_at : {F : Type 0} → F → Reader F ℕ
byte_at short [] = Err short
byte_at short (byte ∷ bytes) = Ok (byte, bytes)

-- a number of a width, high byte first
abbrev pub number_at : {F : Type 0} → F → Width → Reader F ℕ
number_at short w bytes =
    if nat_lt (length bytes) (byte_len w) then Err short else Ok (from_be_bytes w (take (byte_len w) bytes), drop (byte_len w) bytes)

-- a signed number
unfoldable pub signed_at : {F : Type 0} → F → Width → Reader F ℤ
signed_at short w = made_at (cast_signed w) (number_at short w)

-- this many values
abbrev pub counted_at : {F A : Type 0} → Reader F A → ℕ → Reader F (List A)
counted_at read zero bytes = Ok ([], bytes)
counted_at read (suc count) bytes = made_at (λ items. items.0 ∷ items.1) (read ▸ counted_at read count) bytes
