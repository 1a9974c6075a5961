-- The fields by their number: when each disagrees, and that a field has to do with no byte past its end.
use Rattle.std.proofs.Common.{◌≡◌, ℕ, zero, suc, ◌+◌, ◌-◌, ◌*◌, ◌≤◌, Bool, false, List, ◌++◌, length, take, refl, ap, ap₂, sym, ◌∙◌, lit≤, lit<, arith, add-zero, add-suc, subst}
use Rattle.std.specs.Prelude.{◌==◌, not}
use Rattle.std.proofs.lemmas.List.{get_or-take, take-append-le}
use Rattle.modbus_frame.specs.declared.expect.Expect.{Expect}
use Rattle.modbus_frame.specs.Frames.{field_end}
use Rattle.modbus_frame.specs.Fields.{byte_at, is_wrong_count, is_wrong_function, is_wrong_length, number_at}
use Rattle.modbus_frame.proofs.Words.{number_at-bytes}

-- a field disagrees, where all its bytes are there
abbrev pub disagrees : ℕ → Expect → List ℕ → Bool
disagrees zero expect bytes = false
disagrees (suc zero) expect bytes = not (number_at 0 bytes == expect.transaction)
disagrees (suc (suc zero)) expect bytes = not (number_at 2 bytes == 0)
disagrees (suc (suc (suc zero))) expect bytes = is_wrong_length expect (number_at 4 bytes)
disagrees (suc (suc (suc (suc zero)))) expect bytes = not (byte_at 6 bytes == expect.unit)
disagrees (suc (suc (suc (suc (suc zero))))) expect bytes = is_wrong_function expect (number_at 4 bytes) (byte_at 7 bytes)
disagrees (suc (suc (suc (suc (suc (suc field)))))) expect bytes = is_wrong_count expect (byte_at 7 bytes) (byte_at 8 bytes)

-- a number has to do with the bytes up to its end
pub number_at-take : (offset end : ℕ) (bytes : List ℕ) → offset + 2 ≤ end → number_at offset (take end bytes) ≡ number_at offset bytes
number_at-take offset end bytes within =
    let first = get_or-take end bytes offset 0 (omega arith) in
    let second = get_or-take end bytes (offset + 1) 0 (omega arith) in
    number_at-bytes offset (take end bytes) ∙ ap₂ (λ a b. a * 256 + b) first second ∙ sym (number_at-bytes offset bytes)

-- a number stays as it is when bytes follow
pub number_at-append : (offset : ℕ) (bytes more : List ℕ) → offset + 2 ≤ length bytes → number_at offset (bytes ++ more) ≡ number_at offset bytes
number_at-append offset bytes more within =
    sym (number_at-take offset (offset + 2) (bytes ++ more) (omega arith))
    ∙ ap (number_at offset) (take-append-le (offset + 2) bytes more within)
    ∙ number_at-take offset (offset + 2) bytes (omega arith)

-- a field has to do with the bytes up to its end
pub disagrees-take : (field : ℕ) (expect : Expect) (bytes : List ℕ) → field ≤ 6 → disagrees field expect (take (field_end field) bytes) ≡ disagrees field expect bytes
disagrees-take zero expect bytes last = refl
disagrees-take (suc zero) expect bytes last = ap (λ n. not (n == expect.transaction)) (number_at-take 0 2 bytes (lit≤ tt))
disagrees-take (suc (suc zero)) expect bytes last = ap (λ n. not (n == 0)) (number_at-take 2 4 bytes (lit≤ tt))
disagrees-take (suc (suc (suc zero))) expect bytes last = ap (is_wrong_length expect) (number_at-take 4 6 bytes (lit≤ tt))
disagrees-take (suc (suc (suc (suc zero)))) expect bytes last = ap (λ n. not (n == expect.unit)) (get_or-take 7 bytes 6 0 (lit< tt))
disagrees-take (suc (suc (suc (suc (suc zero))))) expect bytes last = ap₂ (is_wrong_function expect) (number_at-take 4 8 bytes (lit≤ tt)) (get_or-take 8 bytes 7 0 (lit< tt))
disagrees-take (suc (suc (suc (suc (suc (suc zero)))))) expect bytes last = ap₂ (is_wrong_count expect) (get_or-take 9 bytes 7 0 (lit< tt)) (get_or-take 9 bytes 8 0 (lit< tt))
disagrees-take (suc (suc (suc (suc (suc (suc (suc field))))))) expect bytes last = absurd (omega arith)

-- a whole field stays as it is when bytes follow
pub disagrees-append : (field : ℕ) (expect : Expect) (bytes more : List ℕ) → field ≤ 6 → field_end field ≤ length bytes →
    disagrees field expect (bytes ++ more) ≡ disagrees field expect bytes
disagrees-append field expect bytes more last whole =
    sym (disagrees-take field expect (bytes ++ more) last)
    ∙ ap (disagrees field expect) (take-append-le (field_end field) bytes more whole)
    ∙ disagrees-take field expect bytes last

-- a field ends at the ninth byte or before
pub field_end-nine : (field : ℕ) → field_end field ≤ 9
field_end-nine zero = lit≤ tt
field_end-nine (suc zero) = lit≤ tt
field_end-nine (suc (suc zero)) = lit≤ tt
field_end-nine (suc (suc (suc zero))) = lit≤ tt
field_end-nine (suc (suc (suc (suc zero)))) = lit≤ tt
field_end-nine (suc (suc (suc (suc (suc zero))))) = lit≤ tt
field_end-nine (suc (suc (suc (suc (suc (suc zero)))))) = lit≤ tt
field_end-nine (suc (suc (suc (suc (suc (suc (suc field))))))) = lit≤ tt

-- the next field ends further on
field_end-suc : (field : ℕ) → field_end field ≤ field_end (suc field)
field_end-suc zero = lit≤ tt
field_end-suc (suc zero) = lit≤ tt
field_end-suc (suc (suc zero)) = lit≤ tt
field_end-suc (suc (suc (suc zero))) = lit≤ tt
field_end-suc (suc (suc (suc (suc zero)))) = lit≤ tt
field_end-suc (suc (suc (suc (suc (suc zero))))) = lit≤ tt
field_end-suc (suc (suc (suc (suc (suc (suc field)))))) = field_end-nine (suc (suc (suc (suc (suc (suc field))))))

-- a later field ends no sooner
field_end-rises : (field more : ℕ) → field_end field ≤ field_end (field + more)
field_end-rises field zero = rw add-zero (omega arith)
field_end-rises field (suc more) =
    let next = field_end-suc (field + more) in
    rw add-suc (omega (arith, field_end-rises field more))

-- a field before another one ends no later
pub ends-before : (earlier field : ℕ) → earlier ≤ field → field_end earlier ≤ field_end field
ends-before earlier field before =
    let same : earlier + (field - earlier) ≡ field = omega arith in
    let Ends : ℕ → Type 0 = λ f. field_end earlier ≤ field_end f in
    subst Ends same (field_end-rises earlier (field - earlier))
