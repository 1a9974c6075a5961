-- The registers that bytes begin with.
use Rattle.std.proofs.Common.{◌≡◌, ℕ, zero, suc, ◌+◌, ◌*◌, ◌-◌, ◌<◌, ◌≤◌, List, [], ◌∷◌, ◌++◌, length, drop, replicate, get_or, refl, ap, ap₂, sym, ◌∙◌, arith, add-one, append_assoc, subst, length-drop}
use Rattle.std.proofs.Math.ListN.{set}
use Rattle.std.proofs.Math.Seq.{set-append_seam}
use Rattle.std.proofs.lemmas.List.{get_or-drop, take-append-le, drop-append-le}
use Rattle.std.proofs.lemmas.Grind.{common_steps}
use Rattle.std.specs.Int.{from_be_bytes, w16}
use Rattle.modbus_frame.specs.declared.frame.Registers.{Registers}
use Rattle.modbus_frame.specs.Frames.{registers_of}
use Rattle.modbus_frame.specs.Fields.{number_at, words_of}

-- as many registers as are read
pub length-words_of : (count : ℕ) (bytes : List ℕ) → length (words_of count bytes) ≡ count
length-words_of zero bytes = refl
length-words_of (suc count) bytes = ap suc (length-words_of count (drop 2 bytes))

-- the number at an offset, from its two bytes
pub number_at-bytes : (offset : ℕ) (bytes : List ℕ) → number_at offset bytes ≡ get_or bytes offset 0 * 256 + get_or bytes (offset + 1) 0
number_at-bytes offset bytes = grind (arith, common_steps)

-- a number of what is left without the first two bytes
number_at-drop : (count : ℕ) (bytes : List ℕ) → number_at (2 * count) (drop 2 bytes) ≡ number_at (2 * suc count) bytes
number_at-drop count bytes =
    let here : 2 + 2 * count ≡ 2 * suc count = omega arith in
    let next : 2 + (2 * count + 1) ≡ 2 * suc count + 1 = omega arith in
    let first = get_or-drop 2 bytes (2 * count) 0 ∙ ap (λ n. get_or bytes n 0) here in
    let second = get_or-drop 2 bytes (2 * count + 1) 0 ∙ ap (λ n. get_or bytes n 0) next in
    number_at-bytes (2 * count) (drop 2 bytes) ∙ ap₂ (λ a b. a * 256 + b) first second ∙ sym (number_at-bytes (2 * suc count) bytes)

-- one more register
words_of-suc : (count : ℕ) (bytes : List ℕ) → words_of (suc count) bytes ≡ words_of count bytes ++ number_at (2 * count) bytes ∷ []
words_of-suc zero bytes = refl
words_of-suc (suc count) bytes =
    ap (λ words. number_at 0 bytes ∷ words)
    (words_of-suc count (drop 2 bytes) ∙ ap (λ word. words_of count (drop 2 bytes) ++ word ∷ []) (number_at-drop count bytes))

-- one item fewer of the zeros
zeros-less : (count : ℕ) → count < 125 → replicate {A = ℕ} (125 - count) 0 ≡ 0 ∷ replicate (125 - (count + 1)) 0
zeros-less count below =
    let less : 125 - count ≡ suc (125 - (count + 1)) = omega arith in
    ap (λ n. replicate {A = ℕ} n 0) less

-- one more register, written over the first of the zeros
pub words_of-set : (count : ℕ) (bytes : List ℕ) (word : ℕ) → count < 125 → word ≡ number_at (2 * count) bytes →
    set (words_of count bytes ++ replicate (125 - count) 0) count word ≡ words_of (count + 1) bytes ++ replicate (125 - (count + 1)) 0
words_of-set count bytes word below is =
    let words : List ℕ = words_of count bytes in
    let left : List ℕ = replicate (125 - (count + 1)) 0 in
    let at : ℕ → Type 0 = λ n. set (words ++ 0 ∷ left) n word ≡ words ++ word ∷ left in
    let written : at count = subst at (length-words_of count bytes) (set-append_seam words 0 left word) in
    let more : words_of (count + 1) bytes ≡ words ++ word ∷ [] = rw add-one (words_of-suc count bytes ∙ ap (λ w. words ++ w ∷ []) (sym is)) in
    rw (zeros-less count below, more) (written ∙ sym (append_assoc words (word ∷ []) left))

-- the registers, and zeros after them
pub registers_of-words : (count read : ℕ) (bytes words : List ℕ) → read ≡ count → words ≡ words_of read bytes ++ replicate (125 - read) 0 →
    let registers : Registers = record { count = count; words = words } in registers ≡ registers_of (words_of count bytes)
registers_of-words count read bytes words all is =
    let make : ℕ → List ℕ → Registers = λ n ws. record { count = n; words = ws } in
    let filled : words ≡ words_of count bytes ++ replicate (125 - count) 0 = is ∙ ap (λ n. words_of n bytes ++ replicate (125 - n) 0) all in
    ap (make count) filled ∙ ap (λ n. make n (words_of count bytes ++ replicate (125 - n) 0)) (sym (length-words_of count bytes))

-- the registers stay as they are when bytes follow
pub words_of-append : (count : ℕ) (bytes more : List ℕ) → 2 * count ≤ length bytes → words_of count (bytes ++ more) ≡ words_of count bytes
words_of-append zero bytes more whole = refl
words_of-append (suc count) bytes more whole =
    let two : 2 ≤ length bytes = omega arith in
    let left : 2 * count ≤ length (drop 2 bytes) = omega (arith, length-drop 2 bytes) in
    let first : number_at 0 (bytes ++ more) ≡ number_at 0 bytes = ap (from_be_bytes w16) (take-append-le 2 bytes more two) in
    let others = ap (words_of count) (drop-append-le 2 bytes more two) ∙ words_of-append count (drop 2 bytes) more left in
    ap₂ (λ word words. word ∷ words) first others
