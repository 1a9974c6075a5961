-- Answers to the open goals of `line_feed`.
use Rattle.std.proofs.Common.{◌≡◌, ℕ, ◌==◌, true, false, nat_lt, Option, Some, None, List, length, get_or, refl, arith}
use Rattle.std.proofs.lemmas.Bool.{false_from_ne_true}
use Rattle.std.proofs.lemmas.Bool.Decides.{nat_tests}
use Rattle.std.proofs.lemmas.List.Sums.{position_or_len_is}
use Rattle.std.specs.List.{position}
use Rattle.memchr.specs.Find.{IsFirstByte, is_byte}
use Rattle.calc_input.proofs.lines.line_feed.Goals as goal

-- the first byte of one value that `memchr` finds is the first by position
first_is : (separator : ℕ) (bytes : List ℕ) (found : Option ℕ) → IsFirstByte (is_byte separator) bytes found → found ≡ position (λ byte. byte == separator) bytes
first_is separator bytes None nowhere =
    let at = position_or_len_is (λ byte. byte == separator) bytes (length bytes) 0 (omega arith) (λ k within. false_from_ne_true (get_or bytes k 0 == separator) (nowhere k (omega arith) within)) (λ less. absurd (omega arith)) in
    let test : nat_lt (length bytes) (length bytes) ≡ false = grind (arith, nat_tests) in
    rw (at, test) refl
first_is separator bytes (Some k) first =
    let within = first.0.high in
    let at = position_or_len_is (λ byte. byte == separator) bytes k 0 (omega arith) (λ i less. false_from_ne_true (get_or bytes i 0 == separator) (first.0.before i (omega arith) less)) (λ _. first.1) in
    let test : nat_lt k (length bytes) ≡ true = grind (arith, nat_tests) in
    rw (at, test) refl

pub returns : goal.returns
returns c = first_is 10 c.args.bytes.now c.memchr.result c.memchr.ensures
