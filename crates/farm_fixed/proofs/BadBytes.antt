-- The first bad byte of a text: the answer of the search is right.
use Rattle.std.proofs.Common.{◌≡◌, ℕ, ◌+◌, ◌<◌, ◌≤◌, suc, Bool, true, false, if◌then◌else◌, List, [], ◌∷◌, ◌++◌, length, take, Option, Some, None, refl, sym, ap, ◌∙◌, subst, arith}
use Rattle.farm_fixed.specs.Text.{Position, AtStart, IsNumber, IsBadAt, after, may_end, bad_then, bad_from, bad_offset}
use Rattle.farm_fixed.proofs.TextLaws.{Rest, completes, ends, ends_not, joins, splits}

-- offset is where a text that follows at a position goes wrong
pub record IsBadAfter (p : Position) (t : List ℕ) (offset : ℕ) : Type 0 where
  pub within : offset ≤ length t
  pub good_before : (rest : List ℕ) × Rest p (take offset t ++ rest)
  pub bad_there : offset < length t → (rest : List ℕ) → Rest p (take (offset + 1) t ++ rest) → ⊥
  pub too_short : offset ≡ length t → Rest p t → ⊥

-- a text that ends where none may end goes wrong there
bad_end : (p : Position) → may_end p ≡ false → IsBadAfter p [] 0
bad_end p e = record {
  within = omega arith;
  good_before = completes p;
  bad_there = λ short. absurd (omega arith);
  too_short = λ _ rest. ends_not p e rest;
}

-- a byte that may not follow goes wrong there
bad_byte : (p : Position) (b : ℕ) (t : List ℕ) → after p b ≡ None → IsBadAfter p (b ∷ t) 0
bad_byte p b t e = record {
  within = omega arith;
  good_before = completes p;
  bad_there = λ _ rest follows. let w = splits p b rest follows in let no : None ≡ Some w.0 = sym e ∙ w.1 in cc;
  too_short = λ none. absurd (omega arith);
}

-- a text goes wrong later
bad_later : (p : Position) (b : ℕ) (t : List ℕ) (q : Position) (offset : ℕ) → after p b ≡ Some q → IsBadAfter q t offset → IsBadAfter p (b ∷ t) (suc offset)
bad_later p b t q offset e bad = record {
  within = omega (arith, bad.within);
  good_before = (bad.good_before.0, joins p b (take offset t ++ bad.good_before.0) q e bad.good_before.1);
  bad_there = λ within rest follows.
      let w = splits p b (take (offset + 1) t ++ rest) (let one : suc offset + 1 ≡ suc (offset + 1) = omega arith in rw one at follows) in
      let same : w.0 ≡ q = (let both : Some w.0 ≡ Some q = sym w.1 ∙ e in cc) in
      bad.bad_there (omega arith) rest (subst (λ k. Rest k (take (offset + 1) t ++ rest)) same w.2);
  too_short = λ whole follows.
      let w = splits p b t follows in
      let same : w.0 ≡ q = (let both : Some w.0 ≡ Some q = sym w.1 ∙ e in cc) in
      bad.too_short (omega arith) (subst (λ k. Rest k t) same w.2);
}

-- an answer says whether a text may follow at a position, and else where it goes wrong
abbrev IsRight : Position → ℕ → List ℕ → Option ℕ → Type 0
IsRight p before t None = Rest p t
IsRight p before t (Some n) = (offset : ℕ) × (n ≡ before + offset) × IsBadAfter p t offset

-- the answer at the end is right
right_end : (p : Position) (before : ℕ) (end : Bool) → may_end p ≡ end → IsRight p before [] (if end then None else Some before)
right_end p before true e = ends p e
right_end p before false e = (0, omega arith, bad_end p e)

-- the answer after one byte is right
right_later : (p : Position) (before b : ℕ) (t : List ℕ) (q : Position) (answer : Option ℕ) → after p b ≡ Some q → IsRight q (before + 1) t answer → IsRight p before (b ∷ t) answer
right_later p before b t q None e right = joins p b t q e right
right_later p before b t q (Some n) e (offset, is, bad) = (suc offset, omega arith, bad_later p b t q offset e bad)

-- the answer at a byte is right
right_then : (p : Position) (before b : ℕ) (t : List ℕ) (next : Option Position) → ((q : Position) → IsRight q (before + 1) t (bad_from q (before + 1) t)) →
    after p b ≡ next → IsRight p before (b ∷ t) (bad_then next before (λ q. bad_from q (before + 1) t))
right_then p before b t None later e = (0, omega arith, bad_byte p b t e)
right_then p before b t (Some q) later e = right_later p before b t q (bad_from q (before + 1) t) e (later q)

-- `bad_from` says whether the text may follow, and else where it goes wrong
pub right_answer : (p : Position) (before : ℕ) (t : List ℕ) → IsRight p before t (bad_from p before t)
right_answer p before [] = right_end p before (may_end p) refl
right_answer p before (b ∷ t) = right_then p before b t (after p b) (λ q. right_answer q (before + 1) t) refl

-- the end of a number is accepted
accepts_end : (p : Position) (before : ℕ) (end : Bool) → may_end p ≡ end → Rest p [] → (if end then None else Some before) ≡ None
accepts_end p before true e rest = refl
accepts_end p before false e rest = absurd (ends_not p e rest)

-- what may follow is accepted
pub accepts : (p : Position) (before : ℕ) (t : List ℕ) → Rest p t → bad_from p before t ≡ None
accepts p before [] rest = accepts_end p before (may_end p) refl rest
accepts p before (b ∷ t) rest =
    let w = splits p b t rest in
    ap (λ next. bad_then next before (λ q. bad_from q (before + 1) t)) w.1 ∙ accepts w.0 (before + 1) t w.2

-- a text without a bad byte is a number
number_from : (text : List ℕ) (answer : Option ℕ) → answer ≡ None → IsRight AtStart 0 text answer → IsNumber text
number_from text None e right = right
number_from text (Some n) e right = cc

-- a text with no bad byte is a number's
pub number_from_none : (text : List ℕ) → bad_offset text ≡ None → IsNumber text
number_from_none text e = number_from text (bad_offset text) e (right_answer AtStart 0 text)

-- the offset that is answered is that of the first bad byte
bad_at_from : (text : List ℕ) (answer : Option ℕ) (n : ℕ) → answer ≡ Some n → IsRight AtStart 0 text answer → IsBadAt text n
bad_at_from text None n e right = cc
bad_at_from text (Some m) n e (offset, is, bad) =
    let same : n ≡ offset = omega (arith, (let k : m ≡ n = cc in k)) in
    rw same (record {
      within = bad.within;
      good_before = (bad.good_before.0, bad.good_before.1);
      bad_there = λ within begun. bad.bad_there within begun.0 begun.1;
      too_short = bad.too_short;
    })

-- the bad byte is where no number goes on
pub bad_at_from_some : (text : List ℕ) (offset : ℕ) → bad_offset text ≡ Some offset → IsBadAt text offset
bad_at_from_some text offset e = bad_at_from text (bad_offset text) offset e (right_answer AtStart 0 text)

-- a number's text has no bad byte
pub none_from_number : (text : List ℕ) → IsNumber text → bad_offset text ≡ None
none_from_number text number = accepts AtStart 0 text number
