-- Prefixes of answers that are put one after another.
use Rattle.std.proofs.Common.{◌≡◌, ◌+◌, ◌-◌, arith, ℕ, true, false, List, [], ◌++◌, take, drop, Option, Result, Ok, Err, IsErr, refl, sym, ap, subst, ◌∙◌, append-nil, append_assoc}
use Rattle.std.proofs.Math.Seq.{take-add}
use Rattle.std.proofs.lemmas.List.{take-append-drop}
use Rattle.farm_base.proofs.Additions.{additions_add_up}
use Rattle.farm_base.proofs.Known.{adds_none}
use Rattle.farm_base.specs.Known.{Adds}
use Rattle.farm_ports.specs.Ports.{PutsAll}
use Rattle.farm_batch.specs.Puts.{PutsOn, PutsPrefix}

-- nothing was put
pub put_none : (held : Option (List ℕ)) (answers : List ℕ) → PutsPrefix held held answers answers
put_none held answers = record { put = []; added = adds_none held; split = refl }

-- all was put
pub put_whole : (old new : Option (List ℕ)) (answers : List ℕ) → Adds old new answers → PutsPrefix old new answers []
put_whole old new answers added = record { put = answers; added = added; split = sym (append-nil answers) }

-- if nothing is left, all was put
pub all_put : (old new : Option (List ℕ)) (answers left : List ℕ) → PutsPrefix old new answers left → left ≡ [] → Adds old new answers
all_put old new answers left puts none =
    subst (λ (text : List ℕ). Adds old new text) (sym (puts.split ∙ ap (λ left. puts.put ++ left) none ∙ append-nil puts.put)) puts.added

-- further answers are left after those that were
pub put_longer : (old new : Option (List ℕ)) (answers left more : List ℕ) → PutsPrefix old new answers left →
    PutsPrefix old new (answers ++ more) (left ++ more)
put_longer old new answers left more puts =
    record { put = puts.put; added = puts.added; split = ap (λ text. text ++ more) puts.split ∙ append_assoc puts.put left more }

-- of what was left a prefix was put
pub put_on : (old middle new : Option (List ℕ)) (answers left last : List ℕ) → PutsPrefix old middle answers left → PutsPrefix middle new left last →
    PutsPrefix old new answers last
put_on old middle new answers left last first second = record {
  put = first.put ++ second.put;
  added = additions_add_up old middle new first.put second.put first.added second.added;
  split = first.split ∙ ap (λ left. first.put ++ left) second.split ∙ sym (append_assoc first.put second.put last);
}

-- of what was left and a further answer a prefix was put
pub put_then : (old middle new : Option (List ℕ)) (answers left more last : List ℕ) → PutsPrefix old middle answers left →
    PutsPrefix middle new (left ++ more) last → PutsPrefix old new (answers ++ more) last
put_then old middle new answers left more last first second =
    put_on old middle new (answers ++ more) (left ++ more) last (put_longer old middle answers left more first) second

-- what is lost where a put failed
pub puts_failed : {T E : Type 0} (old new : Option (List ℕ)) (answers waiting lost : List ℕ) (result : Result T E) → IsErr result → waiting ≡ [] →
    PutsPrefix old new answers lost → PutsOn old new answers waiting result
puts_failed old new answers waiting lost (Ok done) failed none puts = let no : false ≡ true = failed in cc
puts_failed old new answers waiting lost (Err e) failed none puts = (none, lost, puts)

-- a put of all that waits leaves nothing
pub puts_all : {T E : Type 0} (old new : Option (List ℕ)) (answers : List ℕ) (result : Result T E) → PutsAll old new answers result →
    PutsOn old new answers [] result
puts_all old new answers (Ok done) puts = put_whole old new answers puts
puts_all old new answers (Err e) puts =
    (refl, drop puts.0 answers, record { put = take puts.0 answers; added = puts.2; split = sym (take-append-drop puts.0 answers) })

-- a prefix of a text and its next piece are a longer prefix
pub piece_after : (front text : List ℕ) (done count : ℕ) →
    (front ++ take done text) ++ take (done + count - done) (drop done text) ≡ front ++ take (done + count) text
piece_after front text done count =
    let count_is : done + count - done ≡ count = omega arith in
    ap (λ n. (front ++ take done text) ++ take n (drop done text)) count_is ∙ append_assoc front (take done text) (take count (drop done text))
    ∙ ap (λ t. front ++ t) (sym (take-add done count text))

-- and with the rest they are the text
pub rest_after : (front text : List ℕ) (done count : ℕ) →
    ((front ++ take done text) ++ take (done + count - done) (drop done text)) ++ drop (done + count) text ≡ front ++ text
rest_after front text done count =
    ap (λ t. t ++ drop (done + count) text) (piece_after front text done count) ∙ append_assoc front (take (done + count) text) (drop (done + count) text)
    ∙ ap (λ t. front ++ t) (take-append-drop (done + count) text)
