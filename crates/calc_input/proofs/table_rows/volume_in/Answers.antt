-- Answers to the open goals of `volume_in`.
use Rattle.std.proofs.Common.{◌≡◌, ℕ, ◌==◌, not, List, [], ◌∷◌, length, Option, Some, None, refl, ap, ◌∙◌, rules, tests}
use Rattle.std.proofs.lemmas.Iterator.{YieldsList}
use Rattle.std.proofs.lemmas.Iterator.Consumers.{YieldsList-from_filter, YieldsList-at}
use Rattle.std.proofs.lemmas.Iterator.Splits.{YieldsList-from_slice_split}
use Rattle.farm_base.specs.Bytes.{is_blank}
use Rattle.calc_input.specs.Fields.{volume_of}
use Rattle.calc_input.specs.Lines.{words_of}
use Rattle.calc_input.specs.TableRows.{volume_in}
use Rattle.calc_input.proofs.table_rows.volume_in.Goals as goal

-- a line without a word has no volume,
no_word : {S A : Type 0} {steps : S → Option A → S → Type 0} {v : A → List ℕ} {s : S} (t : S) (words : List (List ℕ)) → steps s None t → YieldsList steps v s words → None ≡ volume_in words
no_word t [] none yields = refl
no_word t (word ∷ words) none yields = absurd (yields.runs.0 t none)

-- nor has a line of two words or more,
two_words : {S A : Type 0} {steps : S → Option A → S → Type 0} {v : A → List ℕ} {s : S} (t u : S) (x y : A) (words : List (List ℕ)) → steps s (Some x) t → steps t (Some y) u → YieldsList steps v s words →
    None ≡ volume_in words
two_words t u x y [] first second yields = absurd (yields.runs x t first)
two_words t u x y (word ∷ []) first second yields = absurd ((yields.runs.1 x t first).1 y u second)
two_words t u x y (word ∷ next ∷ words) first second yields = refl

-- and a line of one word has the volume of that
one_word : {S A : Type 0} {steps : S → Option A → S → Type 0} {v : A → List ℕ} {s : S} (t u : S) (x : A) (words : List (List ℕ)) → steps s (Some x) t → steps t None u → YieldsList steps v s words →
    volume_of (v x) ≡ volume_in words
one_word t u x [] first none yields = absurd (yields.runs x t first)
one_word t u x (word ∷ []) first none yields = ap volume_of (yields.runs.1 x t first).0
one_word t u x (word ∷ next ∷ words) first none yields = absurd ((yields.runs.1 x t first).1.0 u none)

pub returns-in_err-word : goal.returns-in_err-word
unfolding words_of
returns-in_err-word c =
    c.from_residual.ensures ∙ no_word c.next.new.self (words_of c.args.line.now) c.in_err-word.ensures.steps
    (YieldsList-from_filter _ (λ word. not (length word == 0))
    (YieldsList-at c.filter-words.ensures.source (YieldsList-from_slice_split _ is_blank c.args.line.now c.split.ensures.rest c.split.ensures.done c.split.ensures.closure (λ x r q k. search (rules, tests))))
    c.filter-words.ensures.closure (λ x r q k. search (rules, tests)))

pub returns-in-Some : goal.returns-in-Some
unfolding words_of
returns-in-Some c =
    two_words c.next.new.self c.next-2.new.self c.in_ok-word.word c.in-Some.field-0 (words_of c.args.line.now) c.in_ok-word.ensures.steps c.in-Some.ensures.steps
    (YieldsList-from_filter _ (λ word. not (length word == 0))
    (YieldsList-at c.filter-words.ensures.source (YieldsList-from_slice_split _ is_blank c.args.line.now c.split.ensures.rest c.split.ensures.done c.split.ensures.closure (λ x r q k. search (rules, tests))))
    c.filter-words.ensures.closure (λ x r q k. search (rules, tests)))

pub returns-in-None : goal.returns-in-None
unfolding words_of
returns-in-None c =
    c.volume_of.ensures.value ∙ one_word c.next.new.self c.next-2.new.self c.in_ok-word.word (words_of c.args.line.now) c.in_ok-word.ensures.steps c.in-None.ensures.steps
    (YieldsList-from_filter _ (λ word. not (length word == 0))
    (YieldsList-at c.filter-words.ensures.source (YieldsList-from_slice_split _ is_blank c.args.line.now c.split.ensures.rest c.split.ensures.done c.split.ensures.closure (λ x r q k. search (rules, tests))))
    c.filter-words.ensures.closure (λ x r q k. search (rules, tests)))
