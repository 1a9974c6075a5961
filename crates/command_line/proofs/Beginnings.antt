-- Where an option of a name begins among words, and where it doesn't.
use Rattle.std.proofs.Common.{◌≡◌, ◌≢◌, ℕ, List, [], ◌∷◌, ◌++◌, Bool, true, false, cond, length, take, drop, Option, Some, None, codes, option_and_then, refl, sym, ap, subst, ◌∙◌, arith, ◌⊎◌, inl, inr}
use Rattle.std.proofs.lemmas.Slice.Eq.{bytes_eq-Decides}
use Rattle.std.proofs.Math.Seq.{drop-append_seam}
use Rattle.std.proofs.lemmas.List.{take-append-drop}
use Rattle.std.specs.Str.{bytes_eq}
use Rattle.command_line.specs.Forms.{IsValue}
use Rattle.command_line.specs.Options.{after_name, option_in, spelled_here, spelled_joined, text_after}
use Rattle.command_line.proofs.Fronts.{after_front}

-- what follows the prefix of a text is its rest
pub after_itself : (front rest : List ℕ) → text_after front (front ++ rest) ≡ Some rest
after_itself front rest = sym (after_front front (front ++ rest) rest refl (sym (drop-append_seam front rest)))

-- a text with this rest after a prefix is the prefix and the rest
pub is_after : (front text rest : List ℕ) → text_after front text ≡ Some rest → text ≡ front ++ rest
is_after front text rest = by (bytes_eq (take (length front) text) front) refl
  where
    by : (b : Bool) → bytes_eq (take (length front) text) front ≡ b → cond b (Some (drop (length front) text)) None ≡ Some rest → text ≡ front ++ rest
    by false e h = absurd (cc)
    by true e h =
        let same : take (length front) text ≡ front = grind (arith, bytes_eq-Decides, e) in
        let rest_is : drop (length front) text ≡ rest = cc in
        sym (take-append-drop (length front) text) ∙ ap (λ t. t ++ drop (length front) text) same ∙ ap (λ t. front ++ t) rest_is

-- a word with a rest after an option's name is two minuses, the name and the rest
pub is_named : (name word rest : List ℕ) → after_name name word ≡ Some rest → word ≡ codes "--" ++ (name ++ rest)
is_named name word rest = by (text_after (codes "--") word) refl
  where
    by : (o : Option (List ℕ)) → text_after (codes "--") word ≡ o → option_and_then (text_after name) o ≡ Some rest → word ≡ codes "--" ++ (name ++ rest)
    by None f h = absurd (cc)
    by (Some text) f h = is_after (codes "--") word text f ∙ ap (λ t. codes "--" ++ t) (is_after name text rest h)

-- such a word has the rest after the name
pub named_after : (name rest : List ℕ) → after_name name (codes "--" ++ (name ++ rest)) ≡ Some rest
named_after name rest = ap (option_and_then (text_after name)) (after_itself (codes "--") (name ++ rest)) ∙ after_itself name rest

-- what may follow an option's name: nothing, or an equals sign and more
abbrev pub IsEnd : List ℕ → Type 0
IsEnd [] = Unit {0}
IsEnd (byte ∷ rest) = byte ≡ 61

-- a name without an equals sign
abbrev pub IsPlain : List ℕ → Type 0
IsPlain [] = Unit {0}
IsPlain (byte ∷ name) = (byte ≢ 61) × IsPlain name

-- an option of this name begins at a word, which has this rest after the name
pub record Begins (name word rest : List ℕ) : Type 0 where
  pub after : after_name name word ≡ Some rest
  pub end : IsEnd rest

-- no option of this name begins at a word
pub record Passes (name word : List ℕ) : Type 0 where
  pub later : (words : List (List ℕ)) → option_in name (word ∷ words) ≡ option_in name words

-- at each word an option of the name begins, or none does
pub begins_or_passes : (name word : List ℕ) → ((rest : List ℕ) × Begins name word rest) ⊎ Passes name word
begins_or_passes name word = by (after_name name word) refl
  where
    joined : (byte : ℕ) (rest : List ℕ) → after_name name word ≡ Some (byte ∷ rest) → (o : Option (List ℕ)) → text_after (codes "=") (byte ∷ rest) ≡ o →
        ((rest : List ℕ) × Begins name word rest) ⊎ Passes name word
    joined byte rest f None e = inr (record {
      later = λ words. ap (λ o. spelled_here o words (option_in name words)) f ∙ ap (λ o. spelled_joined o (option_in name words)) e;
    })
    joined byte rest f (Some value) e = inl (codes "=" ++ value, record { after = f ∙ ap Some (is_after (codes "=") (byte ∷ rest) value e); end = refl })

    by : (o : Option (List ℕ)) → after_name name word ≡ o → ((rest : List ℕ) × Begins name word rest) ⊎ Passes name word
    by None f = inr (record { later = λ words. ap (λ o. spelled_here o words (option_in name words)) f })
    by (Some []) f = inl ([], record { after = f; end = tt })
    by (Some (byte ∷ rest)) f = joined byte rest f (text_after (codes "=") (byte ∷ rest)) refl

-- names without an equals sign are the same if they are followed by such ends to the same text
pub same_name : (n m r s : List ℕ) → IsPlain n → IsPlain m → IsEnd r → IsEnd s → n ++ r ≡ m ++ s → n ≡ m
same_name [] [] r s p q h k e = refl
same_name [] (c ∷ m) r s p q h k e = absurd (q.0 (subst IsEnd e h))
same_name (b ∷ n) [] r s p q h k e = absurd (p.0 (subst IsEnd (sym e) k))
same_name (b ∷ n) (c ∷ m) r s p q h k e =
    let heads : b ≡ c = cc in
    let tails : n ++ r ≡ m ++ s = cc in
    let rest : n ≡ m = same_name n m r s p.1 q.1 h k tails in
    cc

-- if an option of one name begins, none of another name does
pub other_passes : (name other word rest : List ℕ) → IsPlain name → IsPlain other → Begins name word rest → other ≢ name → Passes other word
other_passes name other word rest plain plain_other begins differ = by (begins_or_passes other word)
  where
    by : ((more : List ℕ) × Begins other word more) ⊎ Passes other word → Passes other word
    by (inl found) =
        let here : word ≡ codes "--" ++ (name ++ rest) = is_named name word rest begins.after in
        let there : word ≡ codes "--" ++ (other ++ found.0) = is_named other word found.0 found.1.after in
        let same : other ++ found.0 ≡ name ++ rest = cc in
        absurd (differ (same_name other name found.0 rest plain_other plain found.1.end begins.end same))
    by (inr passes) = passes

-- none begins at a value
pub value_passes : (name value : List ℕ) → IsValue value → Passes name value
value_passes name value is = by (begins_or_passes name value)
  where
    by : ((rest : List ℕ) × Begins name value rest) ⊎ Passes name value → Passes name value
    by (inl found) = absurd (subst IsValue (is_named name value found.0 found.1.after) is refl)
    by (inr passes) = passes
