-- Options found among words take as many words as there are, and the words are a form of the options: each follows from the other.
use Rattle.std.proofs.Common.{◌≡◌, ◌≢◌, ℕ, zero, suc, ◌+◌, ◌≤◌, ◌==◌, List, [], ◌∷◌, ◌++◌, Bool, true, false, append-nil, cond, get_or, length, length-append, map, Option, Some, None, codes, option_and_then, refl, sym, ap, ◌∙◌, arith, ◌⊎◌, inl, inr}
use Rattle.std.specs.Prelude.{IsPermutation}
use Rattle.std.specs.List.{All, IsDistinct, flat_map, sum_by}
use Rattle.std.specs.Str.{bytes_eq}
use Rattle.std.proofs.lemmas.Bool.Decides.{nat_tests}
use Rattle.std.proofs.lemmas.List.Elements.{All-cons, All-head, All-nil, All-tail, All-from_recursion}
use Rattle.std.proofs.lemmas.List.Sorted.{All-permutation, IsPermutation-cons, IsPermutation-middle, IsPermutation-refl, IsPermutation-trans, sum_by-IsPermutation}
use Rattle.std.proofs.lemmas.List.Sums.{sum_by-cons}
use Rattle.std.proofs.lemmas.Map.Keys.{IsDistinct-IsPermutation, IsDistinct-head, IsDistinct-tail}
use Rattle.std.proofs.lemmas.Slice.Eq.{bytes_eq-Decides}
use Rattle.command_line.specs.Forms.{AreOptions, IsValue, Written, spelling}
use Rattle.command_line.specs.Options.{Spelled, option_in, spelled_by, spelled_here, spelled_joined, spelled_next, text_after, words_taken}
use Rattle.command_line.proofs.Beginnings.{Begins, IsPlain, Passes, after_itself, begins_or_passes, is_named, other_passes, value_passes}

-- the number of words of an option
abbrev pub words_or_none : Option Spelled → ℕ
words_or_none None = 0
words_or_none (Some option) = option.words

-- the number of words that the option of this name takes
abbrev pub taken_by : List (List ℕ) → List ℕ → ℕ
taken_by words name = words_or_none (option_in name words)

-- an option of this name is found
abbrev pub IsFound : List (List ℕ) → List ℕ → Type 0
IsFound words name = (option : Spelled) × (option_in name words ≡ Some option)

-- if a number of words is taken, an option of each name is found, and it is the sum of theirs
pub taken_is : (total : ℕ) (names words : List (List ℕ)) (n : ℕ) → words_taken total names words ≡ Some n →
    All (IsFound words) names × (n ≡ total + sum_by (taken_by words) names)
taken_is total [] words n e = (All-nil (IsFound words), (let same : total ≡ n = cc in omega arith))
taken_is total (name ∷ names) words n e = by (λ more h. taken_is (total + more) names words n h) (option_in name words) refl e
  where
    by : ((more : ℕ) → words_taken (total + more) names words ≡ Some n → All (IsFound words) names × (n ≡ (total + more) + sum_by (taken_by words) names)) →
        (o : Option Spelled) → option_in name words ≡ o → option_and_then (λ option. words_taken (total + option.words) names words) o ≡ Some n →
        All (IsFound words) (name ∷ names) × (n ≡ total + sum_by (taken_by words) (name ∷ names))
    by rest None f h = absurd (cc)
    by rest (Some option) f h =
        let later = rest option.words h in
        let first : taken_by words name ≡ option.words = ap words_or_none f in
        (All-cons (IsFound words) name names (option, f) later.0, omega (arith, later.1, sum_by-cons (taken_by words) name names))

-- and the other way
pub taken_of : (total : ℕ) (names words : List (List ℕ)) → All (IsFound words) names → words_taken total names words ≡ Some (total + sum_by (taken_by words) names)
taken_of total [] words found = ap Some (omega arith)
taken_of total (name ∷ names) words found =
    let here = All-head (IsFound words) name names found in
    let option = here.0 in
    let first : taken_by words name ≡ option.words = ap words_or_none here.1 in
    let sum : (total + option.words) + sum_by (taken_by words) names ≡ total + sum_by (taken_by words) (name ∷ names) = omega (arith, sum_by-cons (taken_by words) name names) in
    ap (option_and_then (λ option. words_taken (total + option.words) names words)) here.1 ∙ taken_of (total + option.words) names words (All-tail (IsFound words) name names found) ∙ ap Some sum

-- the option of a name is the same one among words and among later ones
abbrev pub IsLater : List (List ℕ) → List (List ℕ) → List ℕ → Type 0
IsLater words later name = option_in name words ≡ option_in name later

-- so are what they take
pub sum_later : (words later names : List (List ℕ)) → All (IsLater words later) names → sum_by (taken_by words) names ≡ sum_by (taken_by later) names
sum_later words later [] same = refl
sum_later words later (name ∷ names) same =
    let first : taken_by words name ≡ taken_by later name = ap words_or_none (All-head (IsLater words later) name names same) in
    omega (arith, sum_later words later names (All-tail (IsLater words later) name names same), sum_by-cons (taken_by words) name names, sum_by-cons (taken_by later) name names)

-- and that they are found
pub found_later : (words later names : List (List ℕ)) → All (IsLater words later) names → All (IsFound words) names → All (IsFound later) names
found_later words later names same found k d lt = (let f = found k d lt in (f.0, sym (same k d lt) ∙ f.1))

-- what spells a value is a value
pub value_is : (words : ℕ) (value : List ℕ) (option : Spelled) → spelled_by words value ≡ Some option → IsValue value × (option ≡ record { value = value; words = words })
value_is words [] option e = absurd (cc)
value_is words (byte ∷ bytes) option e = by (byte == 45) refl e
  where
    by : (b : Bool) → (byte == 45) ≡ b → cond b None (Some (record { value = byte ∷ bytes; words = words })) ≡ Some option →
        IsValue (byte ∷ bytes) × (option ≡ record { value = byte ∷ bytes; words = words })
    by true f h = absurd (cc)
    by false f h = ((λ same. grind (arith, nat_tests, f, same)), cc)

-- words are a form of options of these names
pub record IsFormOf (names words : List (List ℕ)) : Type 0 where
  pub options : List Written
  pub options_of : AreOptions names options
  pub spelled : words ≡ flat_map spelling options

-- one of the names begins at a word, or none does
pub record Here (names : List (List ℕ)) (word : List ℕ) : Type 0 where
  pub name : List ℕ
  pub others : List (List ℕ)
  pub rest : List ℕ
  pub order : IsPermutation names (name ∷ others)
  pub begins : Begins name word rest

pub here_or_not : (names : List (List ℕ)) (word : List ℕ) → Here names word ⊎ All (λ name. Passes name word) names
here_or_not [] word = inr (All-nil (λ name. Passes name word))
here_or_not (name ∷ names) word = by (begins_or_passes name word) (here_or_not names word)
  where
    by : ((rest : List ℕ) × Begins name word rest) ⊎ Passes name word → Here names word ⊎ All (λ name. Passes name word) names → Here (name ∷ names) word ⊎ All (λ name. Passes name word) (name ∷ names)
    by (inl begins) later = inl (record { name = name; others = names; rest = begins.0; order = IsPermutation-refl (name ∷ names); begins = begins.1 })
    by (inr passes) (inl here) = inl (record {
      name = here.name;
      others = name ∷ here.others;
      rest = here.rest;
      order = IsPermutation-trans _ _ _ (IsPermutation-cons name _ _ here.order) (IsPermutation-middle (name ∷ []) here.name here.others);
      begins = here.begins;
    })
    by (inr passes) (inr none) = inr (All-cons (λ name. Passes name word) name names passes none)

-- the options found among words take at most those words, and just them if the words are a form
pub record Fits (names words : List (List ℕ)) : Type 0 where
  pub within : sum_by (taken_by words) names ≤ length words
  pub form : sum_by (taken_by words) names ≡ length words → IsFormOf names words

-- names that may stand in one form: none has an equals sign, and no two are the same
pub record AreNames (names : List (List ℕ)) : Type 0 where
  pub plain : All IsPlain names
  pub distinct : IsDistinct bytes_eq names

bytes_eq-flip : (xs ys : List ℕ) → bytes_eq xs ys ≡ bytes_eq ys xs
bytes_eq-flip xs ys = grind (arith, bytes_eq-Decides)

-- names in another order
pub names_moved : (names others : List (List ℕ)) → IsPermutation names others → AreNames names → AreNames others
names_moved names others order are = record {
  plain = All-permutation IsPlain names others order are.plain;
  distinct = IsDistinct-IsPermutation bytes_eq bytes_eq-flip names others order are.distinct;
}

-- the first of names isn't among the others
pub others_differ : (name : List ℕ) (others : List (List ℕ)) → AreNames (name ∷ others) → All (λ other. other ≢ name) others
others_differ name others are k d lt same =
    let apart : bytes_eq name (get_or others k d) ≡ false = All-from_recursion (λ other. bytes_eq name other ≡ false) others (IsDistinct-head bytes_eq name others are.distinct) k d lt in
    grind (arith, bytes_eq-Decides, apart, same)

pub names_after : (name : List ℕ) (others : List (List ℕ)) → AreNames (name ∷ others) → AreNames others
names_after name others are = record { plain = All-tail IsPlain name others are.plain; distinct = IsDistinct-tail bytes_eq name others are.distinct }

-- what is to be shown of words
abbrev pub AreFitting : List (List ℕ) → Type 0
AreFitting words = (names : List (List ℕ)) → AreNames names → All (IsFound words) names → Fits names words

-- an option, and a form of the other names after it
formed : (option : Written) (words later : List (List ℕ)) (names others : List (List ℕ)) → IsPermutation names (option.name ∷ others) →
    words ≡ spelling option ++ later → IsValue option.value → IsFormOf others later → IsFormOf names words
formed option words later names others order spelled is form = record {
  options = option ∷ form.options;
  options_of = record {
    each_once = IsPermutation-trans names (option.name ∷ others) (option.name ∷ map (λ option. option.name) form.options) order (IsPermutation-cons option.name others (map (λ option. option.name) form.options) form.options_of.each_once);
    values = All-cons (λ option. IsValue option.value) option form.options is form.options_of.values;
  };
  spelled = spelled ∙ ap (λ rest. spelling option ++ rest) form.spelled;
}

-- if an option is the first of words, and those of the other names are among the words after it
with_option : (option : Written) (words later : List (List ℕ)) (names others : List (List ℕ)) → IsPermutation names (option.name ∷ others) →
    words ≡ spelling option ++ later → IsValue option.value → taken_by words option.name ≡ length (spelling option) →
    All (IsLater words later) others → Fits others later → Fits names words
with_option option words later names others order spelled is takes same fits =
    let sum : sum_by (taken_by words) names ≡ length (spelling option) + sum_by (taken_by later) others =
    omega (arith, sum_by-IsPermutation (taken_by words) names (option.name ∷ others) order, sum_by-cons (taken_by words) option.name others, sum_later words later others same, takes) in
    let long : length words ≡ length (spelling option) + length later = ap length spelled ∙ length-append (spelling option) later in
    record {
      within = omega (arith, fits.within);
      form = λ whole. formed option words later names others order spelled is (fits.form (omega (arith, whole)));
    }

-- no option of the other names begins where one of this name does
others_pass : (name : List ℕ) (others : List (List ℕ)) (word rest : List ℕ) → AreNames (name ∷ others) → Begins name word rest → All (λ other. Passes other word) others
others_pass name others word rest are begins k d lt =
    other_passes name (get_or others k d) word rest (All-head IsPlain name others are.plain) (All-tail IsPlain name others are.plain k d lt) begins
    (others_differ name others are k d lt)

-- an option that begins with its name alone has the next word as its value
two_words : (names : List (List ℕ)) (word : List ℕ) (words : List (List ℕ)) (name : List ℕ) (others : List (List ℕ)) → IsPermutation names (name ∷ others) →
    AreNames (name ∷ others) → Begins name word [] → IsFound (word ∷ words) name → All (IsFound (word ∷ words)) others →
    ((later : List (List ℕ)) → length later ≤ length words → AreFitting later) → Fits names (word ∷ words)
two_words names word words name others order are begins first found fitting = by words found fitting (sym is ∙ first.1) is
  where
    is : option_in name (word ∷ words) ≡ spelled_next words
    is = ap (λ o. spelled_here o words (option_in name words)) begins.after

    by : (words : List (List ℕ)) → All (IsFound (word ∷ words)) others → ((later : List (List ℕ)) → length later ≤ length words → AreFitting later) →
        spelled_next words ≡ Some first.0 → option_in name (word ∷ words) ≡ spelled_next words → Fits names (word ∷ words)
    by [] found fitting e is = absurd (cc)
    by (value ∷ words) found fitting e is =
        let good = value_is 2 value first.0 e in
        let option : Written = record { name = name; value = value; joined = false } in
        let named : word ≡ codes "--" ++ name = is_named name word [] begins.after ∙ ap (λ t. codes "--" ++ t) (append-nil name) in
        let takes : taken_by (word ∷ value ∷ words) name ≡ 2 = ap words_or_none (is ∙ e ∙ ap Some good.1) in
        let same : All (IsLater (word ∷ value ∷ words) words) others = λ k d lt.
        (others_pass name others word [] are begins k d lt).later (value ∷ words) ∙ (value_passes (get_or others k d) value good.0).later words in
        with_option option (word ∷ value ∷ words) words names others order (ap (λ w. w ∷ value ∷ words) named) good.0 takes same
        (fitting words (omega arith) others (names_after name others are) (found_later (word ∷ value ∷ words) words others same found))

-- an option that begins with its name and an equals sign has the rest of the word as its value
one_word : (names : List (List ℕ)) (word : List ℕ) (words : List (List ℕ)) (name : List ℕ) (others : List (List ℕ)) → IsPermutation names (name ∷ others) →
    AreNames (name ∷ others) → (byte : ℕ) (value : List ℕ) → Begins name word (byte ∷ value) → IsFound (word ∷ words) name → All (IsFound (word ∷ words)) others →
    AreFitting words → Fits names (word ∷ words)
one_word names word words name others order are byte value begins first found fitting =
    let equals : byte ∷ value ≡ codes "=" ++ value = ap (λ b. b ∷ value) begins.end in
    let joined : text_after (codes "=") (byte ∷ value) ≡ Some value = ap (text_after (codes "=")) equals ∙ after_itself (codes "=") value in
    let is : option_in name (word ∷ words) ≡ spelled_by 1 value =
    ap (λ o. spelled_here o words (option_in name words)) begins.after ∙ ap (λ o. spelled_joined o (option_in name words)) joined in
    let good = value_is 1 value first.0 (sym is ∙ first.1) in
    let option : Written = record { name = name; value = value; joined = true } in
    let named : word ≡ codes "--" ++ (name ++ (codes "=" ++ value)) = is_named name word (byte ∷ value) begins.after ∙ ap (λ t. codes "--" ++ (name ++ t)) equals in
    let takes : taken_by (word ∷ words) name ≡ 1 = ap words_or_none (first.1 ∙ ap Some good.1) in
    let same : All (IsLater (word ∷ words) words) others = λ k d lt. (others_pass name others word (byte ∷ value) are begins k d lt).later words in
    with_option option (word ∷ words) words names others order (ap (λ w. w ∷ words) named) good.0 takes same
    (fitting others (names_after name others are) (found_later (word ∷ words) words others same found))

-- a word and those after it, if those fit
next_fits : (word : List ℕ) (words : List (List ℕ)) → ((later : List (List ℕ)) → length later ≤ length words → AreFitting later) → AreFitting (word ∷ words)
next_fits word words fitting names are found = by (here_or_not names word)
  where
    at : (name : List ℕ) (others : List (List ℕ)) (rest : List ℕ) → IsPermutation names (name ∷ others) → Begins name word rest → Fits names (word ∷ words)
    at name others [] order begins =
        let all : All (IsFound (word ∷ words)) (name ∷ others) = All-permutation (IsFound (word ∷ words)) names (name ∷ others) order found in
        two_words names word words name others order (names_moved names (name ∷ others) order are) begins
        (All-head (IsFound (word ∷ words)) name others all) (All-tail (IsFound (word ∷ words)) name others all) fitting
    at name others (byte ∷ value) order begins =
        let all : All (IsFound (word ∷ words)) (name ∷ others) = All-permutation (IsFound (word ∷ words)) names (name ∷ others) order found in
        one_word names word words name others order (names_moved names (name ∷ others) order are) byte value begins
        (All-head (IsFound (word ∷ words)) name others all) (All-tail (IsFound (word ∷ words)) name others all) (fitting words (omega arith))

    by : Here names word ⊎ All (λ name. Passes name word) names → Fits names (word ∷ words)
    by (inl here) = at here.name here.others here.rest here.order here.begins
    by (inr none) =
        let same : All (IsLater (word ∷ words) words) names = λ k d lt. (none k d lt).later words in
        let sum = sum_later (word ∷ words) words names same in
        let fits = fitting words (omega arith) names are (found_later (word ∷ words) words names same found) in
        record { within = omega (arith, fits.within, sum); form = λ whole. absurd (omega (arith, fits.within, sum, whole)) }

-- without words there are no names
none_fits : AreFitting []
none_fits [] are found = record {
  within = omega arith;
  form = λ whole. record { options = []; options_of = record { each_once = IsPermutation-refl []; values = All-nil (λ option. IsValue option.value) }; spelled = refl };
}
none_fits (name ∷ names) are found = let first = All-head (IsFound []) name names found in absurd (let none : None ≡ Some first.0 = first.1 in cc)

-- words fit, of whatever number they are
fit_by : (most : ℕ) (words : List (List ℕ)) → length words ≤ most → AreFitting words
fit_by most [] few = none_fits
fit_by zero (word ∷ words) few = absurd (omega arith)
fit_by (suc most) (word ∷ words) few = next_fits word words (λ later short. fit_by most later (omega arith))

-- words are a form if the options take all of them
pub form_of : (names words : List (List ℕ)) → AreNames names → words_taken 0 names words ≡ Some (length words) → IsFormOf names words
form_of names words are taken =
    let counted = taken_is 0 names words (length words) taken in
    (fit_by (length words) words (omega arith) names are counted.0).form (omega (arith, counted.1))
