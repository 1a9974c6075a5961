-- What is found of the options in whose form words are.
use Rattle.std.proofs.Common.{◌≡◌, ◌≢◌, ℕ, ◌+◌, ◌==◌, if◌then◌else◌, List, [], ◌∷◌, ◌++◌, Bool, true, false, append-nil, cond, length, length-append, map, Option, Some, None, codes, refl, sym, ap, ◌∙◌, arith, ◌⊎◌, inl, inr}
use Rattle.std.specs.List.{All, flat_map, sum_by}
use Rattle.std.specs.Str.{bytes_eq}
use Rattle.std.proofs.lemmas.Bool.Decides.{nat_tests}
use Rattle.std.proofs.lemmas.List.Elements.{All-cons, All-head, All-nil, All-tail}
use Rattle.std.proofs.lemmas.List.Sorted.{All-permutation, IsPermutation-sym, sum_by-IsPermutation}
use Rattle.std.proofs.lemmas.List.Sums.{sum_by-cons}
use Rattle.std.proofs.lemmas.Slice.Eq.{bytes_eq-Decides}
use Rattle.command_line.specs.Forms.{AreOptions, IsValue, Written, spelling, value_among}
use Rattle.command_line.specs.Options.{Spelled, after_name, option_in, spelled_by, spelled_here, spelled_joined, value_or_empty, words_taken}
use Rattle.command_line.proofs.Beginnings.{Begins, IsPlain, after_itself, named_after, other_passes, value_passes}
use Rattle.command_line.proofs.Forms.{AreNames, IsFound, names_after, names_moved, others_differ, taken_by, taken_of, words_or_none}

-- an option as it is found
abbrev pub found_of : Written → Spelled
found_of option = record { value = option.value; words = length (spelling option) }

-- it is found among words
abbrev pub Finds : List (List ℕ) → Written → Type 0
Finds words option = option_in option.name words ≡ Some (found_of option)

-- a value is spelled
value_spelled : (words : ℕ) (value : List ℕ) → IsValue value → spelled_by words value ≡ Some (record { value = value; words = words })
value_spelled words [] is = absurd is
value_spelled words (byte ∷ bytes) is = by (byte == 45) refl
  where
    by : (b : Bool) → (byte == 45) ≡ b → cond {A = Option Spelled} b None (Some (record { value = byte ∷ bytes; words = words })) ≡ Some (record { value = byte ∷ bytes; words = words })
    by true f = absurd (is (grind (arith, nat_tests, f)))
    by false f = refl

-- the first word of an option
abbrev first_word : List ℕ → List ℕ → Bool → List ℕ
first_word name value joined = if joined then codes "--" ++ (name ++ (codes "=" ++ value)) else codes "--" ++ name

-- the option begins there
begins_there : (name value : List ℕ) (joined : Bool) → (rest : List ℕ) × Begins name (first_word name value joined) rest
begins_there name value true = (codes "=" ++ value, record { after = named_after name (codes "=" ++ value); end = refl })
begins_there name value false = ([], record { after = ap (λ t. after_name name (codes "--" ++ t)) (sym (append-nil name)) ∙ named_after name []; end = tt })

-- the first option is found
first_found : (name value : List ℕ) (joined : Bool) (later : List (List ℕ)) → IsValue value →
    (let option : Written = record { name = name; value = value; joined = joined } in Finds (spelling option ++ later) option)
first_found name value true later is =
    let word : List ℕ = codes "--" ++ (name ++ (codes "=" ++ value)) in
    ap (λ o. spelled_here o later (option_in name later)) (named_after name (codes "=" ++ value)) ∙
    ap (λ o. spelled_joined o (option_in name later)) (after_itself (codes "=") value) ∙ value_spelled 1 value is
first_found name value false later is =
    let after : after_name name (codes "--" ++ name) ≡ Some [] = ap (λ t. after_name name (codes "--" ++ t)) (sym (append-nil name)) ∙ named_after name [] in
    ap (λ o. spelled_here o (value ∷ later) (option_in name (value ∷ later))) after ∙ value_spelled 2 value is

-- an option of another name is found among the words after it
other_later : (name value : List ℕ) (joined : Bool) (later : List (List ℕ)) (other : List ℕ) → IsPlain name → IsPlain other → IsValue value → other ≢ name →
    option_in other (spelling (record { name = name; value = value; joined = joined }) ++ later) ≡ option_in other later
other_later name value true later other plain plain_other is differ =
    let begins = begins_there name value true in
    (other_passes name other (first_word name value true) begins.0 plain plain_other begins.1 differ).later later
other_later name value false later other plain plain_other is differ =
    let begins = begins_there name value false in
    (other_passes name other (first_word name value false) begins.0 plain plain_other begins.1 differ).later (value ∷ later) ∙ (value_passes other value is).later later

-- those that are found later are found
found_before : (option : Written) (later : List (List ℕ)) (options : List Written) → IsPlain option.name → IsValue option.value →
    All IsPlain (map (λ option. option.name) options) → All (λ other. other ≢ option.name) (map (λ option. option.name) options) →
    All (Finds later) options → All (Finds (spelling option ++ later)) options
found_before option later [] plain is plains differ found = All-nil (Finds (spelling option ++ later))
found_before option later (other ∷ others) plain is plains differ found =
    let names : List (List ℕ) = map (λ option. option.name) others in
    let first : Finds (spelling option ++ later) other =
    other_later option.name option.value option.joined later other.name plain (All-head IsPlain other.name names plains) is (All-head (λ other. other ≢ option.name) other.name names differ)
    ∙ All-head (Finds later) other others found in
    All-cons (Finds (spelling option ++ later)) other others first
    (found_before option later others plain is (All-tail IsPlain other.name names plains) (All-tail (λ other. other ≢ option.name) other.name names differ) (All-tail (Finds later) other others found))

-- each option of a form is found
pub all_found : (options : List Written) → AreNames (map (λ option. option.name) options) → All (λ option. IsValue option.value) options → All (Finds (flat_map spelling options)) options
all_found [] are is = All-nil (Finds [])
all_found (option ∷ options) are is =
    let names : List (List ℕ) = map (λ option. option.name) options in
    let value : IsValue option.value = All-head (λ option. IsValue option.value) option options is in
    let later : All (Finds (flat_map spelling options)) options = all_found options (names_after option.name names are) (All-tail (λ option. IsValue option.value) option options is) in
    All-cons (Finds (flat_map spelling (option ∷ options))) option options (first_found option.name option.value option.joined (flat_map spelling options) value)
    (found_before option (flat_map spelling options) options (All-head IsPlain option.name names are.plain) value (All-tail IsPlain option.name names are.plain) (others_differ option.name names are) later)

-- so one of each name is found, and they take the words
names_found : (words : List (List ℕ)) (options : List Written) → All (Finds words) options →
    All (IsFound words) (map (λ option. option.name) options) × (sum_by (taken_by words) (map (λ option. option.name) options) ≡ length (flat_map spelling options))
names_found words [] found = (All-nil (IsFound words), refl)
names_found words (option ∷ options) found =
    let names : List (List ℕ) = map (λ option. option.name) options in
    let first : Finds words option = All-head (Finds words) option options found in
    let rest = names_found words options (All-tail (Finds words) option options found) in
    let takes : taken_by words option.name ≡ length (spelling option) = ap words_or_none first in (
      All-cons (IsFound words) option.name names (found_of option, first) rest.0,
      omega (arith, rest.1, takes, sum_by-cons (taken_by words) option.name names, length-append (spelling option) (flat_map spelling options)),
    )

-- the options of a form take all its words
pub taken_all : (names words : List (List ℕ)) (options : List Written) → AreNames names → AreOptions names options → words ≡ flat_map spelling options →
    words_taken 0 names words ≡ Some (length words)
taken_all names words options are of spelled = rw spelled (
    let written : List (List ℕ) = map (λ option. option.name) options in
    let all = flat_map spelling options in
    let found = names_found all options (all_found options (names_moved names written of.each_once are) of.values) in
    let sum : 0 + sum_by (taken_by all) names ≡ length all = omega (arith, found.1, sum_by-IsPermutation (taken_by all) names written of.each_once) in
    taken_of 0 names all (All-permutation (IsFound all) written names (IsPermutation-sym names written of.each_once) found.0) ∙ ap Some sum)

-- the value that is found of a name is that of its option, or no option has the name
pub value_found : (name : List ℕ) (words : List (List ℕ)) (options : List Written) → All (Finds words) options →
    (value_or_empty (option_in name words) ≡ value_among name options) ⊎ All (λ other. other ≢ name) (map (λ option. option.name) options)
value_found name words [] found = inr (All-nil (λ other. other ≢ name))
value_found name words (option ∷ options) found = by (bytes_eq option.name name) refl (value_found name words options (All-tail (Finds words) option options found))
  where
    by : (b : Bool) → bytes_eq option.name name ≡ b →
        (value_or_empty (option_in name words) ≡ value_among name options) ⊎ All (λ other. other ≢ name) (map (λ option. option.name) options) →
        (value_or_empty (option_in name words) ≡ cond b option.value (value_among name options)) ⊎ All (λ other. other ≢ name) (map (λ option. option.name) (option ∷ options))
    by true e rest =
        let same : name ≡ option.name = grind (arith, bytes_eq-Decides, e) in
        inl (ap (λ n. value_or_empty (option_in n words)) same ∙ ap value_or_empty (All-head (Finds words) option options found))
    by false e (inl is) = inl is
    by false e (inr none) = inr (All-cons (λ other. other ≢ name) option.name (map (λ option. option.name) options) (λ same. grind (arith, bytes_eq-Decides, e, same)) none)

-- if no option has the name, there is no value
pub no_value : (name : List ℕ) (options : List Written) → All (λ other. other ≢ name) (map (λ option. option.name) options) → value_among name options ≡ []
no_value name [] none = refl
no_value name (option ∷ options) none =
    let first : option.name ≢ name = All-head (λ other. other ≢ name) option.name (map (λ option. option.name) options) none in
    let test : bytes_eq option.name name ≡ false = grind (arith, bytes_eq-Decides, first) in
    rw test (no_value name options (All-tail (λ other. other ≢ name) option.name (map (λ option. option.name) options) none))
