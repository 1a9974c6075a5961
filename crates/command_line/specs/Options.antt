-- Options among the arguments of a command, each as two words `--name value` or one `--name=value`.
use Rattle.std.specs.Prelude.{ℕ, ◌+◌, ◌==◌, Bool, false, if◌then◌else◌, List, [], ◌∷◌, length, take, drop, Option, Some, None, codes, option_and_then}
use Rattle.std.specs.Str.{bytes_eq}

-- what follows a prefix in a text
abbrev pub text_after : List ℕ → List ℕ → Option (List ℕ)
text_after front text = if bytes_eq (take (length front) text) front then Some (drop (length front) text) else None

-- an option that is spelled: its value, and the number of words that it takes
pub record Spelled : Type 0 where
  pub value : List ℕ
  pub words : ℕ

-- the value of an option isn't empty, and doesn't begin with a minus
abbrev pub spelled_by : ℕ → List ℕ → Option Spelled
spelled_by words [] = None
spelled_by words (byte ∷ bytes) = if byte == 45 then None else Some (record { value = byte ∷ bytes; words = words })

-- a value that is the next word
abbrev pub spelled_next : List (List ℕ) → Option Spelled
spelled_next [] = None
spelled_next (value ∷ words) = spelled_by 2 value

-- a value after an equals sign; else the option among the words after it
abbrev pub spelled_joined : Option (List ℕ) → Option Spelled → Option Spelled
spelled_joined None later = later
spelled_joined (Some value) later = spelled_by 1 value

-- the option of a word, by what follows the option's name in it, before these words; else the option among them
abbrev pub spelled_here : Option (List ℕ) → List (List ℕ) → Option Spelled → Option Spelled
spelled_here None words later = later
spelled_here (Some []) words later = spelled_next words
spelled_here (Some (byte ∷ rest)) words later = spelled_joined (text_after (codes "=") (byte ∷ rest)) later

-- what follows an option's name in a word
abbrev pub after_name : List ℕ → List ℕ → Option (List ℕ)
after_name name word = option_and_then (text_after name) (text_after (codes "--") word)

-- the first option of this name among words
abbrev pub option_in : List ℕ → List (List ℕ) → Option Spelled
option_in name [] = None
option_in name (word ∷ words) = spelled_here (after_name name word) words (option_in name words)

-- the value of an option; an empty text if the option is missing
abbrev pub value_or_empty : Option Spelled → List ℕ
value_or_empty None = []
value_or_empty (Some option) = option.value

-- the value of the option of this name among words; an empty text if the option is missing
abbrev pub value_in : List ℕ → List (List ℕ) → List ℕ
value_in name words = value_or_empty (option_in name words)

-- the number of words that options take, added to a number; None if one of them is missing
abbrev pub words_taken : ℕ → List (List ℕ) → List (List ℕ) → Option ℕ
words_taken total [] words = Some total
words_taken total (name ∷ names) words = option_and_then (λ option. words_taken (total + option.words) names words) (option_in name words)

-- a number is this one
abbrev pub is_number : Option ℕ → ℕ → Bool
is_number None n = false
is_number (Some m) n = m == n

-- words are these options, each once and in any order, and nothing else
unfoldable pub are_options : List (List ℕ) → List (List ℕ) → Bool
are_options names words = is_number (words_taken 0 names words) (length words)
