-- The names of options: those of a command may stand in one form, and a test says whether one of them is a given name.
use Rattle.std.proofs.Common.{◌≡◌, ◌≢◌, ℕ, ◌==◌, List, [], ◌∷◌, map, Bool, true, false, cond, if◌then◌else◌, refl, arith}
use Rattle.std.specs.List.{All, IsDistinct}
use Rattle.std.specs.Str.{bytes_eq}
use Rattle.std.proofs.lemmas.Bool.Decides.{nat_tests}
use Rattle.std.proofs.lemmas.List.Elements.{All-cons, All-head, All-nil, All-tail}
use Rattle.std.proofs.lemmas.Slice.Eq.{bytes_eq-Decides}
use Rattle.command_line.specs.declared.commands.Subcommand.{Subcommand}
use Rattle.command_line.specs.declared.command_names.CommandName.{CommandName}
use Rattle.command_line.specs.declared.command_names.CommandName.TheVariants as names
use Rattle.command_line.specs.Commands.{name_of, option_names}
use Rattle.command_line.specs.Names.{option_text, options_of}
use Rattle.command_line.proofs.Beginnings.{IsPlain}
use Rattle.command_line.proofs.Forms.{AreNames}

-- a name has no equals sign, by a test
abbrev is_plain : List ℕ → Bool
is_plain [] = true
is_plain (byte ∷ name) = if byte == 61 then false else is_plain name

plain_by : (name : List ℕ) → is_plain name ≡ true → IsPlain name
plain_by [] e = tt
plain_by (byte ∷ name) e = by (byte == 61) refl e (plain_by name)
  where
    by : (b : Bool) → (byte == 61) ≡ b → cond b false (is_plain name) ≡ true → (is_plain name ≡ true → IsPlain name) → (byte ≢ 61) × IsPlain name
    by true f h rest = absurd (cc)
    by false f h rest = ((λ same. grind (arith, nat_tests, f, same)), rest h)

-- none of the names has one, by a test
abbrev are_plain : List (List ℕ) → Bool
are_plain [] = true
are_plain (name ∷ names) = if is_plain name then are_plain names else false

all_plain : (names : List (List ℕ)) → are_plain names ≡ true → All IsPlain names
all_plain [] e = All-nil IsPlain
all_plain (name ∷ names) e = by (is_plain name) refl e (all_plain names)
  where
    by : (b : Bool) → is_plain name ≡ b → cond b (are_plain names) false ≡ true → (are_plain names ≡ true → All IsPlain names) → All IsPlain (name ∷ names)
    by true f h rest = All-cons IsPlain name names (plain_by name f) (rest h)
    by false f h rest = absurd (cc)

-- the options of a command of each name may stand in one form
pub names_by : (name : CommandName) → AreNames (map option_text (options_of name))
unfolding IsDistinct
names_by names.Calc = record { plain = all_plain (map option_text (options_of names.Calc)) refl; distinct = tt }
names_by names.Init = record { plain = all_plain (map option_text (options_of names.Init)) refl; distinct = ((refl, tt), (tt, tt)) }
names_by names.Table = record { plain = all_plain (map option_text (options_of names.Table)) refl; distinct = (tt, tt) }
names_by names.Batch = record { plain = all_plain (map option_text (options_of names.Batch)) refl; distinct = (tt, tt) }
names_by names.Serve = record {
  plain = all_plain (map option_text (options_of names.Serve)) refl;
  distinct = ((refl, (refl, (refl, tt))), ((refl, (refl, tt)), ((refl, tt), (tt, tt))));
}
names_by names.Report = record { plain = all_plain (map option_text (options_of names.Report)) refl; distinct = ((refl, tt), (tt, tt)) }
names_by names.Drill = record { plain = all_plain (map option_text (options_of names.Drill)) refl; distinct = ((refl, tt), (tt, tt)) }

pub names_of : (command : Subcommand) → AreNames (option_names command)
names_of command = names_by (name_of command)

-- one of the names is this one, by a test
abbrev pub is_one : List ℕ → List (List ℕ) → Bool
is_one name [] = false
is_one name (other ∷ others) = if bytes_eq other name then true else is_one name others

pub some_is : (name : List ℕ) (names : List (List ℕ)) → is_one name names ≡ true → All (λ other. other ≢ name) names → ⊥
some_is name [] e none = cc
some_is name (other ∷ others) e none = by (bytes_eq other name) refl e (some_is name others)
  where
    by : (b : Bool) → bytes_eq other name ≡ b → cond b true (is_one name others) ≡ true →
        (is_one name others ≡ true → All (λ other. other ≢ name) others → ⊥) → ⊥
    by true f h rest = All-head (λ other. other ≢ name) other others none (grind (arith, bytes_eq-Decides, f))
    by false f h rest = rest h (All-tail (λ other. other ≢ name) other others none)

pub none_is : (name : List ℕ) (names : List (List ℕ)) → is_one name names ≡ false → All (λ other. other ≢ name) names
none_is name [] e = All-nil (λ other. other ≢ name)
none_is name (other ∷ others) e = by (bytes_eq other name) refl e (none_is name others)
  where
    by : (b : Bool) → bytes_eq other name ≡ b → cond b true (is_one name others) ≡ false →
        (is_one name others ≡ false → All (λ other. other ≢ name) others) → All (λ other. other ≢ name) (other ∷ others)
    by true f h rest = absurd (cc)
    by false f h rest = All-cons (λ other. other ≢ name) other others (λ same. grind (arith, bytes_eq-Decides, f, same)) (rest h)
