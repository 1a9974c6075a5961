-- What `clap` makes of the words of a command with its options, for values of any length.
use Rattle.std.proofs.Common.{◌≡◌, ◌≢◌, ℕ, ◌==◌, ◌&&◌, List, [], ◌∷◌, Bool, true, false, map, Some, None, codes, is_some, refl, ap, ap₂, ◌∙◌, arith}
use Rattle.std.specs.Prelude.{fold}
use Rattle.std.specs.List.{list_all}
use Rattle.std.proofs.lemmas.Bool.Decides.{nat_tests}
use Rattle.clap.proofs.OnLiterals.{clap_on_literals}
use Rattle.clap.specs.Simple.{Shape, built, entered, filled}
use Rattle.clap.specs.Takes.{default_passes, entered_passes, is_valid, settle_passes, walk_passes}
use Rattle.clap.specs.Walk.{Row, Text, Walk, finished, nothing_held, reading_by, walk, walk_from, walked}
use Rattle.clap.specs.Words.{matches_of, takes}
use Rattle.clap.specs.declared.parser.matches.ValueSource.TheVariants.{CommandLine}
use Rattle.command_line.specs.Forms.{IsValue}
use Rattle.command_line.specs.Names.{option_text, options_of}
use Rattle.command_line.specs.Reading.{app_for, rule_for, words_for}
use Rattle.command_line.specs.declared.command_names.CommandName.{CommandName}
use Rattle.command_line.specs.declared.command_names.CommandName.TheVariants as names
use Rattle.command_line.specs.declared.option_names.OptionName.{OptionName}
use Rattle.command_line.specs.declared.option_names.OptionName.TheVariants.{Count, Day, Journal, Port, Rounds, Seed, Site, Workers}

-- each of these options has a value
abbrev pub AreValues : List OptionName → (List ℕ → List ℕ) → Type 0
AreValues [] value = Unit {0}
AreValues (option ∷ options) value = IsValue (value (option_text option)) × AreValues options value

-- the row of an option with this value
abbrev pub row : OptionName → Text → Row
row option value = record { id = option_text option; values = value ∷ []; count = None; source = Some CommandLine; reading = reading_by (filled (rule_for option)) }

-- the rows of options with their values
abbrev pub rows_for : List OptionName → (List ℕ → List ℕ) → List Row
rows_for options value = map (λ option. row option (value (option_text option))) options

-- `clap` takes the words of a command, and reads each value of them
pub record Reads (name : CommandName) (value : List ℕ → List ℕ) : Type 0 where
  pub taken : takes (app_for name) (words_for name value) ≡ true
  pub rows : matches_of (app_for name) (words_for name value) ≡ rows_for (options_of name) value

-- the first byte of a value isn't a minus
plain : (byte : ℕ) → byte ≢ 45 → (byte == 45) ≡ false
plain byte differs = by (byte == 45) refl
  where
    by : (b : Bool) → (byte == 45) ≡ b → b ≡ false
    by false e = refl
    by true e = absurd (differs (grind (arith, nat_tests, e)))

-- a value as its first byte, which is no `-`, and the rest
on_value : (P : Text → Type 0) → ((byte : ℕ) (rest : List ℕ) → (byte == 45) ≡ false → P (byte ∷ rest)) → (value : Text) → IsValue value → P value
on_value P holds [] is = absurd is
on_value P holds (byte ∷ rest) is = holds byte rest (plain byte is)

-- commands without an option, with one and with two
abbrev Words : CommandName → List Text → List Row → Type 0
Words name words rows = (takes (app_for name) words ≡ true) × (matches_of (app_for name) words ≡ rows)

calc : Words names.Calc (codes "calc" ∷ []) []
unfolding clap_on_literals
calc = (refl, refl)

table : (b : ℕ) (s : List ℕ) → (b == 45) ≡ false →
    Words names.Table (codes "table" ∷ codes "--site" ∷ (b ∷ s) ∷ []) (row Site (b ∷ s) ∷ [])
unfolding clap_on_literals
table b s h = (simp h, simp h)

batch : (b : ℕ) (j : List ℕ) → (b == 45) ≡ false →
    Words names.Batch (codes "batch" ∷ codes "--journal" ∷ (b ∷ j) ∷ []) (row Journal (b ∷ j) ∷ [])
unfolding clap_on_literals
batch b j h = (simp h, simp h)

init : (b : ℕ) (s : List ℕ) (c : ℕ) (j : List ℕ) → (b == 45) ≡ false → (c == 45) ≡ false →
    Words names.Init (codes "init" ∷ codes "--site" ∷ (b ∷ s) ∷ codes "--journal" ∷ (c ∷ j) ∷ []) (row Site (b ∷ s) ∷ row Journal (c ∷ j) ∷ [])
unfolding clap_on_literals
init b s c j h k = (simp (h, k), simp (h, k))

report : (b : ℕ) (j : List ℕ) (c : ℕ) (d : List ℕ) → (b == 45) ≡ false → (c == 45) ≡ false →
    Words names.Report (codes "report" ∷ codes "--journal" ∷ (b ∷ j) ∷ codes "--day" ∷ (c ∷ d) ∷ []) (row Journal (b ∷ j) ∷ row Day (c ∷ d) ∷ [])
unfolding clap_on_literals
report b j c d h k = (simp (h, k), simp (h, k))

drill : (b : ℕ) (s : List ℕ) (c : ℕ) (n : List ℕ) → (b == 45) ≡ false → (c == 45) ≡ false →
    Words names.Drill (codes "drill" ∷ codes "--seed" ∷ (b ∷ s) ∷ codes "--count" ∷ (c ∷ n) ∷ []) (row Seed (b ∷ s) ∷ row Count (c ∷ n) ∷ [])
unfolding clap_on_literals
drill b s c n h k = (simp (h, k), simp (h, k))

-- `serve` as it is built
abbrev top : Shape
top = (built (app_for names.Serve)).top

-- the walk over its words, with some options read and one still held
abbrev held : List Row → OptionName → Text → Walk
held rows option value = walk_from (record { rows = rows; pending = Some (option_text option, value ∷ []); skip = 0 })

-- an option and its value bring the walk from one place to another, and pass
record Goes (from : Walk) (flag value : Text) (to : Walk) : Type 0 where
  goes : walked top.rules [] (walked top.rules [] from flag) value ≡ to
  passes : (rest : List Text) → walk_passes top [] from (flag ∷ value ∷ rest) ≡ walk_passes top [] to rest

first_goes : (b : ℕ) (v : List ℕ) → (b == 45) ≡ false → Goes (walk_from nothing_held) (codes "--journal") (b ∷ v) (held [] Journal (b ∷ v))
unfolding clap_on_literals
first_goes b v h = record { goes = simp h; passes = λ rest. simp h }

second_goes : (j : Text) (b : ℕ) (v : List ℕ) → (b == 45) ≡ false → Goes (held [] Journal j) (codes "--port") (b ∷ v) (held (row Journal j ∷ []) Port (b ∷ v))
unfolding clap_on_literals
second_goes j b v h = record { goes = simp h; passes = λ rest. simp h }

third_goes : (j p : Text) (b : ℕ) (v : List ℕ) → (b == 45) ≡ false →
    Goes (held (row Journal j ∷ []) Port p) (codes "--workers") (b ∷ v) (held (row Journal j ∷ row Port p ∷ []) Workers (b ∷ v))
unfolding clap_on_literals
third_goes j p b v h = record { goes = simp h; passes = λ rest. simp h }

fourth_goes : (j p w : Text) (b : ℕ) (v : List ℕ) → (b == 45) ≡ false →
    Goes (held (row Journal j ∷ row Port p ∷ []) Workers w) (codes "--rounds") (b ∷ v) (held (row Journal j ∷ row Port p ∷ row Workers w ∷ []) Rounds (b ∷ v))
unfolding clap_on_literals
fourth_goes j p w b v h = record { goes = simp h; passes = λ rest. simp h }

-- where a walk ends, and whether it passes, tell whether the words are taken
abbrev ends : Walk → Bool → Bool
ends end passes =
    entered_passes (built (app_for names.Serve)) end.stopped && (passes && (settle_passes top.rules top.args_override_self end.held
    && (list_all default_passes top.rules && is_valid top (finished top.rules end.held) (is_some (entered (built (app_for names.Serve)) end.stopped)))))

serve : (j p w r : Text) → IsValue j → IsValue p → IsValue w → IsValue r →
    Words names.Serve (codes "serve" ∷ codes "--journal" ∷ j ∷ codes "--port" ∷ p ∷ codes "--workers" ∷ w ∷ codes "--rounds" ∷ r ∷ [])
    (row Journal j ∷ row Port p ∷ row Workers w ∷ row Rounds r ∷ [])
unfolding clap_on_literals
serve j p w r is_j is_p is_w is_r =
    let one = on_value (λ v. Goes (walk_from nothing_held) (codes "--journal") v (held [] Journal v)) first_goes j is_j in
    let two = on_value (λ v. Goes (held [] Journal j) (codes "--port") v (held (row Journal j ∷ []) Port v)) (second_goes j) p is_p in
    let three = on_value (λ v. Goes (held (row Journal j ∷ []) Port p) (codes "--workers") v (held (row Journal j ∷ row Port p ∷ []) Workers v)) (third_goes j p) w is_w in
    let four = on_value (λ v. Goes (held (row Journal j ∷ row Port p ∷ []) Workers w) (codes "--rounds") v (held (row Journal j ∷ row Port p ∷ row Workers w ∷ []) Rounds v)) (fourth_goes j p w) r is_r in
    let after_three = codes "--rounds" ∷ r ∷ [] in
    let after_two = codes "--workers" ∷ w ∷ after_three in
    let after_one = codes "--port" ∷ p ∷ after_two in
    let goes : List Text → Walk → Walk = λ words from. fold (walked top.rules []) from words in
    let end : walk top.rules [] nothing_held (codes "--journal" ∷ j ∷ after_one) ≡ held (row Journal j ∷ row Port p ∷ row Workers w ∷ []) Rounds r =
    ap (goes after_one) one.goes ∙ ap (goes after_two) two.goes ∙ ap (goes after_three) three.goes ∙ four.goes in
    let passes : walk_passes top [] (walk_from nothing_held) (codes "--journal" ∷ j ∷ after_one) ≡ true =
    one.passes after_one ∙ two.passes after_two ∙ three.passes after_three ∙ four.passes [] in
    (ap₂ ends end passes, ap (λ (walk : Walk). finished top.rules walk.held) end)

-- the words of each command
pub reads : (name : CommandName) (value : List ℕ → List ℕ) → AreValues (options_of name) value → Reads name value
reads names.Calc value are = record { taken = calc.0; rows = calc.1 }
reads names.Init value are =
    let is = on_value (λ s. Words names.Init (codes "init" ∷ codes "--site" ∷ s ∷ codes "--journal" ∷ value (codes "journal") ∷ []) (row Site s ∷ row Journal (value (codes "journal")) ∷ []))
    (λ b s h. on_value (λ j. Words names.Init (codes "init" ∷ codes "--site" ∷ (b ∷ s) ∷ codes "--journal" ∷ j ∷ []) (row Site (b ∷ s) ∷ row Journal j ∷ []))
    (λ c j k. init b s c j h k) (value (codes "journal")) are.1.0) (value (codes "site")) are.0 in
    record { taken = is.0; rows = is.1 }
reads names.Table value are =
    let is = on_value (λ s. Words names.Table (codes "table" ∷ codes "--site" ∷ s ∷ []) (row Site s ∷ [])) table (value (codes "site")) are.0 in
    record { taken = is.0; rows = is.1 }
reads names.Batch value are =
    let is = on_value (λ j. Words names.Batch (codes "batch" ∷ codes "--journal" ∷ j ∷ []) (row Journal j ∷ [])) batch (value (codes "journal")) are.0 in
    record { taken = is.0; rows = is.1 }
reads names.Serve value are =
    let is = serve (value (codes "journal")) (value (codes "port")) (value (codes "workers")) (value (codes "rounds")) are.0 are.1.0 are.1.1.0 are.1.1.1.0 in
    record { taken = is.0; rows = is.1 }
reads names.Report value are =
    let is = on_value (λ j. Words names.Report (codes "report" ∷ codes "--journal" ∷ j ∷ codes "--day" ∷ value (codes "day") ∷ []) (row Journal j ∷ row Day (value (codes "day")) ∷ []))
    (λ b j h. on_value (λ d. Words names.Report (codes "report" ∷ codes "--journal" ∷ (b ∷ j) ∷ codes "--day" ∷ d ∷ []) (row Journal (b ∷ j) ∷ row Day d ∷ []))
    (λ c d k. report b j c d h k) (value (codes "day")) are.1.0) (value (codes "journal")) are.0 in
    record { taken = is.0; rows = is.1 }
reads names.Drill value are =
    let is = on_value (λ s. Words names.Drill (codes "drill" ∷ codes "--seed" ∷ s ∷ codes "--count" ∷ value (codes "count") ∷ []) (row Seed s ∷ row Count (value (codes "count")) ∷ []))
    (λ b s h. on_value (λ n. Words names.Drill (codes "drill" ∷ codes "--seed" ∷ (b ∷ s) ∷ codes "--count" ∷ n ∷ []) (row Seed (b ∷ s) ∷ row Count n ∷ []))
    (λ c n k. drill b s c n h k) (value (codes "count")) are.1.0) (value (codes "seed")) are.0 in
    record { taken = is.0; rows = is.1 }
