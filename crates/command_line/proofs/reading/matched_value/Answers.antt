-- Answers to the open goals of `matched_value`.
use Rattle.std.proofs.Common.{◌≡◌, ◌∙◌, ap, refl, option_map, List, ℕ, [], Bor, Option, Some, None}
use Rattle.std.specs.Prelude.{unwrap_or}
use Rattle.clap.specs.Words.{first_value, found_of}
use Rattle.clap.proofs.WalkLemmas.{first_value-rows}
use Rattle.command_line.specs.Names.{option_text}
use Rattle.command_line.proofs.reading.matched_value.Goals as goal

text_or : (o : Option (Bor (List ℕ))) (text : Bor (List ℕ)) → (unwrap_or o text).now ≡ unwrap_or (option_map (λ s. s.now) o) text.now
text_or None text = refl
text_or (Some value) text = refl

pub returns : goal.returns
returns c =
    let found = found_of c.args.matches.now in
    let read = c.get_str.ensures ∙ ap (first_value found) c.text.ensures ∙ first_value-rows found (option_text c.args.option) in
    record { value = ap (λ r. r.now) c.unwrap_or.ensures ∙ text_or c.get_str.result _ ∙ ap (λ o. unwrap_or o []) read }
