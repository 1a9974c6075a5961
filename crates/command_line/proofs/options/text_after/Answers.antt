-- Answers to the open goals of `text_after`.
use Rattle.std.proofs.Common.{◌≡◌, ℕ, List, ◌++◌, ◌+◌, drop, length, Bor, Option, Some, None, option_map, ap, sym, ◌∙◌}
use Rattle.std.specs.Prelude.{MatchOption}
use Rattle.std.specs.Str.Pattern.{FindsTextPrefix}
use Rattle.command_line.specs.Options.{text_after}
use Rattle.command_line.proofs.Fronts.{after_front, no_front}
use Rattle.command_line.proofs.options.text_after.Goals as goal

-- what `strip_prefix` gives is what follows the prefix
stripped : (front text : List ℕ) (result : Option (Bor (List ℕ))) →
    MatchOption result (FindsTextPrefix front text None) (λ x. (n : ℕ) × FindsTextPrefix front text (Some n) × (x.now ≡ drop n text) × (length x.now + n ≡ length text)) →
    option_map (λ rest. rest.now) result ≡ text_after front text
stripped front text None lacks = no_front front text lacks
stripped front text (Some x) found =
    let n = found.0 in
    let whole : text ≡ front ++ x.now = found.1.1 ∙ ap (λ r. front ++ r) (sym found.2) in
    let after : x.now ≡ drop (length front) text = found.2 ∙ ap (λ k. drop k text) found.1.0 in
    after_front front text x.now whole after

pub returns : goal.returns
returns c = stripped c.args.front.now c.args.text.now c.strip_prefix.result c.strip_prefix.ensures.cases
