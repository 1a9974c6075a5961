-- Answers to the open goals of `verdict_on_used`.
use Rattle.std.proofs.Common.{◌≡◌, ◌∙◌, false, true, Option, ℕ, ap, sym}
use Rattle.farm_history.specs.declared.entry.Entry.{Entry}
use Rattle.farm_history.specs.declared.rule.Rule.TheVariants.{KeyReused}
use Rattle.farm_history.specs.declared.verdict.Verdict.TheVariants.{Refused}
use Rattle.farm_history.specs.Commands.{is_same_command}
use Rattle.farm_history.specs.History.{History}
use Rattle.farm_history.specs.Places.{IsFirstPlace}
use Rattle.farm_history.specs.Rules.{has_same_key}
use Rattle.farm_history.specs.Verdicts.{repeated_or}
use Rattle.farm_history.proofs.Places.{found_place}
use Rattle.farm_history.proofs.Repeats.{keys_act_once}
use Rattle.farm_book.proofs.Keys.{entry_there, other_command, same_command}
use Rattle.farm_book.proofs.judging.verdict_on_used.Goals as goal

pub returns-then-is_same_command-clause-verdict : goal.returns-then-is_same_command-clause-verdict
returns-then-is_same_command-clause-verdict c =
    let entries = c.args.past.now.entries in
    let read = ap (λ (history : History). history.entries) c.past.view_is in
    let entry = c.args.entry.now in
    let first : IsFirstPlace (has_same_key entry) entries c.args.place = found_place (has_same_key entry) entries c.args.place c.requires.used in
    let same : is_same_command first.item.cmd entry.cmd ≡ true =
    sym (ap (λ (other : Entry). is_same_command other.cmd entry.cmd) (entry_there (has_same_key entry) entries c.args.place first _ read _))
    ∙ sym c.if-is_same_command.ensures.same in
    ap (λ (found : Option ℕ). repeated_or found (Refused (KeyReused c.args.place))) (sym (same_command entries entry c.args.place first same))

pub returns-clause-verdict : goal.returns-clause-verdict
returns-clause-verdict c =
    let entries = c.args.past.now.entries in
    let read = ap (λ (history : History). history.entries) c.past.view_is in
    let entry = c.args.entry.now in
    let first : IsFirstPlace (has_same_key entry) entries c.args.place = found_place (has_same_key entry) entries c.args.place c.requires.used in
    let differs : is_same_command first.item.cmd entry.cmd ≡ false =
    sym (ap (λ (other : Entry). is_same_command other.cmd entry.cmd) (entry_there (has_same_key entry) entries c.args.place first _ read _))
    ∙ sym c.if-is_same_command.ensures.same in
    let nothing = other_command entries entry c.args.place first
    (λ front middle back first second split. keys_act_once c.args.limit c.args.past.now front middle back first second c.requires.legal split)
    differs in
    ap (λ (found : Option ℕ). repeated_or found (Refused (KeyReused c.args.place))) (sym nothing)
