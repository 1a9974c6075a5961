-- Answers to the open goals of `reason_of`.
use Rattle.std.proofs.Common.{List, ℕ, Bor, ap, ◌∙◌}
use Rattle.http.specs.StatusCode.{reason_phrase}
use Rattle.http_pages.proofs.Reasons.{reason_is}
use Rattle.http_pages.proofs.statuses.reason_of.Goals as goal

pub returns-in-Ok : goal.returns-in-Ok
returns-in-Ok c =
    let phrase = c.canonical_reason.ensures.value ∙ ap reason_phrase c.in-Ok.ensures.1 in
    record { reason = ap (λ (text : Bor (List ℕ)). text.now) c.unwrap_or.ensures ∙ reason_is c.args.status c.canonical_reason.result _ c.requires.status phrase }
