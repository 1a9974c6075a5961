-- Answers to the open goals of `body`.
use Rattle.std.proofs.Common.{List, ℕ, ap, subst, sym, ◌∙◌}
use Rattle.farm_base.specs.Appended.{Appends}
use Rattle.farm_http.specs.Bodies.{status_text}
use Rattle.farm_http.specs.PageTexts.{body_text}
use Rattle.farm_http.proofs.Bodies.{reply_is, status_in_bytes}
use Rattle.farm_http.proofs.answers.body.Goals as goal

pub returns-in-Reply : goal.returns-in-Reply
returns-in-Reply c =
    let text = reply_is c.in-Reply.reply ∙ ap body_text (sym c.in-Reply.is) in
    record { appended = subst (λ (t : List ℕ). Appends c.args.out.now.items c.append_reply.new.out.items t c.append_reply.result) text c.append_reply.ensures.appended }

pub returns-in-Status : goal.returns-in-Status
returns-in-Status c =
    let text = ap status_text c.from.ensures ∙ sym (status_in_bytes c.in-Status.status c.in-Status.field-1) ∙ ap body_text (sym c.in-Status.is) in
    record { appended = subst (λ (t : List ℕ). Appends c.args.out.now.items c.append.new.out.items t c.append.result) text c.append.ensures.appended }
