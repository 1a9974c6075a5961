-- Answers to the open goals of `with_line`.
use Rattle.std.proofs.Common.{◌≡◌, ◌||◌, Bool, ap, refl, sym, ◌∙◌}
use Rattle.std.proofs.lemmas.Bool.{or_left}
use Rattle.http_heads.proofs.Values.{described_line, or_right_of}
use Rattle.http_heads.proofs.fields.Fields.with_line.Goals as goal
use Rattle.http_heads.proofs.fields.Fields.with_line.Goals.{then-self, else-self}

pub returns-then-self-2 : goal.returns-then-self-2
returns-then-self-2 c lines is =
    let encoded : c.if-self.result ≡ (c.args.self.is_encoded || c.is_same-encodes.result) =
    elim c.if-self.branch [
      | then-self w ↦ w.result-is ∙ w.if-self.true ∙ sym (or_left _ _ w.if-self.true)
      | else-self w ↦ w.result-is ∙ sym (or_right_of _ _ w.if-self.false)
    ] in
    described_line lines c.args.line.now _ _ c.args.self _ c.name_and_value.ensures.name c.name_and_value.ensures.value is refl
    c.with_field-length.ensures.named c.with_field-length.ensures.other
    (encoded ∙ ap (λ (b : Bool). c.args.self.is_encoded || b) c.is_same-encodes.ensures)
    (c.if-self-2.true ∙ sym (or_left _ _ c.if-self-2.true))

pub returns-else-self-2 : goal.returns-else-self-2
returns-else-self-2 c lines is =
    let encoded : c.if-self.result ≡ (c.args.self.is_encoded || c.is_same-encodes.result) =
    elim c.if-self.branch [
      | then-self w ↦ w.result-is ∙ w.if-self.true ∙ sym (or_left _ _ w.if-self.true)
      | else-self w ↦ w.result-is ∙ sym (or_right_of _ _ w.if-self.false)
    ] in
    described_line lines c.args.line.now _ _ c.args.self _ c.name_and_value.ensures.name c.name_and_value.ensures.value is refl
    c.with_field-length.ensures.named c.with_field-length.ensures.other
    (encoded ∙ ap (λ (b : Bool). c.args.self.is_encoded || b) c.is_same-encodes.ensures)
    (c.asks_to_close-closes.ensures ∙ sym (or_right_of _ _ c.if-self-2.false))
