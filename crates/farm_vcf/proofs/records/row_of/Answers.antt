-- Answers to the open goals of `row_of`.
use Rattle.std.proofs.Common.{◌≡◌, ◌∙◌, length, sym, arith}
use Rattle.csv.specs.Records.{fields_of}
use Rattle.farm_vcf.proofs.Fields.{field_there, not_three, three_fields}
use Rattle.farm_vcf.proofs.records.row_of.Goals as goal

pub returns-then-len-ne3 : goal.returns-then-len-ne3
returns-then-len-ne3 c = sym (not_three (fields_of c.args.fields.now) (λ three. c.if-len-ne3.true (c.len.ensures ∙ three)))

pub returns-in_err-density : goal.returns-in_err-density
returns-in_err-density c =
    let three : length (fields_of c.args.fields.now) ≡ 3 = sym c.len.ensures ∙ c.if-len-ne3.false in
    absurd (field_there (fields_of c.args.fields.now) 0 (omega arith) (rw c.in_err-density.was at c.get.ensures.value))

pub returns-in_err-temperature : goal.returns-in_err-temperature
returns-in_err-temperature c =
    let three : length (fields_of c.args.fields.now) ≡ 3 = sym c.len.ensures ∙ c.if-len-ne3.false in
    absurd (field_there (fields_of c.args.fields.now) 1 (omega arith) (rw c.in_err-temperature.was at c.get-2.ensures.value))

pub returns-in_err-factor : goal.returns-in_err-factor
returns-in_err-factor c =
    let three : length (fields_of c.args.fields.now) ≡ 3 = sym c.len.ensures ∙ c.if-len-ne3.false in
    absurd (field_there (fields_of c.args.fields.now) 2 (omega arith) (rw c.in_err-factor.was at c.get-3.ensures.value))

pub returns : goal.returns
returns c =
    c.row_of_fields.ensures.row_of_fields ∙ sym (three_fields (fields_of c.args.fields.now) c.in_ok-density.density.now c.in_ok-temperature.temperature.now c.in_ok-factor.factor.now
    (sym c.len.ensures ∙ c.if-len-ne3.false)
    (rw c.in_ok-density.was at c.get.ensures.value)
    (rw c.in_ok-temperature.was at c.get-2.ensures.value)
    (rw c.in_ok-factor.was at c.get-3.ensures.value))
