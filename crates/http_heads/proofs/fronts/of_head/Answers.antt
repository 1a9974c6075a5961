-- Answers to the open goals of `of_head`.
use Rattle.std.proofs.Common.{refl, sym, ◌∙◌, inl, inr}
use Rattle.std.proofs.lemmas.Slice.Eq.{bytes_eq-Decides}
use Rattle.http_heads.specs.Fronts.{lacks_length}
use Rattle.http_heads.proofs.HeadLimits.{has_head}
use Rattle.http_heads.proofs.Values.{good_none, good_one}
use Rattle.http_heads.proofs.fronts.of_head.Goals as goal
use Rattle.http_heads.proofs.fronts.of_head.Goals.{then-fields-via-then-fields, then-fields-via-else-fields+then-is_post}

pub returns-then-fields : goal.returns-then-fields
returns-then-fields c =
    let bytes = c.args.bytes.now in
    let is = c.requires.head.1 in
    let none = rw c.in-Absent.is at c.requires.fields.stated in
    let has = has_head bytes _ _ c.requires.within_limits is (good_none _ none) in
    elim c.then-fields.branch [
      | then-fields-via-then-fields w ↦ lacks_length refl _ has (inl (sym c.requires.fields.is_encoded ∙ w.if-fields.true))
      | then-fields-via-else-fields+then-is_post w ↦
          let post = (bytes_eq-Decides c.args.head.now.method.now c.as_slice.result.now).0 (sym c.eq-is_post.ensures ∙ w.if-is_post.true) in
          lacks_length refl _ has (inr (sym is.method ∙ post ∙ c.as_slice.ensures, none))
    ]

pub returns-then-fields-2 : goal.returns-then-fields-2
returns-then-fields-2 c =
    let bytes = c.args.bytes.now in
    let one = rw c.in-Bytes.is at c.requires.fields.stated in
    let has = has_head bytes _ _ c.requires.within_limits c.requires.head.1 (good_one _ _ one) in
    lacks_length refl _ has (inl (sym c.requires.fields.is_encoded ∙ c.if-fields-2.true))
