-- Answers to the open goals of `bottom_height`.
use Rattle.std.proofs.Common.{sym, ap, ◌∙◌}
use Rattle.std.specs.Int.RustNames.{unsigned_abs}
use Rattle.strap_courses.specs.Courses.{Point}
use Rattle.strap_courses.proofs.Points.{last_at}
use Rattle.strap_courses.proofs.bottom.bottom_height.Goals as goal

pub returns-in-Some-clause-value : goal.returns-in-Some-clause-value
returns-in-Some-clause-value c =
    let item = c.in-Some.ensures.item in
    c.millimetres.ensures.value ∙ ap (λ (p : Point). unsigned_abs p.0) (item.1 ∙ sym (last_at c.args.bottom.now _ item.3.0))
