-- Answers to the open goals of `new`.
use Rattle.std.proofs.Common.{rules}
use Rattle.strap_courses.specs.Faults.{reported}
use Rattle.strap_courses.proofs.FirstFault.{reported_is, tank_is}
use Rattle.strap_courses.proofs.strapping.Strapping.new.Goals as goal

pub returns-in-Some-clause-meaning : goal.returns-in-Some-clause-meaning
returns-in-Some-clause-meaning c =
    reported_is (record { courses = c.args.courses.items; deadwoods = c.args.deadwoods.items; bottom = c.args.bottom.items }) (reported c.in-Some.fault) (search rules)

pub returns-in-None-clause-meaning : goal.returns-in-None-clause-meaning
returns-in-None-clause-meaning c =
    tank_is (record { courses = c.args.courses.items; deadwoods = c.args.deadwoods.items; bottom = c.args.bottom.items }) (search rules)
