-- Answers to the open goals of `create`.
use Rattle.std.proofs.Common.{◌∙◌}
use Rattle.farm_journal.proofs.Measured.{first_gate, made_stands}
use Rattle.farm_journal.proofs.journal.Journal.create.Goals as goal

pub at_rest-requires : goal.at_rest-requires
at_rest-requires g c = record { offsets = first_gate c.args.header.now _ c.in-Ok.ensures.gate c.requires.short }

pub returns-in-Ok-clause-stands : goal.returns-in-Ok-clause-stands
returns-in-Ok-clause-stands g c =
    let made = c.at_rest.ensures in
    made_stands g.D.Disk.trace c.args.header.now c.at_rest.result c.laid_out.new.disk made.disk (made.gate ∙ c.in-Ok.ensures.gate) made.count made.next_gate
    c.in-Ok.ensures.rests
