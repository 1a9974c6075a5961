-- Answers to the open goals of `used_reading`.
use Rattle.std.proofs.Common.{◌≡◌, get_or, pos}
use Rattle.farm_base.specs.Steps.{or_else}
use Rattle.farm_history.specs.declared.command.Command.TheVariants.{Gauge}
use Rattle.farm_history.specs.declared.entry.Entry.{Entry}
use Rattle.farm_history.specs.Movements.{used_by}
use Rattle.history_lookups.proofs.Givens.{last_more, or_else_none}
use Rattle.history_lookups.proofs.past.Past.used_reading.Goals as goal

-- the entry of zeros
abbrev blank : Entry
blank = record { caller = 0; account = 0; key = 0; at = pos 0; cmd = Gauge 0 (pos 0) (pos 0) (pos 0) (pos 0) }

pub loop-entry-init : goal.loop-entry-init
loop-entry-init c = or_else_none _

pub loop-entry-preserved : goal.loop-entry-preserved
loop-entry-preserved c =
    let given = λ (entry : Entry). used_by c.args.self.now c.args.tank entry.cmd in
    let here : c.latest-used.result ≡ or_else (given (get_or c.self.inside.entries.now c.loop-entry.entry-index blank)) c.loop-entry.used = cc in
    last_more given c.self.inside.entries.now c.loop-entry.entry-index blank c.loop-entry.used c.latest-used.result c.loop-entry-test.true here c.loop-entry.invariant
