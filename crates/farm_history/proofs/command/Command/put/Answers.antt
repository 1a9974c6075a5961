-- Answers to the open goals of `put`.
use Rattle.std.proofs.Common.{◌++◌, sym, ap, ◌∙◌, rules}
use Rattle.std.specs.Int.{w64}
use Rattle.std.proofs.lemmas.Int.{to_z-of_z}
use mir.Val.{SFits}
use Rattle.farm_history.specs.Encoding.{command_bytes}
use Rattle.farm_history.proofs.Joined.{two_joined}
use Rattle.farm_history.proofs.command.Command.put.Goals as goal

pub returns-in-Gauge-clause-command : goal.returns-in-Gauge-clause-command
unfolding command_bytes
returns-in-Gauge-clause-command c =
    let level : SFits w64 c.in-Gauge.level = search rules in
    let water : SFits w64 c.in-Gauge.water = search rules in
    let temperature : SFits w64 c.in-Gauge.temperature = search rules in
    let ambient : SFits w64 c.in-Gauge.ambient = search rules in
    let numbers = simp to_z-of_z at c.push_numbers.ensures.pushed in
    two_joined c.args.out.now _ _ _ _ c.put_tank.ensures.tank numbers
    ∙ ap (λ command. c.args.out.now ++ command_bytes command) (sym c.in-Gauge.is)

pub returns-in-Dip-clause-command : goal.returns-in-Dip-clause-command
returns-in-Dip-clause-command c =
    let ambient : SFits w64 c.in-Dip.ambient = search rules in
    let dip = simp to_z-of_z at c.put_dip.ensures.dip in
    dip ∙ ap (λ command. c.args.out.now ++ command_bytes command) (sym c.in-Dip.is)

pub returns-in-Sample-clause-command : goal.returns-in-Sample-clause-command
unfolding command_bytes
returns-in-Sample-clause-command c =
    let density : SFits w64 c.in-Sample.density = search rules in
    let sw : SFits w64 c.in-Sample.sw = search rules in
    let numbers = simp to_z-of_z at c.push_numbers-in-Sample.ensures.pushed in
    two_joined c.args.out.now _ _ _ _ c.put_tank-in-Sample.ensures.tank numbers
    ∙ ap (λ command. c.args.out.now ++ command_bytes command) (sym c.in-Sample.is)

pub returns-in-Opening-clause-command : goal.returns-in-Opening-clause-command
unfolding command_bytes
returns-in-Opening-clause-command c = c.put_plan.ensures.plan ∙ ap (λ command. c.args.out.now ++ command_bytes command) (sym c.in-Opening.is)

pub returns-in-Closing-clause-command : goal.returns-in-Closing-clause-command
returns-in-Closing-clause-command c =
    c.put_closing.ensures.closing ∙ ap (λ command. c.args.out.now ++ command_bytes command) (sym c.in-Closing.is)

pub returns-in-Cancel-clause-command : goal.returns-in-Cancel-clause-command
unfolding command_bytes
returns-in-Cancel-clause-command c =
    c.put_place.ensures.place ∙ ap (λ command. c.args.out.now ++ command_bytes command) (sym c.in-Cancel.is)

pub returns-in-Settle-clause-command : goal.returns-in-Settle-clause-command
returns-in-Settle-clause-command c =
    c.put_settle.ensures.settle ∙ ap (λ command. c.args.out.now ++ command_bytes command) (sym c.in-Settle.is)

pub returns-in-Reverse-clause-command : goal.returns-in-Reverse-clause-command
unfolding command_bytes
returns-in-Reverse-clause-command c =
    c.put_place-in-Reverse.ensures.place ∙ ap (λ command. c.args.out.now ++ command_bytes command) (sym c.in-Reverse.is)

pub returns-in-Stop-clause-command : goal.returns-in-Stop-clause-command
unfolding command_bytes
returns-in-Stop-clause-command c = c.push.ensures.pushed ∙ ap (λ command. c.args.out.now ++ command_bytes command) (sym c.in-Stop.is)
