-- Answers to the open goals of `write`.
use Rattle.std.proofs.Common.{◌+◌, ◌<◌, ◌≤◌, ◌++◌, length, vec_capacity, vec_len, ap, ◌∙◌, subst, rules}
use Rattle.farm_history.specs.Encoding.{command_bytes}
use Rattle.farm_history.proofs.Joined.{stamp_and_command}
use Rattle.farm_history.proofs.entry.Entry.write.Goals as goal

pub returns-in_err-extend_from_slice-clause-few : goal.returns-in_err-extend_from_slice-clause-few
returns-in_err-extend_from_slice-clause-few c =
    let whole = c.get.ensures.bytes ∙ c.put.ensures.command ∙ ap (λ stamp. stamp ++ command_bytes c.args.self.now.cmd) c.put_stamp.ensures.stamp ∙ stamp_and_command c.args.self.now in
    subst (λ bytes. length bytes ≤ 256) whole c.get.ensures.few

pub returns-clause-appended : goal.returns-clause-appended
returns-clause-appended c =
    let whole = c.get.ensures.bytes ∙ c.put.ensures.command ∙ ap (λ stamp. stamp ++ command_bytes c.args.self.now.cmd) c.put_stamp.ensures.stamp ∙ stamp_and_command c.args.self.now in
    record { ok = c.in_ok-extend_from_slice.ensures.items ∙ ap (λ bytes. c.args.out.now.items ++ bytes) whole; err = tt }

pub returns-clause-few : goal.returns-clause-few
returns-clause-few c =
    let whole = c.get.ensures.bytes ∙ c.put.ensures.command ∙ ap (λ stamp. stamp ++ command_bytes c.args.self.now.cmd) c.put_stamp.ensures.stamp ∙ stamp_and_command c.args.self.now in
    subst (λ bytes. length bytes ≤ 256) whole c.get.ensures.few

pub returns-in_err-extend_from_slice-clause-no_room : goal.returns-in_err-extend_from_slice-clause-no_room
returns-in_err-extend_from_slice-clause-no_room c =
    let whole = c.get.ensures.bytes ∙ c.put.ensures.command ∙ ap (λ stamp. stamp ++ command_bytes c.args.self.now.cmd) c.put_stamp.ensures.stamp ∙ stamp_and_command c.args.self.now in
    let full = subst (λ bytes. vec_capacity c.args.out.now < vec_len c.args.out.now + length bytes) whole c.in_err-extend_from_slice.ensures.full in
    search rules
