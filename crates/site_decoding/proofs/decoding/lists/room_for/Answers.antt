-- Answers to the open goals of `room_for`.
use Rattle.std.proofs.Common.{◌/◌, ◌≤◌, length, arith}
use Rattle.std.proofs.lemmas.Nat.{div-add-mod', mul-le}
use Rattle.site_decoding.proofs.decoding.lists.room_for.Goals as goal

pub returns-clause-held : goal.returns-clause-held
returns-clause-held c =
    let n = length c.args.bytes.now in
    let size = c.args.size in
    let few : c.min.result ≤ n / size = omega (arith, c.min.ensures) in
    omega (arith, div-add-mod' n size, mul-le c.min.result size (n / size) size few (omega arith))
