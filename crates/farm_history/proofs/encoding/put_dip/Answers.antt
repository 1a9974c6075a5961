-- Answers to the open goals of `put_dip`.
use Rattle.std.proofs.Common.{ℕ, [], ◌∷◌, ◌++◌, length, ap, ◌∙◌, arith, rules, length-append}
use Rattle.std.specs.Int.{w64}
use Rattle.std.proofs.lemmas.Int.{to_z-of_z}
use mir.Val.{SFits}
use Rattle.farm_history.proofs.Joined.{six_joined, dip_bytes, kind-from_bool}
use Rattle.farm_history.proofs.encoding.put_dip.Goals as goal

pub put_list-requires-clause-room : goal.put_list-requires-clause-room
put_list-requires-clause-room c =
    omega (arith, ap length c.push.ensures.pushed, ap length c.put_tank.ensures.tank, length-append {A = ℕ}, c.requires.room)

pub put_list-requires-2-clause-room : goal.put_list-requires-2-clause-room
put_list-requires-2-clause-room c =
    omega (arith, c.put_list.ensures.at_most, ap length c.push.ensures.pushed, ap length c.put_tank.ensures.tank, length-append {A = ℕ}, c.requires.room)

pub put_list-requires-3-clause-room : goal.put_list-requires-3-clause-room
put_list-requires-3-clause-room c =
    omega (arith, c.put_list-2.ensures.at_most, c.put_list.ensures.at_most, ap length c.push.ensures.pushed, ap length c.put_tank.ensures.tank, length-append {A = ℕ}, c.requires.room)

pub push_numbers-requires : goal.push_numbers-requires
push_numbers-requires c = record {
  room = omega (arith, c.put_list-3.ensures.at_most, c.put_list-2.ensures.at_most, c.put_list.ensures.at_most, ap length c.push.ensures.pushed, ap length c.put_tank.ensures.tank, length-append {A = ℕ}, c.requires.room);
}

pub returns-clause-dip : goal.returns-clause-dip
returns-clause-dip c =
    let ambient : SFits w64 c.args.ambient = search rules in
    let last = simp to_z-of_z at c.push_numbers.ensures.pushed in
    let kind = c.push.ensures.pushed ∙ ap (λ byte. c.put_tank.new.out ++ byte ∷ []) (c.from.ensures ∙ kind-from_bool c.args.outage) in
    six_joined c.args.out.now _ _ _ _ _ _ _ _ _ _ _ _ c.put_tank.ensures.tank kind c.put_list.ensures.list c.put_list-2.ensures.list c.put_list-3.ensures.list last
    ∙ dip_bytes c.args.out.now c.args.tank c.args.outage c.args.tapes.now c.args.water.now c.args.temperatures.now c.args.ambient
