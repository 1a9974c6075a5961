-- Answers to the open goals of `pass`.
use Rattle.std.proofs.Common.{◌≡◌, ◌+◌, ◌-◌, ◌≤◌, length, take, drop, ap, sym, ◌∙◌, arith, length-take}
use Rattle.farm_journal.proofs.Windows.{passed, shows_passed}
use Rattle.farm_journal.proofs.window.Window.pass.Goals as goal

pub returns-clause-ahead : goal.returns-clause-ahead
returns-clause-ahead g c =
    let inside = c.self.inside in
    let ahead : take (inside.to - inside.from) (drop inside.from inside.bytes.items) ≡ c.args.self.now.ahead =
    ap (λ window. window.ahead) c.self.view_is in
    let within : inside.from + c.args.count ≤ inside.to =
    omega (arith, c.requires.ahead, ap length ahead, c.self.invariant, length-take (inside.to - inside.from) (drop inside.from inside.bytes.items)) in
    passed c.args.count inside.from inside.to inside.bytes.items within ∙ ap (λ ahead. drop c.args.count ahead) ahead

pub returns-clause-shows : goal.returns-clause-shows
returns-clause-shows g c =
    let inside = c.self.inside in
    let ahead : take (inside.to - inside.from) (drop inside.from inside.bytes.items) ≡ c.args.self.now.ahead =
    ap (λ window. window.ahead) c.self.view_is in
    let within : inside.from + c.args.count ≤ inside.to =
    omega (arith, c.requires.ahead, ap length ahead, c.self.invariant, length-take (inside.to - inside.from) (drop inside.from inside.bytes.items)) in
    shows_passed g.D.Disk.trace c.args.self.now
    (record {
      disk = inside.disk;
      offset = inside.offset + c.args.count;
      ahead = take (inside.to - (inside.from + c.args.count)) (drop (inside.from + c.args.count) inside.bytes.items);
    })
    c.args.count c.requires.ahead (ap (λ window. window.disk) (sym c.self.view_is))
    (ap (λ window. window.offset + c.args.count) (sym c.self.view_is))
    (sym (passed c.args.count inside.from inside.to inside.bytes.items within ∙ ap (λ ahead. drop c.args.count ahead) ahead))
