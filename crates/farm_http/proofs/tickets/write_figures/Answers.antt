-- Answers to the open goals of `write_figures`.
use Rattle.std.proofs.Common.{rules}
use Rattle.farm_http.proofs.Bodies.{signed_is}
use Rattle.farm_http.proofs.tickets.write_figures.Goals as goal

pub returns : goal.returns
returns c =
    let q = c.args.figures.now in
    rw (
      ← signed_is q.ctsh,
      ← signed_is q.fra,
      ← signed_is q.fw,
      ← signed_is q.gov,
      ← signed_is q.gsv,
      ← signed_is q.mass,
      ← signed_is q.nsv,
      ← signed_is q.swv,
      ← signed_is q.tov,
      ← signed_is q.vcf,
    )
    (search rules)
