-- Answers to the open goals of `add`.
use Rattle.std.proofs.Common.{◌+◌, ◌-◌, ◌++◌, ℕ, List, take, drop, subst, arith, ◌∙◌}
use Rattle.farm_batch.specs.Puts.{PutsPrefix}
use Rattle.farm_batch.proofs.Prefixes.{piece_after, put_longer, put_then, puts_failed, rest_after}
use Rattle.farm_batch.proofs.waiting.Waiting.add.Goals as goal

pub returns-in_err-add_piece-clause-puts : goal.returns-in_err-add_piece-clause-puts
returns-in_err-add_piece-clause-puts g c =
    let put = c.in_err-add_piece.ensures.puts in
    let text = c.args.text.now in
    let done = c.loop-done.done in
    let count = c.min-count.result in
    let piece = take (done + count - done) (drop done text) in
    let old = g.K.Port.held c.args.output.now in
    let new = g.K.Port.held c.add_piece.new.output in
    let added : PutsPrefix old new ((c.args.self.now ++ take done text) ++ piece) put.1 = put_then _ _ _ _ _ piece _ c.loop-done.invariant.puts put.2 in
    let all : PutsPrefix old new (((c.args.self.now ++ take done text) ++ piece) ++ drop (done + count) text) (put.1 ++ drop (done + count) text) =
    put_longer _ _ _ _ (drop (done + count) text) added in
    puts_failed _ _ _ _ _ _ c.from_residual.ensures.0 put.0
    (subst (λ (answers : List ℕ). PutsPrefix old new answers (put.1 ++ drop (done + count) text)) (rest_after c.args.self.now text done count) all)

pub loop-done-preserved : goal.loop-done-preserved
loop-done-preserved g c =
    let put = c.in_ok-add_piece.ensures in
    let text = c.args.text.now in
    let done = c.loop-done.done in
    let count = c.min-count.result in
    let piece = take (done + count - done) (drop done text) in
    record {
      within = omega (arith, c.min-count.ensures, c.loop-done.invariant.within);
      puts =
          subst (λ (answers : List ℕ). PutsPrefix (g.K.Port.held c.args.output.now) (g.K.Port.held c.add_piece.new.output) answers c.add_piece.new.self)
          (piece_after c.args.self.now text done count) (put_then _ _ _ _ _ piece _ c.loop-done.invariant.puts put.puts);
      quiet = put.counts.quiet ∙ c.loop-done.invariant.quiet;
    }
