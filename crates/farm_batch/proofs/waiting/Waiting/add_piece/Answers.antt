-- Answers to the open goals of `add_piece`.
use Rattle.farm_batch.proofs.Prefixes.{put_longer, puts_failed}
use Rattle.farm_batch.proofs.waiting.Waiting.add_piece.Goals as goal

pub returns-in_err-put-clause-puts : goal.returns-in_err-put-clause-puts
returns-in_err-put-clause-puts g c =
    let put = c.in_err-put.ensures.puts in
    puts_failed _ _ _ _ _ _ c.from_residual.ensures.0 put.0 (put_longer _ _ _ _ c.args.piece.now put.2)
