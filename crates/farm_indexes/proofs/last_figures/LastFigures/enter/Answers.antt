-- Answers to the open goals of `enter`.
use Rattle.farm_indexes.proofs.FiguresKept.{first_paired, last_more, second_paired}
use Rattle.farm_indexes.proofs.last_figures.LastFigures.enter.Goals as goal

pub returns : goal.returns
returns c =
    let history = c.args.past.now in
    let entry = c.args.entry.now in
    let figured = c.args.figured.now in
    let limit = c.requires.follows.limit in
    let accepted = c.requires.follows.next.accepted in
    let pairs = c.named_by-pairs.result in
    let named = c.named_by-pairs.ensures.named in
    let first = first_paired limit history entry pairs.first pairs.second figured accepted named c.requires.figures in
    let second = second_paired limit history entry pairs.first pairs.second figured accepted named c.named_by-pairs.ensures.in_order c.requires.figures in
    let kept = c.keep-2.ensures.kept history (c.keep.ensures.kept history c.requires.last first) second in
    record { last = last_more history entry c.keep-2.new.self kept }
