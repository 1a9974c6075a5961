-- Answers to the open goals of `gain_at`.
use Rattle.std.proofs.Common.{sym, ◌∙◌}
use Rattle.history_lookups.proofs.HistoryStocks.{gain_at_is}
use Rattle.history_lookups.proofs.past.Past.gain_at.Goals as goal

pub returns : goal.returns
returns c = record {
  gain =
      let history = c.args.self.now in
      let past = c.before-past.result in
      c.gain_after.ensures.gain
      ∙ gain_at_is history past c.args.place c.in_ok-entry.entry.now c.in-Settle.tank c.in-Settle.gauged (sym c.in_ok-entry.ensures.entry) c.in-Settle.is
      c.before-past.ensures.before;
}
