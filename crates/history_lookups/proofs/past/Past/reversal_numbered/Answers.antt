-- Answers to the open goals of `reversal_numbered`.
use Rattle.std.proofs.Common.{Some, option_map, ap, sym, ◌∙◌}
use Rattle.farm_ticket.specs.Reversing.{reversal}
use Rattle.history_lookups.proofs.Closings.{unnumbered_reversed}
use Rattle.history_lookups.proofs.past.Past.reversal_numbered.Goals as goal

pub returns : goal.returns
returns c = record {
  ticket =
      let history = c.args.self.now in
      let past = c.before-2.result in
      ap Some c.reversal.ensures.reversal
      ∙ ap (option_map (reversal c.args.place c.args.number)) c.in_ok-unnumbered.ensures.ticket
      ∙ unnumbered_reversed history past c.args.place c.args.number c.args.reversed c.in_ok-entry.entry.now (sym c.in_ok-entry.ensures.entry)
      c.before-2.ensures.before;
}
