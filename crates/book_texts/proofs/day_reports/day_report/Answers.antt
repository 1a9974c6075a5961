-- Answers to the open goals of `day_report`.
use Rattle.std.proofs.Common.{to_z, of_z, w64, rules, sym, subst, ap, ◌∙◌}
use Rattle.std.proofs.lemmas.Int.{to_z-of_z}
use Rattle.farm_history.specs.History.{History}
use Rattle.text_pieces.specs.Pieces.{Lengthens}
use Rattle.day_balances.specs.Days.{NeverFall}
use Rattle.day_balances.proofs.Order.{never_fall}
use Rattle.book_texts.specs.DayReports.{IsDayReport, day_report_text}
use Rattle.book_texts.proofs.Reports.{report_is, report_meant}
use Rattle.book_texts.proofs.day_reports.day_report.Goals as goal

pub of_day-balances-requires-clause-in_order : goal.of_day-balances-requires-clause-in_order
of_day-balances-requires-clause-in_order g c =
    subst (λ (h : History). NeverFall h.entries) (sym c.past-past.ensures.history) (never_fall g.row.LIMIT c.args.book.now.history c.past-past.ensures.sound.legal)

pub places_of-places-requires-clause-in_order : goal.places_of-places-requires-clause-in_order
places_of-places-requires-clause-in_order g c =
    subst (λ (h : History). NeverFall h.entries) (sym (c.past.view_is ∙ c.past-past.ensures.history))
    (never_fall g.row.LIMIT c.args.book.now.history c.past-past.ensures.sound.legal)

pub returns-then-is_err-clause-meaning : goal.returns-then-is_err-clause-meaning
returns-then-is_err-clause-meaning g c =
    let history = c.past-past.result in
    let same = to_z-of_z w64 c.args.day (record { sfits = c.ranges.day.sfits }) in
    let places = c.places_of-places in
    let entries = c.past.inside.entries.now in
    let read = ap (λ (h : History). h.entries) c.past.view_is in
    let meant = report_meant history entries (to_z w64 (of_z w64 c.args.day)) c.day_text.result places.result.before places.result.through read
    c.day_text.ensures.text c.day_text.ensures.written places.ensures.before places.ensures.through places.ensures.order places.ensures.within places.ensures.parted
    c.of_day-balances.ensures.meaning in
    subst (λ (h : History). IsDayReport h c.args.day (day_report_text h c.args.day)) c.past-past.ensures.history
    (subst (λ day. IsDayReport history day (day_report_text history day)) same meant)

pub returns-else-is_err-clause-meaning : goal.returns-else-is_err-clause-meaning
returns-else-is_err-clause-meaning g c =
    let history = c.past-past.result in
    let same = to_z-of_z w64 c.args.day (record { sfits = c.ranges.day.sfits }) in
    let places = c.places_of-places in
    let entries = c.past.inside.entries.now in
    let read = ap (λ (h : History). h.entries) c.past.view_is in
    let meant = report_meant history entries (to_z w64 (of_z w64 c.args.day)) c.day_text.result places.result.before places.result.through read
    c.day_text.ensures.text c.day_text.ensures.written places.ensures.before places.ensures.through places.ensures.order places.ensures.within places.ensures.parted
    c.of_day-balances.ensures.meaning in
    subst (λ (h : History). IsDayReport h c.args.day (day_report_text h c.args.day)) c.past-past.ensures.history
    (subst (λ day. IsDayReport history day (day_report_text history day)) same meant)

pub returns-else-is_err-clause-appended : goal.returns-else-is_err-clause-appended
returns-else-is_err-clause-appended g c =
    let history = c.past-past.result in
    let same = to_z-of_z w64 c.args.day (record { sfits = c.ranges.day.sfits }) in
    let places = c.places_of-places in
    let entries = c.past.inside.entries.now in
    let read = ap (λ (h : History). h.entries) c.past.view_is in
    let text = report_is history entries (to_z w64 (of_z w64 c.args.day)) c.day_text.result c.of_day-balances.result places.result.before
    places.result.through read c.day_text.ensures.text c.of_day-balances.ensures.balances places.ensures.before places.ensures.through
    ∙ ap (day_report_text history) same
    ∙ ap (λ (h : History). day_report_text h c.args.day) c.past-past.ensures.history in
    let lines = subst (λ t. Lengthens c.args.out.now.items c.write_report-written.new.out.items t c.write_report-written.result) text c.write_report-written.ensures.lines in
    record { ok = lines.ok; err = search rules }
