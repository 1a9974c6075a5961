-- The lines of tanks and of tickets, one after another.
use Rattle.std.proofs.Common.{◌≡◌, ℕ, suc, ◌+◌, ◌-◌, ◌<◌, ◌≤◌, Bool, true, false, if◌then◌else◌, List, [], ◌∷◌, ◌++◌, length, map, take, drop, get_or, All, ℤ, refl, ap, ap₂, sym, ◌∙◌, subst, append_assoc, arith}
use Rattle.std.proofs.lemmas.List.{append-nil, length-drop, length-take-le, take_more}
use Rattle.std.proofs.lemmas.List.Elements.{All-head, All-tail}
use Rattle.calendar_days.specs.DayTexts.{IsDayText, day_text}
use Rattle.farm_site.specs.declared.items.Tank.{Tank}
use Rattle.farm_history.specs.declared.entry.Entry.{Entry}
use Rattle.farm_history.specs.Commands.{issues_ticket}
use Rattle.farm_history.specs.History.{History, before, last_place}
use Rattle.farm_history.specs.Tickets.{next_number, ticket_at, tickets_in}
use Rattle.day_balances.specs.Balances.{IsDayBalance, day_balance, day_balances}
use Rattle.day_balances.specs.Days.{AreParted, count_before, count_through}
use Rattle.day_balances.specs.declared.balance.Balance.{Balance}
use Rattle.book_texts.specs.DayReports.{AreDayBalances, IsDayReport, day_report_text, head_lines, line_of_ticket, report_lines, tank_balance_lines, tanks_balance_lines, ticket_lines}

-- the lines of tanks with one more at the end
tanks_append : (tanks : List Tank) (balances : List Balance) (tank : Tank) (balance : Balance) → length tanks ≡ length balances →
    tanks_balance_lines (tanks ++ tank ∷ []) (balances ++ balance ∷ []) ≡ tanks_balance_lines tanks balances ++ tank_balance_lines tank.number balance
tanks_append [] [] tank balance same = append-nil (tank_balance_lines tank.number balance)
tanks_append [] (other ∷ balances) tank balance same = absurd (omega (arith, same))
tanks_append (other ∷ tanks) [] tank balance same = absurd (omega (arith, same))
tanks_append (first ∷ tanks) (other ∷ balances) tank balance same =
    ap (λ rest. tank_balance_lines first.number other ++ rest) (tanks_append tanks balances tank balance (omega (arith, same)))
    ∙ sym (append_assoc (tank_balance_lines first.number other) (tanks_balance_lines tanks balances) (tank_balance_lines tank.number balance))

-- the lines of the first tanks, one tank on
pub tanks_more : (old before now : List ℕ) (tanks : List Tank) (balances : List Balance) (index : ℕ) (tank : Tank) (balance : Balance) →
    length balances ≡ length tanks → index < length tanks →
    before ≡ old ++ tanks_balance_lines (take index tanks) (take index balances) →
    now ≡ before ++ tank_balance_lines (get_or tanks index tank).number (get_or balances index balance) →
    now ≡ old ++ tanks_balance_lines (take (index + 1) tanks) (take (index + 1) balances)
tanks_more old before now tanks balances index tank balance as_many within so_far is =
    let done = tanks_balance_lines (take index tanks) (take index balances) in
    let lines = tank_balance_lines (get_or tanks index tank).number (get_or balances index balance) in
    let short : index < length balances = omega (arith, as_many, within) in
    let lengths : length (take index tanks) ≡ length (take index balances) =
    length-take-le index tanks (omega (arith, within)) ∙ sym (length-take-le index balances (omega (arith, short))) in
    is
    ∙ ap (λ t. t ++ lines) so_far
    ∙ append_assoc old done lines
    ∙ ap (λ t. old ++ t)
    (sym (tanks_append (take index tanks) (take index balances) (get_or tanks index tank) (get_or balances index balance) lengths)
    ∙ ap₂ tanks_balance_lines (sym (take_more tanks index tank within)) (sym (take_more balances index balance short)))

-- one ticket more
tickets_append : (entries : List Entry) (entry : Entry) →
    tickets_in (entries ++ entry ∷ []) ≡ (if issues_ticket entry.cmd then tickets_in entries + 1 else tickets_in entries)
tickets_append [] entry = refl
tickets_append (first ∷ entries) entry = by (issues_ticket first.cmd) (issues_ticket entry.cmd) (tickets_append entries entry)
  where
    by : (here last : Bool) → tickets_in (entries ++ entry ∷ []) ≡ (if last then tickets_in entries + 1 else tickets_in entries) →
        (if here then tickets_in (entries ++ entry ∷ []) + 1 else tickets_in (entries ++ entry ∷ []))
        ≡ (if last then (if here then tickets_in entries + 1 else tickets_in entries) + 1 else (if here then tickets_in entries + 1 else tickets_in entries))
    by true true same = ap (λ n. n + 1) same
    by true false same = ap (λ n. n + 1) same
    by false true same = same
    by false false same = same

-- entries issue no more tickets than they are
tickets_few : (entries : List Entry) → tickets_in entries ≤ length entries
tickets_few [] = omega arith
tickets_few (entry ∷ entries) = by (issues_ticket entry.cmd) (tickets_few entries)
  where
    by : (issues : Bool) → tickets_in entries ≤ length entries → (if issues then tickets_in entries + 1 else tickets_in entries) ≤ suc (length entries)
    by true few = omega (arith, few)
    by false few = omega (arith, few)

-- the number of the next ticket isn't above the next place
pub next_few : (history : History) (index : ℕ) → index ≤ last_place history → next_number (before history (index + 1)) ≤ index + 1
next_few history index within =
    let count : index + 1 - 1 ≡ index = omega arith in
    let long : length (take (index + 1 - 1) history.entries) ≡ index = ap (λ n. length (take n history.entries)) count ∙ length-take-le index history.entries within in
    omega (arith, tickets_few (take (index + 1 - 1) history.entries), long)

-- the number of the next ticket, one entry on
pub next_more : (history : History) (index number now : ℕ) (entry : Entry) → index < last_place history → number ≡ next_number (before history (index + 1)) →
    now ≡ (if issues_ticket (get_or history.entries index entry).cmd then number + 1 else number) → now ≡ next_number (before history (index + 1 + 1))
next_more history index number now entry within counted is = by (issues_ticket (get_or history.entries index entry).cmd) refl
  where
    front : List Entry
    front = take index history.entries

    here : Entry
    here = get_or history.entries index entry

    count : index + 1 - 1 ≡ index
    count = omega arith

    before_is : number ≡ tickets_in front + 1
    before_is = counted ∙ ap (λ n. tickets_in (take n history.entries) + 1) count

    after_count : index + 1 + 1 - 1 ≡ index + 1
    after_count = omega arith

    after_is : next_number (before history (index + 1 + 1)) ≡ (if issues_ticket here.cmd then tickets_in front + 1 else tickets_in front) + 1
    after_is =
        ap (λ n. tickets_in (take n history.entries) + 1) after_count
        ∙ ap (λ entries. tickets_in entries + 1) (take_more history.entries index entry within)
        ∙ ap (λ n. n + 1) (tickets_append front here)

    by : (issues : Bool) → issues_ticket here.cmd ≡ issues → now ≡ next_number (before history (index + 1 + 1))
    by true e =
        let first : now ≡ number + 1 = is ∙ ap (λ (issues : Bool). if issues then number + 1 else number) e in
        let last : next_number (before history (index + 1 + 1)) ≡ tickets_in front + 1 + 1 =
        after_is ∙ ap (λ (issues : Bool). (if issues then tickets_in front + 1 else tickets_in front) + 1) e in
        first ∙ ap (λ n. n + 1) before_is ∙ sym last
    by false e =
        let first : now ≡ number = is ∙ ap (λ (issues : Bool). if issues then number + 1 else number) e in
        let last : next_number (before history (index + 1 + 1)) ≡ tickets_in front + 1 =
        after_is ∙ ap (λ (issues : Bool). (if issues then tickets_in front + 1 else tickets_in front) + 1) e in
        first ∙ before_is ∙ sym last

-- after no entry there is no ticket
pub none_yet : (history : History) (place : ℕ) (old : List ℕ) → old ≡ old ++ ticket_lines history place (place - place)
unfolding ticket_lines
none_yet history place old =
    let none : place - place ≡ 0 = omega arith in
    sym (ap (λ count. old ++ ticket_lines history place count) none ∙ append-nil old)

-- the lines of tickets, one entry on
pub tickets_more : (history : History) (place index : ℕ) (old before now : List ℕ) → place ≤ index →
    before ≡ old ++ ticket_lines history place (index - place) → now ≡ before ++ line_of_ticket (ticket_at history (index + 1)) →
    now ≡ old ++ ticket_lines history place (index + 1 - place)
unfolding ticket_lines
tickets_more history place index old before now order so_far is =
    let count : index + 1 - place ≡ suc (index - place) = omega (arith, order) in
    let here : index + 1 ≡ suc (place + (index - place)) = omega (arith, order) in
    is
    ∙ ap₂ (λ (t : List ℕ) n. t ++ line_of_ticket (ticket_at history n)) so_far here
    ∙ append_assoc old (ticket_lines history place (index - place)) (line_of_ticket (ticket_at history (suc (place + (index - place)))))
    ∙ ap (λ n. old ++ ticket_lines history place n) (sym count)

-- the balances of tanks on a day, one each
each_meant : (history : History) (day : ℤ) (tanks : List Tank) → All (λ tank. IsDayBalance history day tank.number (day_balance history day tank)) tanks →
    AreDayBalances history day tanks (map (day_balance history day) tanks)
each_meant history day [] meant = tt
each_meant history day (tank ∷ tanks) meant =
    let Meant : Tank → Type 0 = λ tank. IsDayBalance history day tank.number (day_balance history day tank) in
    (All-head Meant tank tanks meant, each_meant history day tanks (All-tail Meant tank tanks meant))

-- the report of a day is one in the words of the rule, where the entries that were searched are those of the history
pub report_meant : (history : History) (entries : List Entry) (day : ℤ) (written : List ℕ) (before through : ℕ) → entries ≡ history.entries →
    written ≡ day_text day → IsDayText written day → before ≡ count_before day entries → through ≡ count_through day entries → before ≤ through →
    through ≤ length entries → AreParted day entries (take before entries) (take (through - before) (drop before entries)) (drop through entries) →
    All (λ tank. IsDayBalance history day tank.number (day_balance history day tank)) history.site.tanks →
    IsDayReport history day (day_report_text history day)
unfolding day_report_text
report_meant history entries day written before through same text of_day before_is through_is order within parted meant =
    let earlier = take before entries in
    let of_the_day = take (through - before) (drop before entries) in
    let later = drop through entries in
    let count : length earlier ≡ before = length-take-le before entries (omega (arith, order, within)) in
    let rest : length (drop before entries) ≡ length entries - before = length-drop before entries in
    let count_of : length of_the_day ≡ through - before =
    length-take-le (through - before) (drop before entries) (omega (arith, rest, within)) in
    record {
      written = written;
      of_day = of_day;
      balances = day_balances history day;
      each = each_meant history day history.site.tanks meant;
      earlier = earlier;
      entries = of_the_day;
      later = later;
      parted = subst (λ (all : List Entry). AreParted day all earlier of_the_day later) same parted;
      lines =
          ap₂ (λ (day_line : List ℕ) (lines : List ℕ). head_lines history.site.name day_line ++ lines) (sym text)
          (ap₂ (λ from to. report_lines history (day_balances history day) from (to - from)) (sym (before_is ∙ ap (count_before day) same))
          (sym (through_is ∙ ap (count_through day) same))
          ∙ ap₂ (report_lines history (day_balances history day)) (sym count) (sym count_of));
    }

-- the text of the parts of a report, where the entries that were searched are those of the history
pub report_is : (history : History) (entries : List Entry) (day : ℤ) (written : List ℕ) (balances : List Balance) (before through : ℕ) →
    entries ≡ history.entries → written ≡ day_text day → balances ≡ day_balances history day → before ≡ count_before day entries →
    through ≡ count_through day entries →
    head_lines history.site.name written ++ report_lines history balances before (through - before) ≡ day_report_text history day
unfolding day_report_text
report_is history entries day written balances before through same text balances_are before_is through_is =
    ap₂ (λ (day_line : List ℕ) (lines : List ℕ). head_lines history.site.name day_line ++ lines) text
    (ap (λ (b : List Balance). report_lines history b before (through - before)) balances_are
    ∙ ap₂ (λ from to. report_lines history (day_balances history day) from (to - from)) (before_is ∙ ap (count_before day) same)
    (through_is ∙ ap (count_through day) same))
