-- No answer depends on the clock: histories that differ in the moments of their entries alone give the same answers, and stay so.
use Rattle.std.proofs.Common.{◌≡◌, ℕ, ◌+◌, nat_lt, Bool, true, false, if◌then◌else◌, List, [], ◌∷◌, length, Option, Some, None, option_map, ℤ, pos, refl, ap, ap₂, sym, ◌∙◌}
use Rattle.std.proofs.lemmas.List.{length-map, map-append}
use Rattle.farm_base.specs.Steps.{or_else}
use Rattle.farm_history.specs.declared.ask.Ask.{Ask}
use Rattle.farm_history.specs.declared.ask.Ask.TheVariants.{Do, Look}
use Rattle.farm_history.specs.declared.command.Command.{Command}
use Rattle.farm_history.specs.declared.entry.Entry.{Entry}
use Rattle.farm_history.specs.declared.query.Query.{Query}
use Rattle.farm_history.specs.declared.rule.Rule.TheVariants.{KeyReused, HistoryFull}
use Rattle.farm_history.specs.declared.verdict.Verdict.{Verdict}
use Rattle.farm_history.specs.declared.verdict.Verdict.TheVariants.{Repeat, Refused, Accept}
use Rattle.farm_history.specs.Commands.{is_stop}
use Rattle.farm_history.specs.Desk.{Answered, answered_on, desk_answer, looked_up, reply_at, stamped}
use Rattle.farm_history.specs.History.{History, last_place, with_entry}
use Rattle.farm_history.specs.Rules.{broken_rule, history_full, is_full, is_repeat, key_reused, has_same_key}
use Rattle.farm_history.specs.Verdicts.{is_accepted, refused_or_accepted, repeated_or, verdict}
use Rattle.farm_http.specs.Requests.{ask_of_line}
use Rattle.farm_http.specs.declared.page.Page.TheVariants as pages
use Rattle.batch_lines.specs.declared.limits.TheConstants.{MOST_REQUEST_LINE_BYTES}
use Rattle.farm_batch.specs.declared.limits.TheConstants.{BATCH_CALLER}
use Rattle.farm_batch.proofs.Timeless.{place_of_image, without_moment, without_moments}
use Rattle.farm_batch.proofs.TimelessRules.{same_by_command, same_look, same_reply}
use Rattle.farm_batch.specs.LineAnswers.{LineAnswer, answer_to, line_answer, line_too_long, unasked}

-- the answer to a line, with the history that it leaves at moment 0
abbrev pub without_clock : LineAnswer → LineAnswer
without_clock answer = record { page = answer.page; history = without_moments answer.history; stops = answer.stops }

-- whether the history has the key doesn't depend on the moments
same_keys : (history : History) (entry : Entry) → key_reused (without_moments history) (without_moment entry) ≡ key_reused history entry
unfolding key_reused
same_keys history entry = ap (option_map KeyReused) (place_of_image without_moment (has_same_key entry) 1 history.entries)

-- whether the history is full doesn't depend on the moments
same_room : (limit : ℕ) (history : History) (command : Command) → history_full limit (without_moments history) command ≡ history_full limit history command
unfolding history_full
same_room limit history command =
    ap (λ (entries : ℕ). if is_full limit entries (is_stop command) then Some HistoryFull else None) (length-map history.entries without_moment)

-- the first broken rule doesn't depend on the moments
same_broken : (limit : ℕ) (history : History) (entry : Entry) →
    broken_rule limit (without_moments history) (without_moment entry) ≡ broken_rule limit history entry
unfolding broken_rule
same_broken limit history entry =
    ap₂ or_else (same_keys history entry) (ap₂ or_else (same_room limit history entry.cmd) (same_by_command history entry.cmd))

-- the verdict doesn't depend on the moments
verdict_at_zero : (limit : ℕ) (history : History) (entry : Entry) →
    verdict limit (without_moments history) (without_moment entry) ≡ verdict limit history entry
unfolding verdict
verdict_at_zero limit history entry =
    ap₂ (λ place rule. repeated_or place (refused_or_accepted rule))
    (place_of_image without_moment (is_repeat entry) 1 history.entries) (same_broken limit history entry)

-- what the desk answers, with the history that it leaves at moment 0
abbrev answered_at_zero : Answered → Answered
answered_at_zero answered = record { reply = answered.reply; history = without_moments answered.history }

-- a history with one entry more is the same but for the moments
with_entry_at_zero : (history : History) (entry : Entry) →
    without_moments (with_entry history entry) ≡ with_entry (without_moments history) (without_moment entry)
with_entry_at_zero history entry =
    ap {B = History} (λ entries. record { site = history.site; entries = entries }) (map-append without_moment history.entries (entry ∷ []))

-- the reply for a further entry doesn't depend on the moments
reply_at_zero : (history : History) (entry : Entry) →
    reply_at (with_entry history entry) (last_place history + 1)
    ≡ reply_at (with_entry (without_moments history) (without_moment entry)) (last_place (without_moments history) + 1)
reply_at_zero history entry =
    sym (same_reply (with_entry history entry) (last_place history + 1))
    ∙ ap₂ (λ past count. reply_at past (count + 1)) (with_entry_at_zero history entry) (sym (length-map history.entries without_moment))

-- what is answered on a verdict doesn't depend on the moments
answered_on_at_zero : (history : History) (entry : Entry) (verdict : Verdict) →
    answered_at_zero (answered_on history entry verdict) ≡ answered_on (without_moments history) (without_moment entry) verdict
answered_on_at_zero history entry (Repeat place) =
    ap {B = Answered} (λ reply. record { reply = reply; history = without_moments history }) (sym (same_reply history place))
answered_on_at_zero history entry (Refused rule) = refl
answered_on_at_zero history entry Accept =
    ap₂ {C = Answered} (λ reply after. record { reply = reply; history = after }) (reply_at_zero history entry) (with_entry_at_zero history entry)

-- the verdict on a command is the same after histories that differ in moments alone, whatever the clock gave
same_verdict : (limit : ℕ) (first second : History) (caller account key : ℕ) (now later : ℤ) (command : Command) →
    without_moments first ≡ without_moments second →
    verdict limit first (stamped first caller now account key command) ≡ verdict limit second (stamped second caller later account key command)
same_verdict limit first second caller account key now later command same =
    sym (verdict_at_zero limit first (stamped first caller now account key command))
    ∙ ap (λ history. verdict limit history (record { caller = caller; account = account; key = key; at = pos 0; cmd = command })) same
    ∙ verdict_at_zero limit second (stamped second caller later account key command)

-- what the desk answers is the same after such histories
same_desk : (limit : ℕ) (first second : History) (caller account key : ℕ) (now later : ℤ) (command : Command) →
    without_moments first ≡ without_moments second →
    answered_at_zero (desk_answer limit first caller now (Do account key command))
    ≡ answered_at_zero (desk_answer limit second caller later (Do account key command))
unfolding desk_answer
same_desk limit first second caller account key now later command same =
    let entry = stamped first caller now account key command in
    let other = stamped second caller later account key command in
    answered_on_at_zero first entry (verdict limit first entry)
    ∙ ap₂ (λ history verdict. answered_on history (without_moment entry) verdict) same
    (same_verdict limit first second caller account key now later command same)
    ∙ sym (answered_on_at_zero second other (verdict limit second other))

-- the reply to a look-up is the same after such histories
same_looked_up : (first second : History) (query : Query) → without_moments first ≡ without_moments second → looked_up first query ≡ looked_up second query
same_looked_up first second query same = sym (same_look first query) ∙ ap (λ history. looked_up history query) same ∙ same_look second query

-- the answer to what a line asks for is the same after such histories
same_answer_to : (limit : ℕ) (first second : History) (now later : ℤ) (ask : Option Ask) → without_moments first ≡ without_moments second →
    without_clock (answer_to limit first now ask) ≡ without_clock (answer_to limit second later ask)
unfolding desk_answer
same_answer_to limit first second now later None same =
    ap {B = LineAnswer} (λ history. record { page = pages.Status 400 None; history = history; stops = false }) same
same_answer_to limit first second now later (Some (Do account key command)) same =
    ap₂ {C = LineAnswer} (λ (answered : Answered) stops. record { page = pages.Reply answered.reply; history = answered.history; stops = stops })
    (same_desk limit first second BATCH_CALLER account key now later command same)
    (ap (λ verdict. if is_stop command then is_accepted verdict else false)
    (same_verdict limit first second BATCH_CALLER account key now later command same))
same_answer_to limit first second now later (Some (Look query)) same =
    ap₂ {C = LineAnswer} (λ reply history. record { page = pages.Reply reply; history = history; stops = false })
    (same_looked_up first second query same) same

-- the answer to a line is the same after histories that differ in moments alone, whatever the clock gave, and so are the histories left
pub same_answer : (limit : ℕ) (first second : History) (now later : ℤ) (line : List ℕ) → without_moments first ≡ without_moments second →
    without_clock (line_answer limit first now line) ≡ without_clock (line_answer limit second later line)
unfolding line_answer
same_answer limit first second now later line same = by (nat_lt MOST_REQUEST_LINE_BYTES (length line)) (ask_of_line line)
  where
    by : (long : Bool) (ask : Option Ask) →
        without_clock (if long then unasked first line_too_long else answer_to limit first now ask)
        ≡ without_clock (if long then unasked second line_too_long else answer_to limit second later ask)
    by true ask = ap {B = LineAnswer} (λ history. record { page = line_too_long; history = history; stops = false }) same
    by false ask = same_answer_to limit first second now later ask same
