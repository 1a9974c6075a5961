-- What an answer has to be to meet the one that is meant.
use Rattle.std.proofs.Common.{◌≡◌, ◌⊎◌, inl, inr, ℕ, ◌<◌, nat_lt, Bool, true, false, cond, ◌&&◌, List, [], ◌∷◌, length, length-append, Option, None, Some, ℤ, refl, sym, ap, subst, ◌∙◌, arith}
use Rattle.std.proofs.lemmas.Bool.{le-ltb, lt-ltb}
use Rattle.journaled_book.specs.Replies.{IsAnswered}
use Rattle.journaled_book.specs.declared.answer.Answer.TheVariants as answers
use Rattle.farm_history.specs.declared.ask.Ask.{Ask}
use Rattle.farm_history.specs.declared.ask.Ask.TheVariants.{Do, Look}
use Rattle.farm_history.specs.declared.entry.Entry.{Entry}
use Rattle.farm_history.specs.declared.reply.Reply.{Reply}
use Rattle.farm_history.specs.declared.verdict.Verdict.{Verdict}
use Rattle.farm_history.specs.declared.verdict.Verdict.TheVariants as verdicts
use Rattle.farm_history.specs.Commands.{is_stop}
use Rattle.farm_history.specs.Desk.{answered_on, desk_answer, stamped}
use Rattle.farm_history.specs.History.{History, last_place, with_entry}
use Rattle.farm_history.specs.Verdicts.{is_accepted, verdict}
use Rattle.farm_http.specs.Requests.{ask_of_line}
use Rattle.farm_http.specs.declared.page.Page.{Page}
use Rattle.farm_http.specs.declared.page.Page.TheVariants as pages
use Rattle.batch_lines.specs.Reader.{kept}
use Rattle.batch_lines.specs.declared.limits.TheConstants.{MOST_REQUEST_LINE_BYTES}
use Rattle.farm_batch.specs.declared.limits.TheConstants.{BATCH_CALLER}
use Rattle.farm_batch.specs.LineAnswers.{AsksNothing, LineAnswer, MeetsLine, answer_to, disk_fault, is_accepted_stop, is_stop_ask, line_answer, line_too_long, out_of_memory, unasked}

-- a page, the history that was left and whether the batch ends are those of an answer
pub record IsMeant (meant : LineAnswer) (after : History) (page : Page) (stops : Bool) : Type 0 where
  pub page_is : page ≡ meant.page
  pub history_is : after ≡ meant.history
  pub stops_is : stops ≡ meant.stops

-- what is an answer meets it
pub meets : (line : List ℕ) (before after : History) (meant : LineAnswer) (page : Page) (stops : Bool) → IsMeant meant after page stops →
    MeetsLine line before after meant page stops
meets line before after meant page stops is = inl (record { page = is.page_is; history = is.history_is; stops = is.stops_is })

-- what replaces an answer if there was no memory meets it
pub meets_memory : (line : List ℕ) (before after : History) (meant : LineAnswer) → (after ≡ before) ⊎ (after ≡ meant.history) →
    MeetsLine line before after meant out_of_memory false
meets_memory line before after meant left = inr (inl (record { page_is = refl; history = left; stops = refl }))

-- so does what replaces it if the disk failed, of a line that asks something
pub meets_fault : (line : List ℕ) (before after : History) (meant : LineAnswer) → (after ≡ before) ⊎ (after ≡ meant.history) → ¬ (AsksNothing line) →
    MeetsLine line before after meant disk_fault false
meets_fault line before after meant left asks = inr (inr (record { page_is = refl; history = left; stops = refl }, asks))

-- the history that an answer left has more entries if and only if its command was accepted
grown_where_accepted : (history after : History) (entry : Entry) (judged : Verdict) → after ≡ (answered_on history entry judged).history →
    nat_lt (last_place history) (last_place after) ≡ is_accepted judged
grown_where_accepted history after entry verdicts.Accept is =
    let more : last_place history < last_place (with_entry history entry) = omega (arith, length-append history.entries (entry ∷ [])) in
    ap (λ (left : History). nat_lt (last_place history) (last_place left)) is ∙ lt-ltb (last_place history) (last_place (with_entry history entry)) more
grown_where_accepted history after entry (verdicts.Repeat place) is =
    ap (λ (left : History). nat_lt (last_place history) (last_place left)) is ∙ le-ltb (last_place history) (last_place history) (omega arith)
grown_where_accepted history after entry (verdicts.Refused rule) is =
    ap (λ (left : History). nat_lt (last_place history) (last_place left)) is ∙ le-ltb (last_place history) (last_place history) (omega arith)

-- of a Stop that was accepted or not, the answer ends the batch or not
stops_so : (stop grown judged : Bool) → grown ≡ judged → (stop && grown) ≡ cond stop judged false
stops_so true grown judged is = is
stops_so false grown judged is = refl

-- a request is a Stop that is accepted if and only if it is a Stop and the history has grown
entered_stop : (limit : ℕ) (before after : History) (now : ℤ) (ask : Ask) → after ≡ (desk_answer limit before BATCH_CALLER now ask).history →
    (is_stop_ask ask && nat_lt (last_place before) (last_place after)) ≡ is_accepted_stop limit before now ask
unfolding desk_answer
entered_stop limit before after now (Do account key command) is =
    let entry = stamped before BATCH_CALLER now account key command in
    stops_so (is_stop command) _ _ (grown_where_accepted before after entry (verdict limit before entry) is)
entered_stop limit before after now (Look query) is = refl

-- what the desk answers is what is meant
pub done_is_meant : (limit : ℕ) (before after : History) (doubt : Bool) (now : ℤ) (ask : Ask) (reply : Reply) (stops : Bool) →
    IsAnswered before after doubt (desk_answer limit before BATCH_CALLER now ask) (answers.Done reply) →
    stops ≡ (is_stop_ask ask && nat_lt (last_place before) (last_place after)) →
    IsMeant (answer_to limit before now (Some ask)) after (pages.Reply reply) stops
done_is_meant limit before after doubt now ask reply stops answered is = record {
  page_is = ap (λ (reply : Reply). pages.Reply reply) answered.0;
  history_is = answered.1;
  stops_is = is ∙ entered_stop limit before after now ask answered.1;
}

-- a line that is kept whole isn't too long
kept_whole : (long : Bool) (line text : List ℕ) → cond long None (Some line) ≡ Some text → (long ≡ false) × (text ≡ line)
kept_whole true line text kept_is = cc
kept_whole false line text kept_is = (refl, cc)

-- a line of which nothing is kept is too long
not_kept : (long : Bool) (line : List ℕ) → cond long None (Some line) ≡ None → long ≡ true
not_kept true line kept_is = refl
not_kept false line kept_is = cc

-- the answer to a line that isn't too long is the answer to what it asks for
pub answered_as : (limit : ℕ) (history : History) (now : ℤ) (line text : List ℕ) (asked : Option Ask) → kept line ≡ Some text → ask_of_line text ≡ asked →
    line_answer limit history now line ≡ answer_to limit history now asked
unfolding line_answer
answered_as limit history now line text asked kept_is asks =
    let whole = kept_whole (nat_lt MOST_REQUEST_LINE_BYTES (length line)) line text kept_is in
    ap (λ long. cond long (unasked history line_too_long) (answer_to limit history now (ask_of_line line))) whole.0
    ∙ ap (λ line. answer_to limit history now (ask_of_line line)) (sym whole.1) ∙ ap (answer_to limit history now) asks

-- a line that isn't too long, and is a request, asks something
pub asks_something : (line text : List ℕ) (ask : Ask) → kept line ≡ Some text → ask_of_line text ≡ Some ask → ¬ (AsksNothing line)
asks_something line text ask kept_is asks nothing =
    let whole = kept_whole (nat_lt MOST_REQUEST_LINE_BYTES (length line)) line text kept_is in
    let asked : ask_of_line line ≡ Some ask = ap ask_of_line (sym whole.1) ∙ asks in
    elim nothing [
      | inl long ↦ let no : false ≡ true = sym whole.0 ∙ long in cc
      | inr none ↦ let no : Some ask ≡ None = sym asked ∙ none in cc
    ]

-- the answer to a line that is too long
pub answered_too_long : (limit : ℕ) (history : History) (now : ℤ) (line : List ℕ) → kept line ≡ None →
    line_answer limit history now line ≡ unasked history line_too_long
unfolding line_answer
answered_too_long limit history now line kept_is =
    let long = not_kept (nat_lt MOST_REQUEST_LINE_BYTES (length line)) line kept_is in
    ap (λ long. cond long (unasked history line_too_long) (answer_to limit history now (ask_of_line line))) long

-- what meets an answer meets an equal one
pub meets_same : (line : List ℕ) (before after : History) (meant other : LineAnswer) (page : Page) (stops : Bool) → other ≡ meant →
    MeetsLine line before after meant page stops → MeetsLine line before after other page stops
meets_same line before after meant other page stops same meets =
    subst (λ (meant : LineAnswer). MeetsLine line before after meant page stops) (sym same) meets
