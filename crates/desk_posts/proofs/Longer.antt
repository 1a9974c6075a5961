-- What holds on a history holds on one that continues it.
use Rattle.std.proofs.Common.{◌≡◌, ◌∙◌, ◌||◌, ℕ, zero, suc, Bool, true, false, List, [], ◌∷◌, take, drop, refl, sym, ap, subst, ℤ}
use Rattle.std.proofs.lemmas.List.{take-append-drop}
use Rattle.std.proofs.lemmas.List.Folds.{list_any-append}
use Rattle.std.specs.List.{All}
use Rattle.farm_history.specs.Commands.{is_stop}
use Rattle.farm_history.specs.Desk.{desk_answer}
use Rattle.farm_history.specs.History.{History, last_place}
use Rattle.farm_history.specs.declared.ask.Ask.{Ask}
use Rattle.farm_history.specs.declared.entry.Entry.{Entry}
use Rattle.http_requests.specs.declared.asked.Asked.TheVariants as asks
use Rattle.http_requests.specs.declared.heard.Heard.{Heard}
use Rattle.http_requests.specs.declared.heard.Heard.TheVariants.{Need, NoMemory, Broken, Got}
use Rattle.journaled_book.specs.Histories.{front_of}
use Rattle.journaled_book.specs.Replies.{IsAnswered}
use Rattle.desk_access.specs.Access.{Continues, has_stop}
use Rattle.desk_posts.specs.Courses.{StaysOpen}
use Rattle.desk_posts.specs.Exchanges.{Exchange, IsAskedDesk, IsExchange, sees_stop, span_of}
use Rattle.desk_access.proofs.Fronts.{entries_of_longer, front_of_longer}
use Rattle.desk_access.proofs.Lists.{all_by_both}
use Rattle.desk_access.proofs.Spans.{IsWithin}

-- the desk's answer stands
asked_on : (may_give : ℤ → Type 0) (limit caller : ℕ) (first next : History) (ask : Ask) (exchange : Exchange) → Continues first next →
    IsWithin span_of (last_place first) exchange → IsAskedDesk may_give limit caller first ask exchange → IsAskedDesk may_give limit caller next ask exchange
asked_on may_give limit caller first next ask exchange continues within asked =
    let before_is = front_of_longer first next exchange.before continues within.before in
    let after_is = front_of_longer first next exchange.after continues within.after in
    record {
      now = asked.now;
      given = asked.given;
      doubt = asked.doubt;
      answer = asked.answer;
      answer_is = asked.answer_is;
      answered = subst (λ (old : History). IsAnswered old (front_of next exchange.after) asked.doubt (desk_answer limit old caller asked.now ask) asked.answer)
          (sym before_is)
          (subst (λ (new : History). IsAnswered (front_of first exchange.before) new asked.doubt
          (desk_answer limit (front_of first exchange.before) caller asked.now ask) asked.answer) (sym after_is) asked.answered);
      shown = asked.shown;
    }

-- an exchange stands
pub exchange_on : (may_give : ℤ → Type 0) (limit caller : ℕ) (first next : History) (heard : Heard) (exchange : Exchange) → Continues first next →
    IsWithin span_of (last_place first) exchange → IsExchange may_give limit caller first heard exchange → IsExchange may_give limit caller next heard exchange
exchange_on may_give limit caller first next Need exchange continues within is = is
exchange_on may_give limit caller first next NoMemory exchange continues within is = is
exchange_on may_give limit caller first next (Broken status) exchange continues within is = is
exchange_on may_give limit caller first next (Got (asks.Ask ask) last used) exchange continues within is =
    asked_on may_give limit caller first next ask exchange continues within is
exchange_on may_give limit caller first next (Got (asks.Bad status allow) last used) exchange continues within is = is

-- and so do all exchanges
pub exchanges_on : (may_give : ℤ → Type 0) (limit caller : ℕ) (first next : History) (exchanges : List Exchange) → Continues first next →
    All (IsWithin span_of (last_place first)) exchanges →
    All (λ (exchange : Exchange). IsExchange may_give limit caller first exchange.heard exchange) exchanges →
    All (λ (exchange : Exchange). IsExchange may_give limit caller next exchange.heard exchange) exchanges
exchanges_on may_give limit caller first next exchanges continues within each =
    all_by_both (IsWithin span_of (last_place first)) (λ (exchange : Exchange). IsExchange may_give limit caller first exchange.heard exchange)
    (λ (exchange : Exchange). IsExchange may_give limit caller next exchange.heard exchange) exchanges
    (λ exchange there is. exchange_on may_give limit caller first next exchange.heard exchange continues there is) within each

-- an exchange sees a Stop or not, as before
pub stop_on : (opened : ℕ) (first next : History) (exchange : Exchange) → Continues first next → IsWithin span_of (last_place first) exchange →
    sees_stop opened next exchange ≡ sees_stop opened first exchange
stop_on opened first next exchange continues within =
    ap (λ (entries : List Entry). has_stop (drop opened entries)) (entries_of_longer first next exchange.after continues within.after)

-- a connection stays open after it, as before
pub stays_open_on : (opened : ℕ) (first next : History) (exchanges : List Exchange) → Continues first next → All (IsWithin span_of (last_place first)) exchanges →
    All (StaysOpen opened first) exchanges → All (StaysOpen opened next) exchanges
stays_open_on opened first next exchanges continues within each =
    all_by_both (IsWithin span_of (last_place first)) (StaysOpen opened first) (StaysOpen opened next) exchanges
    (λ exchange there stays. record {
      not_last = stays.not_last;
      no_stop = stop_on opened first next exchange continues there ∙ stays.no_stop;
    }) within each

-- if not one of two holds, the first doesn't
first_false : (first second : Bool) → (first || second) ≡ false → first ≡ false
first_false true second neither = neither
first_false false second neither = refl

-- without a Stop among entries, none is among the first ones
none_first : (n : ℕ) (entries : List Entry) → has_stop entries ≡ false → has_stop (take n entries) ≡ false
none_first n entries none =
    first_false (has_stop (take n entries)) (has_stop (drop n entries))
    (sym (list_any-append (λ (entry : Entry). is_stop entry.cmd) (take n entries) (drop n entries)) ∙ ap has_stop (take-append-drop n entries) ∙ none)

-- and none among the first ones after some place
pub none_between : (opened n : ℕ) (entries : List Entry) → has_stop (drop opened entries) ≡ false → has_stop (drop opened (take n entries)) ≡ false
none_between zero n entries none = none_first n entries none
none_between (suc opened) zero entries none = refl
none_between (suc opened) (suc n) [] none = refl
none_between (suc opened) (suc n) (entry ∷ entries) none = none_between opened n entries none
