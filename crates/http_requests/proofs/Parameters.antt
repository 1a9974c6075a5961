-- What a parameter took of a path, and the number that it is.
use Rattle.std.proofs.Common.{◌≡◌, ℕ, ◌+◌, ◌-◌, ◌<◌, ◌≤◌, ◌==◌, ◌&&◌, ◌^◌, Bool, true, false, IsTrue, cond, if◌then◌else◌, List, [], ◌∷◌, ◌++◌, length, take, get_or, leb, ltb, Some, None, Result, Ok, Err, IfOk, codes, refl, sym, ap, subst, ◌∙◌, arith, length-append}
use Rattle.std.proofs.lemmas.Bool.{cond-false, cond-true, false≢true, le-leb, leb-true, lt-ltb, ne_eqb}
use Rattle.std.proofs.lemmas.Bool.Decides.{nat_tests}
use Rattle.std.proofs.lemmas.Fmt.{IsAscii-from_digits}
use Rattle.std.proofs.lemmas.Int.Digits.{digits_value-lt}
use Rattle.std.proofs.Math.Nat.{pow-le-pow_right}
use Rattle.std.specs.Result.{MatchResult, result_ok}
use Rattle.std.proofs.lemmas.List.{drop_at, take_all}
use Rattle.std.proofs.lemmas.Str.{IsCharBoundary-after_ascii, IsUtf8-append, IsUtf8-drop, IsUtf8-from_ascii}
use Rattle.std.proofs.lemmas.Str.Parse.{digit_at, numerals_by_value, parse_gives, tells_all_ascii_digits}
use Rattle.std.specs.Str.{IsUtf8, all_ascii_digits}
use Rattle.std.specs.Str.Parse.{AllDigits, ParsesUnsigned, digits_value}
use Rattle.matchit.specs.Params.{AllText, named, next_at, part_of, walk, wild_from, wild_stop}
use Rattle.matchit.specs.Router.{RouteOf}
use Rattle.matchit.specs.Rows.{param_token}
use Rattle.matchit.specs.Seek.{has_slash, slash}
use Rattle.http_requests.specs.declared.route.Route.{Route}
use Rattle.http_requests.specs.declared.route.Route.TheVariants as kinds
use Rattle.http_requests.specs.declared.word.Word.{Word}
use Rattle.http_requests.specs.declared.word.Word.TheVariants as words
use Rattle.http_requests.specs.Routes.{parameter_of, text_of}
use Rattle.http_requests.specs.Paths.{IsNumberWithin, is_number, number_within}
use Rattle.http_requests.proofs.DeskRows.{Fits, ShapeOf, stock_route, ticket_route}

both : (a b : Bool) → a ≡ true → b ≡ true → (a && b) ≡ true
both true true x y = refl
both true false x y = y
both false b x y = x

pub both_of : (a b : Bool) → (a && b) ≡ true → (a ≡ true) × (b ≡ true)
both_of true true e = (refl, refl)
both_of true false e = absurd (false≢true e)
both_of false b e = absurd (false≢true e)

-- ---- what a parameter at the end took

-- the tokens are bytes
abbrev is_low : List ℕ → Bool
is_low [] = true
is_low (token ∷ rest) = ltb token param_token && is_low rest

-- the walk comes to a parameter after as many tokens, and as many bytes of the path, as stand before it
wild_front : (front : List ℕ) (len token at : ℕ) → is_low front ≡ true → at + length front ≤ len
    → wild_from (front ++ param_token ∷ []) len token at ≡ (token + length front, at + length front)
wild_front [] len token at low fits =
    let one : token ≡ token + 0 = omega arith in
    let other : at ≡ at + 0 = omega arith in
    λ i. (one i, other i)
wild_front (byte ∷ front) len token at low fits = by (ltb byte param_token) low (wild_front front len)
  where
    by : (v : Bool) → (v && is_low front) ≡ true
        → ((token at : ℕ) → is_low front ≡ true → at + length front ≤ len → wild_from (front ++ param_token ∷ []) len token at ≡ (token + length front, at + length front))
        → cond {A = ℕ × ℕ} v (wild_from (front ++ param_token ∷ []) len (token + 1) (next_at len at)) (token, at) ≡ (token + length (byte ∷ front), at + length (byte ∷ front))
    by true rest ih =
        let below : at < len = omega (arith, fits) in
        let room : (at + 1) + length front ≤ len = omega (arith, fits) in
        let next : next_at len at ≡ at + 1 = cond-true (ltb at len) (at + 1) at (lt-ltb at len below) in
        let one : (token + 1) + length front ≡ token + length (byte ∷ front) = omega arith in
        let other : (at + 1) + length front ≡ at + length (byte ∷ front) = omega arith in
        ap (λ (n : ℕ). wild_from (front ++ param_token ∷ []) len (token + 1) n) next ∙ ih (token + 1) (at + 1) rest room
        ∙ (λ i. (one i, other i))
    by false wrong ih = absurd (false≢true wrong)

last_false : (a b c : Bool) → c ≡ false → (a && b && c) ≡ false
last_false true true c e = e
last_false true false c e = refl
last_false false b c e = refl

-- the one parameter at the end takes the rest of the path
walk_one : (front path text : List ℕ) (name : ℕ × ℕ) → is_low front ≡ true
    → walk (front ++ param_token ∷ []) text (front ++ path) (name ∷ []) 0 0 ≡ (part_of text name.0 name.1, path) ∷ []
walk_one front path text name low =
    let n = length front in
    let pattern = front ++ param_token ∷ [] in
    let whole = front ++ path in
    let fits : 0 + n ≤ length whole = omega (arith, length-append front path) in
    let zero_is : 0 + n ≡ n = omega arith in
    let wild : wild_from pattern (length whole) 0 0 ≡ (n, n) =
    wild_front front (length whole) 0 0 low fits ∙ (λ i. (zero_is i, zero_is i)) in
    let far : ltb (n + 1) (length pattern) ≡ false =
    grind (arith, nat_tests, length-append front (param_token ∷ [])) in
    let stop : wild_stop pattern n whole n ≡ length whole =
    cond-false _ _ _ (last_false (ltb n (length pattern)) (get_or pattern n 0 == param_token) (ltb (n + 1) (length pattern)) far) in
    let inside : (leb n (length whole) && leb (length whole) (length whole)) ≡ true =
    both (leb n (length whole)) (leb (length whole) (length whole)) (le-leb n (length whole) (omega (arith, fits))) (le-leb (length whole) (length whole) (omega arith)) in
    let rest : part_of whole n (length whole) ≡ path =
    cond-true _ _ _ inside
    ∙ ap (λ t. take (length whole - n) t) (drop_at front path n refl)
    ∙ take_all (length whole - n) path (omega (arith, length-append front path)) in
    ap (λ (w : ℕ × ℕ). (part_of text name.0 name.1, part_of whole w.1 (wild_stop pattern w.0 whole w.1)) ∷ []) wild
    ∙ ap (λ (end : ℕ). (part_of text name.0 name.1, part_of whole n end) ∷ []) stop
    ∙ ap (λ t. (part_of text name.0 name.1, t) ∷ []) rest

pub stock_took : (parameter : List ℕ) → parameter_of (codes "tank") (codes "/stock/" ++ parameter) stock_route ≡ Some parameter
stock_took parameter =
    ap (λ took. named (codes "tank") took) (walk_one (codes "/stock/") parameter (codes "/stock/{tank}") (8, 12) refl)

pub ticket_took : (parameter : List ℕ) → parameter_of (codes "place") (codes "/ticket/" ++ parameter) ticket_route ≡ Some parameter
ticket_took parameter =
    ap (λ took. named (codes "place") took) (walk_one (codes "/ticket/") parameter (codes "/ticket/{place}") (9, 14) refl)

-- ---- what was taken is text

-- what a route's parameters took
abbrev pub HasText : List ℕ → RouteOf Route → Type 0
HasText path route = AllText (walk route.pattern route.text path route.names 0 0)

stock_text : (parameter : List ℕ) → IsUtf8 (codes "/stock/" ++ parameter) → HasText (codes "/stock/" ++ parameter) stock_route
unfolding lib.Utf8.encode
stock_text parameter utf8 =
    let path = codes "/stock/" ++ parameter in
    let inside : 6 < length path = omega (arith, length-append (codes "/stock/") parameter) in
    let rest : IsUtf8 parameter = IsUtf8-drop path 7 utf8 (IsCharBoundary-after_ascii path 6 utf8 inside (omega arith)) in
    subst AllText (sym (walk_one (codes "/stock/") parameter (codes "/stock/{tank}") (8, 12) refl))
    ((codes "tank", (refl, refl)), rest, tt)

ticket_text : (parameter : List ℕ) → IsUtf8 (codes "/ticket/" ++ parameter) → HasText (codes "/ticket/" ++ parameter) ticket_route
unfolding lib.Utf8.encode
ticket_text parameter utf8 =
    let path = codes "/ticket/" ++ parameter in
    let inside : 7 < length path = omega (arith, length-append (codes "/ticket/") parameter) in
    let rest : IsUtf8 parameter = IsUtf8-drop path 8 utf8 (IsCharBoundary-after_ascii path 7 utf8 inside (omega arith)) in
    subst AllText (sym (walk_one (codes "/ticket/") parameter (codes "/ticket/{place}") (9, 14) refl))
    ((codes "place", (refl, refl)), rest, tt)

text_by : (kind : Route) (path : List ℕ) (route : RouteOf Route) → IsUtf8 path → ShapeOf kind path route → HasText path route
text_by (kinds.Command word) path route utf8 is =
    subst (λ (names : List (ℕ × ℕ)). AllText (walk route.pattern route.text path names 0 0)) (sym is.1) tt
text_by kinds.Total path route utf8 is =
    subst (λ (names : List (ℕ × ℕ)). AllText (walk route.pattern route.text path names 0 0)) (sym is.1) tt
text_by kinds.Stock path route utf8 is =
    subst (HasText path) (sym is.2)
    (subst (λ (t : List ℕ). HasText t stock_route) (sym is.1) (stock_text is.0 (subst IsUtf8 is.1 utf8)))
text_by kinds.Ticket path route utf8 is =
    subst (HasText path) (sym is.2)
    (subst (λ (t : List ℕ). HasText t ticket_route) (sym is.1) (ticket_text is.0 (subst IsUtf8 is.1 utf8)))

pub has_text : (path : List ℕ) (route : RouteOf Route) → IsUtf8 path → Fits path route → HasText path route
has_text path route utf8 is = text_by route.value path route utf8 is

-- ---- numbers

digits_all : (text : List ℕ) → all_ascii_digits text ≡ true → AllDigits 10 text
digits_all = (numerals_by_value (λ ds. all_ascii_digits ds ≡ true) tells_all_ascii_digits).to

slashless : (text : List ℕ) → AllDigits 10 text → has_slash text ≡ false
slashless [] are = refl
slashless (byte ∷ text) are =
    let range = digit_at (byte ∷ text) 0 are (omega arith) in
    let other : (byte == slash) ≡ false = ne_eqb byte 47 (λ e. omega (arith, range.0, e)) in
    ap (λ (v : Bool). cond v true (has_slash text)) other ∙ slashless text are.1

-- what the router wants of a parameter of digits, and that it is text
pub record IsTaken (byte : ℕ) (rest : List ℕ) : Type 0 where
  pub slashless : has_slash (byte ∷ rest) ≡ false
  pub no_token : (param_token == byte) ≡ false
  pub text : IsUtf8 (byte ∷ rest)

pub is_taken : (byte : ℕ) (rest : List ℕ) → IsTrue (all_ascii_digits (byte ∷ rest)) → IsTaken byte rest
is_taken byte rest digits =
    let are = digits_all (byte ∷ rest) digits in
    let range = digit_at (byte ∷ rest) 0 are (omega arith) in
    record {
      slashless = slashless (byte ∷ rest) are;
      no_token = ne_eqb 256 byte (λ e. omega (arith, range.1, e));
      text = IsUtf8-from_ascii (byte ∷ rest) (IsAscii-from_digits (byte ∷ rest) are);
    }

-- a number within a limit is one in words
pub number_is : (most : ℕ) (text : List ℕ) (number : ℕ) → number_within most text ≡ Some number → IsNumberWithin most text number
unfolding number_within
number_is most text number is = by (is_number text && leb (digits_value 10 text) most) refl is
  where
    by : (v : Bool) → (is_number text && leb (digits_value 10 text) most) ≡ v
        → (if v then Some (digits_value 10 text) else None) ≡ Some number → IsNumberWithin most text number
    by true test e =
        let tests = both_of (is_number text) (leb (digits_value 10 text) most) test in
        let long = both_of (leb 1 (length text)) (leb (length text) 10 && all_ascii_digits text) tests.0 in
        let short = both_of (leb (length text) 10) (all_ascii_digits text) long.1 in
        let same : digits_value 10 text ≡ number = cc in
        record {
          some = leb-true 1 (length text) long.0;
          few = leb-true (length text) 10 short.0;
          digits = short.1;
          value = sym same;
          within = subst (λ (n : ℕ). n ≤ most) same (leb-true (digits_value 10 text) most tests.1);
        }
    by false test e = absurd cc

-- and one in words is one within the limit
pub is_within : (most : ℕ) (text : List ℕ) (number : ℕ) → IsNumberWithin most text number → number_within most text ≡ Some number
unfolding number_within
is_within most text number is =
    let few = both (leb (length text) 10) (all_ascii_digits text) (le-leb (length text) 10 is.few) is.digits in
    let some = both (leb 1 (length text)) (leb (length text) 10 && all_ascii_digits text) (le-leb 1 (length text) is.some) few in
    let low : leb (digits_value 10 text) most ≡ true =
    le-leb (digits_value 10 text) most (subst (λ (n : ℕ). n ≤ most) is.value is.within) in
    ap (λ (v : Bool). if v then Some (digits_value 10 text) else None) (both (is_number text) (leb (digits_value 10 text) most) some low)
    ∙ ap Some (sym is.value)

-- a parameter of few digits is parsed as its number
pub parsed : {E : Type 0} (text : List ℕ) (answer : Result ℕ E) → ParsesUnsigned 64 10 text answer → all_ascii_digits text ≡ true
    → 0 < length text → length text ≤ 10 → answer ≡ Ok (digits_value 10 text)
parsed text answer is digits some few =
    let all = digits_all text digits in
    let value = digits_value-lt 10 text all in
    let power : 10 ^ length text ≤ 10 ^ 10 = pow-le-pow_right {n = 10} (omega arith) few in
    parse_gives (numerals_by_value (λ ds. all_ascii_digits ds ≡ true) tells_all_ascii_digits) 64 text answer is digits some
    (omega (arith, value, power))

-- what a call gave, by whether it answered a value
pub refused : {T E N : Type 0} (A : T → Type 0) (B : E → Type 0) (answer : Result T E) → None ≡ result_ok answer
    → MatchResult answer A (λ e. N × B e) → N
refused A B (Ok value) e is = absurd cc
refused A B (Err fault) e is = is.0

pub accepted : {T E : Type 0} (A : T → Type 0) (B : E → Type 0) (answer : Result T E) (value : T)
    → Some value ≡ result_ok answer → MatchResult answer A B → A value
accepted A B (Ok other) value e is =
    let same : other ≡ value = cc in
    subst A same is
accepted A B (Err fault) value e is = absurd cc

pub given : {T E : Type 0} (A : T → Type 0) (answer : Result T E) (value : T) → Some value ≡ result_ok answer
    → IfOk answer A → A value
given A (Ok other) value e is =
    let same : other ≡ value = cc in
    subst A same is
given A (Err fault) value e is = absurd cc

-- ---- texts of the routes

pub word_utf8 : (word : Word) → IsUtf8 (codes "/" ++ text_of word)
unfolding lib.Utf8.encode
word_utf8 words.Gauge = (codes "/gauge", (refl, refl))
word_utf8 words.Dip = (codes "/dip", (refl, refl))
word_utf8 words.Sample = (codes "/sample", (refl, refl))
word_utf8 words.Open = (codes "/open", (refl, refl))
word_utf8 words.Close = (codes "/close", (refl, refl))
word_utf8 words.Cancel = (codes "/cancel", (refl, refl))
word_utf8 words.Settle = (codes "/settle", (refl, refl))
word_utf8 words.Reverse = (codes "/reverse", (refl, refl))
word_utf8 words.Stop = (codes "/stop", (refl, refl))

pub total_utf8 : IsUtf8 (codes "/total")
unfolding lib.Utf8.encode
total_utf8 = (codes "/total", (refl, refl))

pub stock_utf8 : (parameter : List ℕ) → IsUtf8 parameter → IsUtf8 (codes "/stock/" ++ parameter)
unfolding lib.Utf8.encode
stock_utf8 parameter is = IsUtf8-append (codes "/stock/") parameter (codes "/stock/", (refl, refl)) is

pub ticket_utf8 : (parameter : List ℕ) → IsUtf8 parameter → IsUtf8 (codes "/ticket/" ++ parameter)
unfolding lib.Utf8.encode
ticket_utf8 parameter is = IsUtf8-append (codes "/ticket/") parameter (codes "/ticket/", (refl, refl)) is
