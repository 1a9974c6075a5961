-- The texts of a ticket and of a side, appended one after another.
use Rattle.std.proofs.Common.{◌≡◌, ℕ, List, [], ◌∷◌, ◌++◌, length, take, None, Some, Result, Ok, Err, codes, decimal, ap, ◌∙◌, append_assoc}
use Rattle.std.proofs.Math.Seq.{take-length}
use Rattle.std.proofs.lemmas.List.{append-nil}
use Rattle.std.specs.List.{concat}
use Rattle.farm_base.specs.Appended.{Appends}
use Rattle.text_pieces.specs.Pieces.{Lengthens}
use Rattle.text_pieces.proofs.Lengths.{appended_both}
use Rattle.farm_ticket.specs.Tickets as tickets
use Rattle.farm_ticket.specs.declared.side.Side.{Side}
use Rattle.farm_http.specs.Bodies.{figures_text, moved_text, side_text, ticket_text}
use Rattle.farm_http.specs.Tickets.{way_word}

-- a buffer that is as before begins so
pub lengthens : {T E : Type 0} (old new text : List ℕ) (result : Result T E) → Appends old new text result → Lengthens old new text result
lengthens old new text (Ok x) appended = record { ok = appended.ok; err = tt }
lengthens old new text (Err e) appended = record { ok = tt; err = ap (take (length old)) appended.err ∙ take-length old }

-- a text that was appended whole, and then another
pub appended_after : {T E : Type 0} (old middle new first second : List ℕ) (result : Result T E) → middle ≡ old ++ first →
    Lengthens middle new second result → Lengthens old new (first ++ second) result
appended_after {E = E} old middle new first second result is then =
    appended_both {T = ℕ} {E = E} old middle new first second 0 result (record { ok = is; err = tt }) then

-- three texts that were, and then a fourth
pub four_appended : {T E : Type 0} (old one two three new a b c d : List ℕ) (result : Result T E) → one ≡ old ++ a → two ≡ one ++ b →
    three ≡ two ++ c → Lengthens three new d result → Lengthens old new (a ++ (b ++ (c ++ d))) result
four_appended old one two three new a b c d result is_one is_two is_three then =
    appended_after old one new a (b ++ (c ++ d)) result is_one
    (appended_after one two new b (c ++ d) result is_two (appended_after two three new c d result is_three then))

-- texts of two parts, and others after them
closed : (j a k b l c m t n w o end : List ℕ) → (j ++ a) ++ ((k ++ b) ++ ((l ++ c) ++ concat (m ∷ t ∷ n ∷ w ∷ o ∷ end ∷ []))) ≡
    concat (j ∷ a ∷ k ∷ b ∷ l ∷ c ∷ m ∷ t ∷ n ∷ w ∷ o ∷ []) ++ end
closed j a k b l c m t n w o end = simp (append_assoc, append-nil)

-- the parts of a side, and a text after it
pub side_closed : (side : Side) (end : List ℕ) (tank : ℕ) (word : List ℕ) → tank ≡ side.tank → word ≡ way_word side.way →
    (codes "{\"closing\":" ++ figures_text side.closing) ++ ((codes ",\"moved\":" ++ moved_text side.moved)
    ++ ((codes ",\"opening\":" ++ figures_text side.opening)
    ++ concat (codes ",\"tank\":" ∷ decimal tank ∷ codes ",\"way\":\"" ∷ word ∷ codes "\"}" ∷ end ∷ []))) ≡ side_text side ++ end
side_closed side end tank word is_tank is_word =
    rw (is_tank, is_word)
    (closed (codes "{\"closing\":") (figures_text side.closing) (codes ",\"moved\":") (moved_text side.moved) (codes ",\"opening\":")
    (figures_text side.opening) (codes ",\"tank\":") (decimal side.tank) (codes ",\"way\":\"") (way_word side.way) (codes "\"}") end)

-- what precedes the sides of a ticket
abbrev pub ticket_front : ℕ → ℕ → ℕ → ℕ → ℕ → List ℕ
ticket_front movement number party place reverses =
    concat (codes "{\"movement\":" ∷ decimal movement ∷ codes ",\"number\":" ∷ decimal number ∷ codes ",\"party\":" ∷ decimal party ∷
    codes ",\"place\":" ∷ decimal place ∷ codes ",\"reverses\":" ∷ decimal reverses ∷ codes ",\"sides\":[" ∷ [])

-- texts in front of a list of one, whose brackets stand in the texts beside it
one_parted : (a b c d e f g h i j k s x y z : List ℕ) → concat (a ∷ b ∷ c ∷ d ∷ e ∷ f ∷ g ∷ h ∷ i ∷ j ∷ (k ++ x) ∷ []) ++ (s ++ (y ++ z)) ≡
    concat (a ∷ b ∷ c ∷ d ∷ e ∷ f ∷ g ∷ h ∷ i ∷ j ∷ k ∷ concat (x ∷ s ∷ y ∷ []) ∷ z ∷ [])
one_parted a b c d e f g h i j k s x y z = simp (append_assoc, append-nil)

-- texts in front of a list of two
two_parted : (a b c d e f g h i j k s t w x y z : List ℕ) → concat (a ∷ b ∷ c ∷ d ∷ e ∷ f ∷ g ∷ h ∷ i ∷ j ∷ (k ++ x) ∷ []) ++ ((s ++ w) ++ (t ++ (y ++ z))) ≡
    concat (a ∷ b ∷ c ∷ d ∷ e ∷ f ∷ g ∷ h ∷ i ∷ j ∷ k ∷ concat (x ∷ s ∷ w ∷ t ∷ y ∷ []) ∷ z ∷ [])
two_parted a b c d e f g h i j k s t w x y z = simp (append_assoc, append-nil)

-- the numbers of a ticket are those that are appended
pub record HasNumbers (ticket : tickets.Ticket) (movement number party place reverses : ℕ) : Type 0 where
  pub movement_is : movement ≡ ticket.movement
  pub number_is : number ≡ ticket.number
  pub party_is : party ≡ ticket.party
  pub place_is : place ≡ ticket.place
  pub reverses_is : reverses ≡ ticket.reverses

-- a ticket of one side
pub one_side : (ticket : tickets.Ticket) (m n p l r : ℕ) → HasNumbers ticket m n p l r → ticket.second ≡ None →
    ticket_front m n p l r ++ (side_text ticket.first ++ codes "]}") ≡ ticket_text ticket
one_side ticket m n p l r are none =
    rw (are.movement_is, are.number_is, are.party_is, are.place_is, are.reverses_is, none)
    (one_parted (codes "{\"movement\":") (decimal ticket.movement) (codes ",\"number\":") (decimal ticket.number) (codes ",\"party\":") (decimal ticket.party)
    (codes ",\"place\":") (decimal ticket.place) (codes ",\"reverses\":") (decimal ticket.reverses) (codes ",\"sides\":") (side_text ticket.first)
    (codes "[") (codes "]") (codes "}"))

-- a ticket of two
pub two_sides : (ticket : tickets.Ticket) (second : Side) (m n p l r : ℕ) → HasNumbers ticket m n p l r → ticket.second ≡ Some second →
    ticket_front m n p l r ++ ((side_text ticket.first ++ codes ",") ++ (side_text second ++ codes "]}")) ≡ ticket_text ticket
two_sides ticket second m n p l r are some =
    rw (are.movement_is, are.number_is, are.party_is, are.place_is, are.reverses_is, some)
    (two_parted (codes "{\"movement\":") (decimal ticket.movement) (codes ",\"number\":") (decimal ticket.number) (codes ",\"party\":") (decimal ticket.party)
    (codes ",\"place\":") (decimal ticket.place) (codes ",\"reverses\":") (decimal ticket.reverses) (codes ",\"sides\":") (side_text ticket.first)
    (side_text second) (codes ",") (codes "[") (codes "]") (codes "}"))
