-- How far a reader has come in a line, cut by cut.
use Rattle.std.proofs.Common.{◌≡◌, ◌≢◌, ℕ, ◌+◌, ◌-◌, ◌≤◌, List, [], ◌∷◌, ◌++◌, length, Option, refl, sym, ap, subst, ◌∙◌, arith, length-append, append_assoc, append-nil, ◌⊎◌, inl, inr, take}
use Rattle.std.proofs.lemmas.List.{nil_from_length, take_at}
use Rattle.std.proofs.lemmas.List.Elements.{All-append, All-nil, All-same, All-take}
use Rattle.farm_base.proofs.Known.{takes_none}
use Rattle.farm_base.specs.Counts.{Count, HasRisen}
use Rattle.farm_base.specs.Known.{Stream, Takes}
use Rattle.farm_base.proofs.Additions.{takings_add_up}
use Rattle.batch_lines.specs.declared.limits.TheConstants.{LINE_FEED, MOST_BYTES}
use Rattle.batch_lines.specs.declared.reader.Moved.{Moved}
use Rattle.batch_lines.specs.declared.reader.Moved.TheVariants as moves
use Rattle.batch_lines.specs.Lines.{IsOneLine}
use Rattle.batch_lines.specs.Reader.{AtEnd, Holds, Moves, ReaderState, ReadsFault, ReadsLast, ReadsLine, ReadsNothing, ReadsTooMuch, StopsWithin}

-- what a reader has read of a line: what was in hand and what it took since are that line so far and what is in hand now, and it took
-- nothing while a line feed was in hand
pub record Stands (old now : ReaderState) (from to : Option Stream) : Type 0 where
  pub line : List ℕ
  pub taken : List ℕ
  pub moved : Takes from to taken
  pub none_early : IsOneLine old.in_hand ⊎ (taken ≡ [])
  pub split : old.in_hand ++ taken ≡ line ++ now.in_hand
  pub one_line : IsOneLine line
  pub held : Holds now line
  pub passed : now.passed ≡ old.passed + length line

-- a reader has cut off all that was in hand, and the line goes on
pub record GoesOn (old now : ReaderState) (from to : Option Stream) : Type 0 where
  pub stands : Stands old now from to
  pub empty : now.in_hand ≡ []
  pub within : now.passed ≤ MOST_BYTES

-- what was read of a line, by what the last cut found
abbrev pub Comes : ReaderState → ReaderState → Option Stream → Option Stream → Moved → Type 0
Comes old new from to moves.Ended = ReadsLine old new from to
Comes old new from to moves.All = GoesOn old new from to
Comes old new from to moves.Long = ReadsTooMuch old from to × StopsWithin old new from to

-- a bound on the cuts of a line that are still to come
abbrev pub cuts_left : Moved → ℕ → ℕ
cuts_left moves.Ended passed = 0
cuts_left moves.All passed = MOST_BYTES + 1 - passed
cuts_left moves.Long passed = 0

-- before its first cut a reader has read nothing of a line
pub stands_first : (old start : ReaderState) (stream : Option Stream) →
    start.in_hand ≡ old.in_hand → start.passed ≡ old.passed → Holds start [] → Stands old start stream stream
stands_first old start stream in_hand_is passed_is holds = record {
  line = [];
  taken = [];
  moved = takes_none stream;
  none_early = inr refl;
  split = append-nil old.in_hand ∙ sym in_hand_is;
  one_line = All-nil (λ byte. byte ≢ LINE_FEED);
  held = holds;
  passed = omega arith;
}

-- where all is cut off, what was in hand and what was taken are one line
all_one_line : (old now : ReaderState) (from to : Option Stream) →
    (stands : Stands old now from to) → now.in_hand ≡ [] → IsOneLine (old.in_hand ++ stands.taken)
all_one_line old now from to stands empty =
    All-same (λ byte. byte ≢ LINE_FEED) (old.in_hand ++ stands.taken) stands.line
    (stands.split ∙ ap (λ t. stands.line ++ t) empty ∙ append-nil stands.line) stands.one_line

-- the front of one line is one line
front_of_one_line : (front back : List ℕ) → IsOneLine (front ++ back) → IsOneLine front
front_of_one_line front back one_line =
    All-same (λ byte. byte ≢ LINE_FEED) front (take (length front) (front ++ back)) (sym (take_at front back (length front) refl))
    (All-take (λ byte. byte ≢ LINE_FEED) (length front) (front ++ back) one_line)

-- a piece that was taken is in hand, and the line so far stays
pub stands_refilled : (old now filled : ReaderState) (from middle to : Option Stream) →
    Stands old now from middle → now.in_hand ≡ [] → Takes middle to filled.in_hand →
    ((line : List ℕ) → Holds now line → Holds filled line) → filled.passed ≡ now.passed → Stands old filled from to
stands_refilled old now filled from middle to stands empty takes holds passed_is = record {
  line = stands.line;
  taken = stands.taken ++ filled.in_hand;
  moved = takings_add_up from middle to stands.taken filled.in_hand stands.moved takes;
  none_early = inl (front_of_one_line old.in_hand stands.taken (all_one_line old now from middle stands empty));
  split =
      sym (append_assoc old.in_hand stands.taken filled.in_hand)
      ∙ ap (λ t. t ++ filled.in_hand) (stands.split ∙ ap (λ t. stands.line ++ t) empty ∙ append-nil stands.line);
  one_line = stands.one_line;
  held = holds stands.line stands.held;
  passed = passed_is ∙ stands.passed;
}

-- what was read of a line is read where it stops
pub stops_within : (old now : ReaderState) (from to : Option Stream) → Stands old now from to → StopsWithin old now from to
stops_within old now from to stands = record {
  line = stands.line;
  taken = stands.taken;
  moved = stands.moved;
  split = stands.split;
  one_line = stands.one_line;
  held = stands.held;
  passed = stands.passed;
}

-- a cut into what is in hand ends the line, leaves it open, or finds a byte too many
pub cut_comes : (old start new : ReaderState) (from to : Option Stream) (moved : Moved) →
    Stands old start from to → Moves start new moved → Comes old new from to moved
cut_comes old start new from to moves.Ended stands cut = record {
  line = stands.line ++ cut.text;
  taken = stands.taken;
  moved = stands.moved;
  none_early = stands.none_early;
  split =
      stands.split ∙ ap (λ t. stands.line ++ t) cut.split
      ∙ sym (append_assoc stands.line cut.text (LINE_FEED ∷ new.in_hand));
  one_line = All-append (λ byte. byte ≢ LINE_FEED) stands.line cut.text stands.one_line cut.one_line;
  held = (cut.extends stands.line stands.held).line_is;
  passed = omega (arith, length-append stands.line cut.text, cut.passed, stands.passed);
  within = cut.within;
}
cut_comes old start new from to moves.All stands cut = record {
  stands = record {
    line = stands.line ++ start.in_hand;
    taken = stands.taken;
    moved = stands.moved;
    none_early = stands.none_early;
    split = stands.split ∙ sym (ap (λ t. (stands.line ++ start.in_hand) ++ t) cut.empty ∙ append-nil (stands.line ++ start.in_hand));
    one_line = All-append (λ byte. byte ≢ LINE_FEED) stands.line start.in_hand stands.one_line cut.one_line;
    held = cut.extends stands.line stands.held;
    passed = omega (arith, length-append stands.line start.in_hand, cut.passed, stands.passed);
  };
  empty = cut.empty;
  within = cut.within;
}
cut_comes old start new from to moves.Long stands cut = (
  record {
    taken = stands.taken;
    moved = stands.moved;
    too_many = record {
      front = stands.line ++ cut.too_many.front;
      byte = cut.too_many.byte;
      back = cut.too_many.back;
      split =
          stands.split ∙ ap (λ t. stands.line ++ t) cut.too_many.split
          ∙ sym (append_assoc stands.line cut.too_many.front (cut.too_many.byte ∷ cut.too_many.back));
      one_line = All-append (λ byte. byte ≢ LINE_FEED) stands.line cut.too_many.front stands.one_line cut.too_many.one_line;
      all = omega (arith, length-append stands.line cut.too_many.front, cut.too_many.all, stands.passed);
    };
  },
  subst (λ (now : ReaderState). StopsWithin old now from to) (sym cut.as_before) (stops_within old start from to stands),
)

-- at the end of the stream the line so far is the last one, where it isn't empty
pub last_comes : (old now : ReaderState) (from to : Option Stream) →
    Stands old now from to → now.in_hand ≡ [] → now.passed ≤ MOST_BYTES → AtEnd to → now.length ≢ 0 → ReadsLast old now from to
last_comes old now from to stands empty within at_end some = record {
  line = stands.line;
  taken = stands.taken;
  moved = stands.moved;
  split = stands.split ∙ ap (λ t. stands.line ++ t) empty ∙ append-nil stands.line;
  some = λ none. some (stands.held.length_is ∙ ap length none);
  one_line = stands.one_line;
  held = stands.held.line_is;
  empty = empty;
  passed = stands.passed;
  within = within;
  at_end = at_end;
}

-- at the end of the stream nothing was read, where the line so far is empty
pub nothing_comes : (old now : ReaderState) (from to : Option Stream) →
    Stands old now from to → now.in_hand ≡ [] → AtEnd to → now.length ≡ 0 → ReadsNothing old now from to
nothing_comes old now from to stands empty at_end none =
    let line_is : stands.line ≡ [] = nil_from_length stands.line (sym stands.held.length_is ∙ none) in
    let all_is : old.in_hand ++ stands.taken ≡ [] =
    stands.split ∙ ap (λ t. t ++ now.in_hand) line_is ∙ empty in
    let none_in_all = ap length all_is in
    record {
      moved = subst (λ (t : List ℕ). Takes from to t) (nil_from_length stands.taken (omega (arith, length-append old.in_hand stands.taken))) stands.moved;
      nothing = nil_from_length old.in_hand (omega (arith, length-append old.in_hand stands.taken));
      empty = empty;
      at_end = at_end;
    }

-- where a take failed there was no whole line yet
pub fault_comes : (old now : ReaderState) (from middle to : Option Stream) (source : Count) →
    Stands old now from middle → now.in_hand ≡ [] → Takes middle to [] → HasRisen source → ReadsFault old from to source
fault_comes old now from middle to source stands empty takes risen = record {
  taken = stands.taken ++ [];
  moved = takings_add_up from middle to stands.taken [] stands.moved takes;
  one_line = rw append-nil (all_one_line old now from middle stands empty);
  risen = risen;
}
