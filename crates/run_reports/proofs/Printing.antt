-- What was printed, from what each put added.
use Rattle.std.proofs.Common.{◌≡◌, ℕ, zero, suc, ◌≤◌, List, [], ◌∷◌, ◌++◌, length, take, append-nil, Option, Result, Ok, Err, refl, sym, subst, arith}
use Rattle.std.proofs.Math.Seq.{take-length}
use Rattle.farm_base.specs.Counts.{Counts, Rose}
use Rattle.farm_base.specs.Known.{Adds, AddsAll, Fronts}
use Rattle.farm_base.proofs.Additions.{additions_add_up}
use Rattle.farm_ports.specs.Ports.{PutsAll}
use Rattle.run_reports.specs.Reports.{EndsWith, Output, Puts, Says}

-- a whole text is a prefix of itself
whole_front : (old new : Option (List ℕ)) (text : List ℕ) → Adds old new text → (n : ℕ) × (n ≤ length text) × Adds old new (take n text)
whole_front old new text added =
    let P : List ℕ → Type 0 = λ t. Adds old new t in (length text, omega arith, subst P (sym (take-length text)) added)

-- an output by what it holds and its count, before and after
abbrev pub output_with : Option (List ℕ) → Option (List ℕ) → ℕ → ℕ → Output
output_with old new before now = record { old = old; new = new; count = record { before = before; now = now } }

-- what one put of all of a text did
pub puts_from_put : {T E : Type 0} (old new : Option (List ℕ)) (before now : ℕ) (text : List ℕ) (result : Result T E) →
    PutsAll old new text result → Counts before now result → Puts (output_with old new before now) text
puts_from_put old new before now text (Ok done) bytes counts = record { front = whole_front old new text bytes; whole = λ _. bytes }
puts_from_put old new before now text (Err e) bytes counts = record { front = bytes; whole = λ quiet. absurd (quiet counts.failed) }

-- nothing is a prefix of each text
no_fronts : (texts others : List (List ℕ)) (bytes : List ℕ) → Fronts others bytes → Fronts (texts ++ others) bytes
no_fronts [] others bytes fronts = fronts
no_fronts (text ∷ texts) others bytes fronts = (0, omega arith, bytes, refl, no_fronts texts others bytes fronts)

-- nothing at all is
all_none : (texts : List (List ℕ)) → Fronts texts []
all_none [] = refl
all_none (text ∷ texts) = (0, omega arith, [], refl, all_none texts)

-- a prefix of one text
one_front : (n : ℕ) (text : List ℕ) → n ≤ length text → Fronts (text ∷ []) (take n text)
one_front n text within = (n, within, [], sym (append-nil (take n text)), refl)

-- a prefix of the last text alone was put
pub says_last : (output : Output) (texts middle : List (List ℕ)) (last : List ℕ) → Puts output last → Says output texts middle last
says_last output texts middle last puts =
    let n = puts.front.0 in
    record {
      front = record {
        bytes = take n last;
        added = puts.front.2;
        fronts = no_fronts (texts ++ middle) (last ∷ []) (take n last) (one_front n last puts.front.1);
      };
      whole = λ quiet. record { bytes = []; added = puts.whole quiet; fronts = all_none texts };
    }

-- a count that rose is still above
pub rose_later : (before middle now : ℕ) → Rose before middle → middle ≤ now → Rose before now
rose_later before middle now rose later = omega arith

-- a count that rises later has risen from before
pub rose_before : (before between now : ℕ) → before ≤ between → Rose between now → Rose before now
rose_before before between now first rose = omega arith

-- a prefix of a text was put and the output failed; then a prefix of the last was
pub says_after_fault : (old middle new : Option (List ℕ)) (before between now : ℕ) (others : List (List ℕ)) (text last : List ℕ) →
    (n : ℕ) × (n ≤ length text) × Adds old middle (take n text) → Rose before between → between ≤ now →
    Puts (output_with middle new between now) last →
    AddsAll old new (text ∷ others ++ last ∷ []) × Rose before now
says_after_fault old middle new before between now others text last first rose later puts =
    let n = first.0 in
    let m = puts.front.0 in (
      record {
        bytes = take n text ++ take m last;
        added = additions_add_up old middle new (take n text) (take m last) first.2 puts.front.2;
        fronts = (n, first.1, take m last, refl, no_fronts others (last ∷ []) (take m last) (one_front m last puts.front.1));
      },
      rose_later before between now rose later,
    )

-- and nothing of a text before them
pub after_a_text : {old new : Option (List ℕ)} {texts : List (List ℕ)} (text : List ℕ) → AddsAll old new texts → AddsAll old new (text ∷ texts)
after_a_text text adds = record {
  bytes = adds.bytes;
  added = adds.added;
  fronts = (0, omega arith, adds.bytes, refl, adds.fronts);
}

-- what was said whole is what the bytes end with
pub says_ends : (output : Output) (texts middle : List (List ℕ)) (last : List ℕ) → Says output texts middle last → EndsWith output last
says_ends output texts middle last says = λ quiet. let whole = says.whole quiet in (whole.bytes, whole.added)

-- a text that was put is what the bytes end with
pub puts_ends : (output : Output) (last : List ℕ) → Puts output last → EndsWith output last
puts_ends output last puts = λ quiet. ([], puts.whole quiet)

-- nothing has no prefix but itself
take_none : (n : ℕ) → take {A = ℕ} n [] ≡ []
take_none zero = refl
take_none (suc n) = refl

-- an empty text adds nothing to the prefixes of others
no_text : (texts : List (List ℕ)) (bytes : List ℕ) → Fronts ([] ∷ texts) bytes → Fronts texts bytes
no_text texts bytes fronts =
    let rest = fronts.2 in
    let same = subst (λ (t : List ℕ). bytes ≡ t ++ rest) (take_none fronts.0) fronts.3 in
    subst (λ (b : List ℕ). Fronts texts b) (sym same) fronts.4

-- of an empty text nothing is said
pub without_text : (output : Output) (others : List (List ℕ)) (last : List ℕ) → Says output ([] ∷ []) others last → Says output [] others last
without_text output others last says = record {
  front = record { bytes = says.front.bytes; added = says.front.added; fronts = no_text (others ++ last ∷ []) says.front.bytes says.front.fronts };
  whole = λ quiet. let whole = says.whole quiet in record { bytes = whole.bytes; added = whole.added; fronts = no_text [] whole.bytes whole.fronts };
}
