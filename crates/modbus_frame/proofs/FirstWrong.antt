-- The first field that disagrees.
use Rattle.std.proofs.Common.{◌≡◌, ℕ, zero, suc, ◌+◌, ◌<◌, ◌≤◌, Bool, true, false, List, length, refl, arith, Option, Some, None, subst, sym, inl, inr, ◌⊎◌}
use Rattle.std.proofs.lemmas.Bool.Decides.{nat_tests, eqb_tells}
use Rattle.farm_base.specs.Steps.{or_else}
use Rattle.farm_base.proofs.Steps.{or_else-none}
use Rattle.modbus_frame.specs.declared.expect.Expect.{Expect}
use Rattle.modbus_frame.specs.Frames.{field_end}
use Rattle.modbus_frame.specs.Fields.{wrong_where}
use Rattle.modbus_frame.proofs.Fields.{disagrees}

-- a field, where it is whole and disagrees
abbrev pub found_at : Expect → List ℕ → ℕ → Option ℕ
found_at expect bytes field = wrong_where field (field_end field) bytes (disagrees field expect bytes)

-- the first field that disagrees, of one and as many after it
abbrev pub first_wrong : ℕ → ℕ → Expect → List ℕ → Option ℕ
first_wrong zero field expect bytes = found_at expect bytes field
first_wrong (suc after) field expect bytes = or_else (found_at expect bytes field) (first_wrong after (field + 1) expect bytes)

-- no whole field of some disagrees
abbrev pub AgreeFrom : Expect → List ℕ → ℕ → ℕ → Type 0
AgreeFrom expect bytes from last = (field : ℕ) → from ≤ field → field ≤ last → field_end field ≤ length bytes → disagrees field expect bytes ≡ false

-- this is the first field that disagrees
pub record IsFirstFrom (expect : Expect) (bytes : List ℕ) (from last field : ℕ) : Type 0 where
  pub low : from ≤ field
  pub high : field ≤ last
  pub whole : field_end field ≤ length bytes
  pub wrong : disagrees field expect bytes ≡ true
  pub before : (earlier : ℕ) → from ≤ earlier → earlier < field → field_end earlier ≤ length bytes → disagrees earlier expect bytes ≡ false

-- a field that is found wrong is whole, and disagrees
wrong_where-some : (field end found : ℕ) (bytes : List ℕ) (test : Bool) → wrong_where field end bytes test ≡ Some found → (found ≡ field) × (end ≤ length bytes) × (test ≡ true)
wrong_where-some field end found bytes test some = grind (arith, nat_tests)

-- a field that isn't found wrong agrees where it is whole
pub wrong_where-none : (field end : ℕ) (bytes : List ℕ) (test : Bool) → wrong_where field end bytes test ≡ None → end ≤ length bytes → test ≡ false
wrong_where-none field end bytes test none whole = grind (arith, nat_tests)

-- the same, of a field by another name
agrees-here : (field other : ℕ) (expect : Expect) (bytes : List ℕ) → other ≡ field → found_at expect bytes field ≡ None →
    field_end other ≤ length bytes → disagrees other expect bytes ≡ false
agrees-here field other expect bytes same none =
    let Agrees : ℕ → Type 0 = λ f. field_end f ≤ length bytes → disagrees f expect bytes ≡ false in
    subst Agrees (sym same) (wrong_where-none field (field_end field) bytes (disagrees field expect bytes) none)

-- the first of two is the one, or the other where the one isn't there
or_else-some : {A : Type 0} (first second : Option A) (found : A) → or_else first second ≡ Some found → (first ≡ Some found) ⊎ ((first ≡ None) × (second ≡ Some found))
or_else-some None second found some = inr (refl, some)
or_else-some (Some one) second found some = inl some

-- where none is found, each whole field agrees
pub first_wrong-none : (after field : ℕ) (expect : Expect) (bytes : List ℕ) → first_wrong after field expect bytes ≡ None → AgreeFrom expect bytes field (field + after)
first_wrong-none zero field expect bytes none other low high = agrees-here field other expect bytes (omega arith) none
first_wrong-none (suc after) field expect bytes none other low high =
    let parts = or_else-none (found_at expect bytes field) (first_wrong after (field + 1) expect bytes) none in
    elim (eqb_tells other field) [
      | inl same ↦ agrees-here field other expect bytes same.1 parts.0
      | inr differs ↦ first_wrong-none after (field + 1) expect bytes parts.1 other (omega arith) (omega arith)
    ]

-- a field that is found wrong is the first from it on
first-here : (field found last : ℕ) (expect : Expect) (bytes : List ℕ) → field ≤ last → found_at expect bytes field ≡ Some found → IsFirstFrom expect bytes field last found
first-here field found last expect bytes high some =
    let is = wrong_where-some field (field_end field) found bytes (disagrees field expect bytes) some in
    let here : IsFirstFrom expect bytes field last field =
    record { low = omega arith; high = high; whole = is.1; wrong = is.2; before = λ earlier low below whole. absurd (omega arith) } in
    subst (IsFirstFrom expect bytes field last) (sym is.0) here

-- the first from the next field on is the first from a field on that agrees
first-later : (field found last : ℕ) (expect : Expect) (bytes : List ℕ) → found_at expect bytes field ≡ None → IsFirstFrom expect bytes (field + 1) last found →
    IsFirstFrom expect bytes field last found
first-later field found last expect bytes none later = record {
  low = omega arith;
  high = later.high;
  whole = later.whole;
  wrong = later.wrong;
  before = λ earlier low below whole. elim (eqb_tells earlier field) [
    | inl same ↦ agrees-here field earlier expect bytes same.1 none whole
    | inr differs ↦ later.before earlier (omega arith) below whole
  ];
}

-- where one is found, it is the first that disagrees
pub first_wrong-some : (after field found : ℕ) (expect : Expect) (bytes : List ℕ) → first_wrong after field expect bytes ≡ Some found →
    IsFirstFrom expect bytes field (field + after) found
first_wrong-some zero field found expect bytes some = first-here field found (field + zero) expect bytes (omega arith) some
first_wrong-some (suc after) field found expect bytes some =
    elim (or_else-some (found_at expect bytes field) (first_wrong after (field + 1) expect bytes) found some) [
      | inl here ↦ first-here field found (field + suc after) expect bytes (omega arith) here
      | inr later ↦
          let Last : ℕ → Type 0 = λ last. IsFirstFrom expect bytes (field + 1) last found in
          let same : field + 1 + after ≡ field + suc after = omega arith in
          first-later field found (field + suc after) expect bytes later.0 (subst Last same (first_wrong-some after (field + 1) found expect bytes later.1))
    ]
