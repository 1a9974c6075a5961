-- Items in rising order of their numbers, and one more among them.
use Rattle.std.proofs.Common.{◌≡◌, ℕ, ◌+◌, ◌<◌, Bool, true, false, List, [], ◌∷◌, refl, sym, ap, ◌∙◌, map, length, take, drop, get_or, Ok, nat_lt, ◌==◌, arith}
use Rattle.std.specs.List.{list_all}
use Rattle.std.specs.Cmp.Derive.{both_true}
use Rattle.std.proofs.lemmas.Bool.{and_parts, cases_Bool, or_parts}
use Rattle.std.proofs.lemmas.Bool.Decides.{nat_tests}
use Rattle.std.proofs.lemmas.List.{drop_more, length-append, take-append-drop}
use Rattle.std.proofs.lemmas.List.Folds.{list_all-append}
use Rattle.std.proofs.Math.Numerals.{add-one}
use Rattle.std.proofs.Math.Logic.{⊎_elim}
use Rattle.std.specs.Prelude.{Result}
use Rattle.toml.specs.View.{view}
use Rattle.toml.specs.declared.value.Value.{Value}
use Rattle.farm_site.specs.Numbers.{are_numbered, is_among, rises, rises_from}
use Rattle.site_keys.specs.Keys.{Keys, keys_of}
use Rattle.site_keys.specs.Lists.{numbered_from, index_among, placed}
use Rattle.site_keys.proofs.Steps.{one_more}

-- a number that is neither less than another nor the same is greater
is_greater : (new first : ℕ) → nat_lt new first ≡ false → (first == new) ≡ false → nat_lt first new ≡ true
is_greater new first not_less differs = grind (arith, nat_tests)

module _ {A : Type 0} (number : A → ℕ) where
  -- an item goes before the first that has a greater number
  placed_before : (new first : A) (others : List A) → nat_lt (number new) (number first) ≡ true → placed number new (first ∷ others) ≡ new ∷ first ∷ others
  placed_before new first others less = rw less refl

  -- and after one that has not
  placed_after : (new first : A) (others : List A) → nat_lt (number new) (number first) ≡ false →
      placed number new (first ∷ others) ≡ first ∷ placed number new others
  placed_after new first others not_less = rw (not_less, add-one (index_among (number new) (map number others))) refl

  -- there is one item more
  pub placed_length : (new : A) (others : List A) → length (placed number new others) ≡ length others + 1
  placed_length new others =
      let index = index_among (number new) (map number others) in
      let apart = length-append (take index others) (drop index others) in
      let whole = ap length (take-append-drop index others) in
      let more = length-append (take index others) (new ∷ drop index others) in
      omega (arith, apart, whole, more)

  -- each passes a test, and so does the new one
  placed_all : (test : A → Bool) (new : A) (others : List A) → list_all test others ≡ true → test new ≡ true → list_all test (placed number new others) ≡ true
  placed_all test new others all passes =
      let index = index_among (number new) (map number others) in
      let apart = sym (list_all-append test (take index others) (drop index others)) ∙ ap (list_all test) (take-append-drop index others) ∙ all in
      let parts = and_parts (list_all test (take index others)) (list_all test (drop index others)) apart in
      rw (list_all-append test (take index others) (new ∷ drop index others), parts.0, passes, parts.1) refl

  -- numbers rise from one, and so they do with a new one
  placed_rises_from : (before : ℕ) (new : A) (others : List A) → nat_lt before (number new) ≡ true → rises_from before (map number others) ≡ true →
      is_among (number new) (map number others) ≡ false → rises_from before (map number (placed number new others)) ≡ true
  placed_rises_from before new [] greater rising fresh = both_true greater refl
  placed_rises_from before new (first ∷ others) greater rising fresh =
      let parts = and_parts (nat_lt before (number first)) (rises_from (number first) (map number others)) rising in
      let others_fresh = or_parts (number first == number new) (is_among (number new) (map number others)) fresh in
      ⊎_elim
      (λ less. rw (placed_before new first others less) (both_true greater (both_true less parts.1)))
      (λ not_less.
      let after = is_greater (number new) (number first) not_less others_fresh.0 in
      rw (placed_after new first others not_less) (both_true parts.0 (placed_rises_from (number first) new others after parts.1 others_fresh.1)))
      (cases_Bool (nat_lt (number new) (number first)))

  -- numbers rise, and so they do with a new one
  placed_rises : (new : A) (others : List A) → rises (map number others) ≡ true → is_among (number new) (map number others) ≡ false →
      rises (map number (placed number new others)) ≡ true
  placed_rises new [] rising fresh = refl
  placed_rises new (first ∷ others) rising fresh =
      let others_fresh = or_parts (number first == number new) (is_among (number new) (map number others)) fresh in
      ⊎_elim
      (λ less. rw (placed_before new first others less) (both_true less rising))
      (λ not_less.
      let after = is_greater (number new) (number first) not_less others_fresh.0 in
      rw (placed_after new first others not_less) (placed_rises_from (number first) new others after rising others_fresh.1))
      (cases_Bool (nat_lt (number new) (number first)))

  -- sound items with rising numbers, and a sound one with a new number
  pub placed_numbered : (is_sound : A → Bool) (new : A) (others : List A) → are_numbered number is_sound others ≡ true → is_sound new ≡ true →
      is_among (number new) (map number others) ≡ false → are_numbered number is_sound (placed number new others) ≡ true
  placed_numbered is_sound new others numbered sound fresh =
      let parts = and_parts (list_all is_sound others) (rises (map number others)) numbered in
      both_true (placed_all is_sound new others parts.0 sound) (placed_rises new others parts.1 fresh)

-- the items of the tables that are left, once one more is read
pub numbered_more : {A E : Type 0} (number : A → ℕ) (read : List A → Keys → Result A E) (done : List A) (tables : List Value) (i : ℕ) (table : Value) (next : A) →
    i < length tables → table ≡ get_or tables i table → read done (keys_of (i + 1) (view table)) ≡ Ok next →
    numbered_from number read (i + 1 + 1) (placed number next done) (map view (drop (i + 1) tables)) ≡ numbered_from number read (i + 1) done (map view (drop i tables))
numbered_more number read done tables i table next within is here =
    rw (drop_more tables i table within, ← is) (sym (one_more number read (i + 1) done (view table) (map view (drop (i + 1) tables)) next here))
