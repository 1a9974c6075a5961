-- What a site says in the format that it needs.
use Rattle.std.proofs.Common.{◌≡◌, ◌||◌, Bool, true, false, if◌then◌else◌, List, get_or, refl}
use Rattle.std.specs.Prelude.{All}
use Rattle.std.specs.List.{list_any}
use Rattle.std.proofs.lemmas.List.Folds.{list_any_at}
use Rattle.farm_rounding.specs.Table.{Row}
use Rattle.farm_site.specs.declared.formats.Format.{Format}
use Rattle.farm_site.specs.declared.formats.Format.TheVariants.{One, Two}
use Rattle.farm_site.specs.declared.items.Tank.{Tank}
use Rattle.farm_site.specs.Formats.{format_needed, includes_roof, is_same_format, rounds_to_even}
use Rattle.site_decoding.specs.Parts.{IsRowIn, IsSaidIn, IsTankIn}

-- two formats that are the same by the test are one
pub same_format : (first second : Format) → is_same_format first second ≡ true → first ≡ second
same_format One One is = refl
same_format One Two is = cc
same_format Two One is = cc
same_format Two Two is = refl

-- and a format is the same as itself
pub is_same_format-self : (format : Format) → is_same_format format format ≡ true
is_same_format-self One = refl
is_same_format-self Two = refl

-- each format can leave a thing unsaid
pub unsaid : (format : Format) → IsSaidIn format false
unsaid One = refl
unsaid Two = tt

-- a test that none passes isn't passed by one
none_passes : {A : Type 0} (test : A → Bool) (items : List A) → list_any test items ≡ false → All (λ item. test item ≡ false) items
none_passes test items none k d within = by (test (get_or items k d)) refl
  where
    by : (passes : Bool) → test (get_or items k d) ≡ passes → test (get_or items k d) ≡ false
    by true is = let some = list_any_at test items k d within is in absurd (cc (some, none))
    by false is = is

-- what is said in the format of what is said by two lists
said_by : {A B : Type 0} (test : A → Bool) (items : List A) (other : B → Bool) (others : List B) (first second : Bool) → list_any test items ≡ first →
    list_any other others ≡ second →
    All (λ item. IsSaidIn (if first || second then Two else One) (test item)) items × All (λ item. IsSaidIn (if first || second then Two else One) (other item)) others
said_by test items other others true second is also = ((λ k d within. tt), (λ k d within. tt))
said_by test items other others false true is also = ((λ k d within. tt), (λ k d within. tt))
said_by test items other others false false is also = (none_passes test items is, none_passes other others also)

-- the rows and the tanks of a site are ones that the format it needs can say
pub said_in_needed : (rounding : List Row) (tanks : List Tank) →
    All (IsRowIn (format_needed rounding tanks)) rounding × All (IsTankIn (format_needed rounding tanks)) tanks
unfolding format_needed
said_in_needed rounding tanks =
    said_by rounds_to_even rounding includes_roof tanks (list_any rounds_to_even rounding) (list_any includes_roof tanks) refl refl
