-- The two formats of a site: their numbers, and which of them a site needs.
use Rattle.std.specs.Prelude.{ℕ, ◌==◌, ◌||◌, Bool, true, false, if◌then◌else◌, is_some, List, Option, Some, None}
use Rattle.std.specs.List.{list_any}
use Rattle.farm_rounding.specs.declared.mode.Mode.{Mode}
use Rattle.farm_rounding.specs.declared.mode.Mode.TheVariants.{HalfAway, TowardZero, HalfEven}
use Rattle.farm_rounding.specs.Table.{Row}
use Rattle.strap_table.specs.declared.tank.Roof.{Roof}
use Rattle.farm_site.specs.declared.formats.Format.{Format}
use Rattle.farm_site.specs.declared.formats.Format.TheVariants.{One, Two}
use Rattle.farm_site.specs.declared.items.Tank.{Tank}

-- the number of a format
abbrev pub format_number : Format → ℕ
format_number One = 1
format_number Two = 2

-- the format of a number, which is 1 or 2
abbrev pub format_of : ℕ → Format
format_of number = if number == 1 then One else Two

-- two formats are one
abbrev pub is_same_format : Format → Format → Bool
is_same_format One One = true
is_same_format One Two = false
is_same_format Two One = false
is_same_format Two Two = true

-- a mode takes the even one of two multiples at the same distance
abbrev pub is_half_even : Mode → Bool
is_half_even HalfAway = false
is_half_even TowardZero = false
is_half_even HalfEven = true

-- a row of the rounding table rounds ties to even
abbrev pub rounds_to_even : Row → Bool
rounds_to_even row = is_half_even row.1

-- a tank has a roof with a reference density
abbrev pub has_reference : Option Roof → Bool
has_reference None = false
has_reference (Some roof) = is_some roof.reference

-- the capacity table of a tank includes its roof
abbrev pub includes_roof : Tank → Bool
includes_roof tank = has_reference tank.spec.roof

-- the format that a site with these rows and tanks needs: 2 if a row rounds ties to even or a capacity table includes a roof, else 1
unfoldable pub format_needed : List Row → List Tank → Format
format_needed rounding tanks = if list_any rounds_to_even rounding || list_any includes_roof tanks then Two else One
