-- Strappings of a site: a file of courses, deadwoods and a bottom, and the capacity table that it makes.
use Rattle.std.specs.Prelude.{ℕ, if◌then◌else◌, List, [], ◌∷◌, codes, Option, Some, None, Result, Ok, Err, ℤ, pos}
use Rattle.farm_base.specs.Steps.{◌>>=◌}
use Rattle.toml.specs.Data.{Data, as_array, as_integer}
use Rattle.farm_fixed.specs.Limits.{most_height, most_tenths}
use Rattle.farm_fixed.specs.Range.{is_within}
use Rattle.farm_rounding.specs.Table.{Row}
use Rattle.strap_courses.specs.Courses.{Point, StrappedTank}
use Rattle.strap_courses.specs.Faults.{TankFault, first_fault}
use Rattle.strap_courses.specs.Faults as strap
use Rattle.strap_courses.specs.Rows.{strapped_rows}
use Rattle.strap_courses.specs.declared.parts.Course.{Course}
use Rattle.strap_courses.specs.declared.parts.Deadwood.{Deadwood}
use Rattle.site_keys.specs.Codes.{code_of_field, code_of_strap}
use Rattle.site_keys.specs.declared.fault.SiteFault.{SiteFault}
use Rattle.site_keys.specs.Faults.{bad, detail, fault_at, needed, ranged}
use Rattle.site_keys.specs.Files.{toml_of}
use Rattle.site_keys.specs.Keys.{Keys, array_at, array_or_none, has, inner, integer_at, quantity_at, values_of, whole_at}
use Rattle.site_keys.specs.Lists.{read_from}
use Rattle.site_tables.specs.Tables.{table_of_rows}

-- a circumference, a deduction or a thickness, in 0.1 mm and up to 500 m
unfoldable pub length_at : Keys → List ℕ → Result ℤ SiteFault
length_at keys key = quantity_at 1 (pos 0) most_tenths keys key

-- a deduction or a thickness; where it is missing, none
unfoldable pub length_or_none : Keys → List ℕ → Result ℤ SiteFault
length_or_none keys key = if has keys key then length_at keys key else Ok (pos 0)

-- a height, in mm
unfoldable pub height_at : Keys → List ℕ → Result ℤ SiteFault
height_at keys key = whole_at keys key (pos 0) most_height

-- what is deducted of the lower and of the upper circumference
unfoldable pub deductions_at : Keys → Result (ℤ × ℤ) SiteFault
deductions_at keys = do
  lower ← length_or_none keys (codes "lower_deduction")
  upper ← length_or_none keys (codes "upper_deduction")
  Ok (lower, upper)

-- the thicknesses of the plate and of the paint
unfoldable pub thicknesses_at : Keys → Result (ℤ × ℤ) SiteFault
thicknesses_at keys = do
  plate ← length_or_none keys (codes "plate")
  paint ← length_or_none keys (codes "paint")
  Ok (plate, paint)

-- a course of a table
unfoldable pub course_of : Keys → Result Course SiteFault
course_of keys = do
  height ← height_at keys (codes "height")
  lower ← length_at keys (codes "lower")
  upper ← length_at keys (codes "upper")
  deductions ← deductions_at keys
  thicknesses ← thicknesses_at keys
  Ok (record {
    height = height;
    lower = lower;
    upper = upper;
    lower_off = deductions.0;
    upper_off = deductions.1;
    plate = thicknesses.0;
    paint = thicknesses.1;
  })

-- a deadwood of a table
unfoldable pub deadwood_of : Keys → Result Deadwood SiteFault
deadwood_of keys = do
  low ← height_at keys (codes "low")
  high ← height_at keys (codes "high")
  litres ← integer_at keys (codes "litres")
  Ok (record { low = low; high = high; litres = litres })

-- the height of a point
unfoldable pub level_of : ℕ → Data → Result ℤ SiteFault
level_of item value = do
  height ← needed item (as_integer value)
  ranged item (is_within (pos 0) most_height height) height

-- a point of a bottom: a pair of a height and litres
abbrev pub point_of_pair : ℕ → List Data → Result Point SiteFault
point_of_pair item (height ∷ litres ∷ []) = do
  level ← level_of item height
  volume ← needed item (as_integer litres)
  Ok (level, volume)
point_of_pair item values = bad code_of_field item 0

-- a point of a bottom, as an array of two
unfoldable pub point_of : ℕ → Data → Result Point SiteFault
point_of item value = do
  pair ← needed item (as_array value)
  point_of_pair item (values_of pair)

-- the bottom: the points of an array, or a flat one where the array is missing
unfoldable pub bottom_at : Keys → Result (List Point) SiteFault
bottom_at keys =
    if has keys (codes "bottom") then (do
      values ← array_at keys (codes "bottom")
      read_from (point_of keys.item) [] values) else Ok ((pos 0, pos 0) ∷ [])

-- the courses
unfoldable pub courses_at : Keys → Result (List Course) SiteFault
courses_at keys = do
  tables ← array_or_none keys (codes "course")
  read_from (λ table. course_of (inner keys table)) [] tables

-- the deadwoods
unfoldable pub deadwoods_at : Keys → Result (List Deadwood) SiteFault
deadwoods_at keys = do
  tables ← array_or_none keys (codes "deadwood")
  read_from (λ table. deadwood_of (inner keys table)) [] tables

-- the parts of a strapping
unfoldable pub parts_of : Keys → Result StrappedTank SiteFault
parts_of keys = do
  courses ← courses_at keys
  deadwoods ← deadwoods_at keys
  bottom ← bottom_at keys
  Ok (record { courses = courses; deadwoods = deadwoods; bottom = bottom })

-- why a strapping is refused
abbrev pub strap_fault : ℕ → TankFault → SiteFault
strap_fault item strap.NoCourse = fault_at code_of_strap item 0
strap_fault item (strap.BadCourse n) = fault_at code_of_strap item (detail n)
strap_fault item (strap.BadDeadwood n) = fault_at code_of_strap item (detail n)
strap_fault item (strap.BadBottom n) = fault_at code_of_strap item (detail n)
strap_fault item (strap.NotRising row) = fault_at code_of_strap item (detail row)
strap_fault item strap.TooTall = fault_at code_of_strap item 0
strap_fault item (strap.TooLarge row) = fault_at code_of_strap item (detail row)

-- rows, or why there are none
abbrev pub rows_read : ℕ → Result (List ℤ) TankFault → Result (List ℤ) SiteFault
rows_read item (Ok rows) = table_of_rows item rows
rows_read item (Err fault) = Err (strap_fault item fault)

-- the capacity table of a strapped tank, or why its strapping is refused
abbrev pub judged : ℕ → List Row → StrappedTank → Option TankFault → Result (List ℤ) SiteFault
judged item rounding tank (Some fault) = Err (strap_fault item fault)
judged item rounding tank None = rows_read item (strapped_rows rounding tank)

-- the capacity table of a strapping's keys
unfoldable pub table_of_strapping : List Row → Keys → Result (List ℤ) SiteFault
table_of_strapping rounding keys = do
  tank ← parts_of keys
  judged keys.item rounding tank (first_fault tank)

-- the capacity table of a strapping file
unfoldable pub strapped_file : ℕ → List Row → List ℕ → Result (List ℤ) SiteFault
strapped_file item rounding bytes = do
  keys ← toml_of item bytes
  table_of_strapping rounding keys
