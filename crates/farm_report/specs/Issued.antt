-- The issued capacity tables: the text of the capacity tables of a site's tanks. Levels are in mm, volumes in litres.
use Rattle.std.specs.Prelude.{ℕ, ◌+◌, ◌*◌, List, [], ◌∷◌, ◌++◌, codes, decimal, flat_map, ℤ}
use Rattle.std.specs.Fmt.{signed_decimal}
use Rattle.farm_site.specs.declared.items.Tank.{Tank}

-- the line of a row: its level, a blank, its litres
abbrev pub row_line : ℕ → ℤ → List ℕ
row_line mm litres = decimal mm ++ codes " " ++ signed_decimal litres ++ codes "\n"

-- the lines of rows from row `index` on, of which row i stands at 10 i mm
abbrev pub rows_from : ℕ → List ℤ → List ℕ
rows_from index [] = []
rows_from index (litres ∷ rows) = row_line (10 * index) litres ++ rows_from (index + 1) rows

-- the line above the rows of a tank
abbrev pub tank_line : ℕ → List ℕ
tank_line number = codes "tank " ++ decimal number ++ codes "\n"

-- the text of a tank: its line, and its rows from the level 0 up
abbrev pub tank_text : Tank → List ℕ
tank_text tank = tank_line tank.number ++ rows_from 0 tank.table

-- the texts of the tanks, one after another
abbrev pub issued_text : List Tank → List ℕ
issued_text tanks = flat_map tank_text tanks
