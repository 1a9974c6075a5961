-- The row site: its files.
use Rattle.std.specs.Prelude.{ℕ, zero, suc, ◌*◌, List, [], ◌∷◌, ◌++◌, codes, decimal}
use Rattle.farm_ports.specs.Folders.{File}
use Rattle.sample_site.specs.declared.files.TheConstants.{FACTORS, SITE}

-- the line of a row: its level, a comma, its litres, 10,000 for each row
abbrev pub table_line : ℕ → List ℕ
table_line row = decimal (10 * row) ++ codes "," ++ decimal (10000 * row) ++ codes "\n"

-- the lines of the first rows
unfoldable pub table_lines : ℕ → List ℕ
table_lines zero = []
table_lines (suc rows) = table_lines rows ++ table_line rows

-- the table: a header, and rows up to the level of 15,000 mm
unfoldable pub table_text : List ℕ
table_text = codes "mm,litres\n" ++ table_lines 1501

-- the files, by their names
unfoldable pub row_files : List File
row_files =
    record { name = codes "site.toml"; bytes = SITE.now }
    ∷ record { name = codes "factors.csv"; bytes = FACTORS.now }
    ∷ record { name = codes "table.csv"; bytes = table_text }
    ∷ []
