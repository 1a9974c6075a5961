-- The ten lines of a calculation.
use Rattle.std.specs.Prelude.{ℕ, List, [], ◌++◌, codes, ℤ}
use Rattle.farm_fixed.specs.declared.records.Quantities.{Quantities}
use Rattle.farm_fixed.specs.Printing.{quantity_text}

-- the line of a figure with this many decimals, its name, a blank and its text, and the lines after it
abbrev pub figure_line : List ℕ → ℕ → ℤ → List ℕ → List ℕ
figure_line name places value lines = name ++ (codes " " ++ (quantity_text places value ++ (codes "\n" ++ lines)))

-- the ten lines
unfoldable pub figures_text : Quantities → List ℕ
figures_text q =
    figure_line (codes "TOV") 0 q.tov (figure_line (codes "FW") 0 q.fw (figure_line (codes "CTSH") 5 q.ctsh
    (figure_line (codes "VCF") 5 q.vcf (figure_line (codes "FRA") 0 q.fra (figure_line (codes "GOV") 0 q.gov
    (figure_line (codes "GSV") 0 q.gsv (figure_line (codes "NSV") 0 q.nsv (figure_line (codes "SWV") 0 q.swv
    (figure_line (codes "MASS") 0 q.mass [])))))))))
