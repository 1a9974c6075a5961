-- The lines that end a run with status 1, 2 or 4, and that of `init` with 3. Each text is a whole line.
use Rattle.std.specs.Prelude.{ℕ, List, ◌++◌, codes, decimal}
use Rattle.farm_fixed.specs.declared.records.ChainRule.TheVariants.{AboveTable, WaterAboveLevel, NoEntry, CriticalZone, Negative}
use Rattle.calc_input.specs.declared.refusal.Cause.{Cause}
use Rattle.calc_input.specs.declared.refusal.Cause.TheVariants.{Form, Chain}
use Rattle.calc_input.specs.declared.refusal.Refused.{Refused}
use Rattle.site_keys.specs.declared.fault.SiteFault.{SiteFault}

-- 1: the arguments are no command
abbrev pub usage_line : List ℕ
usage_line = codes "usage: farm calc|init|table|batch|serve|report|drill\n"

-- 3: the disk has bytes, and a journal was to be made on it
abbrev pub not_empty_line : List ℕ
not_empty_line = codes "journal not empty\n"

-- the word for what is wrong with an input
unfoldable pub cause_word : Cause → List ℕ
cause_word Form = codes "form"
cause_word (Chain AboveTable) = codes "AboveTable"
cause_word (Chain WaterAboveLevel) = codes "WaterAboveLevel"
cause_word (Chain NoEntry) = codes "NoEntry"
cause_word (Chain CriticalZone) = codes "CriticalZone"
cause_word (Chain Negative) = codes "Negative"

-- 4: an input is refused at the line of this number, for the cause that a word says
unfoldable pub refused_at : ℕ → List ℕ → List ℕ
refused_at number word = codes "input refused at line " ++ (decimal number ++ (codes ": " ++ (word ++ codes "\n")))

-- an input of calc is refused
unfoldable pub refusal_text : Refused → List ℕ
refusal_text why = refused_at why.line (cause_word why.cause)

-- a batch is refused at a line that is one too many, or holds a byte too many
unfoldable pub too_long_text : ℕ → List ℕ
too_long_text number = refused_at number (codes "long")

-- 2: the folder describes no site
unfoldable pub site_refused_text : SiteFault → List ℕ
site_refused_text fault =
    codes "site refused: code " ++ (decimal fault.code ++ (codes " item " ++ (decimal fault.item ++ (codes " detail " ++
    (decimal fault.detail ++ codes "\n")))))
