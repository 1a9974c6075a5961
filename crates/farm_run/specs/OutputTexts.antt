-- What a command has to answer: a text to print, or a reason to refuse its input.
use Rattle.std.specs.Prelude.{ℕ, List, Option, Some, None, Result, Ok, Err}
use Rattle.farm_fixed.specs.declared.records.Quantities.{Quantities}
use Rattle.farm_ports.specs.Folders.{File}
use Rattle.farm_report.specs.Figures.{figures_text}
use Rattle.farm_report.specs.Issued.{issued_text}
use Rattle.calc_input.specs.declared.refusal.Refused.{Refused}
use Rattle.calc_input.specs.Answer.{answer_of}
use Rattle.site_keys.specs.declared.fault.SiteFault.{SiteFault}
use Rattle.site_keys.specs.Faults.{Refusal, Faulty, Missing}
use Rattle.farm_site.specs.Described.{Described}
use Rattle.site_file.specs.Files.{site_of_files}

-- the text of figures, or the refusal
abbrev pub text_of_figures : Result Quantities Refused → Result (List ℕ) Refused
text_of_figures (Ok figures) = Ok (figures_text figures)
text_of_figures (Err why) = Err why

-- what `calc` answers on these bytes
unfoldable pub calc_text : List ℕ → Result (List ℕ) Refused
calc_text bytes = text_of_figures (answer_of bytes)

-- the same, of an input that is always there
abbrev pub calc_of : List ℕ → Option (Result (List ℕ) Refused)
calc_of bytes = Some (calc_text bytes)

-- the text of a site that was described, or the fault; neither if a file is missing
abbrev pub text_or_fault : (Described → List ℕ) → Result Described Refusal → Option (Result (List ℕ) SiteFault)
text_or_fault text (Ok site) = Some (Ok (text site))
text_or_fault text (Err (Faulty fault)) = Some (Err fault)
text_or_fault text (Err (Missing name)) = None

-- the tables of a site that was described
abbrev pub issued_of : Result Described Refusal → Option (Result (List ℕ) SiteFault)
issued_of answer = text_or_fault (λ site. issued_text site.tanks) answer

-- what `table` answers on the files of a folder
abbrev pub table_of : List File → Option (Result (List ℕ) SiteFault)
table_of files = issued_of (site_of_files files)
