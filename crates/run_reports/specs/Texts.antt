-- The lines that end a run of any command whose output, disk or journal fails. Each text is a whole line.
use Rattle.std.specs.Prelude.{ℕ, List, ◌++◌, codes, decimal}

-- 7: out of memory
abbrev pub no_memory_line : List ℕ
no_memory_line = codes "no memory\n"

-- 6: the input, the folder or the output failed
abbrev pub port_fault_line : List ℕ
port_fault_line = codes "port fault\n"

-- 5: the disk failed
abbrev pub disk_fault_line : List ℕ
disk_fault_line = codes "disk fault\n"

-- 3: the bytes of the disk don't begin as a journal's
abbrev pub not_journal_line : List ℕ
not_journal_line = codes "not a journal\n"

-- 3: a journal is damaged at a place, 0 for its site and 1 for the first entry
unfoldable pub journal_damaged_text : ℕ → List ℕ
journal_damaged_text place = codes "journal damaged at " ++ (decimal place ++ codes "\n")
