-- Answers to the open goals of `append_page`.
use Rattle.std.proofs.Common.{List, ℕ, subst}
use Rattle.farm_base.specs.Appended.{Appends}
use Rattle.farm_base.specs.declared.memory.NoMemory.{NoMemory}
use Rattle.http_pages.proofs.Parts.{written_is}
use Rattle.http_pages.proofs.writing.append_page.Goals as goal

pub returns : goal.returns
returns c =
    let text =
    written_is c.args.answer.now c.args.last c.from.result c.as_bytes.result.now c.allow_line.result.now c.close_line.result.now c.args.content.now
    (cc) (cc) c.allow_line.ensures.line c.close_line.ensures.line c.requires.content in
    record {
      appended = subst (λ (text : List ℕ). Appends {T = Unit {0}} {E = NoMemory} c.args.out.now.items c.append.new.out.items text c.append.result)
          text c.append.ensures.appended;
    }
