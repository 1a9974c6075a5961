-- The texts of the answers that are put without memory.
use Rattle.std.proofs.Common.{◌≡◌, codes, refl}
use Rattle.std.specs.Fmt.{digits}
use Rattle.serde_json.proofs.OnLiterals.{serde_json_on_literals}
use Rattle.farm_http.specs.PageTexts.{body_text}
use Rattle.farm_batch.specs.LineAnswers.{answer_text, disk_fault, out_of_memory}

-- the answer of the status 507, with its line feed
pub out_of_memory_text : answer_text out_of_memory ≡ codes "{\"error\":507}\n"
unfolding body_text serde_json_on_literals digits
out_of_memory_text = refl

-- the answer of the status 503, with its line feed
pub disk_fault_text : answer_text disk_fault ≡ codes "{\"error\":503}\n"
unfolding body_text serde_json_on_literals digits
disk_fault_text = refl
