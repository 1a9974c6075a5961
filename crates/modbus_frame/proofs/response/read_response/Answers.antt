-- What the bytes are is the definition's answer, which means what the rule says and stays when bytes follow.
use Rattle.std.proofs.Common.{◌≡◌, ◌∙◌, sym, refl, arith}
use Rattle.modbus_frame.specs.Fields.{frame_answer}
use Rattle.modbus_frame.proofs.Meaning.{frame_means}
use Rattle.modbus_frame.proofs.Stays.{frame_stays}
use Rattle.modbus_frame.proofs.response.read_response.Goals as goal

from_unit : (c : goal.After-read_from_unit) → c.read_from_unit.result ≡ frame_answer c.args.expect.now c.args.bytes.now
from_unit c = c.read_from_unit.ensures ∙ sym (c.in-Ok.ensures.agree refl)

pub returns-in-Ok-clause-meaning : goal.returns-in-Ok-clause-meaning
returns-in-Ok-clause-meaning c =
    frame_means c.args.expect.now c.args.bytes.now _ c.requires.expect c.read_length.ensures.fits (λ i. omega (arith, c.type_inv.bytes i)) (from_unit c)

pub returns-in-Ok-clause-stays : goal.returns-in-Ok-clause-stays
returns-in-Ok-clause-stays c = λ more. frame_stays c.args.expect.now c.args.bytes.now more _ c.requires.expect (from_unit c)

pub returns-in-Err-clause-meaning : goal.returns-in-Err-clause-meaning
returns-in-Err-clause-meaning c =
    frame_means c.args.expect.now c.args.bytes.now _ c.requires.expect c.read_length.ensures.fits (λ i. omega (arith, c.type_inv.bytes i)) c.in-Err.ensures.decided

pub returns-in-Err-clause-stays : goal.returns-in-Err-clause-stays
returns-in-Err-clause-stays c = λ more. frame_stays c.args.expect.now c.args.bytes.now more _ c.requires.expect c.in-Err.ensures.decided
