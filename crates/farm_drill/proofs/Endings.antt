-- What holds of a result that is Ok.
use Rattle.std.proofs.Common.{Result, Ok, Err, OnOk}

-- what follows from a fact of a result that is Ok is a fact of it
pub on_ok : {T E P Q : Type 0} (result : Result T E) → (P → Q) → OnOk result P → OnOk result Q
on_ok (Ok value) follows fact = follows fact
on_ok (Err fault) follows fact = tt

-- what always holds is a fact of every result that is Ok
pub on_any : {T E P : Type 0} (result : Result T E) → P → OnOk result P
on_any (Ok value) fact = fact
on_any (Err fault) fact = tt
