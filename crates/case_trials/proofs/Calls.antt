-- When links took the same calls.
use Rattle.std.specs.Prelude.{◌≡◌, List, [], ◌∷◌, map}
use Rattle.std.specs.Bool.{Decides}
use Rattle.std.specs.Cmp.Lexicographic.{pointwise}
use Rattle.std.specs.declared.vec.Vec.{Vec}
use Rattle.std.specs.declared.alloc.Global.{Global}
use Rattle.std.proofs.Common.{refl, ap}
use Rattle.std.proofs.lemmas.Bool.Decides.{Decides-eqb}
use Rattle.case_files.specs.contracts.call.CallPartialEq.TheImpl as calls
use Rattle.case_files.specs.declared.call.Call.{Call}
use Rattle.case_trials.proofs.Lists.{mapped_decides, numbers_decide}
use Rattle.case_trials.specs.Calls.{taken, told}

-- two calls are the same if their kinds and what they moved are
call_decides : (a b : Call) → Decides (calls.ghosts.eq a b) (told a ≡ told b)
call_decides (Call.Send a) (Call.Send b) =
    let bytes = numbers_decide a.items b.items in
    ((λ e. ap (λ moved. (2, moved)) (bytes.0 e)), λ e. bytes.1 (ap (λ told. told.1) e))
call_decides (Call.Receive a) (Call.Receive b) =
    let count = Decides-eqb a b in
    ((λ e. ap (λ moved. (4, moved ∷ [])) (count.0 e)), λ e. let moved = ap (λ told. told.1) e in count.1 cc)
call_decides Call.Connect Call.Connect = ((λ _. refl), λ _. refl)
call_decides Call.ConnectFailed Call.ConnectFailed = ((λ _. refl), λ _. refl)
call_decides Call.SendFailed Call.SendFailed = ((λ _. refl), λ _. refl)
call_decides Call.ReceiveFailed Call.ReceiveFailed = ((λ _. refl), λ _. refl)
call_decides Call.Pause Call.Pause = ((λ _. refl), λ _. refl)
call_decides a b = ((λ e. cc), λ e. let kinds = ap (λ told. told.0) e in cc)

-- the calls of two links are the same if each is
taken_decides : (a b : Vec Call Global) → Decides (pointwise calls.ghosts.eq a.items b.items) (taken a ≡ taken b)
taken_decides a b = mapped_decides told calls.ghosts.eq call_decides a.items b.items

-- links took the same calls if each did
pub links_decide : (xs ys : List (Vec Call Global)) → Decides (pointwise (λ a b. pointwise calls.ghosts.eq a.items b.items) xs ys) (map taken xs ≡ map taken ys)
links_decide = mapped_decides taken _ taken_decides
