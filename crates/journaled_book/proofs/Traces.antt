-- What a crash may leave over calls in a row.
use Rattle.std.proofs.Common.{◌≡◌, ℕ, ◌+◌, ◌-◌, List, length, Option, Some, None, subst, arith}
use Rattle.std.proofs.lemmas.List.{take_all}
use Rattle.farm_base.specs.Known.{WhereKnown}
use Rattle.farm_disk.proofs.Extending.{moment_more}
use Rattle.farm_disk.specs.Images.{IsCrashImage, State, state_at}
use Rattle.farm_disk.specs.Runs.{EachNow, EachSince, Extends}
use Rattle.journaled_book.specs.Moments.{EachFrom}

-- states extend themselves
pub extends_same : (trace : Option (List State)) → Extends trace trace
extends_same None = tt
extends_same (Some states) = take_all (length states) states (omega arith)

-- what holds now holds over no call
pub since_now : (P : List ℕ → Type 0) (trace : Option (List State)) → EachNow trace P → EachSince trace trace P
since_now P None now = tt
since_now P (Some states) now = λ moment since within image is.
    let last : moment ≡ length states - 1 = omega arith in
    now image (subst (λ m. IsCrashImage (state_at states m) image) last is)

-- what follows from what holds of each image holds of each
pub since_weaker : (P Q : List ℕ → Type 0) (old new : Option (List State)) → ((image : List ℕ) → P image → Q image) → EachSince old new P → EachSince old new Q
since_weaker P Q old None follows since = tt
since_weaker P Q None (Some new) follows since = since
since_weaker P Q (Some old) (Some new) follows since = λ moment from within image is. follows image (since moment from within image is)

-- the same of each image now
pub now_weaker : (P Q : List ℕ → Type 0) (trace : Option (List State)) → ((image : List ℕ) → P image → Q image) → EachNow trace P → EachNow trace Q
now_weaker P Q None follows now = tt
now_weaker P Q (Some states) follows now = λ image is. follows image (now image is)

-- and of each image from a moment on
pub from_weaker : (P Q : List ℕ → Type 0) (trace : Option (List State)) (from : ℕ) → ((image : List ℕ) → P image → Q image) → EachFrom trace from P → EachFrom trace from Q
from_weaker P Q None from follows each = tt
from_weaker P Q (Some states) from follows each = λ moment since within image is. follows image (each moment since within image is)

-- what holds from a moment on, and then over a call, holds from that moment on after the call
pub from_more : (P : List ℕ → Type 0) (from : ℕ) (old new : Option (List State)) → Extends old new → EachFrom old from P → EachSince old new P → EachFrom new from P
from_more P from old None extends each since = tt
from_more P from None (Some new) extends each since = absurd extends
from_more P from (Some old) (Some new) extends each since = λ moment after within image is.
    moment_more P old new extends moment image (λ before there. each moment after before image there) (λ later. since moment (omega arith) within image is) is

-- what holds now holds from the present moment on
pub from_now : (P : List ℕ → Type 0) (trace : Option (List State)) (moment : ℕ) → WhereKnown trace (λ states. length states ≡ moment + 1) → EachNow trace P → EachFrom trace moment P
from_now P None moment present_is now = tt
from_now P (Some states) moment present_is now = λ later since within image is.
    let last : later ≡ length states - 1 = omega arith in
    now image (subst (λ m. IsCrashImage (state_at states m) image) last is)
