-- States that extend others, and what holds of each image over two runs.
use Rattle.std.proofs.Common.{◌≡◌, ⊎_elim, ℕ, ◌<◌, ◌≤◌, List, [], length, take, Option, Some, None, sym, ap, ◌∙◌, subst, arith}
use Rattle.std.proofs.lemmas.Bool.{cases_lt}
use Rattle.std.proofs.lemmas.List.{get_or-take, length-take, take-take}
use Rattle.farm_disk.specs.Images.{IsCrashImage, State, at_rest, state_at}
use Rattle.farm_disk.specs.Runs.{EachSince, Extends}

-- states that extend those that extend others extend these
pub extends_more : (old mid new : Option (List State)) → Extends old mid → Extends mid new → Extends old new
extends_more old mid None first second = tt
extends_more old None (Some new) first second = absurd second
extends_more None (Some mid) (Some new) first second = absurd first
extends_more (Some old) (Some mid) (Some new) first second =
    let shorter : length old ≤ length mid = omega (arith, ap length first, length-take (length old) mid) in
    sym (take-take (length old) (length mid) new shorter) ∙ ap (λ states. take (length old) states) second ∙ first

-- an image of a moment of the longer run is one of the moments of the shorter run, or of those since
pub moment_more : (P : List ℕ → Type 0) (mid new : List State) → take (length mid) new ≡ mid → (moment : ℕ) (image : List ℕ) →
    (moment < length mid → IsCrashImage (state_at mid moment) image → P image) → (length mid ≤ moment → P image) → IsCrashImage (state_at new moment) image →
    P image
moment_more P mid new extends moment image first second is =
    ⊎_elim
    (λ before.
    let same : state_at new moment ≡ state_at mid moment =
    sym (get_or-take (length mid) new moment (at_rest []) before) ∙ ap (λ states. state_at states moment) extends in
    first before (subst (λ state. IsCrashImage state image) same is))
    (λ later. second (omega arith))
    (cases_lt moment (length mid))

-- what holds of each image over a run and over the next one holds over both
pub each_more : (P : List ℕ → Type 0) (old mid new : Option (List State)) → Extends mid new → EachSince old mid P → EachSince mid new P → EachSince old new P
each_more P old mid None extends first second = tt
each_more P old None (Some new) extends first second = absurd extends
each_more P None (Some mid) (Some new) extends first second = absurd first
each_more P (Some old) (Some mid) (Some new) extends first second = λ moment since within image is.
    moment_more P mid new extends moment image (λ before there. first moment since before image there) (λ later. second moment (omega arith) within image is) is
