-- Answers to the open goals of `image_at`.
use Rattle.std.proofs.Common.{◌≡◌, ◌∷◌, ◌+◌, ◌-◌, ◌<◌, nat_lt, drop, length, sym, ap, ◌∙◌, refl, rules}
use Rattle.std.proofs.lemmas.List.{drop_more}
use Rattle.farm_disk.specs.Rebuilt.{as_found, image_by}
use Rattle.farm_disk.proofs.Rebuilt.{found_on}
use Rattle.farm_disk.proofs.rebuilding.image_at.Goals as goal

-- the call at the index was gone through, of the two moments that it has or the one that is left
pub loop-call-preserved : goal.loop-call-preserved
loop-call-preserved c =
    let calls = c.args.calls.now in
    let index = c.loop-call.call-index in
    let left = c.loop-call.left in
    let call = c.call-item.result in
    let within : index < length calls = search rules in
    let some : 0 < left = search rules in
    let split : drop index calls ≡ call ∷ drop (index + 1) calls =
    drop_more calls index call within ∙ ap (λ call. call ∷ drop (index + 1) calls) (sym c.call-item.is) in
    let less : c.saturating_sub-left.result ≡ left - 2 = search rules in
    let leaves : c.call.new.self.image.items ≡
    image_by c.args.fill (as_found (nat_lt 1 left) call) c.loop-call.rebuilding.seen.items c.loop-call.rebuilding.image.items =
    c.in_ok-call.ensures.image ∙ ap (λ fill. image_by fill (as_found (nat_lt 1 left) call) c.loop-call.rebuilding.seen.items c.loop-call.rebuilding.image.items)
    c.loop-call.invariant.fill in
    record {
      fill = c.in_ok-call.ensures.fill ∙ c.loop-call.invariant.fill;
      rest = found_on c.args.fill (drop index calls) (drop (index + 1) calls) call _ _ _ _ left _ (nat_lt 1 left) split some refl less
          c.in_ok-call.ensures.seen leaves ∙ c.loop-call.invariant.rest;
    }
