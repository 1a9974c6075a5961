-- A batch at its end, once what waited was put.
use Rattle.std.proofs.Common.{◌≡◌, ◌≢◌, ◌⊎◌, inl, inr, ℕ, ◌+◌, ◌≤◌, List, [], ◌++◌, length, Option, ℤ, refl, sym, ap, subst, ◌∙◌, append-nil, arith, length-append}
use Rattle.std.proofs.lemmas.List.{nil_from_length}
use Rattle.farm_base.specs.Counts.{Count, HasRisen, IsQuiet, Rose}
use Rattle.farm_base.specs.Known.{Adds, Stream}
use Rattle.farm_base.proofs.Additions.{additions_add_up}
use Rattle.farm_base.proofs.Known.{adds_none}
use Rattle.farm_desk.specs.States.{DeskState}
use Rattle.farm_batch.specs.declared.batch.BatchEnd.{BatchEnd}
use Rattle.farm_batch.specs.declared.batch.BatchEnd.TheVariants.{Failed}
use Rattle.farm_batch.specs.LineAnswers.{IsPrefixOfAnswers, Step, answers_text}
use Rattle.farm_batch.specs.Puts.{PutsPrefix}
use Rattle.farm_batch.specs.Batches.{Batch, EndsAs, PutsRest}
use Rattle.farm_batch.proofs.Prefixes.{all_put, put_on, put_whole}
use Rattle.farm_batch.proofs.SoFar.{counts}
use Rattle.farm_batch.proofs.Ends.{Ended}

-- nothing was put where nothing waited
nothing_more : (old held new : Option (List ℕ)) (answers waiting lost last : List ℕ) → PutsPrefix old held answers lost → waiting ≡ [] →
    PutsPrefix held new waiting last → PutsPrefix old new answers lost
nothing_more old held new answers waiting lost last puts none more =
    let nothing : more.put ≡ [] = nil_from_length more.put (omega (arith, ap length (sym more.split ∙ none), length-append more.put last)) in
    record {
      put = puts.put;
      added =
          subst (λ (text : List ℕ). Adds old new text) (ap (λ more. puts.put ++ more) nothing ∙ append-nil puts.put)
          (additions_add_up old held new puts.put more.put puts.added more.added);
      split = puts.split;
    }

-- a batch that failed has put a prefix of its answers
cut_off : {steps : List Step} {old new : Option (List ℕ)} {lost : List ℕ} {end : BatchEnd} (sink : Count) → end ≡ Failed → HasRisen sink →
    PutsPrefix old new (answers_text steps) lost →
    Adds old new (answers_text steps) ⊎ ((end ≡ Failed) × HasRisen sink × (bytes : List ℕ) × IsPrefixOfAnswers steps bytes × Adds old new bytes)
cut_off {lost = lost} sink failed risen puts = inr (failed, risen, puts.put, record { lost = lost; split = puts.split }, puts.added)

-- a batch at its end, with what was put then
finished : {D : Type 0} {faults : D → ℕ} {may_give : ℤ → Type 0} {limit : ℕ} {before after : DeskState D} {from to : Option Stream} {source : Count}
    {old held new : Option (List ℕ)} {waiting : List ℕ} {sink sink_now : Count} {end result : BatchEnd} →
    (ended : Ended faults may_give limit before after from to source old held waiting sink end) →
    Adds old new (answers_text ended.steps)
    ⊎ ((result ≡ Failed) × HasRisen sink_now × (bytes : List ℕ) × IsPrefixOfAnswers ended.steps bytes × Adds old new bytes) →
    EndsAs ended.in_hand to ended.steps source sink_now result → (result ≢ Failed → IsQuiet source × IsQuiet sink_now) →
    Batch faults may_give limit before after from to source old new sink_now result
finished ended put how quiet =
    record {
      steps = ended.steps;
      taken = ended.taken;
      in_hand = ended.in_hand;
      moved = ended.moved;
      asks = ended.asks;
      left = ended.left;
      counted = ended.counted;
      disk_counted = ended.disk_counted;
      acknowledged = ended.acknowledged;
      untouched = ended.untouched;
      put = put;
      ends = how;
      quiet = quiet;
    }

-- What waited was put, and the batch ends as it would; or the put failed, and it ends so.
pub batch_of : {D : Type 0} {faults : D → ℕ} {may_give : ℤ → Type 0} {limit : ℕ} {before after : DeskState D} {from to : Option Stream} {source : Count}
    {old held new : Option (List ℕ)} {waiting : List ℕ} {start stop now : ℕ} {end result : BatchEnd} →
    Ended faults may_give limit before after from to source old held waiting (counts start stop) end → start ≤ stop →
    PutsRest held new waiting (counts stop now) end result →
    Batch faults may_give limit before after from to source old new (counts start now) result
batch_of {faults = faults} {may_give = may_give} {limit = limit} {before = before} {after = after} {from = from} {to = to} {source = source}
    {old = old} {held = held} {new = new} {waiting = waiting} {start = start} {stop = stop} {now = now} {end = end} ended earlier (inl whole) =
    let all = put_whole held new waiting whole.0 in
    let answers = answers_text ended.steps in
    let still : stop ≡ now = sym whole.1 in
    subst (λ (end : BatchEnd). Batch faults may_give limit before after from to source old new (counts start now) end) (sym whole.2)
    (subst (λ (now : ℕ). Batch faults may_give limit before after from to source old new (counts start now) end) still
    (finished ended (elim ended.put [
      | inl puts ↦ inl (all_put old new answers [] (put_on old held new answers waiting [] puts all) refl)
      | inr failed ↦ cut_off _ failed.0 failed.1 (nothing_more old held new answers waiting failed.3 [] failed.4 failed.2 all)
    ]) ended.ends ended.quiet))
batch_of {old = old} {held = held} {new = new} {waiting = waiting} {start = start} {stop = stop} {now = now} ended earlier (inr cut) =
    let answers = answers_text ended.steps in
    let risen : Rose start now = omega (arith, earlier, cut.0) in
    rw cut.3 (finished ended (elim ended.put [
      | inl puts ↦ cut_off _ refl risen (put_on old held new answers waiting cut.1 puts cut.2)
      | inr failed ↦ cut_off _ refl risen (nothing_more old held new answers waiting failed.3 cut.1 failed.4 failed.2 cut.2)
    ]) (inr risen) (λ other. absurd (other refl)))

-- if nothing waits at the end, nothing is put then
pub batch_at_end : {D : Type 0} {faults : D → ℕ} {may_give : ℤ → Type 0} {limit : ℕ} {before after : DeskState D} {from to : Option Stream} {source : Count}
    {old new : Option (List ℕ)} {start now : ℕ} {end : BatchEnd} →
    Ended faults may_give limit before after from to source old new [] (counts start now) end → start ≤ now →
    Batch faults may_give limit before after from to source old new (counts start now) end
batch_at_end {new = new} ended earlier = batch_of ended earlier (inl (adds_none new, refl, refl))
