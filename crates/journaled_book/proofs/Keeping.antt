-- What a book and its journal keep over calls that change nothing on the disk, and over an answer.
use Rattle.std.proofs.Common.{◌≡◌, ℕ, ◌≤◌, Bool, true, false, List, [], ◌∷◌, Option, sym, ap, subst, arith, length-append}
use Rattle.farm_book.specs.Kept.{Kept}
use Rattle.farm_disk.specs.Images.{State}
use Rattle.farm_disk.specs.Runs.{EachSince, Extends}
use Rattle.farm_history.specs.History.{History, last_place, with_entry}
use Rattle.farm_history.specs.declared.entry.Entry.{Entry}
use Rattle.farm_journal.specs.Standing.{JournalState}
use Rattle.farm_disk.proofs.Extending.{each_more}
use Rattle.journaled_book.specs.Histories.{HasGrown, Recovers, RecoversAtLeast, RecoversFront, certain}
use Rattle.journaled_book.specs.Moments.{EachFrom}
use Rattle.journaled_book.specs.Records.{AreRecords}
use Rattle.journaled_book.proofs.Growing.{front_at_least, front_less, front_of_grown, whole_is_front, whole_is_front_of_more}
use Rattle.journaled_book.proofs.Settling.{records_since}
use Rattle.journaled_book.proofs.Traces.{from_more, from_weaker, since_weaker}

-- with nothing in doubt, and no call on the disk, each image encodes the whole history
pub unchanged_since : {D : Type 0} (trace : D → Option (List State)) (limit : ℕ) (doubt : Bool) (history : History) (journal : JournalState D) (disk : D) →
    doubt ≡ false → journal.disk ≡ disk → AreRecords trace limit doubt history journal →
    EachSince (trace disk) (trace journal.disk) (RecoversFront limit history (last_place history))
unchanged_since trace limit false history journal disk is same kept =
    subst (λ from. EachSince (trace from) (trace journal.disk) (RecoversFront limit history (last_place history))) same
    (records_since trace limit false history journal kept)
unchanged_since trace limit true history journal disk is same kept = absurd cc

-- each image of a put encodes the whole history
pub put_since : (limit : ℕ) (history : History) (old new : Option (List State)) → EachSince old new (Recovers limit history) →
    EachSince old new (RecoversFront limit history (last_place history))
put_since limit history old new since =
    since_weaker (Recovers limit history) (RecoversFront limit history (last_place history)) old new
    (λ image is. whole_is_front limit history (last_place history) image (omega arith) is) since

-- each image of a put, and then of the opening of its gate, encodes the history before the entry or the one with it
pub entered_since : (limit : ℕ) (history : History) (entry : Entry) (old mid new : Option (List State)) → Extends mid new →
    EachSince old mid (Recovers limit history) → EachSince mid new (RecoversFront limit (with_entry history entry) (last_place history)) →
    EachSince old new (RecoversFront limit (with_entry history entry) (last_place history))
entered_since limit history entry old mid new extends put opened =
    let Such : List ℕ → Type 0 = RecoversFront limit (with_entry history entry) (last_place history) in
    each_more Such old mid new extends
    (since_weaker (Recovers limit history) Such old mid (λ image is. whole_is_front_of_more limit history entry image is) put) opened

-- each image of a call, and then of one that answers, encodes a prefix of the history that is left
pub answered_since : (limit : ℕ) (old_history new_history : History) (least : ℕ) (old mid new : Option (List State)) → HasGrown old_history new_history →
    least ≤ last_place old_history → Extends mid new → EachSince old mid (RecoversFront limit old_history least) →
    EachSince mid new (RecoversFront limit new_history (last_place old_history)) → EachSince old new (RecoversFront limit new_history least)
answered_since limit old_history new_history least old mid new grown fewer extends first second =
    let Such : List ℕ → Type 0 = RecoversFront limit new_history least in
    each_more Such old mid new extends
    (since_weaker (RecoversFront limit old_history least) Such old mid (λ image is. front_of_grown limit old_history new_history least image grown is) first)
    (since_weaker (RecoversFront limit new_history (last_place old_history)) Such mid new
    (λ image is. front_less limit new_history (last_place old_history) least image fewer is) second)

-- what isn't in doubt is in the history
pub certain_within : (doubt : Bool) (history : History) → certain doubt history ≤ last_place history
certain_within false history = omega arith
certain_within true history = omega arith

-- each image since a desk was made still encodes a prefix of its history
pub since_made : (limit : ℕ) (old_history new_history : History) (least most from : ℕ) (old new : Option (List State)) → HasGrown old_history new_history →
    least ≤ most → Extends old new → EachFrom old from (RecoversFront limit old_history least) →
    EachSince old new (RecoversFront limit new_history most) → EachFrom new from (RecoversFront limit new_history least)
since_made limit old_history new_history least most from old new grown fewer extends each since =
    let Such : List ℕ → Type 0 = RecoversFront limit new_history least in
    from_more Such from old new extends
    (from_weaker (RecoversFront limit old_history least) Such old from (λ image is. front_of_grown limit old_history new_history least image grown is) each)
    (since_weaker (RecoversFront limit new_history most) Such old new (λ image is. front_less limit new_history most least image fewer is) since)

-- what each image encoded since a moment it still encodes
pub acknowledged_since : (limit : ℕ) (history : History) (most count from : ℕ) (old new : Option (List State)) → count ≤ most → Extends old new →
    EachSince old new (RecoversFront limit history most) → EachFrom old from (RecoversAtLeast limit count) → EachFrom new from (RecoversAtLeast limit count)
acknowledged_since limit history most count from old new fewer extends since each =
    from_more (RecoversAtLeast limit count) from old new extends each
    (since_weaker (RecoversFront limit history most) (RecoversAtLeast limit count) old new
    (λ image is. front_at_least limit history most count image fewer is) since)

-- each image of the opening of the gate of the entry that came last encodes the history before it or with it
pub settled_since : (limit : ℕ) (history : History) (entry : Entry) (entered left : Kept) (old new : Option (List State)) →
    entered.history ≡ with_entry history entry → left ≡ entered →
    EachSince old new (RecoversFront limit entered.history (certain true entered.history)) →
    EachSince old new (RecoversFront limit left.history (last_place history))
settled_since limit history entry entered left old new is same since =
    let one_less : certain true entered.history ≡ last_place history =
    omega (arith, ap last_place is, length-append history.entries (entry ∷ [])) in
    subst (λ (kept : Kept). EachSince old new (RecoversFront limit kept.history (last_place history))) (sym same)
    (subst (λ least. EachSince old new (RecoversFront limit entered.history least)) one_less since)
