-- The bytes ahead in a window.
use Rattle.std.proofs.Common.{◌≡◌, ℕ, ◌+◌, ◌-◌, ◌≤◌, List, ◌++◌, length, take, drop, Option, Some, None, sym, ap, ◌∙◌, subst, arith, length-take, length-drop}
use Rattle.std.proofs.lemmas.List.{drop-drop, drop-take, take-take, take_all}
use Rattle.std.proofs.Math.Seq.{take-add}
use Rattle.farm_base.specs.Known.{WhereKnown}
use Rattle.farm_disk.specs.Images.{State, present}
use Rattle.farm_journal.specs.Windows.{BeginsWith, Shows, WhereLeft, WindowState}
use Rattle.farm_journal.proofs.Fronts.{begins_size}

-- what is ahead once some of it is passed
pub passed : (count from to : ℕ) (bytes : List ℕ) → from + count ≤ to →
    take (to - (from + count)) (drop (from + count) bytes) ≡ drop count (take (to - from) (drop from bytes))
passed count from to bytes within =
    let rest = to - (from + count) in
    let whole : count + rest ≡ to - from = omega arith in
    ap (λ left. take rest left) (sym (drop-drop count from bytes)) ∙ sym (drop-take count rest (drop from bytes))
    ∙ ap (λ size. drop count (take size (drop from bytes))) whole

-- a front that is kept is the same up to any place in it
pub kept_front : (size : ℕ) (old new : List ℕ) → size ≤ length old → take (length old) new ≡ old → take size new ≡ take size old
kept_front size old new within kept =
    sym (take-take size (length old) new within) ∙ ap (λ bytes. take size bytes) kept

-- the front of a longer front
pub begins_longer : (front old new : List ℕ) (to count : ℕ) → take to new ≡ take to old → BeginsWith front (take to old) →
    BeginsWith front (take (to + count) new)
begins_longer front old new to count same begins =
    let within : length front ≤ to = omega (arith, begins_size front (take to old) begins, length-take to old) in
    take-take (length front) (to + count) new (omega arith)
    ∙ sym (take-take (length front) to new within)
    ∙ ap (λ bytes. take (length front) bytes) same ∙ begins

-- what is left begins with what was read of it before, and then with what was read
more_shown : (to count : ℕ) (old new left : List ℕ) → to ≤ length old → to + count ≤ length new → take to new ≡ take to old →
    BeginsWith (take to old) left → take count (drop to left) ≡ take count (drop to new) → BeginsWith (take (to + count) new) left
more_shown to count old new left within room same begins read =
    let size : length (take to old) ≡ to = omega (arith, length-take to old) in
    let all : length (take (to + count) new) ≡ to + count = omega (arith, length-take (to + count) new) in
    let front : take to left ≡ take to new = ap (λ size. take size left) (sym size) ∙ begins ∙ sym same in
    ap (λ size. take size left) all ∙ take-add to count left
    ∙ ap (λ front. front ++ take count (drop to left)) front ∙ ap (λ back. take to new ++ back) read
    ∙ sym (take-add to count new)

-- so it is where the states are known
pub shows_more : (known : Option (List State)) (offset to count : ℕ) (old new : List ℕ) → to ≤ length old → to + count ≤ length new →
    take to new ≡ take to old → WhereLeft known offset (BeginsWith (take to old)) →
    WhereKnown known (λ states. take count (drop to new) ≡ take count (drop (offset + to) (present states).seen)) →
    WhereLeft known offset (BeginsWith (take (to + count) new))
shows_more None offset to count old new within room same begins read = tt
shows_more (Some states) offset to count old new within room same begins read =
    more_shown to count old new (drop offset (present states).seen) within room same begins
    (ap (λ left. take count left) (drop-drop to offset (present states).seen) ∙ sym read)

-- at the end of the bytes all that is left was read
pub shows_all : (known : Option (List State)) (offset to : ℕ) (bytes : List ℕ) → to ≤ length bytes →
    WhereLeft known offset (BeginsWith (take to bytes)) →
    (WhereKnown known (λ states. length (present states).seen ≤ offset + to)) →
    WhereLeft known offset (λ left. left ≡ take to bytes)
shows_all None offset to bytes within begins end = tt
shows_all (Some states) offset to bytes within begins end =
    let left = drop offset (present states).seen in
    let size : length (take to bytes) ≡ to = omega (arith, length-take to bytes) in
    sym (take_all (length (take to bytes)) left (omega (arith, length-drop offset (present states).seen))) ∙ begins

-- bytes that were moved to the front of a buffer stay there when it is made longer
pub front_kept : (from to : ℕ) (old moved longer : List ℕ) → from ≤ to → to ≤ length old → length moved ≡ length old →
    take (to - from) moved ≡ take (to - from) (drop from old) → BeginsWith moved longer →
    take (to - from) longer ≡ take (to - from) (drop from old)
front_kept from to old moved longer order within size is_moved kept =
    kept_front (to - from) moved longer (omega arith) kept ∙ is_moved

-- past bytes that are ahead the others are what reads give
passed_shown : (offset count : ℕ) (ahead seen : List ℕ) → count ≤ length ahead → BeginsWith ahead (drop offset seen) →
    BeginsWith (drop count ahead) (drop (offset + count) seen)
passed_shown offset count ahead seen within begins =
    let left = drop offset seen in
    let size : length (drop count ahead) ≡ length ahead - count = length-drop count ahead in
    let whole : count + (length ahead - count) ≡ length ahead = omega arith in
    ap (λ size. take size (drop (offset + count) seen)) size
    ∙ ap (λ left. take (length ahead - count) left) (sym (drop-drop count offset seen))
    ∙ sym (drop-take count (length ahead - count) left)
    ∙ ap (λ size. drop count (take size left)) whole
    ∙ ap (λ ahead. drop count ahead) begins

-- so where the states are known
passed_where : (known : Option (List State)) (offset count : ℕ) (ahead : List ℕ) → count ≤ length ahead →
    WhereLeft known offset (BeginsWith ahead) → WhereLeft known (offset + count) (BeginsWith (drop count ahead))
passed_where None offset count ahead within shows = tt
passed_where (Some states) offset count ahead within shows = passed_shown offset count ahead (present states).seen within shows

-- so it is of a window that went past them
pub shows_passed : {D : Type 0} (trace : D → Option (List State)) (old new : WindowState D) (count : ℕ) → count ≤ length old.ahead →
    old.disk ≡ new.disk → old.offset + count ≡ new.offset → drop count old.ahead ≡ new.ahead → Shows trace old → Shows trace new
shows_passed trace old new count within disk offset ahead shows =
    subst (λ disk. WhereLeft (trace disk) new.offset (BeginsWith new.ahead)) disk
    (subst (λ offset. WhereLeft (trace old.disk) offset (BeginsWith new.ahead)) offset
    (subst (λ ahead. WhereLeft (trace old.disk) (old.offset + count) (BeginsWith ahead)) ahead
    (passed_where (trace old.disk) old.offset count old.ahead within shows)))
