-- Which bytes are accepted next: those of a site first, and then those of an entry that may come next.
use Rattle.std.proofs.Common.{◌≡◌, ◌∙◌, ℕ, ℤ, true, ◌&&◌, List, [], Some, Result, Ok, Err, ◌≤ℤ◌, IsTrue, is_ok, refl, sym, ap, arith}
use Rattle.std.specs.Int.RustNames.{int_le}
use Rattle.std.proofs.lemmas.Bool.{and_parts}
use Rattle.std.proofs.lemmas.Int.{ints}
use Rattle.site_decoding.specs.Readers.{IsBytes}
use Rattle.site_decoding.specs.declared.fault.SiteBytesFault.{SiteBytesFault}
use Rattle.farm_book.specs.Entering.{IsNextEncoding}
use Rattle.farm_history.specs.declared.entry.Entry.{Entry}
use Rattle.farm_history.specs.declared.verdict.Verdict.{Verdict}
use Rattle.farm_history.specs.declared.verdict.Verdict.TheVariants.{Repeat, Refused, Accept}
use Rattle.farm_history.specs.Decoding.{whole_entry}
use Rattle.farm_history.specs.History.{History, last_moment}
use Rattle.farm_history.specs.Verdicts.{IsNext, is_accepted, verdict}
use Rattle.farm_history.proofs.EntryReader.{entry_found, entry_only}
use Rattle.site_decoding.specs.Sites.{whole_site}
use Rattle.farm_site.specs.Described.{Described}
use Rattle.site_decoding.proofs.BytesRead.{PartsAreRead, site_found, site_only}
use Rattle.farm_recovery.specs.Accepting.{accepted_next, is_next, taken_of}
use Rattle.journaled_book.specs.Histories.{IsRecordable}
use Rattle.farm_recovery.specs.Recovery.{IsSiteEncoding}
use Rattle.farm_recovery.proofs.Decoded.{decoded}

-- a verdict that tests as acceptance is acceptance
acceptance : (given : Verdict) → is_accepted given ≡ true → given ≡ Accept
acceptance Accept is = refl
acceptance (Repeat place) is = absurd cc
acceptance (Refused rule) is = absurd cc

-- numbers that test as in order are
in_order : (low high : ℤ) → int_le low high ≡ true → low ≤ℤ high
in_order low high is = grind (arith, ints)

-- and those in order test so
tests_in_order : (low high : ℤ) → low ≤ℤ high → int_le low high ≡ true
tests_in_order low high is = grind (arith, ints)

-- an entry that may come next tests so
tests_as_next : (limit : ℕ) (history : History) (entry : Entry) → IsNext limit history entry → is_next limit (Some history) (Ok entry) ≡ true
tests_as_next limit history entry next =
    ap (λ given. is_accepted given && int_le (last_moment history) entry.at) next.accepted ∙ tests_in_order (last_moment history) entry.at next.moment

-- bytes are those of an entry that may come next, if what is read of them passes the test
next_of : (limit : ℕ) (history : History) (bytes : List ℕ) (read : Result Entry ℕ) → IsBytes bytes → whole_entry bytes ≡ read →
    is_next limit (Some history) read ≡ true → IsNextEncoding limit history bytes
next_of limit history bytes (Err left) fits reads is = absurd cc
next_of limit history bytes (Ok entry) fits reads is =
    let found = entry_found bytes entry fits reads in
    let both = and_parts (is_accepted (verdict limit history entry)) (int_le (last_moment history) entry.at) is in
    record {
      entry = entry;
      typed = found.0.0;
      encoded = found.1;
      next = record {
        accepted = acceptance (verdict limit history entry) both.0;
        well_formed = found.0.1;
        moment = in_order (last_moment history) entry.at both.1;
      };
    }

-- the bytes of an entry that may come next are accepted
pub next_is_accepted : PartsAreRead → (limit : ℕ) (history : History) (bytes : List ℕ) → IsRecordable limit history → IsNextEncoding limit history bytes →
    IsTrue (accepted_next limit (taken_of (Some history)) bytes)
next_is_accepted laws limit history bytes is next =
    ap (λ past. is_next limit past (whole_entry bytes)) (decoded laws limit history is)
    ∙ ap (λ read. is_next limit (Some history) read) (entry_only bytes next.entry next.typed next.next.well_formed next.encoded)
    ∙ tests_as_next limit history next.entry next.next

-- bytes that are accepted are those of an entry that may come next
pub accepted_is_next : PartsAreRead → (limit : ℕ) (history : History) (bytes : List ℕ) → IsBytes bytes → IsRecordable limit history →
    IsTrue (accepted_next limit (taken_of (Some history)) bytes) → IsNextEncoding limit history bytes
accepted_is_next laws limit history bytes fits is accepted =
    next_of limit history bytes (whole_entry bytes) fits refl
    (sym (ap (λ past. is_next limit past (whole_entry bytes)) (decoded laws limit history is)) ∙ accepted)

-- the bytes of a site are accepted first
pub site_is_accepted : PartsAreRead → (limit : ℕ) (bytes : List ℕ) → IsSiteEncoding bytes → IsTrue (accepted_next limit [] bytes)
site_is_accepted laws limit bytes is = ap is_ok (site_only laws bytes is.site is.sound is.encoded)

-- bytes are those of a site, if a site is read of them
site_of : PartsAreRead → (bytes : List ℕ) (read : Result Described SiteBytesFault) → IsBytes bytes → whole_site bytes ≡ read → is_ok read ≡ true →
    IsSiteEncoding bytes
site_of laws bytes (Err fault) fits reads is = absurd cc
site_of laws bytes (Ok site) fits reads is =
    let found = site_found laws bytes site fits reads in
    record { site = site; sound = found.0; encoded = found.1 }

-- bytes that are accepted first are those of a site
pub accepted_is_site : PartsAreRead → (limit : ℕ) (bytes : List ℕ) → IsBytes bytes → IsTrue (accepted_next limit [] bytes) → IsSiteEncoding bytes
accepted_is_site laws limit bytes fits accepted = site_of laws bytes (whole_site bytes) fits refl accepted
