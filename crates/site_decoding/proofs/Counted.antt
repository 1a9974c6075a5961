-- Things read one after another, as a loop does, until one is refused.
use Rattle.std.proofs.Common.{◌≡◌, ℕ, ◌-◌, ◌<◌, List}
use Rattle.farm_base.specs.Steps.{IsRefusedAs}
use Rattle.byte_readers.proofs.Counted.{Listed, ends, with_front}
use Rattle.site_decoding.specs.declared.fault.SiteBytesFault.{SiteBytesFault}
use Rattle.site_decoding.specs.declared.fault.SiteBytesFault.TheVariants.{BadSite, NoMemory}
use Rattle.site_decoding.specs.ByteReaders.{Reader, counted_at, reported}

-- a refusal ends it, whatever the fault
pub refused : {A : Type 0} (read : Reader A) (front : List A) (count i : ℕ) (bytes : List ℕ) (fault : SiteBytesFault) (total : Listed SiteBytesFault A) → i < count →
    IsRefusedAs (reported fault) (read bytes) → with_front front (counted_at read (count - i) bytes) ≡ total → IsRefusedAs (reported fault) total
refused read front count i bytes BadSite total below here so_far = ends read front count i bytes BadSite total below here so_far
refused read front count i bytes NoMemory total below here so_far = tt
