-- What `byte_readers` shows of readers, handed on, and what of it has the fault of a site.
use Rattle.std.proofs.Common.{◌≡◌, ℕ, Bool, true, List}
use Rattle.byte_readers.proofs.Readers as readers
use Rattle.site_decoding.specs.declared.fault.SiteBytesFault.TheVariants.{BadSite}
use Rattle.site_decoding.specs.ByteReaders.{Reader, tested_at}
use Rattle.site_decoding.specs.Readers.{IsReader}
pub use Rattle.byte_readers.proofs.Readers.{IsBytes-drop, after_reader, bind_ok, made_reader, ok_is, passed, reader_as, then_reader}

-- a value that passes a test
pub tested_reader : {A : Type 0} {fits : A → Type 0} {text : A → List ℕ} {read : Reader A} (test : A → Bool) →
    IsReader fits text read → IsReader (λ x. fits x × (test x ≡ true)) text (tested_at test read)
tested_reader test reader = readers.tested_reader (λ _. BadSite) test reader
