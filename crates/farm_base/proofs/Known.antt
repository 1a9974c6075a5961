-- What is known of an object where a call changed nothing, and after two calls.
use Rattle.std.proofs.Common.{List, [], ℕ, Option, Some, None, refl, sym, ◌∙◌, append-nil}
use Rattle.farm_base.specs.Known.{Adds, Stays, Stream, Takes}

-- what is known is what is known
pub stays_same : {A : Type 0} (known : Option A) → Stays known known
stays_same None = tt
stays_same (Some value) = refl

-- nothing changed in two calls
pub stays_then : {A : Type 0} (first middle last : Option A) → Stays first middle → Stays middle last → Stays first last
stays_then first middle None stays then = tt
stays_then first None (Some value) stays then = cc
stays_then first (Some other) (Some value) stays then = stays ∙ then

-- nothing is taken of a stream that stays
pub takes_none : (stream : Option Stream) → Takes stream stream []
takes_none None = tt
takes_none (Some stream) = record { taken = sym (append-nil stream.taken); left = refl }

-- nothing is added to what stays
pub adds_none : (known : Option (List ℕ)) → Adds known known []
adds_none None = tt
adds_none (Some bytes) = sym (append-nil bytes)
