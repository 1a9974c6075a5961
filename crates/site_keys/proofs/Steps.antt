-- Steps that may fail, one after another.
use Rattle.std.proofs.Common.{◌≡◌, ℕ, ◌+◌, List, ◌∷◌, Option, Some, None, Ok, Err, refl}
use Rattle.std.specs.Prelude.{Result, MatchResult}
use Rattle.farm_base.specs.Steps.{◌>>=◌, IsRefusedAs}
use Rattle.toml.specs.Data.{Data}
use Rattle.site_keys.specs.declared.fault.SiteFault.{SiteFault}
use Rattle.site_keys.specs.declared.fault.SiteReadFault.{SiteReadFault}
use Rattle.site_keys.specs.declared.fault.SiteReadFault.TheVariants.{NoMemory, Folder, Bad}
use Rattle.site_keys.specs.Faults.{found, refusal_of, reported}
use Rattle.site_keys.specs.Keys.{Keys, keys_of}
use Rattle.site_keys.specs.Lists.{numbered_from, placed}

-- one item was read, of those that are left
pub one_more : {A E : Type 0} (number : A → ℕ) (read : List A → Keys → Result A E) (item : ℕ) (done : List A) (value : Data)
    (values : List Data) (next : A) → read done (keys_of item value) ≡ Ok next →
    numbered_from number read item done (value ∷ values) ≡ numbered_from number read (item + 1) (placed number next done) values
one_more number read item done value values next is = rw is refl

-- what refuses the first step refuses both
pub refused_first : {A B E : Type 0} (first : Result A E) (next : A → Result B E) (fault : Option E) →
    IsRefusedAs fault first → IsRefusedAs fault (first >>= next)
refused_first first next None refused = tt
refused_first first next (Some fault) refused = rw refused refl

-- what is found in a file is found in the folder
pub found_in_folder : {A T : Type 0} (result : Result T SiteReadFault) (seen : T → A) (answer : Result A SiteFault) →
    MatchResult result (λ value. answer ≡ Ok (seen value)) (λ fault. IsRefusedAs (reported fault) answer) →
    MatchResult result (λ value. found answer ≡ Ok (seen value)) (λ fault. IsRefusedAs (refusal_of fault) (found answer))
found_in_folder (Ok value) seen answer is = rw is refl
found_in_folder (Err NoMemory) seen answer is = tt
found_in_folder (Err Folder) seen answer is = tt
found_in_folder (Err (Bad fault)) seen answer is = rw is refl
