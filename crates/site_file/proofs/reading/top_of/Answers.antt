-- Answers to the open goals of `top_of`.
use Rattle.std.proofs.Common.{◌≡◌, ap, Result, Ok, Err, codes, rules}
use Rattle.toml.specs.View.{view}
use Rattle.farm_base.specs.Steps.{◌>>=◌}
use Rattle.site_keys.specs.declared.fault.SiteReadFault.TheVariants.{Folder}
use Rattle.site_keys.specs.Faults.{Faulty, IsMissing, Missing, Refusal, found, refusal_of}
use Rattle.site_keys.specs.Files.{content, toml_of}
use Rattle.site_keys.specs.Keys.{keys_of}
use Rattle.site_keys.proofs.Steps.{found_in_folder, refused_first}
use Rattle.site_file.specs.Files.{top_of_files}
use Rattle.site_file.proofs.reading.top_of.Goals as goal

pub returns-in_err-bytes-clause-top : goal.returns-in_err-bytes-clause-top
unfolding top_of_files
returns-in_err-bytes-clause-top g c = λ files known.
    let answer : c.from_residual.result ≡ Err c.in_err-bytes.field-0.0 = search rules in
    rw answer (refused_first (content files 0 (codes "site.toml")) (λ bytes. found (toml_of 0 bytes)) (refusal_of c.in_err-bytes.field-0.0)
    (c.in_err-bytes.ensures.content files known))

-- a file that is missing at the first step is missing in both
missing_first : {A B : Type 0} (first : Result A Refusal) (next : A → Result B Refusal) → IsMissing first → IsMissing (first >>= next)
missing_first (Ok value) next missing = absurd missing
missing_first (Err (Faulty fault)) next missing = absurd missing
missing_first (Err (Missing name)) next missing = tt

pub returns-in_err-bytes-clause-missing_only : goal.returns-in_err-bytes-clause-missing_only
unfolding top_of_files
returns-in_err-bytes-clause-missing_only g c = λ none is files known.
    let answer : c.from_residual.result ≡ Err c.in_err-bytes.field-0.0 = search rules in
    let why : c.in_err-bytes.field-0.0 ≡ Folder = cc in
    missing_first (content files 0 (codes "site.toml")) (λ bytes. found (toml_of 0 bytes))
    (c.in_err-bytes.ensures.missing_only none (ap Err why) files known)

pub returns-clause-top : goal.returns-clause-top
unfolding top_of_files
returns-clause-top g c = λ files known.
    let read : content files 0 (codes "site.toml") ≡ Ok c.in_ok-bytes.bytes.items = c.in_ok-bytes.ensures.content files known in
    rw (read, ← c.deref.ensures.value) (found_in_folder c.toml_of.result (λ table. keys_of 0 (view table)) (toml_of 0 c.deref.result.now) c.toml_of.ensures.table)
