-- Answers to the open goals of `of_folder`.
use Rattle.std.proofs.Common.{◌≡◌, Ok}
use Rattle.toml.specs.View.{view}
use Rattle.site_keys.specs.Keys.{keys_of}
use Rattle.site_keys.proofs.Kept.{known_before}
use Rattle.site_file.specs.Files.{site_of_files, top_of_files}
use Rattle.site_file.proofs.reading.of_folder.Goals as goal

pub returns-clause-site : goal.returns-clause-site
unfolding site_of_files
returns-clause-site g c = λ files known.
    let top : top_of_files files ≡ Ok (keys_of 0 (view c.in_ok-top.top)) =
    c.in_ok-top.ensures.top files (known_before (g.F.Folder.files c.top_of.new.folder) (g.F.Folder.files c.of_keys.new.folder) files c.of_keys.ensures.files known) in
    rw top (c.of_keys.ensures.site files known)
