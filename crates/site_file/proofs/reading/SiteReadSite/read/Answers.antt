-- Answers to the open goals of `read`.
use Rattle.site_file.proofs.Meaning.{read_means, read_misses, where_known}
use Rattle.site_file.proofs.reading.SiteReadSite.read.Goals as goal

pub returns-clause-meaning : goal.returns-clause-meaning
returns-clause-meaning g c =
    where_known (g.F.Folder.files c.of_folder.new.folder) _ (λ files known. read_means files c.of_folder.result (c.of_folder.ensures.site files known))

pub returns-clause-missing_only : goal.returns-clause-missing_only
returns-clause-missing_only g c = λ none.
    where_known (g.F.Folder.files c.of_folder.new.folder) _ (λ files known is. c.of_folder.ensures.missing_only none is files known)

pub returns-clause-missing : goal.returns-clause-missing
returns-clause-missing g c =
    where_known (g.F.Folder.files c.of_folder.new.folder) _ (λ files known. read_misses files c.of_folder.result (c.of_folder.ensures.site files known))

pub returns-clause-site : goal.returns-clause-site
returns-clause-site g c = where_known (g.F.Folder.files c.of_folder.new.folder) _ (λ files known. c.of_folder.ensures.site files known)
