-- Answers to the open goals of `page_laws`.
use Rattle.http_pages.proofs.Heads.{heads_fit}
use Rattle.http_pages.proofs.OneContent.{one_content}
use Rattle.http_pages.proofs.Whole.{pages_are_whole}
use Rattle.http_pages.proofs.writing.page_laws.Goals as goal

pub returns : goal.returns
returns c = record { whole = pages_are_whole; one_content = one_content; heads_fit = heads_fit }
