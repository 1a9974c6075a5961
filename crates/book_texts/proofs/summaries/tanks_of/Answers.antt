-- Answers to the open goals of `tanks_of`.
use Rattle.std.proofs.Common.{subst}
use Rattle.farm_book.proofs.TablesRead.{site_rising}
use Rattle.farm_history.specs.Sites.{AreRising}
use Rattle.book_texts.proofs.summaries.tanks_of.Goals as goal

pub returns-clause-rising : goal.returns-clause-rising
returns-clause-rising g c = subst AreRising c.site.ensures.site (site_rising c.site.result.now)
