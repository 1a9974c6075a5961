-- Answers to the open goals of `constant_pages`.
use Rattle.std.proofs.Common.{None, refl}
use Rattle.std.specs.Fmt.{digits}
use Rattle.http_pages.specs.Pages.{page_text}
use Rattle.http_pages.specs.Statuses.{reason_of}
use Rattle.http_pages.proofs.constants.constant_pages.Goals as goal

pub returns : goal.returns
unfolding page_text reason_of digits
returns c = record {
  service_unavailable = rw (c.answer_laws.ensures.status 503 None) refl;
  service_unavailable_last = rw (c.answer_laws.ensures.status 503 None) refl;
  insufficient_storage = rw (c.answer_laws.ensures.status 507 None) refl;
  insufficient_storage_last = rw (c.answer_laws.ensures.status 507 None) refl;
}
