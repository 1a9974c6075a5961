-- Answers to the open goals of `a_transfer_posts`.
use Rattle.std.proofs.Common.{refl}
use Rattle.test_runs.proofs.postings.a_transfer_posts.Goals as goal

pub returns : goal.returns
returns c = record {
  posted = λ first second out into left left_kg arrived arrived_kg. rw (out, into, left, left_kg, arrived, arrived_kg) refl;
}
