-- Answers to the open goals of `opening_of`.
use Rattle.std.proofs.Common.{◌++◌, [], ◌∷◌, ap, ◌∙◌}
use Rattle.farm_journal.specs.Layout.{counted, opening, signature}
use Rattle.farm_journal.proofs.creating.opening_of.Goals as goal

pub returns : goal.returns
unfolding opening counted signature
returns c =
    let named = c.in_ok-extend_from_slice.ensures.items ∙ ap (λ bytes. bytes ++ signature) c.new-bytes.ensures.items in
    let sized = c.in_ok-extend_from_slice-2.ensures.items ∙ ap (λ bytes. bytes ++ c.to_be_bytes.result) named ∙ ap (λ size. signature ++ size) c.to_be_bytes.ensures in
    let whole = c.in_ok-extend_from_slice-3.ensures.items ∙ ap (λ bytes. bytes ++ c.args.header.now) sized in
    c.in_ok-push.ensures.items ∙ ap (λ bytes. bytes ++ 0 ∷ []) whole
