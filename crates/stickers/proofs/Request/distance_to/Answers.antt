-- `stickers::Request::distance_to` meets its contract: each difference is that of the pixel's code and the tint's.
use Rattle.std.proofs.Common.{◌≡◌, ap, ◌∙◌}
use Rattle.stickers.specs.Distances.{tint, apart, away}
use Rattle.stickers.proofs.Nearest.{three_is}
use Rattle.stickers.proofs.Request.distance_to.Goals as goal

pub returns : goal.returns
unfolding away
returns c =
    let p = c.args.colour.pixel in
    let q = tint c.args.self.tints.now c.args.t in
    let is : c.tint_at-tint.result ≡ q = c.tint_at-tint.ensures in
    three_is _ _ _ (apart p.first q.first) (apart p.second q.second) (apart p.third q.third)
    (c.abs_diff.ensures ∙ ap (λ x. apart p.first x.first) is)
    (c.abs_diff-2.ensures ∙ ap (λ x. apart p.second x.second) is)
    (c.abs_diff-3.ensures ∙ ap (λ x. apart p.third x.third) is)
