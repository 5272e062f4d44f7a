-- `stickers::Request::tint_luma` meets its contract: the first sample that a pixel becomes is its luma.
use Rattle.std.proofs.Common.{◌≡◌, ap, ◌∙◌}
use Rattle.lumachroma.specs.LumaChroma.{luma, to_luma_chroma}
use Rattle.stickers.specs.Distances.{tint, tint_luma}
use Rattle.stickers.proofs.Request.tint_luma.Goals as goal

pub returns : goal.returns
unfolding tint_luma
returns c =
    let a = c.args in
    let is : c.tint_at.result ≡ tint a.self.tints.now a.t = c.tint_at.ensures in
    let converted : c.to_luma_chroma-converted.result ≡ to_luma_chroma 12 c.tint_at.result = c.to_luma_chroma-converted.ensures in
    ap (λ x. x.first) converted ∙ ap (λ x. luma x.first x.second x.third) is
