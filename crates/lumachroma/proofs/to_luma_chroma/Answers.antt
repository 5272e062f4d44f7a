-- `lumachroma::to_luma_chroma` meets its contract: the differences are the definitions', but for a weight on both sides.
use mathlib.Core.Path.{◌∙◌}
use Prim.Native.Nat.{◌*◌}
use Rattle.esrgb.specs.Depths.{bits}
use Rattle.samples.specs.Samples.{pixel}
use Rattle.lumachroma.specs.LumaChroma.{chroma}
use Rattle.lumachroma.specs.HowDivided.{weighted}
use Rattle.lumachroma.proofs.Quotient.{is-blue_chroma, is-red_chroma}
use Rattle.lumachroma.proofs.to_luma_chroma.Goals as goal

pub returns : goal.returns
returns c =
    let n = bits c.args.depth in
    let p = c.args.p in
    let blue = c.blue_difference.ensures in
    let red = c.red_difference.ensures in
    λ i. pixel
    (c.luma_of.ensures i)
    ((c.stored.ensures ∙ (λ j. chroma n (1000 * blue.1 j) (weighted (blue.0 j)) 1772) ∙ is-blue_chroma n p) i)
    ((c.stored-2.ensures ∙ (λ j. chroma n (1000 * red.1 j) (weighted (red.0 j)) 1402) ∙ is-red_chroma n p) i)
