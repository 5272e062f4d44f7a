-- `lumachroma::Difference::stored` meets its contract: the middle code in the bias's place gives the definition's chroma.
use mathlib.Core.Path.{◌∙◌}
use Prim.Native.Nat.{◌-◌, ◌*◌}
use Rattle.lumachroma.specs.HowDivided.{weighted}
use Rattle.lumachroma.proofs.Quotient.{stored-chroma}
use Rattle.lumachroma.proofs.Difference.stored.Goals as goal

pub returns : goal.returns
returns g c =
    let d = c.args.self in
    c.saturating_sub.ensures
    ∙ (λ i. c.biased_quotient.result - c.above_middle.ensures i)
    ∙ stored-chroma c.args.depth (1000 * d.channel) (weighted d.pixel) g.row.DEN _ c.biased_quotient.ensures
