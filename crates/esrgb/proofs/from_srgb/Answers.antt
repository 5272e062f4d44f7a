-- `esrgb::from_srgb` meets its contract: the offset is 192 steps.
use mathlib.Core.Path.{◌≡◌, ap, ◌∙◌}
use Prim.Native.Nat.{◌+◌, ◌*◌}
use Rattle.esrgb.specs.Depths.{bits}
use Rattle.esrgb.specs.Codes.{from_srgb}
use Rattle.esrgb.proofs.Scale.{scale}
use Rattle.esrgb.proofs.Eight.{from_srgb_product}
use Rattle.esrgb.proofs.from_srgb.Goals as goal

code_is : (c : goal.After-step_of) →
    let a = c.args in c.step_of.result * (a.value + 192) ≡ from_srgb (bits a.depth) a.value
code_is c =
    let a = c.args in
    ap (λ step. step * (a.value + 192)) c.step_of.ensures ∙ from_srgb_product (bits a.depth) a.value (scale a.depth)

pub returns : goal.returns
returns c = code_is c
