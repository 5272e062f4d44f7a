-- `esycc::to_esycc` meets its contract: the factors of the depth give the definition.
use Prim.Native.Nat.{◌*◌}
use native.Mathlib.Omega.{arith}
use Rattle.esrgb.specs.Depths.{bits, middle, step}
use Rattle.esrgb.proofs.Scale.{scale}
use Rattle.esycc.proofs.Pixels.{Samples, sums_are, is-esycc}
use Rattle.esycc.proofs.to_esycc.Goals as goal

pub returns : goal.returns
returns c =
    let a = c.args in
    let s = scale a.depth in
    let step_is = c.step_of-step.ensures in
    let fits : Samples a.p = omega arith in
    let sums = sums_are a.p _ _ (middle (bits a.depth)) (192000 * step (bits a.depth)) c.encode-sums.ensures c.esycc_factors.ensures (omega (arith, step_is, s.half)) (omega (arith, step_is)) in
    rw (c.codes.ensures, c.greatest_of.ensures, sums) (is-esycc a.depth a.p fits)
