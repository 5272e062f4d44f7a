-- `esycc::to_sycc` meets its contract: the factors of the depth give the definition, but for the clip before the encoding.
use Prim.Native.Nat.{◌*◌}
use native.Mathlib.Omega.{arith}
use Rattle.esrgb.specs.Depths.{bits, step}
use Rattle.esycc.proofs.Pixels.{Samples, sums_are, is-sycc}
use Rattle.esycc.proofs.to_sycc.Goals as goal

pub returns : goal.returns
returns c =
    let a = c.args in
    let sums = sums_are a.p _ _ 128 (192000 * step (bits a.depth)) c.encode-sums.ensures c.sycc_factors.ensures (omega arith) (omega (arith, c.step_of.ensures)) in
    let samples : Samples a.p = omega arith in
    rw (c.codes.ensures, c.at_least_one.ensures, c.at_least_one-2.ensures, sums) (is-sycc a.depth a.p samples)
