-- `esycc::from_esycc` meets its contract: the rows of the depth give the definition.
use native.Mathlib.Omega.{arith}
use Rattle.esrgb.specs.Depths.{bits}
use Rattle.esycc.specs.Esycc.{of_esycc}
use Rattle.esycc.proofs.Pixels.{Samples, esycc-within, back_sums_are, is-channels}
use Rattle.esycc.proofs.from_esycc.Goals as goal

pub returns : goal.returns
returns c =
    let a = c.args in
    let fits : Samples a.p = omega arith in
    let d = c.decode-sums.ensures in
    let sums = back_sums_are (of_esycc (bits a.depth) a.p) _ _ _ d.first d.second d.third c.esycc_rows.ensures (omega arith) (omega arith) (omega arith) in
    rw (c.codes_back.ensures, sums) (is-channels (esycc-within a.depth a.p fits))
