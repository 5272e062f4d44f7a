-- `esycc::from_sycc` meets its contract: the rows of the depth give the definition.
use native.Mathlib.Omega.{arith}
use Rattle.esycc.specs.Sycc.{of_sycc}
use Rattle.esycc.proofs.Pixels.{Samples, sycc-within, back_sums_are, is-channels}
use Rattle.esycc.proofs.from_sycc.Goals as goal

pub returns : goal.returns
returns c =
    let a = c.args in
    let fits : Samples a.p = omega arith in
    let d = c.decode-sums.ensures in
    let sums = back_sums_are (of_sycc a.p) _ _ _ d.first d.second d.third c.sycc_rows.ensures (omega arith) (omega arith) (omega arith) in
    rw (c.codes_back.ensures, sums) (is-channels (sycc-within a.depth a.p fits))
