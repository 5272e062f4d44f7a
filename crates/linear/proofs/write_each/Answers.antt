-- `linear::write_each` meets its contract: a turn writes the two bytes of one more code.
use Prim.Native.Nat.{suc, ◌+◌, ◌*◌}
use mathlib.Core.List.{[], ◌∷◌, ◌++◌}
use mathlib.Core.Path.{◌≡◌, ap}
use native.Mathlib.Omega.{arith}
use lib.IntN.{pos}
use lib.ListN.{get_or, drop, length-set}
use Rattle.std.proofs.Common.{rules}
use Rattle.numbers.specs.Bytes.{low_bytes}
use Rattle.numbers.proofs.Writing.{written_more, take_two}
use Rattle.esrgb.specs.Depths.{bits}
use Rattle.transfer.specs.Level.{code_of_light}
use Rattle.linear.specs.Operations.{light_to_codes}
use Rattle.linear.proofs.write_each.Goals as goal

pub loop-k-preserved : goal.loop-k-preserved
loop-k-preserved c =
    let a = c.args in
    let k = c.loop-k.k in
    let n = bits a.search.depth in
    let light = get_or a.src.now k (pos 0) in
    let written = get_or c.two_bytes-bytes.result 0 0 ∷ get_or c.two_bytes-bytes.result 1 0 ∷ [] in
    let code : c.code_of.result ≡ code_of_light n light = search rules in
    let bytes : low_bytes 2 (code_of_light n light) ≡ written = rw (c.two_bytes-bytes.ensures, code) in (
      simp length-set c.loop-k.invariant.0,
      written_more (light_to_codes n) a.src.now (pos 0) k (2 * k) (2 * (k + 1)) c.loop-k.dst _ written (omega arith)
          (take_two c.loop-k.dst k _ _ (omega arith))
          (ap (λ x. x ++ light_to_codes n (drop (suc k) a.src.now)) bytes)
          c.loop-k.invariant.1,
    )
