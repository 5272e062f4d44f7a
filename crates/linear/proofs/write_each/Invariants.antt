-- `linear::write_each` meets its contract. The invariant: the bytes written, and those of the lights left, give all bytes.
use Prim.Native.Nat.{◌*◌}
use mathlib.Core.Path.{◌≡◌}
use lib.ListN.{length}
use Rattle.esrgb.specs.Depths.{bits}
use Rattle.linear.specs.Operations.{light_to_codes}
use Rattle.numbers.proofs.Writing.{Written}
use Rattle.linear.proofs.write_each.Given as goal

abbrev pub invariant-loop-k : goal.invariant-loop-k
invariant-loop-k l =
    (length l.dst ≡ length l.initial.dst) × Written (light_to_codes (bits l.search.depth)) l.src l.dst (2 * l.k) l.k
