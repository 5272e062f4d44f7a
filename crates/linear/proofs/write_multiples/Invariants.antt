-- `linear::write_multiples` meets its contract. The invariant: the numbers written, and the lights of the samples left, give all lights.
use Prim.Native.Nat.{ℕ, ◌*◌}
use mathlib.Core.List.{map}
use mathlib.Core.Path.{◌≡◌}
use lib.ListN.{length}
use Rattle.samples.specs.Samples.{two_by_two}
use Rattle.transfer.specs.Light.{light_of_code}
use Rattle.numbers.proofs.Writing.{Written}
use Rattle.linear.proofs.write_multiples.Given as goal

abbrev pub invariant-loop-k : goal.invariant-loop-k
invariant-loop-k g l =
    (length l.dst ≡ length l.initial.dst) × Written (map (λ (x : ℕ). light_of_code 16 (g.row.FACTOR * x))) (two_by_two l.src) l.dst l.k l.k
