-- A number that k bytes can hold is read back from its low k bytes, and k bytes hold no greater one. Two bytes are those of their number.
-- Assumes nothing.
use Prim.Native.Nat.{ℕ, zero, suc, ◌+◌, ◌*◌, ◌/◌, ◌%◌, ◌^◌, ◌<◌}
use mathlib.Core.Path.{◌≡◌}
use mathlib.Core.List.{List, [], ◌∷◌}
use lib.ListN.{take}
use native.Mathlib.Omega.{arith}
use native.Mathlib.Nat.{pow-suc, div-lt_iff_lt-mul}
use Rattle.numbers.specs.Bytes.{little_endian, low_bytes, AllBytes}

pub held : (k v : ℕ) → v < 256 ^ k → little_endian (low_bytes k v) ≡ v
held zero v h = omega arith
held (suc k) v h =
    let above : v / 256 < 256 ^ k = (div-lt_iff_lt-mul {k = 256} (omega arith)).1 (rw pow-suc at h) in
    omega (arith, held k (v / 256) above)

pub number_below : (k : ℕ) (bytes : List ℕ) → AllBytes bytes → little_endian (take k bytes) < 256 ^ k
number_below zero bytes all = omega arith
number_below (suc k) [] all = rw pow-suc (omega (arith, number_below k [] all))
number_below (suc k) (b ∷ bytes) all =
    let low = all 0 in
    let rest = number_below k bytes (λ i. all (suc i)) in
    rw pow-suc (omega (arith, low, rest))

pub two_held : (low high : ℕ) → low < 256 → high < 256 → low_bytes 2 (little_endian (low ∷ high ∷ [])) ≡ low ∷ high ∷ []
two_held low high l h =
    let v = low + 256 * (high + 256 * 0) in
    let first : v % 256 ≡ low = omega arith in
    let rest : v / 256 ≡ high = omega arith in
    let second : high % 256 ≡ high = omega arith in
    rw (first, rest, second)
