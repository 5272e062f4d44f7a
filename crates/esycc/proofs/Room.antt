-- A product fits where its factors do.
-- Assumes nothing.
use Prim.Native.Nat.{ℕ, ◌*◌, ◌≤◌}
use native.Mathlib.Nat.{mul-le-mul}

pub product_fits : (a x most far : ℕ) → a ≤ most → x ≤ far → a * x ≤ most * far
product_fits a x most far h k = mul-le-mul h k
