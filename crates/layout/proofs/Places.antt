-- Where records stand in either layout.
-- Assumes nothing.
use Prim.Native.Nat.{ℕ, ◌+◌, ◌≤◌}
use native.Mathlib.Omega.{arith}
use mathlib.Core.Path.{◌≡◌}
use Rattle.records.specs.declared.Layout.{Layout}
use Rattle.records.specs.declared.Layout.TheVariants.{Plain, Strided}
use Rattle.records.specs.Layout.{header_size, record_size}
use Rattle.layout.specs.LayOut.{record_place}

pub next_place : (l : Layout) (i : ℕ) → record_place l i + record_size l ≡ record_place l (i + 1)
next_place Plain i = omega arith
next_place Strided i = omega arith

pub later-place : (l : Layout) {i j : ℕ} → i ≤ j → record_place l i ≤ record_place l j
later-place Plain h = omega arith
later-place Strided h = omega arith

-- The first record stands behind the header.
pub first-place : (l : Layout) (i : ℕ) → header_size l ≤ record_place l i
first-place Plain i = omega arith
first-place Strided i = omega arith
