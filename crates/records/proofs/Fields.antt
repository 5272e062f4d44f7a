-- Laws on numbers in bytes: what is read byte by byte, and what is written number by number.
-- Assumes nothing.
use Prim.Native.Nat.{ℕ, zero, suc, ◌+◌, ◌≤◌, ◌<◌}
use native.Mathlib.Nat.{add-zero}
use native.Mathlib.Numerals.{add-one}
use native.Mathlib.Omega.{arith}
use mathlib.Core.Path.{◌≡◌, sym, ap, ◌∙◌}
use mathlib.Core.List.{List, [], ◌∷◌, ◌++◌}
use lib.ListN.{length, get_or, take, drop}
use lib.Seq.{drop-cons, drop-drop}
use Rattle.numbers.specs.Bytes.{little_endian}
use Rattle.records.specs.declared.FrameRecord.{FrameRecord}
use Rattle.records.specs.declared.Layout.{Layout}
use Rattle.records.specs.declared.Layout.TheVariants.{Plain, Strided}
use Rattle.records.specs.Layout.{header_in, record_in}
use Rattle.records.specs.HowStored.{frame_in, stride_in}

-- The k elements from place i on, one by one.
abbrev pub spelled : ℕ → ℕ → List ℕ → List ℕ
spelled i zero xs = []
spelled i (suc k) xs = get_or xs i 0 ∷ spelled (i + 1) k xs

spell : (k i : ℕ) (xs : List ℕ) → i + k ≤ length xs → drop i xs ≡ spelled i k xs ++ drop (i + k) xs
spell zero i xs h = rw add-zero
spell (suc k) i xs h =
    let here : i < length xs = omega arith in
    let next : (i + 1) + k ≤ length xs = omega arith in
    let same : (i + 1) + k ≡ i + suc k = omega arith in
    drop-cons xs i 0 here
    ∙ ap (λ (l : List ℕ). get_or xs i 0 ∷ l) (ap (λ (n : ℕ). drop n xs) (sym (add-one i)) ∙ spell k (i + 1) xs next ∙ ap (λ (n : ℕ). spelled (i + 1) k xs ++ drop n xs) same)

-- The number at a place, of one, two and four bytes.
abbrev pub number_at : ℕ → List ℕ → ℕ → ℕ
number_at width xs i = little_endian (take width (drop i xs))

module _ (xs : List ℕ) (i : ℕ) where
  pub two_read : i + 2 ≤ length xs → little_endian (get_or xs i 0 ∷ get_or xs (i + 1) 0 ∷ []) ≡ number_at 2 xs i
  two_read h = sym (ap (λ (l : List ℕ). little_endian (take 2 l)) (spell 2 i xs h))

  pub four-read : i + 4 ≤ length xs
      → little_endian (get_or xs i 0 ∷ get_or xs (i + 1) 0 ∷ get_or xs (i + 2) 0 ∷ get_or xs (i + 3) 0 ∷ []) ≡ number_at 4 xs i
  four-read h =
      let third : i + 2 ≡ i + 1 + 1 = omega arith in
      let fourth : i + 3 ≡ i + 1 + 1 + 1 = omega arith in
      rw (third, fourth) (sym (ap (λ (l : List ℕ). little_endian (take 4 l)) (spell 4 i xs h)))

-- The header and the record that numbers read at their places are.
pub header_read : (l : Layout) (xs : List ℕ) {count shop table length size : ℕ}
    → count ≡ (header_in l xs).count → shop ≡ number_at 2 xs 2 → table ≡ number_at 4 xs 4 → length ≡ number_at 4 xs 8 → size ≡ (header_in l xs).size
    → record { count = count; shop = shop; table = table; length = length; size = size } ≡ header_in l xs
unfolding header_in
header_read Plain xs p q r s t = simp (p, q, r, s, t, drop-drop)
header_read Strided xs p q r s t = simp (p, q, r, s, t, drop-drop)

pub record_read : (l : Layout) (xs : List ℕ) {r : FrameRecord} {stride : ℕ} → r ≡ frame_in xs → stride ≡ stride_in l xs r
    → record { frame = r; stride = stride } ≡ record_in l xs
unfolding frame_in record_in
record_read Plain xs p q = rw (q, p)
record_read Strided xs p q = rw (q, p)
