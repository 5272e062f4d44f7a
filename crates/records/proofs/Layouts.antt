-- Which layout a file has, and what the layouts share: room for their parts, and first bytes that are the same.
-- Assumes nothing.
use Prim.Native.Nat.{ℕ, ◌≤◌, ◌<◌}
use mathlib.Core.Path.{◌≡◌, refl}
use mathlib.Core.List.{List}
use lib.ListN.{length, take}
use borrow.Author.Tests.{le-leb, lt-leb, eq-eqb, ne_eqb}
use Rattle.numbers.specs.Bytes.{little_endian}
use Rattle.records.specs.declared.Header.{Header}
use Rattle.records.specs.declared.StridedRecord.{StridedRecord}
use Rattle.records.specs.declared.Layout.{Layout}
use Rattle.records.specs.declared.Layout.TheVariants.{Plain, Strided}
use Rattle.records.specs.Layout.{layout_of, strided_mark, header_size, record_size, header_bytes, record_bytes}
use Rattle.records.specs.HowStored.{long_header}

module _ (file : List ℕ) where
  pub too_short : length file < 2 → Plain ≡ layout_of file
  unfolding layout_of
  too_short h = simp (lt-leb _ _ h)

  module _ (long : 2 ≤ length file) where
    pub marked : little_endian (take 2 file) ≡ strided_mark → Strided ≡ layout_of file
    unfolding layout_of
    marked e = simp (le-leb _ _ long, eq-eqb _ _ e)

    pub unmarked : (little_endian (take 2 file) ≡ strided_mark → ⊥) → Plain ≡ layout_of file
    unfolding layout_of
    unmarked e = simp (le-leb _ _ long, ne_eqb _ _ e)

-- The plain header and the plain record are the first bytes of the strided ones.
pub header_prefix : (l : Layout) (h : Header) → take (header_size l) (long_header l h) ≡ header_bytes l h
header_prefix Plain h = refl
header_prefix Strided h = refl

pub record_prefix : (l : Layout) (s : StridedRecord) → take (record_size l) (record_bytes Strided s) ≡ record_bytes l s
record_prefix Plain s = refl
record_prefix Strided s = refl
