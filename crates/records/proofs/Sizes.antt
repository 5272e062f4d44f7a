-- How large the numbers are that a record's width, height and stride lead to, and the sizes of the layouts.
-- Assumes nothing.
use Prim.Native.Nat.{ℕ, ◌+◌, ◌-◌, ◌*◌, ◌^◌, ◌≤◌, ◌<◌}
use native.Mathlib.Nat.{mul-le-mul}
use native.Mathlib.Omega.{arith}
use mathlib.Core.Path.{◌≡◌}
use mathlib.Core.Bool.{Bool, true, false}
use Rattle.samples.specs.Samples.{is_wide, pixel_size}
use Rattle.records.specs.declared.FrameRecord.{FrameRecord}
use Rattle.records.specs.declared.StridedRecord.{StridedRecord}
use Rattle.records.specs.declared.Layout.{Layout}
use Rattle.records.specs.declared.Layout.TheVariants.{Plain, Strided}
use Rattle.records.specs.Layout.{header_size, record_size}
use Rattle.records.specs.Pixels.{row_bytes, pixel_bytes, span_bytes}

-- The greatest width and height that two bytes hold, the greatest stride that four hold, and the most bytes of a row, of all
-- rows, and of rows with gaps.
abbrev greatest_side : ℕ
greatest_side = 65535

abbrev greatest_stride : ℕ
greatest_stride = 4294967295

abbrev pub most_row_bytes : ℕ
most_row_bytes = greatest_side * pixel_size true

abbrev pub most_pixel_bytes : ℕ
most_pixel_bytes = greatest_side * most_row_bytes

abbrev pub most_span_bytes : ℕ
most_span_bytes = greatest_side * greatest_stride + most_row_bytes

pixel_small : (wide : Bool) → pixel_size wide ≤ pixel_size true
pixel_small true = omega arith
pixel_small false = omega arith

side_small : {side : ℕ} → side < 2 ^ 16 → side ≤ greatest_side
side_small h = omega arith

stride_small : {stride : ℕ} → stride < 2 ^ 32 → stride ≤ greatest_stride
stride_small h = omega arith

pub row_small : (r : FrameRecord) → r.width < 2 ^ 16 → row_bytes r ≤ most_row_bytes
row_small r p = mul-le-mul (side_small p) (pixel_small (is_wide r.bits))

pub pixels_small : (r : FrameRecord) → r.width < 2 ^ 16 → r.height < 2 ^ 16 → pixel_bytes r ≤ most_pixel_bytes
pixels_small r p q = mul-le-mul (side_small q) (row_small r p)

-- So many rows on.
pub rows_small : {n stride : ℕ} → n < 2 ^ 16 → stride < 2 ^ 32 → n * stride ≤ greatest_side * greatest_stride
rows_small p q = mul-le-mul (side_small p) (stride_small q)

pub span_small : (s : StridedRecord) → s.frame.width < 2 ^ 16 → s.frame.height < 2 ^ 16 → s.stride < 2 ^ 32 → span_bytes s ≤ most_span_bytes
span_small s p q t =
    let rows : s.frame.height - 1 < 2 ^ 16 = omega arith in
    let gone = rows_small rows t in
    let row = row_small s.frame p in
    omega (arith, gone, row)

-- The sizes of either layout.
pub header_sizes : (l : Layout) → (header_size Plain ≤ header_size l) × (header_size l ≤ header_size Strided)
header_sizes Plain = (omega arith, omega arith)
header_sizes Strided = (omega arith, omega arith)

pub record_sizes : (l : Layout) → (record_size Plain ≤ record_size l) × (record_size l ≤ record_size Strided)
record_sizes Plain = (omega arith, omega arith)
record_sizes Strided = (omega arith, omega arith)

-- The bytes of so many records.
pub table_small : (l : Layout) {size count most : ℕ} → size ≡ record_size l → count ≤ most → size * count ≤ record_size Strided * most
table_small l e few = rw e (mul-le-mul (record_sizes l).1 few)
