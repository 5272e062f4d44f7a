-- Pictures, their pixels and channels (rules, section 5).
-- Assumes nothing.
use Rattle.std.specs.Prelude.{ℕ, ◌%◌, ◌^◌, ◌<◌, ◌≡◌, List, length, get_or}
use Rattle.samples.specs.declared.Pixel.{Pixel}
use Rattle.samples.specs.Samples.{pixel_size, no_pixel, read}
use Rattle.picture.specs.Forms.{Form, bits_of, wide_form, pixels_in}

-- A channel: the first, second or third sample of a pixel.
pub data Channel : Type 0 where
  first second third : Channel

abbrev pub channel : Channel → Pixel → ℕ
channel first p = p.first
channel second p = p.second
channel third p = p.third

-- The j-th pixel of a buffer.
abbrev pub pixel_at : Form → List ℕ → ℕ → Pixel
pixel_at form bytes j = get_or (read (wide_form form) bytes) j no_pixel

-- Whole pixels, perhaps none, with each sample in the range of the form's bits; of sRGB every byte is. Luma and chroma are held to
-- their depth in the same way.
pub record Picture (form : Form) (bytes : List ℕ) : Type 0 where
  pub whole : length bytes % pixel_size (wide_form form) ≡ 0
  pub codes : (j : ℕ) → j < pixels_in form bytes → (k : Channel) → channel k (pixel_at form bytes j) < 2 ^ bits_of form
