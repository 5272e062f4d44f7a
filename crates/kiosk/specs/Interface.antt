-- What C gets of what an operation says: a count or minus the refusal's number, the place, and a record as the bytes that it
-- has in a spool file.
-- Assumes nothing.
use Rattle.std.specs.Prelude.{ℕ, ◌^◌, ◌<◌, ◌≡◌, List, [], ◌∷◌, length, get_or, ℤ, pos, neg_ℤ}
use Rattle.refusal.specs.Answers.{Said, accepted, refused, refused_at, leaves}
use Rattle.samples.specs.declared.Pixel.{Pixel}
use Rattle.samples.specs.Samples.{samples_in}
use Rattle.records.specs.declared.Layout.{Layout}
use Rattle.records.specs.declared.StridedRecord.{StridedRecord}
use Rattle.records.specs.Layout.{record_bytes}
use Rattle.records.specs.Pixels.{span_bytes}
use Rattle.picture.specs.declared.Conversion.{Conversion}
use Rattle.picture.specs.declared.Conversion.TheVariants.{ToSrgb}
use Rattle.picture.specs.Convert.{convert_says, converted, clipped_in}
use Rattle.tint.specs.declared.Tint.{Tint}
use Rattle.tint.specs.Tints.{TintSaid, gives, refuses_at, refuses, tint_pixel, tint_says}
use Rattle.stickers.specs.declared.Choice.{Choice}
use Rattle.spool.specs.Open.{OpenSaid, opens, refuses_file}
use Rattle.spool.specs.Find.{FindSaid, finds, refuses_frame}
use Rattle.spool.specs.Rows.{row_extent}

abbrev pub minus : ℕ → ℤ
minus number = neg_ℤ (pos number)

abbrev pub answer_of : Said → ℤ
answer_of (accepted n) = pos n
answer_of (refused k) = minus k
answer_of (refused_at k at) = minus k

-- The place that C's variable holds afterwards: if the answer has none, what it held before.
abbrev pub place_of : Said → ℕ → ℕ
place_of (accepted n) before = before
place_of (refused k) before = before
place_of (refused_at k at) before = at

-- C's answer r to an operation that says this and would write `new`, with the destination and the place as the call finds them
-- and, marked ', as it leaves them.
pub record Gives {A : Type 0} (says : Said) (new : List A) (r : ℤ) (dst dst' : List A) (place place' : ℕ) : Type 0 where
  pub answer : r ≡ answer_of says
  pub content : dst' ≡ leaves says new dst
  pub at : place' ≡ place_of says place

-- The same of a conversion.
abbrev pub Converts : Conversion → List ℕ → ℤ → List ℕ → List ℕ → ℕ → ℕ → Type 0
Converts c src r dst dst' place place' = Gives (convert_says c src (length dst)) (converted c src) r dst dst' place place'

-- The same of call k of several, whose answers and places are in arrays.
abbrev pub ConvertsAt : ℕ → Conversion → List ℕ → List ℕ → List ℕ → List ℤ → List ℕ → List ℕ → Type 0
ConvertsAt k c src dst dst' answers places places' = Converts c src (get_or answers k (pos 0)) dst dst' (get_or places k 0) (get_or places' k 0)

-- The clipped pixels that C's variable holds after e-sRGB to sRGB: if the call is refused, what it held before.
abbrev pub clips_after : ℕ → List ℕ → ℕ → ℕ → ℕ
clips_after n src room before = leaves (convert_says (ToSrgb n) src room) (clipped_in (ToSrgb n) src) before

-- A count that a signed number of 64 bits holds.
abbrev pub Countable : Said → Type 0
Countable (accepted n) = n < 2 ^ 63
Countable (refused k) = Unit
Countable (refused_at k at) = Unit

-- Rules, section 11: a tint answers as a conversion of one pixel does. The place is that of the channel, and the pixel three numbers.
abbrev pub answer_of_one : TintSaid → Said
answer_of_one (gives p) = accepted 1
answer_of_one (refuses_at k channel) = refused_at k channel
answer_of_one (refuses k) = refused k

abbrev pub samples_of_one : Pixel → List ℕ
samples_of_one p = samples_in (p ∷ [])

abbrev pub Tints : Tint → ℤ → List ℕ → List ℕ → ℕ → ℕ → Type 0
Tints t r dst dst' place place' = Gives (answer_of_one (tint_says t)) (samples_of_one (tint_pixel t)) r dst dst' place place'

-- Rule 13.7: the numbers of the four tints chosen, and the sums with them and with all tints.
abbrev pub four_of : Choice → List ℕ
four_of c = c.four.first ∷ c.four.second ∷ c.four.third ∷ c.four.fourth ∷ []

abbrev pub sums_of : Choice → List ℕ
sums_of c = c.sum ∷ c.least ∷ []

-- Rule 7.5: the frame count is returned, shop and offset of the table are written. Refused, both keep what they held.
abbrev pub open_answer : OpenSaid → ℤ
open_answer (opens count shop table) = pos count
open_answer (refuses_file k) = minus k

abbrev pub open_shop : OpenSaid → ℕ → ℕ
open_shop (opens count shop table) before = shop
open_shop (refuses_file k) before = before

abbrev pub open_table : OpenSaid → ℕ → ℕ
open_table (opens count shop table) before = table
open_table (refuses_file k) before = before

-- Rule 7.6: the length of the frame's pixels is returned, which start at the record's offset, and the record is written, as the bytes that
-- it has in one of the layouts. Refused, it is the record of zeros.
abbrev pub find_answer : FindSaid → ℤ
find_answer (finds s) = pos (span_bytes s)
find_answer (refuses_frame k s) = minus k

abbrev pub record_of : FindSaid → StridedRecord
record_of (finds s) = s
record_of (refuses_frame k s) = s

abbrev pub find_record : Layout → FindSaid → List ℕ
find_record l found = record_bytes l (record_of found)

-- Rule 7.9: the length of a row is returned, and where it starts is written. Refused, that keeps what it held.
abbrev pub row_answer : FindSaid → ℕ → ℤ
row_answer (finds s) j = pos (row_extent s j).length
row_answer (refuses_frame k s) j = minus k

abbrev pub row_start : FindSaid → ℕ → ℕ → ℕ
row_start (finds s) j before = (row_extent s j).start
row_start (refuses_frame k s) j before = before
