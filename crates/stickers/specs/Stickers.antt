-- What the operation on buffers answers and writes (rules 13.7 and 13.8).
-- Assumes nothing.
use Rattle.std.specs.Prelude.{Option, None, Some, Result, Ok, Err, ℕ, zero, suc, ◌+◌, ◌/◌, true, false, cond, List, map, eqb, ltb, length, get_or}
use Rattle.refusal.specs.declared.Fault.{Fault}
use Rattle.refusal.specs.Refusals.{number_of}
use Rattle.refusal.specs.Answers.{Verdict, sound, faulty, or_else, Said, accepted, refused, refused_at, decides, refuses_or, and_then}
use Rattle.samples.specs.declared.Coding.TheVariants.{Codes}
use Rattle.samples.specs.declared.Pixel.{Pixel}
use Rattle.samples.specs.Samples.{pixel_size, two_by_two, read}
use Rattle.samples.specs.Faults.{fault, length_fault, room_fault, samples_say}
use Rattle.esrgb.specs.Depths.{greatest}
use Rattle.stickers.specs.declared.Choice.{Choice}
use Rattle.stickers.specs.Choices.{tint_codes, allowed, tint_of, chosen, choice_of}

-- Rule 13.8, the picture: 10, 16, 11 for a destination that is not one byte to a pixel, and 12. Its pixels are counted.
abbrev pub picture_says : List ℕ → ℕ → Said
picture_says src room =
    refuses_or (or_else (length_fault true (length src)) (room_fault (length src / pixel_size true) room))
    (samples_say (Codes (greatest 12) false) (accepted (length src / pixel_size true)) 0 (two_by_two src))

-- Rule 13.8, the tints: of the codes from number k on, as many as are left, the first at fault, as a sample would be; or `done`. Places
-- go on from the picture's length, one to a code.
unfoldable pub codes_say : Said → ℕ → List ℕ → ℕ → ℕ → Said
codes_say done len tints k zero = done
codes_say done len tints k (suc left) =
    decides (fault (Codes (greatest 12) false) k (get_or tints k 0)) (len + k) (codes_say done len tints (k + 1) left)

abbrev pub tints_say : Said → ℕ → List ℕ → Said
tints_say done len tints = codes_say done len tints 0 tint_codes

-- Rule 13.8: no budget, and more pixels than the sticker printer takes.
abbrev pub most_pixels : ℕ
most_pixels = 65536

abbrev pub work_fault : ℕ → ℕ → Verdict
work_fault budget pixels = cond (eqb budget 0) (faulty 18) (cond (ltb most_pixels pixels) (faulty 19) sound)

-- Rule 13.8, of a picture of `len` bytes: the tints, then the budget and the number of pixels. Accepted, the number is how many choices
-- are looked at.
abbrev pub work_says : ℕ → List ℕ → ℕ → ℕ → Said
work_says len tints budget pixels = tints_say (refuses_or (work_fault budget pixels) (accepted (allowed budget))) len tints

-- Rule 13.8, all of it, in order.
unfoldable pub request_says : List ℕ → List ℕ → ℕ → ℕ → Said
request_says src tints budget room = and_then (picture_says src room) (work_says (length src) tints budget (length src / pixel_size true))

-- Rule 13.7: what is answered: the choice, or why it is refused.
pub data ChoiceSaid : Type 0 where
  chooses : Choice → ChoiceSaid
  refuses : ℕ → ChoiceSaid
  refuses_at : ℕ → ℕ → ChoiceSaid

-- What a fault says of a choice: the number and, where it has one, the place.
abbrev pub refuses_by : ℕ → Option ℕ → ChoiceSaid
refuses_by number None = refuses number
refuses_by number (Some at) = refuses_at number at

abbrev pub chosen_said : Result Choice Fault → ChoiceSaid
chosen_said (Ok choice) = chooses choice
chosen_said (Err fault) = refuses_by (number_of fault.refusal) fault.place

abbrev pub chooses_if : Said → Choice → ChoiceSaid
chooses_if (accepted n) choice = chooses choice
chooses_if (refused k) choice = refuses k
chooses_if (refused_at k at) choice = refuses_at k at

-- The picture.
abbrev pub picture_of : List ℕ → List Pixel
picture_of src = read true src

unfoldable pub stickers_says : List ℕ → List ℕ → ℕ → ℕ → ChoiceSaid
stickers_says src tints budget room = chooses_if (request_says src tints budget room) (choice_of tints (picture_of src) budget)

-- Rule 13.7: what is written if it is accepted: the number of each pixel's tint.
unfoldable pub stickers : List ℕ → List ℕ → ℕ → List ℕ
stickers src tints budget = map (tint_of tints (chosen tints (picture_of src) budget)) (picture_of src)
