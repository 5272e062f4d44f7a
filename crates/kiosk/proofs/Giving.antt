-- From what an operation says and leaves, and what C is told of its answer, to what C gets.
-- Assumes nothing.
use Prim.Native.Nat.{ℕ}
use mathlib.Core.Path.{◌≡◌, refl, sym, ap, subst, ◌∙◌}
use mathlib.Core.List.{List}
use lib.IntN.{ℤ, pos}
use lib.ListN.{length}
use mir.Syntax.{w64}
use Rattle.std.specs.Prelude.{Option, None, Some, Err}
use mir.Val.{SFits, to_z, of_z}
use mir.ValLaws.{to_z-of_z}
use Rattle.refusal.specs.declared.Fault.{Fault}
use Rattle.refusal.specs.Refusals.{number_of}
use Rattle.refusal.specs.Answers.{Said, accepted, refused, refused_at, at_place, fault_said, leaves}
use Rattle.picture.specs.declared.Conversion.TheVariants.{ToSrgb}
use Rattle.picture.specs.Convert.{convert_says, clipped_in, convert_clips}
use Rattle.linear.specs.Moved.{moved_light, moved_codes, through_says, Through}
use Rattle.samples.specs.declared.Pixel.{Pixel}
use Rattle.tint.specs.declared.Tint.{Tint}
use Rattle.tint.specs.declared.Tint.TheVariants.{Code}
use Rattle.tint.specs.Tints as tint
use Rattle.tint.specs.Tints.{TintSaid, refuses_at, tint_pixel, tint_says}
use Rattle.tint.proofs.Meaning.{pixel_given, code_given}
use Rattle.stickers.specs.declared.Choice.{Choice}
use Rattle.stickers.specs.Choices.{choice_of}
use Rattle.stickers.specs.Stickers as sticker
use Rattle.stickers.specs.Stickers.{request_says, picture_of, chosen_said, chooses, stickers_says, stickers}
use Rattle.stickers.proofs.Answers.{accepted-says, refused_says, refused_at_says, fault_says}
use Rattle.kiosk.specs.Interface.{minus, answer_of, place_of, Gives, clips_after, answer_of_one, samples_of_one, Tints, four_of, sums_of}

pub gives : {A : Type 0} (new dst : List A) (place : ℕ) {s says : Said} {r : ℤ} {dst' : List A} {place' : ℕ}
    → s ≡ says → dst' ≡ leaves says new dst → r ≡ answer_of s → place' ≡ place_of s place → Gives says new r dst dst' place place'
gives new dst place e content answer at =
    record { answer = answer ∙ ap answer_of e; content = content; at = at ∙ ap (λ (x : Said). place_of x place) e }

-- A fault leaves what was there.
left_by : {A : Type 0} (number : ℕ) (place : Option ℕ) (new old : A) → leaves (at_place number place) new old ≡ old
left_by number None new old = refl
left_by number (Some at) new old = refl

-- Of the clipped pixels, C's variable gets what Convert counts, if it accepts.
kept_once : (s : Said) (count held : ℕ) → leaves s (leaves s count 0) held ≡ leaves s count held
kept_once (accepted n) count held = refl
kept_once (refused k) count held = refl
kept_once (refused_at k at) count held = refl

pub clips : (n : ℕ) (src : List ℕ) (room held : ℕ) {s : Said} {count r : ℕ}
    → s ≡ convert_says (ToSrgb n) src room → count ≡ convert_clips (ToSrgb n) src room → r ≡ leaves s count held → r ≡ clips_after n src room held
clips n src room held {r = r} e f h = subst (λ (k : ℕ). r ≡ k) (kept_once (convert_says (ToSrgb n) src room) (clipped_in (ToSrgb n) src) held) (rw (e, f) at h)

-- An answer that is handed on, in 64 bits.
pub handed_on : {A : Type 0} {says : Said} {new dst dst' : List A} {place place' : ℕ} (r : ℤ)
    → SFits w64 r → Gives says new r dst dst' place place' → Gives says new (to_z w64 (of_z w64 r)) dst dst' place place'
handed_on r f g = record { answer = to_z-of_z w64 r f ∙ g.answer; content = g.content; at = g.at }

-- The same of codes through moved light, and the light beside it.
pub goes_through :
    {n : ℕ} {codes back back' : List ℕ} {moves light light' : List ℤ} {s : Said} (kept : Through n codes moves light light' back back' s)
    {r : ℤ} (place : ℕ) {place' : ℕ} → r ≡ answer_of s → place' ≡ place_of s place
    → Gives (through_says n codes (length moves) (length light) (length back)) (moved_codes n codes moves) r back back' place place'
    × (light' ≡ leaves (through_says n codes (length moves) (length light) (length back)) (moved_light n codes moves) light)
goes_through {n} {codes} {back} {moves = moves} {light = light} kept place answer at = (
  gives (moved_codes n codes moves) back place kept.says (kept.bytes ∙ ap (λ (a : Said). leaves a (moved_codes n codes moves) back) kept.says) answer at,
  kept.numbers ∙ ap (λ (a : Said). leaves a (moved_light n codes moves) light) kept.says,
)

-- The same of a tint.
module _ (t : Tint) (dst : List ℕ) (place : ℕ) where
  pub tints_given : (p : Pixel) → tint.gives p ≡ tint_says t → Tints t (pos 1) dst (samples_of_one p) place place
  tints_given p e =
      gives _ dst place (ap answer_of_one e)
      (ap samples_of_one (pixel_given t p e) ∙ ap (λ (s : TintSaid). leaves (answer_of_one s) (samples_of_one (tint_pixel t)) dst) e)
      refl refl

  pub tints_refused : (k channel : ℕ) {r : ℤ} → refuses_at k channel ≡ tint_says t → r ≡ minus k → Tints t r dst dst place channel
  tints_refused k channel e is =
      gives _ dst place (ap answer_of_one e) (ap (λ (s : TintSaid). leaves (answer_of_one s) (samples_of_one (tint_pixel t)) dst) e) is refl

-- Of 8-bit values the pixel is always given.
pub tints_code : (red green blue : ℕ) {r : ℤ} {dst dst' : List ℕ} {place place' : ℕ}
    → Tints (Code red green blue) r dst dst' place place' → dst' ≡ samples_of_one (tint_pixel (Code red green blue))
tints_code red green blue {dst = dst} g =
    g.content ∙ ap (λ (s : TintSaid). leaves (answer_of_one s) (samples_of_one (tint_pixel (Code red green blue))) dst) (code_given red green blue)

-- The same of stickers, with the numbers and the sums beside the destination.
module _ (src tints : List ℕ) (budget : ℕ) (dst : List ℕ) (place : ℕ) (four sums : List ℕ) where
  abbrev request : Said
  request = request_says src tints budget (length dst)

  abbrev choice : Choice
  choice = choice_of tints (picture_of src) budget

  abbrev Sticks : ℤ → List ℕ → ℕ → List ℕ → List ℕ → Type 0
  Sticks r dst' place' four' sums' =
      Gives request (stickers src tints budget) r dst dst' place place'
      × ((four' ≡ leaves request (four_of choice) four) × (sums' ≡ leaves request (sums_of choice) sums))

  sticks : {s : Said} {r : ℤ} {dst' : List ℕ} {place' : ℕ}
      → request ≡ s → dst' ≡ leaves request (stickers src tints budget) dst → r ≡ answer_of s → place' ≡ place_of s place
      → Sticks r dst' place' (leaves s (four_of choice) four) (leaves s (sums_of choice) sums)
  sticks says bytes answer at =
      (gives _ dst place (sym says) bytes answer at, (ap (λ x. leaves x (four_of choice) four) (sym says), ap (λ x. leaves x (sums_of choice) sums) (sym says)))

  pub sticks_given : (given : Choice) {r : ℤ} {dst' : List ℕ}
      → chooses given ≡ stickers_says src tints budget (length dst) → dst' ≡ leaves request (stickers src tints budget) dst → r ≡ pos given.looked
      → Sticks r dst' place (four_of given) (sums_of given)
  sticks_given given e bytes answer =
      let told = accepted-says src tints budget (length dst) given e in
      rw told.1 (sticks told.0 bytes answer refl)

  pub sticks_refused : (k : ℕ) {r : ℤ} {dst' : List ℕ}
      → sticker.refuses k ≡ stickers_says src tints budget (length dst) → dst' ≡ leaves request (stickers src tints budget) dst → r ≡ minus k
      → Sticks r dst' place four sums
  sticks_refused k e bytes answer = sticks (refused_says src tints budget (length dst) k e) bytes answer refl

  pub sticks_refused_at : (k at : ℕ) {r : ℤ} {dst' : List ℕ}
      → sticker.refuses_at k at ≡ stickers_says src tints budget (length dst) → dst' ≡ leaves request (stickers src tints budget) dst → r ≡ minus k
      → Sticks r dst' at four sums
  sticks_refused_at k at e bytes answer = sticks (refused_at_says src tints budget (length dst) k at e) bytes answer refl

  pub sticks_faulted : (f : Fault) {r : ℤ} {dst' : List ℕ} {place' : ℕ}
      → chosen_said (Err f) ≡ stickers_says src tints budget (length dst) → dst' ≡ leaves request (stickers src tints budget) dst
      → r ≡ answer_of (fault_said f) → place' ≡ place_of (fault_said f) place → Sticks r dst' place' four sums
  sticks_faulted f {r} {dst'} {place'} e bytes answer at =
      let told = sticks (fault_says src tints budget (length dst) f e) bytes answer at in
      let number = number_of f.refusal in
      subst (λ (x : List ℕ). Sticks r dst' place' x sums) (left_by number f.place (four_of choice) four)
      (subst (λ (x : List ℕ). Sticks r dst' place' (leaves (fault_said f) (four_of choice) four) x) (left_by number f.place (sums_of choice) sums) told)
