-- What a call of codes through moved light promises, by how far it comes.
-- Assumes nothing.
use Prim.Native.Nat.{ℕ, ◌/◌, ◌≤◌}
use mathlib.Core.Path.{◌≡◌, refl, sym, ap, ◌∙◌, subst}
use mathlib.Core.Bool.{false, true}
use mathlib.Core.List.{List, zip_with}
use native.Mathlib.Omega.{arith}
use lib.IntN.{ℤ}
use lib.ListN.{length, get_or}
use Rattle.numbers.specs.Bytes.{AllBytes}
use Rattle.refusal.specs.declared.Fault.{Fault}
use Rattle.refusal.specs.Answers.{Verdict, sound, Said, accepted, refused, refused_at, refuses_or, leaves, fault_said}
use Rattle.refusal.proofs.Verdicts.{or_stands, fault_not_accepted}
use Rattle.samples.specs.declared.Coding.TheVariants.{Codes}
use Rattle.samples.specs.Samples.{two_by_two}
use Rattle.samples.proofs.Judging.{accepted-within, accepted-count}
use Rattle.samples.proofs.Order.{says_samples, source_samples}
use Rattle.esrgb.specs.Depths.{offered, greatest}
use Rattle.linear.specs.Operations.{codes_to_light_says, codes_to_light, light_to_codes_says, light_to_codes}
use Rattle.linear.specs.Moved.{moved, moved_light, moved_codes, through_fault, through_says, Through}
use Rattle.linear.proofs.Answering.{Lengths, lengths_fit}
use Rattle.linear.proofs.Moving.{same_codes}

-- A refusal leaves what was there.
refusal_leaves : {A : Type 0} (s : Said) (new old : A) → ((m : ℕ) → s ≡ accepted m → ⊥) → leaves s new old ≡ old
refusal_leaves (accepted n) new old never = absurd (never n refl)
refusal_leaves (refused k) new old never = refl
refusal_leaves (refused_at k at) new old never = refl

module _ (n : ℕ) (codes : List ℕ) (moves light : List ℤ) (back : List ℕ) where
  -- Refused, by whatever decides.
  untouched :
      (s : Said) → ((m : ℕ) → s ≡ accepted m → ⊥) → s ≡ through_says n codes (length moves) (length light) (length back)
      → (light' : List ℤ) → light' ≡ light → Through n codes moves light light' back back s
  untouched s never h light' same =
      record {
        says = h;
        numbers = same ∙ sym (refusal_leaves s (moved_light n codes moves) light never);
        bytes = sym (refusal_leaves s (moved_codes n codes moves) back never);
        steady = λ pixels e. absurd (never pixels e);
      }

  abbrev fault : Verdict
  fault = through_fault n (length codes) (length moves) (length light) (length back)

  -- By depth and lengths.
  pub refused-first :
      (s : Said) → ((m : ℕ) → s ≡ accepted m → ⊥) → s ≡ refuses_or fault (accepted (length codes / 6)) → Through n codes moves light light back back s
  refused-first s never h = untouched s never (or_stands fault (length codes / 6) (codes_to_light_says n codes (length light)) s never h) light refl

  pub ended_first : (f : Fault) → fault_said f ≡ refuses_or fault (accepted (length codes / 6)) → Through n codes moves light light back back (fault_said f)
  ended_first f h = refused-first (fault_said f) (fault_not_accepted f) h

  module _ (fits : fault ≡ sound) (s : Said) (h : s ≡ codes_to_light_says n codes (length light)) where
    answer-is : s ≡ through_says n codes (length moves) (length light) (length back)
    answer-is = h ∙ ap (λ v. refuses_or v (codes_to_light_says n codes (length light))) (sym fits)

    -- By a code.
    pub refused_by_code :
        ((m : ℕ) → s ≡ accepted m → ⊥) → (light' : List ℤ) → light' ≡ leaves (codes_to_light_says n codes (length light)) (codes_to_light n codes) light
        → Through n codes moves light light' back back s
    refused_by_code never light' e =
        untouched s never answer-is light'
        (e ∙ ap (λ a. leaves a (codes_to_light n codes) light) (sym h) ∙ refusal_leaves s (codes_to_light n codes) light never)

    -- Accepted: both calls write.
    module _
        (pixels : ℕ) (told : s ≡ accepted pixels) (byte : AllBytes codes) (made light' : List ℤ) (back' : List ℕ)
        (there : made ≡ leaves (codes_to_light_says n codes (length light)) (codes_to_light n codes) light)
        (between : light' ≡ zip_with moved made moves) (long : length light' ≡ length light)
        (again : back' ≡ leaves (light_to_codes_says n (length light') (length back)) (light_to_codes n light') back) where
      lengths : Lengths n (length codes) (length moves) (length light) (length back)
      lengths = lengths_fit n (length codes) (length moves) (length light) (length back) fits

      light_is : light' ≡ moved_light n codes moves
      light_is =
          between
          ∙ ap (λ (l : List ℤ). zip_with moved l moves) (there ∙ ap (λ a. leaves a (codes_to_light n codes) light) (sym h ∙ told))

      accepts : light_to_codes_says n (length light') (length back) ≡ accepted (length light' / 3)
      accepts =
          rw lengths.offers
          (says_samples false true (length light') (length back) (accepted (length light' / 3)) (omega (arith, lengths.exact)) (omega (arith, lengths.exact, lengths.back_fits)))

      back_is : back' ≡ moved_codes n codes moves
      back_is = again ∙ ap (λ a. leaves a (light_to_codes n light') back) accepts ∙ ap (light_to_codes n) light_is

      sound-codes : (k : ℕ) → get_or (two_by_two codes) k 0 ≤ greatest n
      sound-codes =
          accepted-within (greatest n) (length codes / 6) pixels 0 (two_by_two codes)
          (source_samples (offered n) (Codes (greatest n) false) false codes (length light) pixels (sym h ∙ told))

      pub comes_back : Through n codes moves light light' back back' s
      comes_back =
          record {
            says = answer-is;
            numbers = light_is ∙ ap (λ a. leaves a (moved_light n codes moves) light) (sym told);
            bytes = back_is ∙ ap (λ a. leaves a (moved_codes n codes moves) back) (sym told);
            steady =
                λ _ _ small. back_is ∙ same_codes n lengths.offers codes moves (omega (arith, lengths.exact)) (omega (arith, lengths)) byte sound-codes small;
          }

      -- The second call counts the same pixels, so its answer serves as well.
      count : length codes / 6 ≡ pixels
      count =
          accepted-count (greatest n) (length codes / 6) pixels 0 (two_by_two codes)
          (source_samples (offered n) (Codes (greatest n) false) false codes (length light) pixels (sym h ∙ told))

      alike : length light' / 3 ≡ pixels
      alike = let c = count in omega (arith, lengths.exact)

      pub comes_back_told :
          (t : Said) → t ≡ light_to_codes_says n (length light') (length back) → Through n codes moves light light' back back' t
      comes_back_told t u =
          subst (λ (answer : Said). Through n codes moves light light' back back' answer) (told ∙ sym (u ∙ accepts ∙ ap accepted alike)) comes_back
