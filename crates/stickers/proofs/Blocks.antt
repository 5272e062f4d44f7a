-- A block of pixels: rows of distances, the sums of the choices over it, and what is left of the picture.
-- Assumes nothing.
use Prim.Native.Nat.{ℕ, zero, suc, ◌+◌, ◌*◌, ◌≤◌, ◌<◌, min}
use mathlib.Core.Path.{◌≡◌, refl, sym, ap, ◌∙◌}
use mathlib.Core.List.{List}
use mathlib.Core.Logic.{◌⊎◌, ⊎_elim}
use native.Mathlib.Nat.{le_refl, eq-or-lt_of_le}
use native.Mathlib.Numerals.{add-one}
use native.Mathlib.Omega.{arith}
use lib.ListN.{length, get_or, set, drop, replicate, length-set}
use lib.Seq.{get_or-set_same, get_or-set_other}
use Rattle.samples.specs.declared.Pixel.{Pixel}
use Rattle.samples.specs.Samples.{no_pixel}
use Rattle.stickers.specs.declared.Four.{Four}
use Rattle.stickers.specs.Distances.{away, least_of, summed}
use Rattle.stickers.specs.Choices.{tint_count, choices, first_choice, least_of_four, sum_of, least_of_all, sum_of_all}
use Rattle.stickers.specs.Promise.{Ascending}
use Rattle.stickers.specs.HowSummed.{after, block_size, row_of, entry, Column, BlockOf, row_sum, four_sum, Added, SumsOf, most_entry, entry_count}
use Rattle.stickers.proofs.InOrder.{first-at, next_at, ascending-at}
use Rattle.stickers.proofs.Nearest.{summed-more, summed_ends}

-- ---- the sum of four rows
pub row_more :
    (rows : List ℕ) (a b c d k sum two three x : ℕ) → sum ≡ row_sum rows a b c d k → two ≡ min (get_or rows (a + k) 0) (get_or rows (b + k) 0)
    → three ≡ min two (get_or rows (c + k) 0) → x ≡ min three (get_or rows (d + k) 0) → sum + x ≡ row_sum rows a b c d (k + 1)
unfolding row_sum
row_more rows a b c d k sum two three x s e f g = rw (add-one k) (omega arith)

pub starts_are :
    (rows : List ℕ) (a b c d a' b' c' d' count r : ℕ) → a ≡ a' → b ≡ b' → c ≡ c' → d ≡ d' → r ≡ row_sum rows a b c d count → r ≡ row_sum rows a' b' c' d' count
starts_are rows a b c d a' b' c' d' count r e f g h is = cc

pub last_or_before : (j k : ℕ) → j < k + 1 → (j ≡ k) ⊎ (j < k)
last_or_before j k h = eq-or-lt_of_le (omega arith)

-- ---- a column: the distances to the first t tints are there
pub record Filling (tints : List ℕ) (p : Pixel) (k : ℕ) (before rows : List ℕ) (t : ℕ) : Type 0 where
  pub whole : length rows ≡ length before
  pub new : (j : ℕ) → j < t → entry rows j k ≡ away tints p j
  pub same : (j i : ℕ) → i < block_size → (i ≡ k → ⊥) → entry rows j i ≡ entry before j i

module _ (tints : List ℕ) (p : Pixel) (k : ℕ) (before : List ℕ) where
  pub filling_first : Filling tints p k before before 0
  filling_first = record { whole = refl; new = λ j h. absurd (omega arith); same = λ j i h other. refl }

  pub filling_more :
      (rows : List ℕ) (t v : ℕ) → length before ≡ entry_count → k < block_size → t < tint_count → v ≡ away tints p t → Filling tints p k before rows t
      → Filling tints p k before (set rows (row_of t + k) v) (t + 1)
  filling_more rows t v whole here there is f =
      record {
        whole = length-set rows (row_of t + k) v ∙ f.whole;
        new = λ j h.
            ⊎_elim
            (λ e. rw e (get_or-set_same rows (row_of t + k) v 0 (omega (arith, f.whole)) ∙ is))
            (λ l. get_or-set_other rows (row_of t + k) (row_of j + k) v 0 (λ z. omega arith) ∙ f.new j l)
            (last_or_before j t h);
        same = λ j i h other. get_or-set_other rows (row_of t + k) (row_of j + i) v 0 (λ z. other (omega arith)) ∙ f.same j i h other;
      }

  pub filling_done : (rows : List ℕ) (t : ℕ) → tint_count ≤ t → Filling tints p k before rows t → Column tints p k before rows
  filling_done rows t h f = record { whole = f.whole; new = λ j l. f.new j (omega arith); same = f.same }

-- ---- a block: a column more
pub block_more :
    (tints : List ℕ) (ps : List Pixel) (start k : ℕ) (before rows : List ℕ) (p : Pixel) → k < block_size → p ≡ get_or ps (start + k) no_pixel
    → Column tints p k before rows → BlockOf tints ps start k before → BlockOf tints ps start (k + 1) rows
block_more tints ps start k before rows p here is column block t j h l =
    ⊎_elim
    (λ e. rw e (column.new t h ∙ ap (λ q. away tints q t) is))
    (λ less. column.same t j (omega arith) (λ z. omega arith) ∙ block t j h less)
    (last_or_before j k l)

-- ---- what is left of the picture
module _ (f : Pixel → ℕ) (ps : List Pixel) (start : ℕ) where
  abbrev pub SumTo : ℕ → ℕ → Type 0
  SumTo k sum = summed f (drop start ps) ≡ sum + summed f (drop (start + k) ps)

  pub sum-none : SumTo 0 0
  sum-none =
      let e : start + 0 ≡ start = omega arith in
      rw e (omega arith)

  pub sum_more : (k sum x : ℕ) → start + k < length ps → x ≡ f (get_or ps (start + k) no_pixel) → SumTo k sum → SumTo (k + 1) (sum + x)
  sum_more k sum x h e s =
      let next : start + (k + 1) ≡ start + k + 1 = omega arith in
      rw next (omega (arith, summed-more f ps (start + k) h))

-- The rows of a block give the sum of a choice over it.
least_in_block :
    (tints : List ℕ) (ps : List Pixel) (start count : ℕ) (rows : List ℕ) (f : Four) → Ascending f → BlockOf tints ps start count rows → (k : ℕ) → k < count
    → min (min (min (entry rows f.first k) (entry rows f.second k)) (entry rows f.third k)) (entry rows f.fourth k)
    ≡ least_of_four tints f (get_or ps (start + k) no_pixel)
unfolding least_of
least_in_block tints ps start count rows f h block k l =
    rw (block f.first k (omega arith) l, block f.second k (omega arith) l, block f.third k (omega arith) l, block f.fourth k (omega arith) l) refl

pub block-sum :
    (tints : List ℕ) (ps : List Pixel) (start count : ℕ) (rows : List ℕ) (f : Four) → Ascending f → BlockOf tints ps start count rows
    → start + count ≤ length ps → (k : ℕ) → k ≤ count → SumTo (least_of_four tints f) ps start k (four_sum rows f k)
unfolding row_sum
block-sum tints ps start count rows f h block l zero m = sum-none (least_of_four tints f) ps start
block-sum tints ps start count rows f h block l (suc k) m =
    rw (← add-one k)
    (sum_more (least_of_four tints f) ps start k (four_sum rows f k) _ (omega arith) (least_in_block tints ps start count rows f h block k (omega arith))
    (block-sum tints ps start count rows f h block l k (omega arith)))

-- ---- a block's sums added to those of the first k choices
pub record Adding (rows : List ℕ) (count limit : ℕ) (before sums : List ℕ) (f : Four) (k : ℕ) : Type 0 where
  pub within : k ≤ limit
  pub whole : length sums ≡ length before
  pub here : k < length choices → f ≡ get_or choices k first_choice
  pub new : (j : ℕ) → j < k → get_or sums j 0 ≡ get_or before j 0 + four_sum rows (get_or choices j first_choice) count
  pub few : (j : ℕ) → j < k → four_sum rows (get_or choices j first_choice) count ≤ most_entry * count
  pub same : (j : ℕ) → k ≤ j → get_or sums j 0 ≡ get_or before j 0

module _ (rows : List ℕ) (count limit : ℕ) (before : List ℕ) where
  pub adding-first : (f : Four) → f ≡ first_choice → Adding rows count limit before before f 0
  adding-first f e =
      record {
        within = omega arith;
        whole = refl;
        here = λ h. e ∙ sym first-at;
        new = λ j h. absurd (omega arith);
        few = λ j h. absurd (omega arith);
        same = λ j h. refl;
      }

  pub adding-more :
      (sums : List ℕ) (f g : Four) (k sum v : ℕ) → limit ≤ length choices → length before ≡ length choices → k < limit → sum ≡ four_sum rows f count
      → sum ≤ most_entry * count → v ≡ get_or sums k 0 + sum → g ≡ after f → Adding rows count limit before sums f k
      → Adding rows count limit before (set sums k v) g (k + 1)
  adding-more sums f g k sum v most whole h is few e next a =
      let f-is : f ≡ get_or choices k first_choice = a.here (omega arith) in
      let sum_is : sum ≡ four_sum rows (get_or choices k first_choice) count = is ∙ ap (λ x. four_sum rows x count) f-is in
      record {
        within = omega arith;
        whole = length-set sums k v ∙ a.whole;
        here = λ l. next ∙ ap after f-is ∙ sym (next_at k l);
        new = λ j l.
            ⊎_elim
            (λ z. rw z (get_or-set_same sums k v 0 (omega (arith, a.whole)) ∙ omega (arith, a.same k (le_refl k))))
            (λ less. get_or-set_other sums k j v 0 (λ z. omega arith) ∙ a.new j less)
            (last_or_before j k l);
        few = λ j l.
            ⊎_elim
            (λ z. rw z (omega arith))
            (λ less. a.few j less)
            (last_or_before j k l);
        same = λ j l. get_or-set_other sums k j v 0 (λ z. omega arith) ∙ a.same j (omega arith);
      }

  pub adding-done : (sums : List ℕ) (f : Four) (k : ℕ) → limit ≤ k → Adding rows count limit before sums f k → Added rows count limit before sums
  adding-done sums f k h a = record { whole = a.whole; more = λ j l. a.new j (omega arith); few = λ j l. a.few j (omega arith) }

pub zeros : (n k : ℕ) → ◌≡◌ {A = ℕ} (get_or (replicate n 0) k 0) 0
zeros zero k = refl
zeros (suc n) zero = refl
zeros (suc n) (suc k) = zeros n k

-- ---- the picture, block by block: the sums so far, and what is left, give all
pub record Summing (tints : List ℕ) (ps : List Pixel) (limit : ℕ) (sums : List ℕ) (least start : ℕ) : Type 0 where
  pub within : start ≤ length ps
  pub whole : length sums ≡ length choices
  pub all : sum_of_all tints ps ≡ least + summed (least_of_all tints) (drop start ps)
  pub few : least ≤ most_entry * start
  pub each : (k : ℕ) → k < limit
      → sum_of tints ps (get_or choices k first_choice) ≡ get_or sums k 0 + summed (least_of_four tints (get_or choices k first_choice)) (drop start ps)
  pub small : (k : ℕ) → k < limit → get_or sums k 0 ≤ most_entry * start

module _ (tints : List ℕ) (ps : List Pixel) (limit : ℕ) where
  pub summing_first : (sums : List ℕ) → length sums ≡ length choices → ((k : ℕ) → get_or sums k 0 ≡ 0) → Summing tints ps limit sums 0 0
  summing_first sums whole none =
      record {
        within = omega arith;
        whole = whole;
        all = omega arith;
        few = omega arith;
        each = λ k h. omega (arith, none k);
        small = λ k h. omega (arith, none k);
      }

  pub summing_more :
      (before sums rows : List ℕ) (least more start count : ℕ) → limit ≤ length choices → start + count ≤ length ps
      → SumTo (least_of_all tints) ps start count more → more ≤ most_entry * count → BlockOf tints ps start count rows → Added rows count limit before sums
      → Summing tints ps limit before least start → Summing tints ps limit sums (least + more) (start + count)
  summing_more before sums rows least more start count most h left few block added s =
      record {
        within = h;
        whole = added.whole ∙ s.whole;
        all = omega (arith, s.all);
        few = omega (arith, s.few);
        each = λ k l.
            let f = get_or choices k first_choice in
            omega (arith, s.each k l, added.more k l, block-sum tints ps start count rows f (ascending-at k (omega arith)) block h count (le_refl count));
        small = λ k l. omega (arith, s.small k l, added.more k l, added.few k l);
      }

  pub summing_done : (sums : List ℕ) (least start : ℕ) → length ps ≤ start → Summing tints ps limit sums least start
      → (least ≡ sum_of_all tints ps) × SumsOf (sum_of tints ps) limit sums
  summing_done sums least start h s = (
    omega (arith, s.all, summed_ends (least_of_all tints) ps start h),
    λ k l. omega (arith, s.each k l, summed_ends (least_of_four tints (get_or choices k first_choice)) ps start h),
  )
