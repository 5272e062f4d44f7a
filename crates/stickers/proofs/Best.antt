-- The earliest choice with the smallest sum: how the search finds it, and what is promised of it.
-- Assumes nothing.
use Prim.Native.Nat.{ℕ, zero, suc, ◌+◌, ◌≤◌, ◌<◌, min}
use mathlib.Core.Path.{◌≡◌, refl, sym, ap, subst, ◌∙◌, fun_ext}
use mathlib.Core.Bool.{Bool, true, false, cond}
use mathlib.Core.List.{List, [], ◌∷◌}
use native.Mathlib.Nat.{le_refl}
use native.Mathlib.Numerals.{add-one}
use native.Mathlib.Omega.{arith}
use borrow.Author.Tests.{ltb-true, ltb-false}
use lib.Dec.{ltb, eqb}
use lib.ListN.{length, get_or, take, drop, length-take}
use Rattle.std.specs.Ordering.{nat_cmp, is_lt, on, ord_min}
use Rattle.std.specs.declared.cmp.Ordering.TheVariants.{Less, Equal, Greater}
use lib.Seq.{drop-cons, drop-length, get_or-take, take_all}
use Rattle.samples.specs.declared.Pixel.{Pixel}
use Rattle.stickers.specs.declared.Four.{Four}
use Rattle.stickers.specs.declared.Summed.{Summed}
use Rattle.stickers.specs.declared.Choice.{Choice}
use Rattle.stickers.specs.Distances.{summed}
use Rattle.stickers.specs.Choices.{choices, first_choice, others, sum_of, sum_of_all, best_from, best, allowed, looked_at, chosen, choice_of}
use Rattle.stickers.specs.Promise.{Ascending, Earliest, sum_by, TakesNearest, Promised}
use Rattle.stickers.specs.HowSummed.{BestOf}
use Rattle.stickers.proofs.InOrder.{starts, ascending-at, every-listed}
use Rattle.stickers.proofs.Nearest.{nearest-least, nearest-takes, sum-above}

-- ---- the choices that are looked at
looked_length : (limit : ℕ) → limit ≤ length choices → length (looked_at limit) ≡ limit
looked_length limit h = simp length-take (omega arith)

looked_starts : (limit : ℕ) → 0 < limit → looked_at limit ≡ first_choice ∷ drop 1 (looked_at limit)
looked_starts zero h = absurd (omega arith)
looked_starts (suc n) h = ap (take (suc n)) starts ∙ ap (λ fs. first_choice ∷ drop 1 (take (suc n) fs)) (sym starts)

looked_next : (limit k : ℕ) → limit ≤ length choices → k < limit → drop k (looked_at limit) ≡ get_or choices k first_choice ∷ drop (k + 1) (looked_at limit)
looked_next limit k h l =
    drop-cons (looked_at limit) k first_choice (omega (arith, looked_length limit h))
    ∙ ap (λ f. f ∷ drop (suc k) (looked_at limit)) (get_or-take limit choices k first_choice l)
    ∙ ap (λ i. get_or choices k first_choice ∷ drop i (looked_at limit)) (sym (add-one k))

-- ---- the search: the best so far, and the choices left, give the best of all
pub record Searching (sum : Four → ℕ) (limit : ℕ) (top : Summed) (k : ℕ) : Type 0 where
  pub summed : top.sum ≡ sum top.four
  pub found : best sum (looked_at limit) ≡ best_from sum top.four (drop k (looked_at limit))

-- The first of two is taken unless the second has a smaller sum.
smaller_is : (x y : ℕ) → is_lt (nat_cmp x y) ≡ ltb x y
smaller_is x y = by (ltb x y) (eqb x y)
  where
    by : (less same : Bool) → is_lt (cond less Less (cond same Equal Greater)) ≡ less
    by true same = refl
    by false true = refl
    by false false = refl

pub first_least : (top later : Summed) → ord_min (on (λ (s : Summed). s.sum) nat_cmp) top later ≡ cond (ltb later.sum top.sum) later top
first_least top later = ap (λ b. cond b later top) (smaller_is later.sum top.sum)

module _ (sum : Four → ℕ) (limit : ℕ) (most : limit ≤ length choices) where
  pub searching_first : (top : Summed) → 0 < limit → top.four ≡ first_choice → top.sum ≡ sum first_choice → Searching sum limit top 1
  unfolding best
  searching_first top some is s =
      record {
        summed = s ∙ ap sum (sym is);
        found = ap (best sum) (looked_starts limit some) ∙ ap (λ f. best_from sum f (drop 1 (looked_at limit))) (sym is);
      }

  better : (top later : Summed) (b : Bool) → top.sum ≡ sum top.four → later.sum ≡ sum later.four
      → ((cond b later top).sum ≡ sum (cond b later top).four) × ((cond b later top).four ≡ cond b later.four top.four)
  better top later true t l = (l, refl)
  better top later false t l = (t, refl)

  pub searching_more :
      (top later next : Summed) (k : ℕ) → k < limit → later.four ≡ get_or choices k first_choice → later.sum ≡ sum (get_or choices k first_choice)
      → next ≡ cond (ltb later.sum top.sum) later top → Searching sum limit top k → Searching sum limit next (k + 1)
  unfolding best_from
  searching_more top later next k h is s e r =
      let g = get_or choices k first_choice in
      let one = better top later (ltb later.sum top.sum) r.summed (s ∙ ap sum (sym is)) in
      let four_is : next.four ≡ cond (ltb (sum g) (sum top.four)) g top.four =
      ap (λ x. x.four) e
      ∙ one.1
      ∙ ap (λ x. cond (ltb x top.sum) later.four top.four) s
      ∙ ap (λ x. cond (ltb (sum g) x) later.four top.four) r.summed
      ∙ ap (λ x. cond (ltb (sum g) (sum top.four)) x top.four) is in
      record {
        summed = ap (λ x. x.sum) e ∙ one.0 ∙ ap (λ x. sum x.four) (sym e);
        found =
            r.found
            ∙ ap (best_from sum top.four) (looked_next limit k most h)
            ∙ ap (λ f. best_from sum f (drop (k + 1) (looked_at limit))) (sym four_is);
      }

  pub searching_done : (top : Summed) (k : ℕ) → k ≡ limit → Searching sum limit top k → BestOf sum limit top
  unfolding best_from
  searching_done top k e r =
      let end : drop k (looked_at limit) ≡ [] = ap (λ i. drop i (looked_at limit)) (e ∙ sym (looked_length limit most)) ∙ drop-length (looked_at limit) in
      record { four = sym (r.found ∙ ap (best_from sum top.four) end); summed = r.summed }

-- What the search is to give.
pub choice_found :
    (tints : List ℕ) (ps : List Pixel) (limit : ℕ) (top : Summed) (least : ℕ) → limit ≤ length choices → BestOf (sum_of tints ps) limit top
    → least ≡ sum_of_all tints ps → choice_of tints ps limit ≡ record { four = top.four; sum = top.sum; looked = limit; least = least }
unfolding choice_of chosen
choice_found tints ps limit top least h b e =
    let all : limit ≡ allowed limit = omega arith in
    cc (b.four, b.summed ∙ ap (sum_of tints ps) b.four, all, e)

-- ---- a budget for more choices than there are
looked_allowed : (budget : ℕ) → looked_at (allowed budget) ≡ looked_at budget
looked_allowed budget = by (ltb budget (length choices)) refl
  where
    by : (b : Bool) → ltb budget (length choices) ≡ b → looked_at (allowed budget) ≡ looked_at budget
    by true e =
        let is : allowed budget ≡ budget = omega (arith, ltb-true budget (length choices) e) in
        ap looked_at is
    by false e =
        let enough = ltb-false budget (length choices) e in
        take_all (allowed budget) choices (omega arith) ∙ sym (take_all budget choices enough)

pub choice_allowed : (tints : List ℕ) (ps : List Pixel) (budget : ℕ) → choice_of tints ps (allowed budget) ≡ choice_of tints ps budget
unfolding choice_of chosen
choice_allowed tints ps budget =
    let twice : allowed (allowed budget) ≡ allowed budget = omega arith in
    let best-is = ap (best (sum_of tints ps)) (looked_allowed budget) in
    cc (best-is, ap (sum_of tints ps) best-is, twice)

-- ---- the best is the earliest with the smallest sum
module _ (sum : Four → ℕ) where
  -- g, behind f, has a smaller sum than f
  later : (f g r : Four) (gs : List Four) → sum g < sum f → Earliest sum (g ∷ gs) r → Earliest sum (f ∷ g ∷ gs) r
  later f g r gs h e =
      record {
        listed = record { place = suc e.listed.place; within = omega (arith, e.listed.within); is = e.listed.is };
        least = least;
        before = before;
      }
    where
      least : (k : ℕ) → k < length (f ∷ g ∷ gs) → sum r ≤ sum (get_or (f ∷ g ∷ gs) k first_choice)
      least zero l = omega (arith, e.least 0 (omega arith))
      least (suc k) l = e.least k (omega arith)

      before : (k : ℕ) → k < suc e.listed.place → sum r < sum (get_or (f ∷ g ∷ gs) k first_choice)
      before zero l = omega (arith, e.least 0 (omega arith))
      before (suc k) l = e.before k (omega arith)

  -- it has not
  module _ (f g r : Four) (gs : List Four) (h : sum f ≤ sum g) where
    least_kept : ((k : ℕ) → k < length (f ∷ gs) → sum r ≤ sum (get_or (f ∷ gs) k first_choice)) → (k : ℕ) → k < length (f ∷ g ∷ gs) → sum r ≤ sum (get_or (f ∷ g ∷ gs) k first_choice)
    least_kept e zero l = e 0 (omega arith)
    least_kept e (suc zero) l = omega (arith, e 0 (omega arith))
    least_kept e (suc (suc k)) l = e (suc k) (omega arith)

    before-kept :
        (q : ℕ) → ((k : ℕ) → k < suc q → sum r < sum (get_or (f ∷ gs) k first_choice)) → (k : ℕ) → k < suc (suc q) → sum r < sum (get_or (f ∷ g ∷ gs) k first_choice)
    before-kept q e zero l = e 0 (omega arith)
    before-kept q e (suc zero) l = omega (arith, e 0 (omega arith))
    before-kept q e (suc (suc k)) l = e (suc k) (omega arith)

    kept_at : (e : Earliest sum (f ∷ gs) r) (p : ℕ) → p ≡ e.listed.place → Earliest sum (f ∷ g ∷ gs) r
    kept_at e zero z =
        record {
          listed = record { place = 0; within = omega arith; is = ap (λ p. get_or (f ∷ gs) p first_choice) z ∙ e.listed.is };
          least = least_kept e.least;
          before = λ k l. absurd (omega arith);
        }
    kept_at e (suc q) z =
        record {
          listed = record { place = suc (suc q); within = omega (arith, e.listed.within); is = ap (λ p. get_or (f ∷ gs) p first_choice) z ∙ e.listed.is };
          least = least_kept e.least;
          before = before-kept q (λ k l. e.before k (omega arith));
        }

  earliest_by :
      (f g : Four) (gs : List Four) (b : Bool) → ltb (sum g) (sum f) ≡ b → ((h : Four) → Earliest sum (h ∷ gs) (best_from sum h gs))
      → Earliest sum (f ∷ g ∷ gs) (best_from sum (cond b g f) gs)
  earliest_by f g gs true e rest = later f g (best_from sum g gs) gs (ltb-true (sum g) (sum f) e) (rest g)
  earliest_by f g gs false e rest = kept_at f g (best_from sum f gs) gs (ltb-false (sum g) (sum f) e) (rest f) (rest f).listed.place refl

  earliest-from : (gs : List Four) (f : Four) → Earliest sum (f ∷ gs) (best_from sum f gs)
  unfolding best_from
  earliest-from [] f =
      record { listed = record { place = 0; within = omega arith; is = refl }; least = only; before = λ k l. absurd (omega arith) }
    where
      only : (k : ℕ) → k < length (f ∷ []) → sum f ≤ sum (get_or (f ∷ []) k first_choice)
      only zero l = le_refl (sum f)
      only (suc k) l = absurd (omega arith)
  earliest-from (g ∷ gs) f = earliest_by f g gs (ltb (sum g) (sum f)) refl (earliest-from gs)

  pub best-earliest : (budget : ℕ) → 0 < budget → Earliest sum (looked_at budget) (best sum (looked_at budget))
  unfolding best
  best-earliest budget h = rw (looked_starts budget h) (earliest-from (drop 1 (looked_at budget)) first_choice)

-- ---- what is promised of the answer
module _ (tints : List ℕ) (ps : List Pixel) (budget : ℕ) (some : 0 < budget) where
  chosen-earliest : Earliest (sum_of tints ps) (looked_at budget) (chosen tints ps budget)
  unfolding chosen
  chosen-earliest = best-earliest (sum_of tints ps) budget some

  chosen_ascends : Ascending (chosen tints ps budget)
  chosen_ascends =
      let l = chosen-earliest.listed in
      let within : l.place < min budget (length choices) = rw (← length-take budget choices) l.within in
      rw (← l.is, get_or-take budget choices l.place first_choice (omega arith)) (ascending-at l.place (omega arith))

  -- With the budget for all choices, whatever is a choice was looked at.
  chosen-best : length choices ≤ budget → (f : Four) → Ascending f → sum_of tints ps (chosen tints ps budget) ≤ sum_of tints ps f
  chosen-best h f a =
      let l = every-listed f a in
      let all : looked_at budget ≡ choices = take_all budget choices h in
      let e : get_or (looked_at budget) l.place first_choice ≡ f = ap (λ fs. get_or fs l.place first_choice) all ∙ l.is in
      omega (arith, chosen-earliest.least l.place (omega (arith, ap length all, l.within)), ap (sum_of tints ps) e)

  -- Sums are of distances alone, so that a rule for ties is not seen in them.
  ties-sum : (rule : Four → Pixel → ℕ) → TakesNearest tints rule → sum_of tints ps ≡ sum_by tints rule ps
  ties-sum rule h = fun_ext (λ f. ap (λ of. summed of ps) (fun_ext (λ p. sym (h f p))))

  ties_choice : (rule : Four → Pixel → ℕ) → TakesNearest tints rule → chosen tints ps budget ≡ best (sum_by tints rule ps) (looked_at budget)
  unfolding chosen
  ties_choice rule h = ap (λ sum. best sum (looked_at budget)) (ties-sum rule h)

  pub choice_promised : Promised tints ps budget (choice_of tints ps budget)
  unfolding choice_of
  choice_promised =
      record {
        earliest = chosen-earliest;
        sum = refl;
        nearest = λ p. nearest-least tints p (chosen tints ps budget).first (others (chosen tints ps budget));
        takes = λ p. nearest-takes tints p (chosen tints ps budget) chosen_ascends;
        ties = λ rule h. (ties_choice rule h, ap (λ sum. sum (chosen tints ps budget)) (ties-sum rule h));
        bound = λ f a. sum-above tints f a ps;
        best = chosen-best;
      }

  pub found_ascends : (choice : Choice) → choice ≡ choice_of tints ps budget → Ascending choice.four
  unfolding choice_of
  found_ascends choice is = subst (λ x. Ascending x.four) (sym is) chosen_ascends
