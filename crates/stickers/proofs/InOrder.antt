-- The list of choices: how many there are, that each is the one after the one before, and that it holds every four tints.
-- Assumes nothing.
use Prim.Native.Nat.{ℕ, zero, suc, ◌+◌, ◌-◌, ◌≤◌, ◌<◌}
use mathlib.Core.Path.{◌≡◌, refl, sym, ap, ◌∙◌}
use mathlib.Core.Bool.{Bool, true, ◌&&◌}
use mathlib.Core.List.{List, [], ◌∷◌, ◌++◌, map}
use native.Mathlib.Omega.{arith}
use native.Mathlib.Numerals.{add-one}
use borrow.Author.Tests.{ltb-true, eqb-true, lt-ltb, le-ltb}
use lib.Dec.{ltb, eqb}
use lib.ListN.{length, get_or, drop, length-append, length-map, get_or-append}
use lib.Seq.{get_or-append-add}
use Rattle.numbers.proofs.Booleans.{and_true}
use Rattle.stickers.specs.declared.Four.{Four}
use Rattle.stickers.specs.Choices.{tint_count, upward, from, four, for_each, choices, first_choice}
use Rattle.stickers.specs.Promise.{Ascending, Listed, AllChoices}
use Rattle.stickers.specs.HowSummed.{last_tint, after}

-- ---- computed once: the number of choices, and that each follows from the one before
abbrev ascends : Four → Bool
ascends f = ltb f.first f.second && (ltb f.second f.third && (ltb f.third f.fourth && ltb f.fourth tint_count))

abbrev same : Four → Four → Bool
same f g = eqb f.first g.first && (eqb f.second g.second && (eqb f.third g.third && eqb f.fourth g.fourth))

-- f and those in gs ascend, and each is the one after the one before.
in_order : Four → List Four → Bool
in_order f [] = ascends f
in_order f (g ∷ gs) = ascends f && (same g (after f) && in_order g gs)

pub all_counted : length choices ≡ 1820
unfolding choices for_each upward
all_counted = refl

pub starts : choices ≡ first_choice ∷ drop 1 choices
unfolding choices for_each upward
starts = refl

all_in_order : in_order first_choice (drop 1 choices) ≡ true
unfolding choices for_each upward after in_order
all_in_order = refl

-- ---- what the test says
ascends_is : (f : Four) → ascends f ≡ true → Ascending f
ascends_is f h =
    let p = and_true (ltb f.first f.second) _ h in
    let q = and_true (ltb f.second f.third) _ p.1 in
    let r = and_true (ltb f.third f.fourth) _ q.1 in
    record { low = ltb-true _ _ p.0; middle = ltb-true _ _ q.0; high = ltb-true _ _ r.0; there = ltb-true _ _ r.1 }

four_is : (a b c d k l m n : ℕ) → a ≡ k → b ≡ l → c ≡ m → d ≡ n → four a b c d ≡ four k l m n
four_is a b c d k l m n p q r s = cc

same-is : (f g : Four) → same f g ≡ true → f ≡ g
same-is f g h =
    let p = and_true (eqb f.first g.first) _ h in
    let q = and_true (eqb f.second g.second) _ p.1 in
    let r = and_true (eqb f.third g.third) _ q.1 in
    four_is _ _ _ _ _ _ _ _ (eqb-true _ _ p.0) (eqb-true _ _ q.0) (eqb-true _ _ r.0) (eqb-true _ _ r.1)

ascending_by : (f : Four) (gs : List Four) (k : ℕ) → in_order f gs ≡ true → k ≤ length gs → Ascending (get_or (f ∷ gs) k first_choice)
unfolding in_order
ascending_by f [] zero h l = ascends_is f h
ascending_by f [] (suc k) h l = absurd (omega arith)
ascending_by f (g ∷ gs) zero h l = ascends_is f (and_true (ascends f) _ h).0
ascending_by f (g ∷ gs) (suc k) h l = ascending_by g gs k (and_true (same g (after f)) _ (and_true (ascends f) _ h).1).1 (omega arith)

next_by : (f : Four) (gs : List Four) (k : ℕ) → in_order f gs ≡ true → k < length gs → get_or (f ∷ gs) (suc k) first_choice ≡ after (get_or (f ∷ gs) k first_choice)
unfolding in_order
next_by f [] k h l = absurd (omega arith)
next_by f (g ∷ gs) zero h l = same-is g (after f) (and_true (same g (after f)) _ (and_true (ascends f) _ h).1).0
next_by f (g ∷ gs) (suc k) h l = next_by g gs k (and_true (same g (after f)) _ (and_true (ascends f) _ h).1).1 (omega arith)

length_rest : suc (length (drop 1 choices)) ≡ length choices
length_rest = sym (ap length starts)

pub first-at : get_or choices 0 first_choice ≡ first_choice
first-at = ap (λ fs. get_or fs 0 first_choice) starts

pub ascending-at : (k : ℕ) → k < length choices → Ascending (get_or choices k first_choice)
ascending-at k h = rw starts (ascending_by first_choice (drop 1 choices) k all_in_order (omega (arith, length_rest)))

pub next_at : (k : ℕ) → k + 1 < length choices → get_or choices (k + 1) first_choice ≡ after (get_or choices k first_choice)
next_at k h = rw (add-one k, starts) (next_by first_choice (drop 1 choices) k all_in_order (omega (arith, length_rest)))

-- ---- the choice after one, case by case
module _ (f : Four) where
  pub fourth_grows : f.fourth < last_tint → four f.first f.second f.third (f.fourth + 1) ≡ after f
  unfolding after
  fourth_grows d = rw (lt-ltb f.fourth last_tint d) refl

  module _ (d : last_tint ≤ f.fourth) where
    pub third_grows : f.third < (last_tint - 1) → four f.first f.second (f.third + 1) (f.third + 2) ≡ after f
    unfolding after
    third_grows c = rw (le-ltb f.fourth last_tint d, lt-ltb f.third (last_tint - 1) c) refl

    module _ (c : (last_tint - 1) ≤ f.third) where
      pub second-grows : f.second < (last_tint - 2) → four f.first (f.second + 1) (f.second + 2) (f.second + 3) ≡ after f
      unfolding after
      second-grows b = rw (le-ltb f.fourth last_tint d, le-ltb f.third (last_tint - 1) c, lt-ltb f.second (last_tint - 2) b) refl

      module _ (b : (last_tint - 2) ≤ f.second) where
        pub first-grows : f.first < (last_tint - 3) → four (f.first + 1) (f.first + 2) (f.first + 3) (f.first + 4) ≡ after f
        unfolding after
        first-grows a = rw (le-ltb f.fourth last_tint d, le-ltb f.third (last_tint - 1) c, le-ltb f.second (last_tint - 2) b, lt-ltb f.first (last_tint - 3) a) refl

        pub last-stays : (last_tint - 3) ≤ f.first → f ≡ after f
        unfolding after
        last-stays a = rw (le-ltb f.fourth last_tint d, le-ltb f.third (last_tint - 1) c, le-ltb f.second (last_tint - 2) b, le-ltb f.first (last_tint - 3) a) refl

-- ---- every four tints are in the list
listed_left : (fs gs : List Four) (f : Four) → Listed fs f → Listed (fs ++ gs) f
listed_left fs gs f l =
    record {
      place = l.place;
      within = omega (arith, length-append fs gs, l.within);
      is = get_or-append fs gs first_choice l.place l.within ∙ l.is;
    }

listed_right : (fs gs : List Four) (f : Four) → Listed gs f → Listed (fs ++ gs) f
listed_right fs gs f l =
    record {
      place = length fs + l.place;
      within = omega (arith, length-append fs gs, l.within);
      is = get_or-append-add fs gs l.place first_choice ∙ l.is;
    }

listed-each : (ns : List ℕ) (f : ℕ → List Four) (k : ℕ) (g : Four) → k < length ns → Listed (f (get_or ns k 0)) g → Listed (for_each ns f) g
unfolding for_each
listed-each [] f k g h l = absurd (omega arith)
listed-each (n ∷ ns) f zero g h l = listed_left (f n) (for_each ns f) g l
listed-each (n ∷ ns) f (suc k) g h l = listed_right (f n) (for_each ns f) g (listed-each ns f k g (omega arith) l)

length-upward : (count n : ℕ) → length (upward count n) ≡ count
unfolding upward
length-upward zero n = refl
length-upward (suc count) n = ap suc (length-upward count (n + 1))

upward-at : (count n k : ℕ) → k < count → get_or (upward count n) k 0 ≡ n + k
unfolding upward
upward-at zero n k h = absurd (omega arith)
upward-at (suc count) n zero h = omega arith
upward-at (suc count) n (suc k) h = omega (arith, upward-at count (n + 1) k (omega arith))

-- A number among the tints' numbers from n on.
module _ (n m : ℕ) (h : n ≤ m) (t : m < tint_count) where
  there : m - n < length (from n)
  there = omega (arith, length-upward (tint_count - n) n)

  number_at : get_or (from n) (m - n) 0 ≡ m
  number_at = omega (arith, upward-at (tint_count - n) n (m - n) (omega arith))

-- Where one of them comes next.
listed_at : (n m : ℕ) (f : ℕ → List Four) (g : Four) → n ≤ m → m < tint_count → Listed (f m) g → Listed (for_each (from n) f) g
listed_at n m f g h t l = listed-each (from n) f (m - n) g (there n m h t) (rw (number_at n m h t) l)

map_at : (f : ℕ → Four) (ns : List ℕ) (k : ℕ) → k < length ns → get_or (map f ns) k first_choice ≡ f (get_or ns k 0)
map_at f [] k h = absurd (omega arith)
map_at f (n ∷ ns) zero h = refl
map_at f (n ∷ ns) (suc k) h = map_at f ns k (omega arith)

listed_last : (n m : ℕ) (f : ℕ → Four) → n ≤ m → m < tint_count → Listed (map f (from n)) (f m)
listed_last n m f h t =
    record {
      place = m - n;
      within = rw (length-map (from n) f) (there n m h t);
      is = map_at f (from n) (m - n) (there n m h t) ∙ ap f (number_at n m h t);
    }

pub every-listed : (f : Four) → Ascending f → Listed choices f
unfolding choices
every-listed f h =
    listed_at 0 f.first _ f (omega arith) (omega arith)
    (listed_at (f.first + 1) f.second _ f (omega arith) (omega arith)
    (listed_at (f.second + 1) f.third _ f (omega arith) (omega arith)
    (listed_last (f.third + 1) f.fourth (four f.first f.second f.third) (omega arith) (omega arith))))

pub all_choices : AllChoices
all_choices = record { counted = all_counted; ascending = ascending-at; every = every-listed }
