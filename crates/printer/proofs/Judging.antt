-- A list of arrivals, one after another: what is said of it, and what is known of one that is accepted.
-- Assumes nothing.
use Prim.Native.Nat.{ℕ, zero, suc, ◌+◌, ◌*◌, ◌/◌, ◌%◌, ◌≤◌, ◌<◌}
use mathlib.Core.Path.{◌≡◌, refl, sym, ap, ◌∙◌}
use mathlib.Core.Bool.{Bool, true, false, cond}
use mathlib.Core.List.{List, [], ◌∷◌}
use native.Mathlib.Omega.{arith}
use lib.Dec.{ltb, leb}
use lib.ListN.{length, get_or, drop, length-drop}
use borrow.Author.Tests.{ltb-true, leb-true, eq-eqb, ne_eqb}
use Rattle.numbers.proofs.Booleans.{and_true}
use Rattle.std.specs.Simd.{first_chunks}
use Rattle.numbers.specs.Threes.{threes}
use Rattle.numbers.proofs.Threes.{length-threes, three_at}
use Rattle.refusal.specs.Answers.{sound, faulty, Said, accepted, refused_at, decides}
use Rattle.refusal.proofs.Verdicts.{not_accepted_at}
use Rattle.printer.specs.declared.Arrival.{Arrival}
use Rattle.printer.specs.Arrivals.{arrival_size, arrival, no_arrival, arrivals, turn_limit, kiosk_count, arrival_limit, keeps_limits, arrivals_say, end_says, simulation_says}
use Rattle.printer.specs.HowRun.{arrival_of, listed, Due, AllDue}

-- ---- the arrivals in a list of numbers
pub length-arrivals : (numbers : List ℕ) → length (arrivals numbers) ≡ length numbers / arrival_size
unfolding arrivals
length-arrivals numbers = length-threes arrival numbers

pub arrival-is :
    (numbers : List ℕ) (i : ℕ) → i < length numbers / arrival_size
    → get_or (arrivals numbers) i no_arrival ≡ arrival (get_or numbers (3 * i) 0) (get_or numbers (3 * i + 1) 0) (get_or numbers (3 * i + 2) 0)
unfolding arrivals
arrival-is numbers i h = three_at arrival numbers i no_arrival (omega arith)

threes_listed : (numbers : List ℕ) (n : ℕ) → n ≡ length numbers / arrival_size → listed (first_chunks arrival_size n numbers) ≡ threes arrival numbers
unfolding listed
threes_listed [] zero e = refl
threes_listed [] (suc n) e = absurd (omega arith)
threes_listed (a ∷ []) zero e = refl
threes_listed (a ∷ []) (suc n) e = absurd (omega arith)
threes_listed (a ∷ b ∷ []) zero e = refl
threes_listed (a ∷ b ∷ []) (suc n) e = absurd (omega arith)
threes_listed (a ∷ b ∷ c ∷ rest) zero e = absurd (omega arith)
threes_listed (a ∷ b ∷ c ∷ rest) (suc n) e = ap (λ (l : List Arrival). arrival a b c ∷ l) (threes_listed rest n (omega arith))

-- The code goes through a list cut into threes.
pub all_listed : (numbers : List ℕ) → listed (first_chunks arrival_size (length numbers / arrival_size) numbers) ≡ arrivals numbers
unfolding arrivals
all_listed numbers = threes_listed numbers (length numbers / arrival_size) refl

pub length-listed : (rows : List (List ℕ)) → length (listed rows) ≡ length rows
unfolding listed
length-listed [] = refl
length-listed (row ∷ rows) = ap suc (length-listed rows)

-- From arrival i on, which is read from its three numbers.
pub read_here :
    (rows : List (List ℕ)) (i : ℕ) (a : Arrival) → i < length rows → a ≡ arrival_of (get_or rows i [])
    → drop i (listed rows) ≡ a ∷ drop (i + 1) (listed rows)
unfolding listed
read_here [] i a h read = absurd (omega arith)
read_here (row ∷ rows) zero a h read = ap (λ (x : Arrival). x ∷ listed rows) (sym read)
read_here (row ∷ rows) (suc i) a h read = let e : suc i + 1 ≡ suc (i + 1) = omega arith in rw e (read_here rows i a (omega arith) read)

-- Arrival a stands at a place of the list.
pub record Stands (list : List Arrival) (place : ℕ) (a : Arrival) : Type 0 where
  pub within : place < length list
  pub here : drop place list ≡ a ∷ drop (place + 1) list

pub stands_at : (rows : List (List ℕ)) (i : ℕ) (a : Arrival) → i < length rows → a ≡ arrival_of (get_or rows i []) → Stands (listed rows) i a
stands_at rows i a h read = record { within = omega (arith, length-listed rows); here = read_here rows i a h read }

-- ---- what is said of them
module _ (done : Said) (list rest : List Arrival) (i before : ℕ) (a : Arrival) (here : list ≡ a ∷ rest) where
  pub say_on : keeps_limits i before a ≡ true → arrivals_say done i before list ≡ arrivals_say done (i + 1) a.turn rest
  unfolding arrivals_say
  say_on keeps = ap (arrivals_say done i before) here ∙ simp keeps

  pub say_here : keeps_limits i before a ≡ false → arrivals_say done i before list ≡ refused_at 22 i
  unfolding arrivals_say
  say_here breaks = ap (arrivals_say done i before) here ∙ simp breaks

pub say_done : (done : Said) (i before : ℕ) (list : List Arrival) → length list ≡ 0 → arrivals_say done i before list ≡ done
unfolding arrivals_say
say_done done i before [] h = refl
say_done done i before (a ∷ list) h = absurd (omega arith)

pub say_behind : (done : Said) (i before : ℕ) (list : List Arrival) → length list ≤ i → arrivals_say done i before (drop i list) ≡ done
say_behind done i before list h = say_done done i before (drop i list) (simp length-drop (omega arith))

-- ---- where the list ends: whole, or with numbers left over
module _ (numbers : List ℕ) (turns i before : ℕ) (rows : List (List ℕ)) (past : length rows ≤ i) (e : simulation_says numbers turns ≡ arrivals_say (end_says numbers turns) i before (drop i (listed rows))) where
  pub ends_whole : length numbers % arrival_size ≡ 0 → accepted turns ≡ simulation_says numbers turns
  ends_whole whole = sym (e ∙ say_behind _ i before (listed rows) (omega (arith, length-listed rows)) ∙ simp (eq-eqb _ _ whole))

  pub ends_short : (length numbers % arrival_size ≡ 0 → ⊥) → refused_at 22 (length numbers / arrival_size) ≡ simulation_says numbers turns
  ends_short short = sym (e ∙ say_behind _ i before (listed rows) (omega (arith, length-listed rows)) ∙ simp (ne_eqb _ _ short))

-- ---- what is known of a list that is accepted
keeps_due : (i before : ℕ) (a : Arrival) → keeps_limits i before a ≡ true → (i < arrival_limit) × Due before a
unfolding keeps_limits
keeps_due i before a h =
    let p = and_true (ltb i arrival_limit) _ h in
    let q = and_true (leb before a.turn) _ p.1 in
    let r = and_true (ltb a.turn turn_limit) _ q.1 in
    let s = and_true (ltb a.kiosk kiosk_count) _ r.1 in
    let u = and_true (leb 1 a.prints) _ s.1 in
    (ltb-true i _ p.0, record { later = leb-true before a.turn q.0; there = ltb-true a.kiosk _ s.0; few = leb-true a.prints _ u.1 })

pub record Accepted (done : Said) (i before : ℕ) (list : List Arrival) (n : ℕ) : Type 0 where
  pub end : done ≡ accepted n
  pub due : AllDue before list
  pub few : i + length list ≤ arrival_limit

accepted-more :
    (done rest : Said) (i before : ℕ) (a : Arrival) (list : List Arrival) (n : ℕ) (b : Bool) → keeps_limits i before a ≡ b
    → decides (cond b sound (faulty 22)) i rest ≡ accepted n
    → (i < arrival_limit → rest ≡ accepted n → Accepted done (i + 1) a.turn list n) → Accepted done i before (a ∷ list) n
accepted-more done rest i before a list n true e h more =
    let k = keeps_due i before a e in
    let m = more k.0 h in
    record { end = m.end; due = (k.1, m.due); few = omega (arith, m.few) }
accepted-more done rest i before a list n false e h more = absurd (not_accepted_at 22 i n h)

pub list_accepted :
    (done : Said) (i before : ℕ) (list : List Arrival) (n : ℕ) → i ≤ arrival_limit
    → arrivals_say done i before list ≡ accepted n → Accepted done i before list n
unfolding arrivals_say
list_accepted done i before [] n l h = record { end = h; due = tt; few = omega arith }
list_accepted done i before (a ∷ list) n l h =
    accepted-more done (arrivals_say done (i + 1) a.turn list) i before a list n (keeps_limits i before a) refl h
    (λ few e. list_accepted done (i + 1) a.turn list n (omega arith) e)

pub simulation-accepted : (numbers : List ℕ) (turns n : ℕ) → simulation_says numbers turns ≡ accepted n → Accepted (end_says numbers turns) 0 0 (arrivals numbers) n
unfolding simulation_says
simulation-accepted numbers turns n h = list_accepted (end_says numbers turns) 0 0 (arrivals numbers) n (omega arith) h
