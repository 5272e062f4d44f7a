-- Verdicts of tests in a row, of which the first that fails decides, and what is said by a verdict.
-- Assumes nothing.
use Prim.Native.Nat.{ℕ, ◌<◌}
use native.Mathlib.Omega.{arith}
use mathlib.Core.Path.{◌≡◌, refl, sym}
use mathlib.Core.Bool.{Bool, true, false, cond}
use Rattle.std.specs.Prelude.{Option, None, Some}
use Rattle.refusal.specs.declared.Fault.{Fault}
use Rattle.refusal.specs.Refusals.{number_of}
use Rattle.refusal.specs.Answers.{at_place, fault_said, Verdict, sound, faulty, or_else, Said, accepted, refused, refused_at, refuses_or}

faulty-sound : (n : ℕ) → faulty n ≡ sound → ⊥
faulty-sound n e = let z : ◌≡◌ {A = ℕ} 0 1 = cc in omega arith

-- Where nothing is at fault, no test has failed.
pub passed : (b : Bool) (n : ℕ) (v : Verdict) → cond b (faulty n) v ≡ sound → (b ≡ false) × (v ≡ sound)
passed true n v e = absurd (faulty-sound n e)
passed false n v e = (refl, e)

-- A number that no test of a row has is never its verdict.
pub sound_other : (k : ℕ) → sound ≡ faulty k → ⊥
sound_other k e = faulty-sound k (sym e)

pub test_other : (b : Bool) (n k : ℕ) (v : Verdict) → (n ≡ k → ⊥) → (v ≡ faulty k → ⊥) → cond b (faulty n) v ≡ faulty k → ⊥
test_other true n k v other never e = other cc
test_other false n k v other never e = never e

pub either_other : (v w : Verdict) (k : ℕ) → (v ≡ faulty k → ⊥) → (w ≡ faulty k → ⊥) → or_else v w ≡ faulty k → ⊥
either_other sound w k never other e = other e
either_other (faulty n) w k never other e = never e

pub both_sound : (v w : Verdict) → or_else v w ≡ sound → (v ≡ sound) × (w ≡ sound)
both_sound sound w e = (refl, e)
both_sound (faulty n) w e = absurd (faulty-sound n e)

-- A refusal whose number has at most two digits, as every one has; or none.
abbrev pub TwoDigits : Verdict → Type 0
TwoDigits sound = Unit
TwoDigits (faulty n) = n < 100

pub test_short : (b : Bool) (n : ℕ) (v : Verdict) → TwoDigits (faulty n) → TwoDigits v → TwoDigits (cond b (faulty n) v)
test_short true n v p q = p
test_short false n v p q = q

pub either_short : (v w : Verdict) → TwoDigits v → TwoDigits w → TwoDigits (or_else v w)
either_short sound w p q = q
either_short (faulty n) w p q = p

-- ---- what is said by a verdict and, if it is sound, by the rest
pub not_accepted : (number n : ℕ) → refused number ≡ accepted n → ⊥
not_accepted number n h = let z : ◌≡◌ {A = ℕ} 0 1 = cc in omega arith

pub not_accepted_at : (number at n : ℕ) → refused_at number at ≡ accepted n → ⊥
not_accepted_at number at n h = let z : ◌≡◌ {A = ℕ} 0 1 = cc in omega arith

not_accepted_by : (number : ℕ) (place : Option ℕ) (n : ℕ) → at_place number place ≡ accepted n → ⊥
not_accepted_by number None n h = not_accepted number n h
not_accepted_by number (Some at) n h = not_accepted_at number at n h

pub fault_not_accepted : (fault : Fault) (n : ℕ) → fault_said fault ≡ accepted n → ⊥
fault_not_accepted fault n h = not_accepted_by (number_of fault.refusal) fault.place n h

-- What holds of every refusal and of the rest.
pub or_holds : (P : Said → Type 0) (v : Verdict) (rest : Said) → ((number : ℕ) → P (refused number)) → P rest → P (refuses_or v rest)
or_holds P sound rest r h = h
or_holds P (faulty n) rest r h = r n

pub or_accepted : (v : Verdict) (rest : Said) (n : ℕ) → refuses_or v rest ≡ accepted n → (v ≡ sound) × (rest ≡ accepted n)
or_accepted sound rest n h = (refl, h)
or_accepted (faulty k) rest n h = absurd (not_accepted k n h)

pub or_other : (v : Verdict) (k : ℕ) (rest : Said) → (v ≡ faulty k → ⊥) → (rest ≡ refused k → ⊥) → refuses_or v rest ≡ refused k → ⊥
or_other sound k rest never other h = other h
or_other (faulty n) k rest never other h = never cc

-- A refusal stands, whatever the rest is.
pub or_stands :
    (v : Verdict) (n : ℕ) (rest s : Said) → ((m : ℕ) → s ≡ accepted m → ⊥) → s ≡ refuses_or v (accepted n) → s ≡ refuses_or v rest
or_stands sound n rest s never h = absurd (never n h)
or_stands (faulty k) n rest s never h = h

-- The same of the first of two verdicts, whatever the second and the rest are.
pub first_stands :
    (v w : Verdict) (n : ℕ) (rest s : Said) → ((m : ℕ) → s ≡ accepted m → ⊥) → s ≡ refuses_or v (accepted n) → s ≡ refuses_or (or_else v w) rest
first_stands sound w n rest s never h = absurd (never n h)
first_stands (faulty k) w n rest s never h = h
