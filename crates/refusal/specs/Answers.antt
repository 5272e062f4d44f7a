-- What an answer says, in the numbers of the rules, and what it leaves in the destination (rules 4.4 and 4.5).
-- Assumes nothing.
use Rattle.std.specs.Prelude.{ℕ, Option, None, Some, Result, Ok, Err}
use Rattle.refusal.specs.declared.Refusal.{Refusal}
use Rattle.refusal.specs.declared.Fault.{Fault}
use Rattle.refusal.specs.Refusals.{number_of}

-- What a check finds: nothing wrong, or a refusal by its number; and the first fault of two checks.
pub data Verdict : Type 0 where
  sound : Verdict
  faulty : ℕ → Verdict

abbrev pub verdict : {A : Type 0} → Result A Refusal → Verdict
verdict (Ok x) = sound
verdict (Err r) = faulty (number_of r)

abbrev pub or_else : Verdict → Verdict → Verdict
or_else sound next = next
or_else (faulty number) next = faulty number

-- Accepted, with what the operation gives; refused, with the number; refused, with the number and the place.
pub data Said : Type 0 where
  accepted : ℕ → Said
  refused : ℕ → Said
  refused_at : ℕ → ℕ → Said

-- A fault that has no place, and one at a place; and what a fault says.
abbrev pub nowhere : Refusal → Fault
nowhere r = record { refusal = r; place = None }

abbrev pub somewhere : Refusal → ℕ → Fault
somewhere r at = record { refusal = r; place = Some at }

abbrev pub at_place : ℕ → Option ℕ → Said
at_place number None = refused number
at_place number (Some at) = refused_at number at

abbrev pub fault_said : Fault → Said
fault_said f = at_place (number_of f.refusal) f.place

-- What an answer says that gives a number, and one that gives something of which a number is told.
abbrev pub said_by : {A : Type 0} → (A → ℕ) → Result A Fault → Said
said_by told (Ok x) = accepted (told x)
said_by told (Err f) = fault_said f

abbrev pub Answer : Type 0
Answer = Result ℕ Fault

abbrev pub said : Answer → Said
said answer = said_by (λ n. n) answer

-- What is said of something at a place: its fault and the place, or what the rest says.
abbrev pub decides : Verdict → ℕ → Said → Said
decides sound at rest = rest
decides (faulty number) at rest = refused_at number at

-- The same of something that has no place.
abbrev pub refuses_or : Verdict → Said → Said
refuses_or sound rest = rest
refuses_or (faulty number) rest = refused number

-- What is said of two things that are looked at one after the other: of the second only if the first is accepted.
abbrev pub and_then : Said → Said → Said
and_then (accepted n) next = next
and_then (refused k) next = refused k
and_then (refused_at k at) next = refused_at k at

-- What a destination, or a number beside it, holds afterwards: what the operation writes if it accepts, and what was there if it refuses.
abbrev pub leaves : {A : Type 0} → Said → A → A → A
leaves (accepted n) new old = new
leaves (refused k) new old = old
leaves (refused_at k at) new old = old
