-- What has been refused before the header stays so.
-- Assumes nothing.
use Prim.Native.Nat.{ℕ}
use mathlib.Core.Path.{◌≡◌, refl}
use mathlib.Core.List.{List}
use Rattle.std.specs.Prelude.{Option, None, Some}
use Rattle.refusal.specs.declared.Fault.{Fault}
use Rattle.refusal.specs.Refusals.{number_of}
use Rattle.refusal.specs.Answers.{at_place, fault_said}
use Rattle.records.specs.declared.Layout.{Layout}
use Rattle.layout.specs.HowLaidOut.{stopped, begun}

stopped_there : (l : Layout) (count shop n : ℕ) (place : Option ℕ) (d : List ℕ) → begun l count shop (at_place n place) d ≡ stopped (at_place n place) d
stopped_there l count shop n None d = refl
stopped_there l count shop n (Some at) d = refl

pub begun_stopped : (l : Layout) (count shop : ℕ) (f : Fault) (d : List ℕ) → begun l count shop (fault_said f) d ≡ stopped (fault_said f) d
begun_stopped l count shop f d = stopped_there l count shop (number_of f.refusal) f.place d
