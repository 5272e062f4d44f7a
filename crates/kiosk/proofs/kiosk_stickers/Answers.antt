-- `kiosk::kiosk_stickers` meets its contract: what the choice says, case by case.
use Prim.Native.Nat.{◌<◌, ◌^◌}
use mathlib.Core.Path.{sym, ap, ◌∙◌}
use native.Mathlib.Omega.{arith}
use lib.ListN.{length}
use mir.Syntax.{w64}
use mir.ValLaws.{to_z-of_z, to_z_pos}
use Rattle.stickers.specs.Stickers.{chosen_said}
use Rattle.stickers.proofs.Answers.{looked_few}
use Rattle.kiosk.proofs.Giving.{sticks_given, sticks_faulted}
use Rattle.kiosk.proofs.kiosk_stickers.Goals as goal

pub overflow_cast-result : goal.overflow_cast-result
overflow_cast-result c =
    let a = c.args in
    let told = ap chosen_said (sym c.in-Ok.is) ∙ c.choose.ensures.answer in
    record { sfits = omega (arith, looked_few a.src.now a.tints.now a.budget (length a.dst.now) _ told) }

pub returns-in-Ok : goal.returns-in-Ok
returns-in-Ok c =
    let a = c.args in
    let told = ap chosen_said (sym c.in-Ok.is) ∙ c.choose.ensures.answer in
    let few : c.in-Ok.choice.looked < 2 ^ 63 = omega (arith, looked_few a.src.now a.tints.now a.budget (length a.dst.now) _ told) in
    let given =
    sticks_given a.src.now a.tints.now a.budget a.dst.now a.place.now a.four.now a.sums.now _
    told c.choose.ensures.bytes (to_z_pos w64 _ few) in
    record { gives = given.0; four = given.1.0; sums = given.1.1 }

pub returns-in-Err : goal.returns-in-Err
returns-in-Err c =
    let a = c.args in
    let given =
    sticks_faulted a.src.now a.tints.now a.budget a.dst.now a.place.now a.four.now a.sums.now c.in-Err.of_request
    (ap chosen_said (sym c.in-Err.is) ∙ c.choose.ensures.answer) c.choose.ensures.bytes
    (to_z-of_z w64 _ (record { sfits = c.faulted.type_inv }) ∙ c.faulted.ensures.value) c.faulted.ensures.at in
    record { gives = given.0; four = given.1.0; sums = given.1.1 }
