-- `linear::moved::through_light` meets its contract: lengths that do not fit leave all as it was, and where nothing is refused there are codes
-- to light, the moves, and light to codes.
use mathlib.Core.Path.{refl, sym, ◌∙◌}
use Rattle.refusal.proofs.Verdicts.{or_accepted}
use Rattle.linear.proofs.Through.{comes_back_told}
use Rattle.linear.proofs.moved.through_light.Goals as goal

pub returns : goal.returns
returns c =
    let a = c.args in
    let fits = (or_accepted _ _ _ (sym c.in_ok-count_through.ensures)).0 in
    let there = c.in_ok-code_to_light.ensures in
    let again = c.light_to_code.ensures in
    comes_back_told a.depth a.codes.now a.moves.now a.light.now a.back.now fits
    _ there.answer _ refl (λ i. (c.type_inv.codes i).fits) _ _ _ there.numbers c.add_moves.ensures
    (c.add_moves.auto.light ∙ c.code_to_light.auto.dst) again.bytes _ again.answer
