-- `samples::judge` meets its contract: no sample can be at fault, the quick look decides, or the search does.
use mathlib.Core.Bool.{false}
use native.Mathlib.Omega.{arith}
use mathlib.Core.Path.{◌≡◌, sym, ◌∙◌}
use Rattle.refusal.specs.Answers.{accepted}
use Rattle.samples.specs.Samples.{two_by_two}
use Rattle.samples.proofs.Judging.{within-sound, none_above, two_below}
use Rattle.samples.proofs.judge.Goals as goal

pub returns-then-not-chroma : goal.returns-then-not-chroma
returns-then-not-chroma c =
    let words = two_by_two c.args.src.now in
    let codes : c.args.chroma ≡ false = c.if-not-chroma.true in
    let greatest : c.args.greatest ≡ 65535 = omega arith in
    sym
    (rw (codes, greatest)
    (none_above 65535 (accepted c.args.pixels) 0 words (two_below c.args.src.now (λ i. (c.type_inv.src i).fits))))

pub returns-then-looks_sound : goal.returns-then-looks_sound
returns-then-looks_sound c =
    let a = c.args in
    sym (within-sound a.chroma a.greatest (accepted a.pixels) 0 (two_by_two a.src.now) (sym c.looks_sound.ensures ∙ c.if-looks_sound.true))
