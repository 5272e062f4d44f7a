-- `stickers::choose` meets its contract: an accepted request is searched and written, and a refused one changes nothing.
use Rattle.std.proofs.Common.{◌≡◌, sym, ap, ◌∙◌, arith, length, map}
use Rattle.refusal.specs.Answers.{accepted}
use Rattle.stickers.specs.Choices.{choice_of, tint_of}
use Rattle.stickers.specs.Stickers.{request_says, picture_of}
use Rattle.stickers.proofs.Best.{choice_allowed, found_ascends}
use Rattle.stickers.proofs.Requests.{SoundRequest, request_sound, length_picture}
use Rattle.stickers.proofs.Answers.{accepts}
use Rattle.stickers.proofs.choose.Goals as goal
use Rattle.stickers.proofs.choose.Goals.{In_ok-limit}

-- What an accepted request tells.
says : (c : In_ok-limit) → request_says c.args.src.now c.args.tints.now c.args.budget (length c.args.dst.now) ≡ accepted c.in_ok-limit.limit
says c = sym (c.in_ok-limit.ensures)

sound : (c : In_ok-limit) → SoundRequest c.args.src.now c.args.tints.now c.args.budget (length c.args.dst.now) c.in_ok-limit.limit
sound c = request_sound c.args.src.now c.args.tints.now c.args.budget (length c.args.dst.now) c.in_ok-limit.limit (says c)

pub invariant_of-request : goal.invariant_of-request
invariant_of-request c =
    let r = sound (goal.at.invariant_of-request c).In_ok-limit in
    record { codes = r.picture.codes; few = omega (arith, r.work.few, length_picture c.args.src.now); small = r.work.codes }

pub search-choice-requires : goal.search-choice-requires
search-choice-requires c =
    let work = (sound (goal.at.search-choice-requires c).In_ok-limit).work in
    (work.some, omega (arith, work.limit))

pub of-requires : goal.of-requires
of-requires c =
    found_ascends c.args.tints.now (picture_of c.args.src.now) _ (sound (goal.at.of-requires c).In_ok-limit).work.some _ c.search-choice.ensures

pub write_tints-requires : goal.write_tints-requires
write_tints-requires c =
    (sound (goal.at.write_tints-requires c).In_ok-limit).picture.room-is ∙ ap (λ q. length (picture_of q.src.now)) (sym c.of.ensures.request)

pub returns : goal.returns
returns c =
    let a = c.args in
    let tints = a.tints.now in
    let picture = picture_of a.src.now in
    let work = (sound (goal.at.returns c).In_ok-limit).work in
    let is = c.search-choice.ensures ∙ ap (choice_of tints picture) work.limit ∙ choice_allowed tints picture a.budget in
    let some = work.some in
    let limit = work.limit in
    let palette = c.of.ensures in
    let bytes : c.write_tints.new.dst ≡ map (tint_of tints c.search-choice.result.four) picture =
    c.write_tints.ensures
    ∙ ap (λ q. map (tint_of q.tints.now c.of.result.four) (picture_of q.src.now)) palette.request
    ∙ ap (λ f. map (tint_of tints f) picture) palette.four in
    let meets = accepts a.src.now tints a.budget (length a.dst.now) _ _ a.dst.now _ (says (goal.at.returns c).In_ok-limit) (omega arith) is bytes in
    record { answer = meets.0; bytes = meets.1.0; promise = meets.1.1 }
