-- `relayout::OpenSpool::check_frames` meets its contract.
use Rattle.std.proofs.Common.{◌*◌, ◌≤◌, ◌<◌, rules, arith}
use Rattle.records.specs.Pixels.{pixel_bytes}
use Rattle.records.specs.Faults.{frame_limit}
use Rattle.records.proofs.Sizes.{most_pixel_bytes, pixels_small}
use Rattle.spool.proofs.OpenFaults.{open_file}
use Rattle.relayout.proofs.OpenSpool.check_frames.Goals as goal

pub overflow_add-sum : goal.overflow_add-sum
overflow_add-sum c =
    let spool = c.args.self.now in
    let loop = c.loop-k in
    let few = (open_file spool.file.now spool.opens).few in
    let below : loop.k < frame_limit = omega (arith, few, spool.counted, c.loop-k-test.true) in
    let so_far : loop.sum ≤ loop.k * most_pixel_bytes = loop.invariant.0 in
    let one : pixel_bytes c.in_ok-frame.field-0 ≤ most_pixel_bytes = pixels_small c.in_ok-frame.field-0 (search rules) (search rules) in
    omega (arith, below, so_far, one)
