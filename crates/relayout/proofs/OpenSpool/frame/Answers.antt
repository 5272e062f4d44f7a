-- `relayout::OpenSpool::frame` meets its contract.
use Rattle.std.proofs.Common.{ap}
use Rattle.records.specs.declared.StridedRecord.{StridedRecord}
use Rattle.relayout.proofs.Frames.{frame_sound, frame_faulty}
use Rattle.relayout.proofs.OpenSpool.frame.Goals as goal

pub returns-in-Ok : goal.returns-in-Ok
returns-in-Ok c =
    let spool = c.args.self.now in
    let f = frame_sound spool.file.now c.args.k spool.opens (rw spool.counted at c.requires) c.frame_at.ensures c.in-Ok.is in
    (f.0, ap (λ (s : StridedRecord). s.frame) f.1)

pub returns-in-Err : goal.returns-in-Err
returns-in-Err c =
    let spool = c.args.self.now in
    let bad = frame_faulty spool.file.now c.args.k spool.opens (rw spool.counted at c.requires) c.frame_at.ensures c.in-Err.is in
    (rw c.at.ensures bad, rw c.at.ensures)
