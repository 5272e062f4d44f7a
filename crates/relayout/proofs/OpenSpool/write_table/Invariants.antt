-- `relayout::OpenSpool::write_table` meets its contract: the frames from the number on, written from here, leave what all of them leave.
use Rattle.std.proofs.Common.{◌≡◌, ◌-◌}
use Rattle.layout.specs.HowLaidOut.{starts, walked}
use Rattle.relayout.specs.Relayout.{records_from, records_of}
use Rattle.relayout.proofs.OpenSpool.write_table.Given as goal

abbrev pub invariant-loop-k : goal.invariant-loop-k
invariant-loop-k l =
    let file = l.self.file.now in
    walked l.layout (records_from file (l.self.count - l.k) l.k) l.k (starts l.end l.dst) ≡ walked l.layout (records_of file) 0 (starts l.first l.fn.dst)
