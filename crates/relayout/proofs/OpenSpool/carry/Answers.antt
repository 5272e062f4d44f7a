-- `relayout::OpenSpool::carry` meets its contract.
use Rattle.std.proofs.Common.{subst, ap, ◌∙◌, rules}
use Rattle.records.specs.Layout.{other_layout}
use Rattle.layout.proofs.Passes.{passed_on}
use Rattle.relayout.proofs.Carrying.{Refuses, fault_refuses, refused_by_check, goes, room_for, each-sound, accepts, done}
use Rattle.relayout.proofs.OpenSpool.carry.Goals as goal

pub returns-in_err-first : goal.returns-in_err-first
returns-in_err-first c =
    let spool = c.args.self.now in
    let to = c.other_layout-layout.ensures ∙ ap other_layout c.layout_of.ensures in
    let ends = refused_by_check spool.file.now c.args.dst.now spool.opens c.in_err-first.field-0.0 spool.counted spool.owned to c.check_frames-checked.ensures c.in_err-first.ensures in
    record { answer = rw (passed_on c.from_residual.result c.from_residual.ensures.1) ends.0; bytes = ends.1 }

pub write_table-requires : goal.write_table-requires
write_table-requires c =
    let spool = c.args.self.now in
    let to = c.other_layout-layout.ensures ∙ ap other_layout c.layout_of.ensures in
    let g = goes spool.file.now c.args.dst.now spool.opens spool.counted spool.owned to c.check_frames-checked.ensures c.in_ok-first.ensures in
    record { frames_sound = λ k below. each-sound spool.file.now c.args.dst.now spool.opens g k (rw spool.counted at below) }

pub returns-in_err-total : goal.returns-in_err-total
returns-in_err-total c =
    let spool = c.args.self.now in
    let to = c.other_layout-layout.ensures ∙ ap other_layout c.layout_of.ensures in
    let g = goes spool.file.now c.args.dst.now spool.opens spool.counted spool.owned to c.check_frames-checked.ensures c.in_ok-first.ensures in
    absurd (subst Refuses (accepts spool.file.now c.args.dst.now spool.opens g to c.in_err-total.ensures) (fault_refuses c.in_err-total.field-0.0))

pub copy_pixels-requires : goal.copy_pixels-requires
copy_pixels-requires c =
    let spool = c.args.self.now in
    let to = c.other_layout-layout.ensures ∙ ap other_layout c.layout_of.ensures in
    let g = goes spool.file.now c.args.dst.now spool.opens spool.counted spool.owned to c.check_frames-checked.ensures c.in_ok-first.ensures in
    record { pixels_fit = room_for spool.file.now c.args.dst.now spool.opens g c.write_table.new.dst (search rules) }

pub returns : goal.returns
returns c =
    let spool = c.args.self.now in
    let to = c.other_layout-layout.ensures ∙ ap other_layout c.layout_of.ensures in
    let g = goes spool.file.now c.args.dst.now spool.opens spool.counted spool.owned to c.check_frames-checked.ensures c.in_ok-first.ensures in
    let ends = done spool.file.now c.args.dst.now spool.opens g to c.in_ok-total.ensures c.copy_pixels.ensures in
    record { answer = ends.0; bytes = ends.1 }
