use Rattle.std.proofs.Common.{ap, length, ◌++◌, arith}
use Rattle.script_lines.proofs.Pieces.{none-of}
use Rattle.fpm_frames.proofs.Reading.{four-first, reads-end, reads-cut, reads-failed, reads-all, gives-more}
use Rattle.fpm_frames.proofs.frames.read_frame.Goals as goal

pub read_rest-requires : goal.read_rest-requires
read_rest-requires g c = let by = rw (c.if-whole.true, c.clear.ensures.items) at c.in-Ok.ensures.fills.2 in four-first _ c.in-Ok.ensures.fills.0 by

pub returns-in-Err-clause-reads : goal.returns-in-Err-clause-reads
returns-in-Err-clause-reads g c =
    let x = c.in-Err.ensures.fills in
    (x.0, x.1, reads-failed c.fill.new.room.items c.clear.new.self.items x.0 _ c.clear.ensures.items x.2)

pub returns-then-whole-clause-reads : goal.returns-then-whole-clause-reads
returns-then-whole-clause-reads g c =
    let x = c.in-Ok.ensures.fills in
    let by = rw (c.if-whole.true, c.clear.ensures.items) at x.2 in
    let y = c.read_rest.ensures.reads in
    (x.0 ++ y.0, gives-more _ _ _ _ _ _ x.0 y.0 x.1 by.2 y.1, reads-all _ _ x.0 y.0 _ by y.2)

pub returns-then-held-eq0-clause-reads : goal.returns-then-held-eq0-clause-reads
returns-then-held-eq0-clause-reads g c =
    let x = c.in-Ok.ensures.fills in
    let by = rw (c.if-whole.false, c.clear.ensures.items) at x.2 in
    (x.0, x.1, reads-end c.fill.new.room.items x.0 by (none-of c.fill.new.room.items (omega (arith, c.len-held.ensures, c.if-held-eq0.true, c.fill.new.room.ok.0))))

pub returns-clause-reads : goal.returns-clause-reads
returns-clause-reads g c =
    let x = c.in-Ok.ensures.fills in
    let by = rw (c.if-whole.false, c.clear.ensures.items) at x.2 in
    (x.0, x.1, reads-cut c.fill.new.room.items x.0 by (λ e. (let none = ap length e in c.if-held-eq0.false (omega (arith, none, c.len-held.ensures, c.fill.new.room.ok.0)))))
