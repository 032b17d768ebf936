use Rattle.std.proofs.Common.{◌<◌, ◌++◌, ◌∷◌, [], length, take, refl, sym, ◌∙◌, arith}
use Rattle.json_routes.proofs.Texts.{put-ok, read-more, read-whole}
use Rattle.json_routes.proofs.top.read_all.Goals as goal

pub returns-then-read-eq0-clause-reads : goal.returns-then-read-eq0-clause-reads
returns-then-read-eq0-clause-reads g c =
    let i = c.loop-left.invariant in
    let x = c.in-Ok.ensures in
    let some : 0 < length c.read.new.into = omega (arith, c.read.auto.into) in
    let got = read-whole _ _ _ _ _ _ _ c.read.new.into c.in-Ok.read i.read c.if-read-eq0.true (x.given some) x.bytes.0 (x.bytes.1 c.if-read-eq0.true some) in
    (i.read.pieces ++ take c.in-Ok.read c.read.new.into ∷ [], got.0, got.1)

pub returns-then-is_err-clause-reads : goal.returns-then-is_err-clause-reads
returns-then-is_err-clause-reads g c =
    let i = c.loop-left.invariant in
    let x = c.in-Ok.ensures in
    let some : 0 < length c.read.new.into = omega (arith, c.read.auto.into) in
    let more = read-more _ _ _ _ _ _ c.loop-left.text.items (c.loop-left.text.items ++ take c.in-Ok.read c.read.new.into) c.read.new.into c.in-Ok.read i.read x.count c.if-read-eq0.false (x.given some) x.bytes.0 refl in
    (more.pieces, more.gives, tt)

pub loop-left-preserved : goal.loop-left-preserved
loop-left-preserved g c =
    let i = c.loop-left.invariant in
    let x = c.in-Ok.ensures in
    let some : 0 < length c.read.new.into = omega (arith, c.read.auto.into) in
    record {
      read = read-more _ _ _ _ _ _ _ _ c.read.new.into c.in-Ok.read i.read x.count c.if-read-eq0.false (x.given some) x.bytes.0
          (put-ok c.extend_from_slice.result c.extend_from_slice.new.self.items c.loop-left.text.items (take c.in-Ok.read c.read.new.into) c.extend_from_slice.ensures.items (sym c.if-is_err.ensures.value));
      faults = x.cause.stayed ∙ i.faults;
    }
