use Rattle.std.proofs.Common.{◌<◌, ◌≤◌, take, length, arith, ◌∙◌, length-take}
use Rattle.script_lines.proofs.Buffers.{range-read, range-same}
use Rattle.script_lines.proofs.buffer.Buffer.fill.Goals as goal

pub returns-in-Ok-clause-ok : goal.returns-in-Ok-clause-ok
returns-in-Ok-clause-ok g c =
    let m = c.make_room in
    let x = c.in-Ok.ensures in
    let read = take c.in-Ok.n c.read.new.into in
    let some : 0 < length c.read.new.into = omega (arith, c.read.auto.into, m.ensures.room) in
    let there : m.new.end ≤ length m.new.array = omega (arith, m.ensures.room, m.ensures.len) in
    record {
      got = read;
      grown = range-read m.new.array c.read.new.into c.args.self.now m.new.start m.new.end _ c.in-Ok.n m.ensures.order there x.count (m.ensures.same ∙ c.self.view_is);
      count = simp length-take (omega (arith, x.count));
      taken = x.bytes.0;
      given = x.given some;
      end = λ none. x.bytes.1 none some;
    }

pub returns-in-Err-clause-err : goal.returns-in-Err-clause-err
returns-in-Err-clause-err g c =
    let m = c.make_room in
    let there : m.new.end ≤ length m.new.array = omega (arith, m.ensures.room, m.ensures.len) in
    range-same m.new.array c.read.new.into m.new.start m.new.end _ there ∙ m.ensures.same ∙ c.self.view_is

pub returns-in-Err-clause-given_err : goal.returns-in-Err-clause-given_err
returns-in-Err-clause-given_err g c =
    let m = c.make_room in
    let some : 0 < length c.read.new.into = omega (arith, c.read.auto.into, m.ensures.room) in
    c.in-Err.ensures.given some
