use Rattle.std.proofs.Common.{arith}
use Rattle.script_lines.proofs.reader.Lines.begin_anew.Goals as goal

pub invariant_of-self : goal.invariant_of-self
invariant_of-self c =
    let is = c.self.invariant in
    let fits = is.scan.one_line.fits in
    record {
      scan = record { one_line = record { plain = is.scan.one_line.plain; fits = fits; within = omega (arith, fits) }; there = is.scan.there };
      lines = omega arith;
      sound = is.sound;
    }
