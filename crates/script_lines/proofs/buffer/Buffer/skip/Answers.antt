use Rattle.std.proofs.Common.{ap, ◌∙◌, drop}
use Rattle.script_lines.proofs.Buffers.{range-skip}
use Rattle.script_lines.proofs.buffer.Buffer.skip.Goals as goal

pub returns : goal.returns
returns c = range-skip c.self.inside.array c.self.inside.start c.self.inside.end c.args.n ∙ ap (drop c.args.n) c.self.view_is
