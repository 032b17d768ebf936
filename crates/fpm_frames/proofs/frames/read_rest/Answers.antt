use Rattle.std.proofs.Common.{[], sym, ◌∙◌, ap}
use Rattle.script_lines.proofs.Turns.{gives-none}
use Rattle.fpm_frames.specs.declared.frames.Header.TheVariants as header
use Rattle.fpm_frames.specs.Frames.{frame_header}
use Rattle.fpm_frames.proofs.Reading.{rest-whole, rest-cut, rest-failed, rest-unknown, room-least}
use Rattle.fpm_frames.proofs.frames.read_rest.Goals as goal

pub fill-requires : goal.fill-requires
fill-requires g c = room-least c.as_slice.result.now c.args.frame.now.items c.in-Size.size c.as_slice.ensures.value c.requires (sym c.frame_header.ensures ∙ c.in-Size.is)

pub returns-in-Version-clause-reads : goal.returns-in-Version-clause-reads
returns-in-Version-clause-reads g c =
    ([], gives-none _ _, rest-unknown _ header.Version c.requires (ap frame_header (sym c.as_slice.ensures.value) ∙ sym c.frame_header.ensures ∙ c.in-Version.is) (λ s e. cc))

pub returns-in-Kind-clause-reads : goal.returns-in-Kind-clause-reads
returns-in-Kind-clause-reads g c =
    ([], gives-none _ _, rest-unknown _ header.Kind c.requires (ap frame_header (sym c.as_slice.ensures.value) ∙ sym c.frame_header.ensures ∙ c.in-Kind.is) (λ s e. cc))

pub returns-in-Short-clause-reads : goal.returns-in-Short-clause-reads
returns-in-Short-clause-reads g c =
    ([], gives-none _ _, rest-unknown _ header.Short c.requires (ap frame_header (sym c.as_slice.ensures.value) ∙ sym c.frame_header.ensures ∙ c.in-Short.is) (λ s e. cc))

pub returns-in-Err-clause-reads : goal.returns-in-Err-clause-reads
returns-in-Err-clause-reads g c =
    let x = c.in-Err.ensures.fills in
    let says = ap frame_header (sym c.as_slice.ensures.value) ∙ sym c.frame_header.ensures ∙ c.in-Size.is in
    (x.0, x.1, rest-failed _ c.fill.new.room.items c.in-Size.size x.0 c.requires says _ x.2)

pub returns-then-whole-clause-reads : goal.returns-then-whole-clause-reads
returns-then-whole-clause-reads g c =
    let x = c.in-Ok.ensures.fills in
    let says = ap frame_header (sym c.as_slice.ensures.value) ∙ sym c.frame_header.ensures ∙ c.in-Size.is in
    let by = rw c.if-whole.true at x.2 in
    (x.0, x.1, rest-whole _ _ c.in-Size.size x.0 c.requires says by)

pub returns-clause-reads : goal.returns-clause-reads
returns-clause-reads g c =
    let x = c.in-Ok.ensures.fills in
    let says = ap frame_header (sym c.as_slice.ensures.value) ∙ sym c.frame_header.ensures ∙ c.in-Size.is in
    let by = rw c.if-whole.false at x.2 in
    (x.0, x.1, rest-cut _ _ c.in-Size.size x.0 c.requires says by)
