use Rattle.std.proofs.Common.{Ok, inl, inr, refl, sym, ◌∙◌, ap, take}
use Rattle.std.specs.List.{concat}
use Rattle.script_lines.specs.Reader.{HeldBytes}
use Rattle.script_lines.proofs.Hands.{by-given, gives-pieces, hands-read, hands-last, hands-fault, hands-whole, follows-whole, follows-last, follows-fault}
use Rattle.script_lines.proofs.reader.Lines.next.Goals as goal

pub returns-in-Fault-clause-hands : goal.returns-in-Fault-clause-hands
returns-in-Fault-clause-hands g c = λ going left after el ea.
    let x = c.in-Ok.ensures in
    let took = rw ea at (rw el at x.grown.2) in
    let stops = rw c.in-Fault.is at x.stops in
    hands-fault _ _ _ left after c.gather.new.buffer c.gather.new.scanned c.in-Fault.fault c.self.view_is
    (record { got = x.grown.0; grown = x.grown.1; taken = took; scan = x.scan }) stops

pub returns-in-Fault-clause-lines : goal.returns-in-Fault-clause-lines
returns-in-Fault-clause-lines g c = λ going left after el ea.
    let x = c.in-Ok.ensures in
    let took = rw ea at (rw el at x.grown.2) in
    let stops = rw c.in-Fault.is at x.stops in
    follows-fault _ _ _ left after c.gather.new.buffer c.gather.new.scanned c.in-Fault.fault c.self.view_is
    (record { got = x.grown.0; grown = x.grown.1; taken = took; scan = x.scan }) stops

pub returns-in-LineFeed-clause-hands : goal.returns-in-LineFeed-clause-hands
returns-in-LineFeed-clause-hands g c = λ going left after el ea.
    let x = c.in-Ok.ensures in
    let took = rw ea at (rw el at x.grown.2) in
    let stops = rw c.in-LineFeed.is at x.stops in
    let line = c.line_of-line.ensures in
    let text = line.text ∙ ap (take c.gather.new.scanned) c.bytes.ensures in
    let still = ap (λ (h : HeldBytes). h.over) c.self.view_is ∙ going in
    inl (hands-whole _ _ _ left after c.gather.new.buffer c.gather.new.scanned _ c.self.view_is
    (record { got = x.grown.0; grown = x.grown.1; taken = took; scan = x.scan }) stops
    (record { text = text; number = line.number; pending = c.skip.ensures; before = refl; number_new = refl; going = still }))

pub returns-in-LineFeed-clause-lines : goal.returns-in-LineFeed-clause-lines
returns-in-LineFeed-clause-lines g c = λ going left after el ea.
    let x = c.in-Ok.ensures in
    let took = rw ea at (rw el at x.grown.2) in
    let stops = rw c.in-LineFeed.is at x.stops in
    let line = c.line_of-line.ensures in
    let text = line.text ∙ ap (take c.gather.new.scanned) c.bytes.ensures in
    let still = ap (λ (h : HeldBytes). h.over) c.self.view_is ∙ going in
    follows-whole _ _ left after _ (hands-whole _ _ _ left after c.gather.new.buffer c.gather.new.scanned _ c.self.view_is
    (record { got = x.grown.0; grown = x.grown.1; taken = took; scan = x.scan }) stops
    (record { text = text; number = line.number; pending = c.skip.ensures; before = refl; number_new = refl; going = still }))

pub returns-else-self-eq0-clause-lines : goal.returns-else-self-eq0-clause-lines
returns-else-self-eq0-clause-lines g c = λ going left after el ea.
    let x = c.in-Ok.ensures in
    let took = rw ea at (rw el at x.grown.2) in
    let used = rw c.in-Open.is at x.stops in
    let none = rw ea at (x.end (ap Ok c.in-Open.is)) in
    let line = c.line_of-line-in-Open.ensures in
    let text = line.text ∙ ap (take c.gather.new.scanned) c.bytes-in-Open.ensures in
    follows-last _ _ left after c.gather.new.buffer c.gather.new.scanned _ _ _ _ c.self.view_is
    (record { got = x.grown.0; grown = x.grown.1; taken = took; scan = x.scan }) used none c.if-self-eq0.false text line.number (c.skip-in-Open.ensures ∙ used)

pub returns-in-Err-clause-gives : goal.returns-in-Err-clause-gives
returns-in-Err-clause-gives g c =
    let x = c.in-Err.ensures in
    let still = c.in-Going.is in
    let going = sym (ap (λ (h : HeldBytes). h.over) c.self.view_is) ∙ still in (
      x.gives.0,
      gives-pieces _ _ _ _ _ _ _ _ x.gives.1 (λ e. let bad = x.gives.2 e in absurd (cc)),
      by-given _ _ _ _ _ _ _ _ _ _ c.self.view_is x.gives.1 going (λ left after may.
          hands-read _ _ _ left after c.gather.new.buffer c.gather.new.scanned c.self.view_is
          (record { got = concat x.gives.0; grown = x.gives.1.grown; taken = may.bytes; scan = x.scan }) x.all_err refl still)
          (λ e. let bad = x.gives.2 e in absurd (cc)),
    )

pub returns-in-Fault-clause-gives : goal.returns-in-Fault-clause-gives
returns-in-Fault-clause-gives g c =
    let x = c.in-Ok.ensures in
    let stops = rw c.in-Fault.is at x.stops in
    let going = sym (ap (λ (h : HeldBytes). h.over) c.self.view_is) ∙ c.in-Going.is in (
      x.gives.0,
      gives-pieces _ _ _ _ _ _ _ _ x.gives.1 (λ e. x.end (x.gives.2 e)),
      by-given _ _ _ _ _ _ _ _ _ _ c.self.view_is x.gives.1 going (λ left after may.
          hands-fault _ _ _ left after c.gather.new.buffer c.gather.new.scanned c.in-Fault.fault c.self.view_is
          (record { got = concat x.gives.0; grown = x.gives.1.grown; taken = may.bytes; scan = x.scan }) stops)
          (λ e. let bad = rw c.in-Fault.is at (x.gives.2 e) in absurd (cc)),
    )

pub returns-in-LineFeed-clause-gives : goal.returns-in-LineFeed-clause-gives
returns-in-LineFeed-clause-gives g c =
    let x = c.in-Ok.ensures in
    let stops = rw c.in-LineFeed.is at x.stops in
    let line = c.line_of-line.ensures in
    let text = line.text ∙ ap (take c.gather.new.scanned) c.bytes.ensures in
    let still = c.in-Going.is in
    let going = sym (ap (λ (h : HeldBytes). h.over) c.self.view_is) ∙ still in (
      x.gives.0,
      gives-pieces _ _ _ _ _ _ _ _ x.gives.1 (λ e. x.end (x.gives.2 e)),
      by-given _ _ _ _ _ _ _ _ _ _ c.self.view_is x.gives.1 going (λ left after may.
          inl (hands-whole _ _ _ left after c.gather.new.buffer c.gather.new.scanned _ c.self.view_is
          (record { got = concat x.gives.0; grown = x.gives.1.grown; taken = may.bytes; scan = x.scan }) stops
          (record { text = text; number = line.number; pending = c.skip.ensures; before = refl; number_new = refl; going = still })))
          (λ e. let bad = rw c.in-LineFeed.is at (x.gives.2 e) in absurd (cc)),
    )

pub returns-else-self-eq0-clause-gives : goal.returns-else-self-eq0-clause-gives
returns-else-self-eq0-clause-gives g c =
    let x = c.in-Ok.ensures in
    let used = rw c.in-Open.is at x.stops in
    let line = c.line_of-line-in-Open.ensures in
    let text = line.text ∙ ap (take c.gather.new.scanned) c.bytes-in-Open.ensures in
    let going = sym (ap (λ (h : HeldBytes). h.over) c.self.view_is) ∙ c.in-Going.is in (
      x.gives.0,
      gives-pieces _ _ _ _ _ _ _ _ x.gives.1 (λ e. x.end (x.gives.2 e)),
      by-given _ _ _ _ _ _ _ _ _ _ c.self.view_is x.gives.1 going (λ left after may.
          inr (hands-last _ _ _ left after c.gather.new.buffer c.gather.new.scanned _ c.self.view_is
          (record { got = concat x.gives.0; grown = x.gives.1.grown; taken = may.bytes; scan = x.scan }) used (may.end (x.gives.3 (ap Ok c.in-Open.is))) c.if-self-eq0.false
          text line.number (c.skip-in-Open.ensures ∙ used) refl))
          (λ e. refl),
    )
