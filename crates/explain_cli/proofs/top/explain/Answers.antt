use Rattle.std.proofs.Common.{[], map, string_bytes}
use Rattle.script_lines.proofs.Turns.{gives-none}
use Rattle.explain.proofs.Counts.{not-counted}
use Rattle.explain_cli.proofs.Named.{read-own}
use Rattle.explain_cli.proofs.Told.{ends-unread, memory-answers, never-help, never-router, other-answers, script-answers, wrong-answers}
use Rattle.explain_cli.proofs.top.explain.Goals as goal

-- ---- what is answered

pub returns-in-Ok-Script-clause-right : goal.returns-in-Ok-Script-clause-right
returns-in-Ok-Script-clause-right g c = λ table.
    let h = c.in-Ok-Script in
    let reads = read-own _ (map string_bytes c.args.words.now) h.field-0 c.own_words-own.ensures h.ensures table in
    let right = c.explain_script.ensures.right in
    (right.0, right.1, λ text after may. script-answers _ h.field-0 h.wanted text after _ h.field-0-is reads (right.2 text after may))

pub returns-in-Ok-Router-clause-right : goal.returns-in-Ok-Router-clause-right
returns-in-Ok-Router-clause-right g c = λ table.
    let h = c.in-Ok-Router in
    let reads = read-own _ (map string_bytes c.args.words.now) h.field-0 c.own_words-own.ensures h.ensures table in
    absurd (never-router _ h.field-0 h.wanted h.field-0-is reads)

pub returns-in-Ok-Help-clause-right : goal.returns-in-Ok-Help-clause-right
returns-in-Ok-Help-clause-right g c = λ table.
    let h = c.in-Ok-Help in
    let reads = read-own _ (map string_bytes c.args.words.now) h.field-0 c.own_words-own.ensures h.ensures table in
    absurd (never-help _ h.field-0 h.field-0-is reads)

pub returns-in-Ok-Other-clause-right : goal.returns-in-Ok-Other-clause-right
returns-in-Ok-Other-clause-right g c = λ table.
    let h = c.in-Ok-Other in
    let reads = read-own _ (map string_bytes c.args.words.now) h.field-0 c.own_words-own.ensures h.ensures table in
    ([], gives-none _ _, λ text after may. other-answers _ h.field-0 text after _ h.field-0-is reads c.tell-in-Ok-Other.ensures.kind)

pub returns-in-Ok-Wrong-clause-right : goal.returns-in-Ok-Wrong-clause-right
returns-in-Ok-Wrong-clause-right g c = λ table.
    let h = c.in-Ok-Wrong in
    let reads = read-own _ (map string_bytes c.args.words.now) h.field-0 c.own_words-own.ensures h.ensures table in
    ([], gives-none _ _, λ text after may. wrong-answers _ h.field-0 text after _ h.field-0-is reads c.tell_wrong.ensures.kind)

pub returns-in-Err-clause-right : goal.returns-in-Err-clause-right
returns-in-Err-clause-right g c = λ table. ([], gives-none _ _, λ text after may. memory-answers _ text after)

-- ---- failures

pub returns-in-Ok-Help-clause-read : goal.returns-in-Ok-Help-clause-read
returns-in-Ok-Help-clause-read g c = not-counted _ _ (ends-unread _ _ (λ e. cc) c.tell.ensures.kind)

pub returns-in-Ok-Other-clause-read : goal.returns-in-Ok-Other-clause-read
returns-in-Ok-Other-clause-read g c = not-counted _ _ (ends-unread _ _ (λ e. cc) c.tell-in-Ok-Other.ensures.kind)

pub returns-in-Ok-Wrong-clause-read : goal.returns-in-Ok-Wrong-clause-read
returns-in-Ok-Wrong-clause-read g c = not-counted _ _ (ends-unread _ _ (λ e. cc) c.tell_wrong.ensures.kind)

pub returns-in-Err-clause-read : goal.returns-in-Err-clause-read
returns-in-Err-clause-read g c = not-counted _ _ (λ e. cc)

pub returns-in-Err-clause-write : goal.returns-in-Err-clause-write
returns-in-Err-clause-write g c = not-counted _ _ (λ e. cc)
