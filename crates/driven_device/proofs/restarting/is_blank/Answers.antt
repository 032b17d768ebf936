use Rattle.std.proofs.Common.{◌≡◌, ℕ, ◌+◌, ◌<◌, List, length, sym, ap, ◌∙◌, arith, replicate, take, true, false, refl}
use Rattle.std.specs.Prelude.{slice_index}
use Rattle.std.proofs.lemmas.Grind.{replicate_next}
use Rattle.std.proofs.lemmas.List.{get_or-replicate}
use Rattle.tcam_device.specs.State.{blank_table, replay, table_of}
use Rattle.tcam_device.proofs.Kept.{blank_table-is}
use Rattle.tcam_device.specs.View.{journal}
use Rattle.commit_writes.proofs.ReadBack.{table_size, next_word, all_words}
use Rattle.driven_device.proofs.restarting.is_blank.Goals as goal

-- one more word is 0
next_blank : (table : List ℕ) (i word : ℕ) → i < length table → word ≡ slice_index table i → word ≡ 0 → replicate i 0 ≡ take i table
    → replicate (i + 1) 0 ≡ take (i + 1) table
next_blank table i word inside read zero first =
    next_word table (replicate i 0) (replicate (i + 1) 0) i 0 inside (sym zero ∙ read) first (replicate_next i 0)

-- each word of a blank table is 0
word_of_blank : (table : List ℕ) (port word : ℕ) → port < 65536 → word ≡ slice_index table port → table ≡ blank_table → word ≡ 0
word_of_blank table port word inside read blank =
    read ∙ ap (λ (t : List ℕ). slice_index t port) (blank ∙ blank_table-is) ∙ get_or-replicate 65536 port 0 0 inside

pub loop-port-preserved : goal.loop-port-preserved
loop-port-preserved g c =
    let slots = (g.D.Writable.view c.args.device.now).slots in
    let writes = journal (g.D.Writable.view c.args.device.now) in
    let table = table_of c.args.field (replay slots writes) in
    let size = table_size c.args.field slots writes in
    let inside = c.loop-port-test.true in
    next_blank table c.loop-port.port c.read_word.result (omega arith) c.read_word.ensures c.if-read_word-ne0.false c.loop-port.invariant

pub returns-then-read_word-ne0 : goal.returns-then-read_word-ne0
returns-then-read_word-ne0 g c =
    let slots = (g.D.Writable.view c.args.device.now).slots in
    let writes = journal (g.D.Writable.view c.args.device.now) in
    let table = table_of c.args.field (replay slots writes) in
    let word = word_of_blank table c.loop-port.port c.read_word.result c.loop-port-test.true c.read_word.ensures in
    ((λ whole. absurd (let clash : false ≡ true = whole in cc)), (λ blank. absurd (c.if-read_word-ne0.true (word blank))))

pub returns : goal.returns
returns g c =
    let slots = (g.D.Writable.view c.args.device.now).slots in
    let writes = journal (g.D.Writable.view c.args.device.now) in
    let table = table_of c.args.field (replay slots writes) in
    let size = table_size c.args.field slots writes in
    let past = c.loop-port-test.false in
    let port = c.loop-port.port in
    let end = c.loop-port.auto.port-end in
    let all : port ≡ 65536 = omega arith in (
      (λ whole. sym (all_words table (replicate port 0) port (omega arith) c.loop-port.invariant)
          ∙ ap (λ (n : ℕ). replicate n 0) all ∙ sym blank_table-is),
      (λ blank. refl),
    )
