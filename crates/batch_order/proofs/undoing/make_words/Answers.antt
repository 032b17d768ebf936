use Rattle.std.proofs.Common.{◌≡◌, ◌+◌, [], ◌∷◌, ◌++◌, IsTrue, List, length, take, ap, sym, subst, arith, ◌∙◌}
use Rattle.std.specs.List.{AllByRecursion}
use Rattle.std.proofs.lemmas.List.{length-append, take_all}
use Rattle.std.proofs.lemmas.List.Sums.{fold-append}
use Rattle.slot_order.proofs.Lists.{all_append}
use Rattle.tcam_device.specs.declared.Write.{Write}
use Rattle.tcam_device.specs.Insertion.{is_table_write}
use Rattle.tcam_device.specs.State.{apply, state_after}
use Rattle.commit_writes.specs.Undo.{restoring, restorings}
use Rattle.commit_writes.proofs.Walked.{take_next}
use Rattle.batch_order.proofs.back.Restored.{restorings-more}
use Rattle.batch_order.proofs.undoing.make_words.Goals as goal

pub loop-word-preserved : goal.loop-word-preserved
loop-word-preserved c =
    let was = c.loop-word.invariant in
    let begun = c.args.tables.now in
    let one : Write = c.word-item.result in
    let some : List Write = take c.loop-word.word-index c.args.words.now in
    let more : take (c.loop-word.word-index + 1) c.args.words.now ≡ some ++ one ∷ [] = take_next c.args.words.now c.loop-word.word-index one (omega arith) (sym c.word-item.is) in
    record {
      made = c.replace.ensures.set ∙ (ap (λ now. apply now one) was.made ∙ sym (ap (state_after begun) more ∙ fold-append apply begun some (one ∷ [])));
      noted = c.push_reserved.ensures.items ∙ (ap (λ (undo : List Write). undo ++ c.replace.result ∷ []) was.noted
          ∙ (ap (λ (word : Write). restorings begun some ++ word ∷ []) (c.replace.ensures.before ∙ ap (λ now. restoring now one) was.made)
          ∙ sym (ap (restorings begun) more ∙ restorings-more begun some one)));
      to_tables = subst (AllByRecursion (λ word. IsTrue (is_table_write word))) (sym more)
          (all_append (λ word. IsTrue (is_table_write word)) some (one ∷ []) was.to_tables (c.replace.ensures.is_word, tt));
      number = ap length c.push_reserved.ensures.items ∙ length-append c.loop-word.undo.items (c.replace.result ∷ []) ∙ ap (λ n. n + 1) was.number;
      room = (let kept = c.push_reserved.ensures.capacity in let room = was.room in omega arith);
    }

pub returns : goal.returns
returns c =
    let was = c.loop-word.invariant in
    let all = take_all c.loop-word.word-index c.args.words.now c.loop-word-test.false in
    record {
      made = was.made ∙ ap (state_after c.args.tables.now) all;
      noted = was.noted ∙ ap (restorings c.args.tables.now) all;
      to_tables = subst (AllByRecursion (λ word. IsTrue (is_table_write word))) all was.to_tables;
    }
