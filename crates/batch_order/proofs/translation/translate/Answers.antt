use Rattle.std.proofs.Common.{◌≡◌, List, Option, Some, None, refl, sym, ◌∙◌}
use Rattle.rule_model.specs.declared.Rule.{Rule}
use Rattle.tcam_device.specs.declared.Write.{Write}
use Rattle.tcam_device.specs.State.{State, state_after}
use Rattle.commit_writes.specs.Bits.{FieldBits, bits_left}
use Rattle.batch_order.specs.declared.translation.Translation.{Translation}
use Rattle.batch_order.specs.Kept.{translated_by}
use Rattle.batch_order.specs.Planning.{all_writes, as_writes}
use Rattle.batch_order.proofs.translation.translate.Goals as goal
use Rattle.batch_order.proofs.translation.translate.Goals.{in-Some-Some, in-Some+in-None-1, in-None-1}

-- by bits with a commit's bits
with_bits : (translation : Option Translation) (bits : Option FieldBits) (rules : List Rule) (writes : List Write) (kept : Translation) (during left : FieldBits) (tables : State) → translation ≡ Some kept → bits ≡ Some during
    → left ≡ bits_left rules during → tables ≡ state_after kept.tables writes → translated_by translation bits rules writes ≡ Some (record { bits = left; tables = tables })
with_bits translation bits rules writes kept during left tables by_bits given leaves sets = rw (by_bits, given, leaves, sets) refl

-- by bits with none
without_bits : (translation : Option Translation) (bits : Option FieldBits) (rules : List Rule) (writes : List Write) (kept : Translation) → translation ≡ Some kept → bits ≡ None
    → translated_by translation bits rules writes ≡ Some kept
without_bits translation bits rules writes kept by_bits none = rw (by_bits, none) refl

-- by covers
by_covers : (translation : Option Translation) (bits : Option FieldBits) (rules : List Rule) (writes : List Write) → translation ≡ None → translated_by translation bits rules writes ≡ translation
by_covers translation bits rules writes none = rw none refl

pub returns : goal.returns
returns c = λ entries rewrites.
    let old = c.args.translation.now in
    let bits = c.args.bits.now in
    let rules = c.args.rules.now.rules in
    let writes = as_writes entries rewrites (all_writes c.args.writes.now) in
    elim c.match-translation.branch [
      | in-Some-Some w ↦ w.translation-is ∙ sym (with_bits old bits rules writes w.in-Some-Some.kept w.in-Some-Some.bits w.released-kept.result w.set_words.new.tables w.in-Some-Some.is-0 w.in-Some-Some.is-1 w.released-kept.ensures (w.set_words.ensures entries rewrites))
      | in-Some+in-None-1 w ↦ w.translation-is ∙ sym (without_bits old bits rules writes w.kept-1.given.0.0 w.kept-1.given.1 w.enum_told_at-in_default-1.given.1)
      | in-None-1 w ↦ w.translation-is ∙ sym (by_covers old bits rules writes w.enum_told_at-in_default-2-1.given.1)
    ]
