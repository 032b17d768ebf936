use Rattle.std.proofs.Common.{◌≡◌, ◌∙◌, ◌++◌, ◌-◌, List, length, take, set, IsFalse, Option, ap, sym, subst, None}
use Rattle.std.specs.Option.{option_to_list}
use Rattle.placement.specs.declared.LivePiece.{LivePiece}
use Rattle.placement.specs.Live.{is_live, without_id}
use Rattle.rule_model.specs.declared.words.Entry.{Entry}
use Rattle.batch_order.specs.Entries.{AreLast, KeepEntries}
use Rattle.batch_order.proofs.arranged.Entered.{kept_set, gone_first}
use Rattle.batch_order.proofs.arranged.Settled.{last_is_live, forget_last}
use Rattle.batch_order.proofs.insertions.forget_all.Goals as goal

pub forget-requires : goal.forget-requires
forget-requires c =
    let parts = subst (λ o. c.loop-id.ids.items ≡ c.pop.new.self.items ++ option_to_list o) c.in-Some.is c.pop.ensures.items in
    last_is_live c.loop-id.live.live c.loop-id.ids.items c.pop.new.self.items c.in-Some.id c.loop-id.invariant.0 parts

pub loop-id-preserved : goal.loop-id-preserved
loop-id-preserved c =
    let parts = subst (λ o. c.loop-id.ids.items ≡ c.pop.new.self.items ++ option_to_list o) c.in-Some.is c.pop.ensures.items in
    let w = forget_last c.loop-id.live.slots c.loop-id.live.live c.loop-id.ids.items c.pop.new.self.items c.in-Some.id c.forget.ensures.apart c.loop-id.invariant.0 parts in
    let base = take (length c.args.live.now.live - length c.args.ids.items) c.args.live.now.live in
    let absent : IsFalse (is_live base c.in-Some.id) =
    subst (λ (l : List LivePiece). IsFalse (is_live l c.in-Some.id)) (w.base ∙ c.loop-id.invariant.1) (gone_first c.loop-id.live.live c.in-Some.id (length (without_id c.loop-id.live.live c.in-Some.id) - length c.pop.new.self.items)) in
    let kept : KeepEntries base c.args.live.now.entries (set c.loop-id.live.entries c.in-Some.id None) = kept_set base c.args.live.now.entries c.loop-id.live.entries c.in-Some.id None absent c.loop-id.invariant.3 in (
      subst (λ (l : List LivePiece). AreLast l c.pop.new.self.items) (sym c.forget.ensures.live) w.last,
      ap (λ (l : List LivePiece). take (length l - length c.pop.new.self.items) l) c.forget.ensures.live ∙ (w.base ∙ c.loop-id.invariant.1),
      c.forget.ensures.slots ∙ c.loop-id.invariant.2,
      subst (λ (entries : List (Option Entry)). KeepEntries base c.args.live.now.entries entries) (sym c.forget.ensures.entries) kept,
      λ slots told. c.forget.ensures.told slots (c.loop-id.invariant.4 slots told),
    )
