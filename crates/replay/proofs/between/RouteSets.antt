-- A set of routes stays one, whatever changes of routes a batch makes.
use Rattle.std.proofs.Common.{List, inl, inr, sym, ap, subst}
use Rattle.std.specs.List.{AllByRecursion}
use Rattle.slot_order.proofs.Lists.{AllByRecursion-member}
use Rattle.rule_model.specs.declared.IpVersion.{IpVersion}
use Rattle.rule_model.specs.declared.IpVersion.TheVariants.{V4, V6}
use Rattle.rule_model.specs.declared.Rule.{Rule}
use Rattle.rule_store.specs.declared.Command.{Command as Change}
use Rattle.rule_store.specs.Batch.{additions, result_after, with_result_after, set_after}
use Rattle.rule_store.proofs.Members.{set_after-member}
use Rattle.commit_writes.specs.Routes.{IsRoute}
use Rattle.commit_writes.proofs.Filters.{all_members}
use Rattle.batch_order.specs.Managed.{OnlyChangesRoutes}

-- a route with another result is one
with_result : (version : IpVersion) (batch : List Change) (old : Rule) → IsRoute version old → IsRoute version (with_result_after batch old)
with_result V4 batch old is = record {
  block = is.block;
  ipv4 = is.ipv4;
  route = ap (λ (r : Rule). record r { result = result_after batch old.priority old.result }) is.route;
}
with_result V6 batch old is =
    record { block = is.block; route = ap (λ (r : Rule). record r { result = result_after batch old.priority old.result }) is.route }

pub routes_after : (version : IpVersion) (rules : List Rule) (batch : List Change) → AllByRecursion (IsRoute version) rules → OnlyChangesRoutes version batch
    → AllByRecursion (IsRoute version) (set_after rules batch)
routes_after version rules batch routes changes = all_members (IsRoute version) (set_after rules batch) (λ rule member. elim ((set_after-member rules batch rule).0 member) [
  | inl new ↦ AllByRecursion-member (IsRoute version) (additions batch) rule changes new
  | inr kept ↦ subst (IsRoute version) (sym kept.3) (with_result version batch kept.0 (AllByRecursion-member (IsRoute version) rules kept.0 routes kept.1))
])
