-- What actions of a commit under way leave of the manager.
use Rattle.std.proofs.Common.{◌≡◌, ℕ, List, [], ◌∷◌, ◌++◌, Option, Some, None, IsSome, IfSome, refl, sym, ap, ◌∙◌, subst, append_assoc}
use Rattle.tcam_device.specs.declared.Write.{Write}
use Rattle.tcam_device.specs.declared.Action.{Action}
use Rattle.tcam_device.specs.declared.Action.TheVariants.{Written, Drained}
use Rattle.tcam_device.specs.State.{apply, replay}
use Rattle.tcam_device.specs.Flight.{writes_in}
use Rattle.tcam_device.specs.Hitless.{ShowsOldOrNew}
use Rattle.commit_writes.proofs.WritesIn.{writes_in-append}
use Rattle.batch_order.specs.Managed.{HeldCommit, Managed, Serves}
use Rattle.batch_order.specs.CarriedOut.{StopsAt, StopsBy, acted, acted_by, acted_on, ahead, ahead_of, writes_left}
use Rattle.batch_order.specs.declared.Unfinished.{Unfinished}
use Rattle.batch_order.specs.declared.Unfinished.TheVariants.{Stuck}
use Rattle.batch_order.specs.Steps.{next_of}
use Rattle.batch_order.proofs.under_way.Onward.{acted_one}
use Rattle.route_daemon.specs.Served.{IsStuck}

-- the commit is still under way, to the same rules, and the rules are the same
record IsOnWay (old : Managed) (held : HeldCommit) (now : Managed) : Type 0 where
  pub one : HeldCommit
  pub under_way : now.held ≡ Some one
  pub leads : one.rules ≡ held.rules
  pub rules : now.rules ≡ old.rules

acted-once : (old : Managed) (held : HeldCommit) (action : Action) → old.held ≡ Some held → IsOnWay old held (acted_by old action)
acted-once old held action under = subst (IsOnWay old held) (sym (acted_one old held action under)) (on action)
  where
    on : (one : Action) → IsOnWay old held (acted_on old held one)
    on (Written write) = record { one = _; under_way = refl; leads = refl; rules = refl }
    on Drained = record { one = _; under_way = refl; leads = refl; rules = refl }

acted-keeps : (actions : List Action) (old : Managed) (held : HeldCommit) → old.held ≡ Some held → IsOnWay old held (acted old actions)
acted-keeps [] old held under = record { one = held; under_way = under; leads = refl; rules = refl }
acted-keeps (action ∷ actions) old held under =
    let first = acted-once old held action under in
    let rest = acted-keeps actions (acted_by old action) first.one first.under_way in record {
      one = rest.one;
      under_way = rest.under_way;
      leads = rest.leads ∙ first.leads;
      rules = rest.rules ∙ first.rules;
    }

module _ (old new : Managed) (before after : List Write) (left : ℕ) (stops : StopsAt old new before after left) where
  way : IsOnWay old stops.held new
  way = subst (IsOnWay old stops.held) (sym stops.new_is) (acted-keeps stops.made old stops.held stops.under_way)

  -- what was made and what is left are together what was left before
  stopped-made : after ++ writes_left new.held ≡ before ++ writes_left old.held
  stopped-made =
      let parts : writes_in stops.made ++ writes_left new.held ≡ writes_left old.held =
      ap (λ actions. writes_in stops.made ++ writes_in actions) stops.rest_is
      ∙ sym (writes_in-append stops.made stops.rest) ∙ ap writes_in stops.parts ∙ ap writes_left (sym stops.under_way) in
      ap (λ writes. writes ++ writes_left new.held) stops.journal
      ∙ append_assoc before (writes_in stops.made) (writes_left new.held)
      ∙ ap (λ writes. before ++ writes) parts

  some-due : (write : Option Write) → IsSome write → (due : Write) × (write ≡ Some due)
  some-due None some = absurd (cc)
  some-due (Some due) some = (due, refl)

  stopped-stuck : (slots : ℕ) → IsSome (next_of new.held) → IfSome (next_of new.held) (λ write. Serves (apply (replay slots after) write) new.rules new.held)
      → IsStuck slots after old.rules (ahead old) new
  stopped-stuck slots some serves =
      let next = some-due (next_of new.held) some in
      let leads : ahead new ≡ ahead old =
      ap (λ held. ahead_of held new.rules) way.under_way ∙ way.leads ∙ sym (ap (λ held. ahead_of held old.rules) stops.under_way) in
      let made : Serves (apply (replay slots after) next.0) new.rules new.held =
      subst (λ write. IfSome write (λ one. Serves (apply (replay slots after) one) new.rules new.held)) next.1 serves in
      let shows : ShowsOldOrNew (apply (replay slots after) next.0) new.rules way.one.rules = subst (λ held. Serves (apply (replay slots after) next.0) new.rules held) way.under_way made in
      let ends : way.one.rules ≡ ahead old = way.leads ∙ sym (ap (λ held. ahead_of held old.rules) stops.under_way) in record {
        rules = way.rules;
        leads = leads;
        due = next.0;
        next = next.1;
        made = subst (λ rules. ShowsOldOrNew (apply (replay slots after) next.0) old.rules rules) ends (subst (λ rules. ShowsOldOrNew (apply (replay slots after) next.0) rules way.one.rules) way.rules shows);
      }

-- of a commit that is stuck
module _ (old new : Managed) (before after : List Write) (words : ℕ) (why : Unfinished) (left : ℕ) (is : why ≡ Stuck left) (stops : StopsBy old new before after words why) where
  stuck : StopsAt old new before after left × IsSome (next_of new.held)
  stuck = subst (λ one. StopsBy old new before after words one) is stops

  pub stuck-made : after ++ writes_left new.held ≡ before ++ writes_left old.held
  stuck-made = stopped-made old new before after left stuck.0

  pub stuck-stuck : (slots : ℕ) → IfSome (next_of new.held) (λ write. Serves (apply (replay slots after) write) new.rules new.held) → IsStuck slots after old.rules (ahead old) new
  stuck-stuck slots serves = stopped-stuck old new before after left stuck.0 slots stuck.1 serves
