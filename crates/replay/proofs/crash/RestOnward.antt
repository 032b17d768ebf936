-- What is left of a commit that crashed and whose second manager goes on with it.
use Rattle.std.proofs.Common.{◌≡◌, ℕ, ◌+◌, ◌-◌, ◌*◌, ◌^◌, ◌≤◌, inr, true, false, List, [], ◌++◌, Option, Some, None, IfSome, length, length-append, take, refl, sym, ap, ◌∙◌, subst, append_assoc, arith}
use Rattle.slot_order.specs.Order.{most_slots}
use Rattle.rule_model.specs.declared.IpVersion.{IpVersion}
use Rattle.rule_store.specs.Batch.{set_after}
use Rattle.rule_store.specs.declared.Command.{Command as Change}
use Rattle.tcam_device.specs.declared.Action.{Action}
use Rattle.tcam_device.specs.Flight.{writes_in}
use Rattle.tcam_device.specs.State.{State, Shows, state_after, on_device}
use Rattle.tcam_device.proofs.Spans.{state_after-append}
use Rattle.tcam_device.proofs.Wider.{lookup-padded, slots-after}
use Rattle.commit_writes.proofs.WritesIn.{writes_in-append}
use Rattle.batch_order.specs.Managed.{HeldCommit, Managed, OnlyChangesRoutes}
use Rattle.batch_order.specs.Steps.{is_back}
use Rattle.replay.specs.declared.fate.Fate.TheVariants as fates
use Rattle.replay.specs.declared.watch.Count.{Count}
use Rattle.replay.specs.declared.steps.Ended.{Ended}
use Rattle.replay.specs.declared.steps.Ended.TheVariants as ended
use Rattle.replay.specs.Effects.{Effect, waiting_after}
use Rattle.replay.specs.Run.{Progress, carried_so_far}
use Rattle.replay.specs.Text.{restarted_line}
use Rattle.replay.specs.Running.{Running, Watching, IsOnward, IsRun, MakesSome, ShowsRules, first_actions, routes_of, setting_of, watching}
use Rattle.replay.specs.Making.{EndsBy, HasCome, MakesAll, ended_line, finished_line, snapshot}
use Rattle.replay.specs.Unfinished.{StandsOnward}
use Rattle.replay.specs.Outside.{outside}
use Rattle.replay.proofs.making.Acting.{one, same-back, some-held}
use Rattle.replay.proofs.course.Course.{count_of}
use Rattle.replay.proofs.lines.Effects.{waiting-append}
use Rattle.replay.proofs.flight.Leftover.{waiting-most}
use Rattle.replay.proofs.making.Making.{makes-then, then-left}
use Rattle.replay.proofs.crash.Onward.{began_first, course-over, ended_over, ending-over, first-run_few, goes, held-is, line_over, rest-writes, restarted-size, routes-first, whole-state}
use Rattle.replay.proofs.course.Rest.{EndsWith, Rest}
use Rattle.replay.proofs.between.RouteSets.{routes_after}

module _ (slots : ℕ) (run : Running) (onward : IsOnward slots run) (is : IsRun run) (inside : run.manager.slots ≤ slots) where
  abbrev made_before : List Action
  made_before = first_actions run onward.begun onward.holds.1.made onward.after

  onward-part : (now : Managed) (some : MakesSome run.manager now) → onward.some.left ≡ some.made ++ some.left
  onward-part now some = then-left onward.restarted run.manager now onward.some some

  abbrev onward-more : (now : Managed) (count : Count) (some : MakesSome run.manager now) → HasCome (watching run) (count_of run) count some.made → IsOnward slots (record run { manager = now; told = count.told; waiting = count.waiting })
  onward-more now count some come =
      let before = onward.told in
      let number = come.told in
      let lengths : length (writes_in (onward.some.made ++ some.made)) ≡ length (writes_in onward.some.made) + length (writes_in some.made) =
      ap length (writes_in-append onward.some.made some.made) ∙ length-append (writes_in onward.some.made) (writes_in some.made) in
      record {
        after = onward.after;
        fate_is = onward.fate_is;
        plain = onward.plain;
        begun = onward.begun;
        holds = onward.holds;
        accepted = onward.accepted;
        shows = onward.shows;
        size = onward.size;
        more = onward.more;
        parts = onward.parts;
        parts_are = onward.parts_are;
        restarted = onward.restarted;
        resumes = onward.resumes;
        some = makes-then onward.restarted run.manager now onward.some some;
        told = omega arith;
        waiting = come.waiting ∙ ap (λ waiting. waiting_after run.depth waiting some.made) onward.waiting
            ∙ sym (waiting-append run.depth 0 (made_before ++ onward.some.made) some.made)
            ∙ ap (waiting_after run.depth 0) (append_assoc made_before onward.some.made some.made);
      }

  -- few writes are told or left
  few-left : IfSome run.manager.held (λ held. run.told + length (writes_in held.actions) ≤ 2 ^ 36)
  few-left =
      let number = whole-number in
      let told = onward.told in
      let firsts = first-run_few slots run onward is inside in
      let few = (goes slots run onward is inside).few in
      let most : run.told + length (writes_in onward.some.left) ≤ 2 ^ 36 = omega arith in
      subst (λ held. IfSome held (λ (x : HeldCommit). run.told + length (writes_in x.actions) ≤ 2 ^ 36)) (sym (some-held onward.restarted run.manager onward.some)) most
    where
      whole-number : length (writes_in onward.some.made) + length (writes_in onward.some.left) ≡ length (goes slots run onward is inside).made
      whole-number = sym (length-append (writes_in onward.some.made) (writes_in onward.some.left)) ∙ ap length (rest-writes slots run onward is inside)

  few-waiting : run.waiting ≤ run.depth
  few-waiting =
      let most = waiting-most run.depth 0 (made_before ++ onward.some.made) (omega arith) in
      subst (λ waiting. waiting ≤ run.depth) (sym onward.waiting) most

  module _ (Seen : Type 0) (watch : Watching) (width : ℕ) (count : Count) (end : Ended) (now : Managed) (events events_now : List Action) (taken taken_now : Option (List ℕ))
      (all : MakesAll Seen watch width (snapshot run.manager (count_of run) (outside events taken)) end (snapshot now count (outside events_now taken_now))) where
    held-one : all.held ≡ one onward.restarted run.manager onward.some
    held-one =
        let both : Some all.held ≡ Some (one onward.restarted run.manager onward.some) = sym all.held_is ∙ some-held onward.restarted run.manager onward.some in
        cc

    pub actions-left : all.actions ≡ onward.some.left
    actions-left = all.actions_are ∙ ap (λ (held : HeldCommit). held.actions) held-one

    -- it isn't taken back
    forward : is_back all.held.way ≡ false
    forward =
        ap (λ (held : HeldCommit). is_back held.way) held-one ∙ same-back onward.restarted.state (writes_in onward.some.made) onward.some.held.way
        ∙ ap (λ (held : HeldCommit). is_back held.way) (held-is slots run onward is inside)

    number-whole : count.told ≡ onward.after + length (goes slots run onward is inside).made
    number-whole =
        let told = all.come.told in
        let before = onward.told in
        let same : length (writes_in all.actions) ≡ length (writes_in onward.some.left) = ap (λ actions. length (writes_in actions)) actions-left in
        let parts : length (goes slots run onward is inside).made ≡ length (writes_in onward.some.made) + length (writes_in onward.some.left) =
        ap length (sym (rest-writes slots run onward is inside)) ∙ length-append (writes_in onward.some.made) (writes_in onward.some.left) in
        omega arith

    -- the manager is that of the run behind it
    now-same : now ≡ (ended_over slots run onward is inside).manager
    now-same = go end all.ends
      where
        at : State → HeldCommit → Managed
        at state held = record onward.restarted { state = state; rules = held.rules; bits = held.bits; held = None }

        go : (end : Ended) → EndsBy run.manager all.held all.actions end now → now ≡ (ended_over slots run onward is inside).manager
        go (ended.Finished done) ends =
            ends.2
            ∙ ap (λ (held : HeldCommit). record run.manager { state = state_after run.manager.state (writes_in all.actions); rules = held.rules; bits = held.bits; held = None }) held-one
            ∙ ap (λ actions. record run.manager { state = state_after run.manager.state (writes_in actions); rules = onward.some.held.rules; bits = onward.some.held.bits; held = None }) actions-left
            ∙ ap (λ (manager : Managed). record manager { state = state_after manager.state (writes_in onward.some.left); rules = onward.some.held.rules; bits = onward.some.held.bits; held = None }) onward.some.now_is
            ∙ ap (λ (state : State). at state onward.some.held)
            (sym (state_after-append onward.restarted.state (writes_in onward.some.made) (writes_in onward.some.left)) ∙ ap (state_after onward.restarted.state) (rest-writes slots run onward is inside))
            ∙ ap (at (state_after onward.restarted.state (goes slots run onward is inside).made)) (held-is slots run onward is inside)
        go ended.Reverted ends = absurd (let bad : true ≡ false = sym ends.0 ∙ forward in cc)

    -- a set that a device with these slots shows one with others shows
    shows-anywhere : ShowsRules (ended_over slots run onward is inside).manager
    shows-anywhere = λ idle wide within.
        let state = state_after onward.restarted.state (goes slots run onward is inside).made in
        let here : Shows (on_device slots state) (set_after onward.begun.rules run.pending) =
        subst (λ one. Shows one (set_after onward.begun.rules run.pending)) (sym (whole-state slots run onward is inside))
        (subst (λ one. Shows one (set_after onward.begun.rules run.pending)) (sym (state_after-append (began_first slots run onward is inside).state (take onward.after onward.holds.1.made) (goes slots run onward is inside).made)) (goes slots run onward is inside).goes_on.after) in
        λ key valid.
        lookup-padded (wide - length state.slots) state key ∙ sym (lookup-padded (slots - length state.slots) state key) ∙ here key valid

    pub ends-over : EndsWith run now count end (line_over slots run onward is inside) (ended_over slots run onward is inside)
    ends-over = record {
      idle = ap (λ (manager : Managed). manager.held) now-same;
      same_slots = ap (λ (manager : Managed). manager.slots) now-same ∙ sym (ap (λ (manager : Managed). manager.slots) onward.some.now_is);
      few = (let few = (goes slots run onward is inside).few in let firsts = first-run_few slots run onward is inside in let number = number-whole in omega arith);
      closing = subst (λ (manager : Managed). IsRun (record run { manager = manager; told = 0; waiting = 0; fate = fates.Finishes })) (sym now-same) (closed-run run.pending run.commits run.writes is.changes is.few);
      ended_is = (let few = (goes slots run onward is inside).few in let firsts = first-run_few slots run onward is inside in let before = is.few in
          closed-run [] (run.commits + 1) (run.writes + (onward.after + length (goes slots run onward is inside).made)) (λ version route. tt) (omega arith));
      counted = λ counted closed. (
        ap (λ (r : Running). record r { writes = r.writes + count.told }) closed
            ∙ ap (λ (manager : Managed). record run { manager = manager; told = 0; waiting = 0; fate = fates.Finishes; pending = []; commits = run.commits + 1; writes = run.writes + count.told }) now-same
            ∙ ap (λ n. record (ended_over slots run onward is inside) { writes = run.writes + n }) number-whole,
        line-over counted closed end all.ends,
      );
    }
      where
        closed-run : (pending : List Change) (commits writes : ℕ) → ((version : IpVersion) → run.family ≡ routes_of version → OnlyChangesRoutes version pending) → writes ≤ commits * (2 ^ 36 - 1)
            → IsRun (record (ended_over slots run onward is inside) { pending = pending; commits = commits; writes = writes })
        closed-run pending commits writes changes few = record {
          changes = changes;
          asks = is.asks;
          routes = λ version route. routes_after version onward.begun.rules run.pending (routes-first slots run onward is inside version route) (is.changes version route);
          some_slots = subst (λ n. 1 ≤ n) (ap (λ (manager : Managed). manager.slots) onward.some.now_is) is.some_slots;
          most_slots = subst (λ n. n ≤ most_slots) (ap (λ (manager : Managed). manager.slots) onward.some.now_is) is.most_slots;
          size = slots-after onward.restarted.state (goes slots run onward is inside).made ∙ restarted-size slots run onward is inside ∙ sym (ap (λ (manager : Managed). manager.slots) (goes slots run onward is inside).restarted_is);
          few = few;
          shows = shows-anywhere;
          halfway = λ some. absurd (let none : false ≡ true = some in cc);
          idle = λ none. (refl, refl, refl);
        }

        line-over : (counted : Running) → counted ≡ record run { manager = now; told = 0; waiting = 0; fate = fates.Finishes; pending = []; commits = run.commits + 1 }
            → (end : Ended) → EndsBy run.manager all.held all.actions end now → ended_line counted.json counted.early counted.commits run.fate end count.told ≡ line_over slots run onward is inside
        line-over counted closed (ended.Finished done) ends =
            ap (λ fate. finished_line counted.json counted.early counted.commits fate done count.told) onward.fate_is
            ∙ ap (λ (r : Running). restarted_line r.commits onward.after count.told) closed
            ∙ ap (restarted_line (run.commits + 1) onward.after) number-whole
        line-over counted closed ended.Reverted ends = absurd (let bad : true ≡ false = sym ends.0 ∙ forward in cc)

  pub rest-onward : Rest slots (began_first slots run onward is inside) (carried_so_far (setting_of run) (began_first slots run onward is inside) (made_before ++ onward.some.made)) run
  rest-onward = record {
    course = course-over slots run onward is inside;
    line = line_over slots run onward is inside;
    ended = ended_over slots run onward is inside;
    ending = ending-over slots run onward is inside;
    few_left = few-left;
    few_waiting = few-waiting;
    part = onward-part;
    actions = λ Seen watch width count end now events events_now taken taken_now all. actions-left Seen watch width count end now events events_now taken taken_now all;
    more = λ now count some come. inr (record {
      onward = onward-more now count some come;
      before_is = refl;
      front_is = ap (λ setting. carried_so_far setting (began_first slots run onward is inside) ((made_before ++ onward.some.made) ++ some.made)) (sym (ap (λ (manager : Managed). setting_of (record run { manager = manager })) some.now_is))
          ∙ ap (carried_so_far (setting_of (record run { manager = now })) (began_first slots run onward is inside)) (append_assoc made_before onward.some.made some.made);
    });
    ends = λ Seen watch width count end now events events_now taken taken_now all. ends-over Seen watch width count end now events events_now taken taken_now all;
  }

-- what holds of the effects that such a commit had holds of those that are said of it
pub as-onward : (slots : ℕ) (before : Progress) (front : List Effect) (run : Running) (stands : StandsOnward slots before front run) (is : IsRun run) (inside : run.manager.slots ≤ slots) → Rest slots before front run
as-onward slots before front run stands is inside =
    let onward = stands.onward in
    subst (λ (at : Progress). Rest slots at front run) (sym stands.before_is)
    (subst (λ effects. Rest slots (began_first slots run onward is inside) effects run)
    (sym (stands.front_is ∙ ap (λ (at : Progress). carried_so_far (setting_of run) at (first_actions run onward.begun onward.holds.1.made onward.after ++ onward.some.made)) stands.before_is))
    (rest-onward slots run onward is inside))
