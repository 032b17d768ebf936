-- What a run is between two calls, and after an accepted commit.
use Rattle.std.proofs.Common.{Bool, true, false, inl, inr, ◌≡◌, ℕ, ◌+◌, ◌-◌, ◌*◌, ◌^◌, ◌<◌, ◌≤◌, length, List, [], ◌∷◌, ◌++◌, Option, None, IsSome, replicate, take, refl, sym, ap, ◌∙◌, subst, arith}
use Rattle.std.proofs.Math.Seq.{take-append_seam}
use Rattle.std.specs.List.{AllByRecursion}
use Rattle.rule_model.specs.declared.IpVersion.{IpVersion}
use Rattle.rule_model.specs.declared.IpVersion.TheVariants.{V4, V6}
use Rattle.rule_store.specs.Batch.{set_after}
use Rattle.rule_store.specs.declared.Mode.{Mode}
use Rattle.rule_store.specs.declared.Command.{Command as Change}
use Rattle.rule_model.specs.declared.words.Entry.{Entry}
use Rattle.tcam_device.specs.State.{State, Shows, IsInUse, blank, state_after, on_device}
use Rattle.tcam_device.specs.Insertion.{Insertion, insertions, IsUncrossed}
use Rattle.commit_writes.specs.Bits.{bits_with, bits_left}
use Rattle.batch_order.specs.declared.Placement.{Placement}
use Rattle.commit_writes.specs.declared.Done.{Done}
use Rattle.tcam_device.specs.declared.Write.{Write}
use Rattle.batch_order.specs.Managed.{HeldCommit, Holds, OnlyChangesRoutes}
use Rattle.batch_order.specs.Placing.{IsPlacedBy}
use Rattle.report_lines.specs.declared.Family.{Family}
use Rattle.report_lines.specs.declared.Family.TheVariants.{Route, Acl, Route6, Acl6}
use Rattle.replay.specs.Effects.{Setting, Effect, Prints}
use Rattle.replay.specs.Run.{Progress, AreCommitWrites, Commits, Returns, OfFamily, actions_back, actions_for, carried, used_slots, after_segment}
use Rattle.replay.specs.Reports.{done_line}
use Rattle.replay.specs.Text.{aborted_line}
use Rattle.replay.specs.Crashing.{after_loss}
use Rattle.replay.specs.declared.fate.Fate.TheVariants.{Finishes}
use Rattle.replay.specs.Running.{Running, IsHalfway, IsOnward, IsRun, IsMidCommit, setting_of, progress_of, begun, routes_of, IsChangeOf, ShowsRules}
use Rattle.settled_changes.specs.declared.Request.{Request}
use Rattle.settled_changes.specs.declared.requested.Requested.{Requested}
use Rattle.settled_changes.specs.declared.requested.Requested.TheVariants.{Nothing}
use Rattle.settled_changes.specs.Requested.{TakesAsked, asked_behind, asked_with, batch_behind, batch_with, settled_batch, strict_form}
use Rattle.replay.specs.AskedRoutes.{OnlyAsksRoutes}
use Rattle.replay.proofs.between.RouteSets.{routes_after}
use Rattle.replay.proofs.between.SettledRoutes.{batch-routes, behind-routes, change-routes, with-routes}
use Rattle.tcam_device.proofs.Wider.{slots-after, state_after-on_device, Shows-padded, blank_shows}
use Rattle.std.proofs.lemmas.List.{length-replicate}
use Rattle.slot_order.specs.Order.{most_slots}

-- a run before its first act
pub begun-run : (slots : ℕ) (mode : Mode) (placement : Placement) (family : Family) (trace : Bool) (depth : ℕ) (json names : Bool) → 1 ≤ slots → slots ≤ most_slots → IsRun (begun slots mode placement family trace depth json names)
begun-run slots mode placement family trace depth json names least most = record {
  changes = λ version route. tt;
  asks = λ version route. tt;
  routes = λ version route. tt;
  some_slots = least;
  most_slots = most;
  size = length-replicate slots None;
  few = omega arith;
  shows = λ idle device_slots within. Shows-padded (device_slots - length (blank slots).slots) (blank slots) [] (blank_shows slots);
  halfway = λ some. absurd (let none : false ≡ true = some in cc);
  idle = λ none. (refl, refl, refl);
}

-- and one whose commit crashed where there was no memory to go on
pub lost-run : (run : Running) → IsRun run → IsRun (after_loss run)
lost-run run is = record {
  changes = is.changes;
  asks = is.asks;
  routes = λ version route. tt;
  some_slots = is.some_slots;
  most_slots = is.most_slots;
  size = length-replicate run.manager.slots None;
  few = is.few;
  shows = λ idle device_slots within. Shows-padded (device_slots - length (blank run.manager.slots).slots) (blank run.manager.slots) [] (blank_shows run.manager.slots);
  halfway = λ some. absurd (let none : false ≡ true = some in cc);
  idle = λ none. (refl, refl, refl);
}

-- where no commit is under way none is unfinished
pub never-halfway : (run new : Running) → run.manager.held ≡ None → IsSome run.manager.held → IsMidCommit new
never-halfway run new idle some = absurd (let none : false ≡ true = subst (λ (held : Option HeldCommit). IsSome held) idle some in cc)

-- changes joined what is pending
pub joined-run : (run : Running) (pending : List Change) (asked : Requested) → IsRun run → run.manager.held ≡ None
    → ((version : IpVersion) → run.family ≡ routes_of version → OnlyChangesRoutes version pending × OnlyAsksRoutes version asked) → IsRun (record run { pending = pending; asked = asked })
joined-run run pending asked is none change = record {
  changes = λ version route. (change version route).0;
  asks = λ version route. (change version route).1;
  routes = is.routes;
  some_slots = is.some_slots;
  most_slots = is.most_slots;
  size = is.size;
  few = is.few;
  shows = is.shows;
  halfway = never-halfway run (record run { pending = pending; asked = asked }) none;
  idle = is.idle;
}

-- a strict change,
pub pushed-run : (run : Running) (change : Change) → IsRun run → run.manager.held ≡ None → IsChangeOf run.family change
    → IsRun (record run { pending = batch_with run.pending run.asked change; asked = asked_with run.asked change })
pushed-run run change is none change_is =
    joined-run run (batch_with run.pending run.asked change) (asked_with run.asked change) is none (λ version route.
    with-routes version run.pending run.asked change (is.changes version route) (is.asks version route) (change-routes version run.family change route change_is))

-- or one that doesn't ask what is there
pub asked-run : (run : Running) (request : Request) → IsRun run → run.manager.held ≡ None → IsChangeOf run.family (strict_form request)
    → IsRun (record run { pending = batch_behind run.pending run.asked; asked = asked_behind run.pending run.asked request })
asked-run run request is none change_is =
    joined-run run (batch_behind run.pending run.asked) (asked_behind run.pending run.asked request) is none (λ version route.
    behind-routes version run.pending run.asked request (is.changes version route) (is.asks version route) (change-routes version run.family (strict_form request) route change_is))

-- what is asked for is settled
pub settled-run : (run : Running) → IsRun run → run.manager.held ≡ None → TakesAsked run.manager.rules run.asked
    → IsRun (record run { pending = settled_batch run.manager.rules run.pending run.asked; asked = Nothing })
settled-run run is none taken =
    joined-run run (settled_batch run.manager.rules run.pending run.asked) Nothing is none (λ version route.
    (batch-routes version run.manager.rules run.pending run.asked (is.changes version route) (is.asks version route) taken, tt))

abbrev same-halfway : (run : Running) (broken : Bool) → IsHalfway run → IsHalfway (record run { broken = broken })
same-halfway run broken half = record {
  begun = half.begun;
  first = half.first;
  plain = half.plain;
  holds = half.holds;
  accepted = half.accepted;
  shows = half.shows;
  some = half.some;
  told = half.told;
  waiting = half.waiting;
  before = half.before;
  within = half.within;
}

abbrev same-onward : (slots : ℕ) (run : Running) (broken : Bool) → IsOnward slots run → IsOnward slots (record run { broken = broken })
same-onward slots run broken onward = record {
  after = onward.after;
  fate_is = onward.fate_is;
  plain = onward.plain;
  begun = onward.begun;
  holds = onward.holds;
  accepted = onward.accepted;
  shows = onward.shows;
  size = onward.size;
  more = onward.more;
  parts = onward.parts;
  parts_are = onward.parts_are;
  restarted = onward.restarted;
  resumes = onward.resumes;
  some = onward.some;
  told = onward.told;
  waiting = onward.waiting;
}

-- whether a call may follow makes no difference
pub marked-run : (run : Running) (broken : Bool) → IsRun run → IsRun (record run { broken = broken })
marked-run run broken is = record {
  changes = is.changes;
  asks = is.asks;
  routes = is.routes;
  some_slots = is.some_slots;
  most_slots = is.most_slots;
  size = is.size;
  few = is.few;
  shows = is.shows;
  halfway = λ some. elim (is.halfway some) [ inl half ↦ inl (same-halfway run broken half) | inr (slots, within, onward) ↦ inr (slots, within, same-onward slots run broken onward) ];
  idle = is.idle;
}

-- the run after its commit
abbrev pub run_after : Running → List Write → Done → Running
run_after run made counts =
    record run {
      manager = record run.manager {
        state = state_after run.manager.state made;
        rules = set_after run.manager.rules run.pending;
        bits = bits_left (set_after run.manager.rules run.pending) (bits_with run.manager.mode run.manager.rules run.pending run.manager.bits);
        held = None;
      };
      pending = [];
      commits = run.commits + 1;
      writes = run.writes + counts.writes;
      told = 0;
      waiting = 0;
      fate = Finishes;
    }

-- the run after a trial that was taken back by these writes, there and back
abbrev pub run_returned : Running → List Write → Running
run_returned run both =
    record run {
      manager = record run.manager { state = state_after run.manager.state both; held = None };
      pending = [];
      commits = run.commits + 1;
      writes = run.writes + length both;
      told = 0;
      waiting = 0;
      fate = Finishes;
    }

-- the slots in use of a device are those of the manager
pub in-use : (setting : Setting) (slots : ℕ) (state : State) → length state.slots ≡ setting.slots → used_slots setting (on_device slots state) ≡ state
in-use setting slots state size =
    let others : List (Option Entry) = replicate (slots - length state.slots) None in
    ap (λ (first : List (Option Entry)). record state { slots = first }) (ap (λ (count : ℕ). take count (state.slots ++ others)) (sym size) ∙ take-append_seam state.slots others)

pub wider : (made : List Insertion) → IsUncrossed 33 made → IsUncrossed 67 made
wider [] all = tt
wider (one ∷ made) all = let few = all.0.1 in ((all.0.0, omega arith), wider made all.1)

module _ (run : Running) (counts : Done) (is : IsRun run) (holds : Holds (record run.manager { held = None }) run.pending counts run.manager) where
  pub after-state : (slots : ℕ) → on_device slots (state_after run.manager.state holds.made) ≡ state_after (on_device slots run.manager.state) holds.made
  after-state slots =
      sym (state_after-on_device slots run.manager.state holds.made
      (subst (λ size. AllByRecursion (IsInUse size) holds.made) (sym is.size) holds.in_use))

  -- the run once the writes are made
  pub made-run : (pending : List Change) (commits writes : ℕ) → ((version : IpVersion) → run.family ≡ routes_of version → OnlyChangesRoutes version pending) → writes ≤ commits * (2 ^ 36 - 1)
      → IsRun (record (run_after run holds.made counts) { pending = pending; commits = commits; writes = writes })
  made-run pending commits writes changes few = record {
    changes = changes;
    asks = is.asks;
    routes = λ version route. routes_after version run.manager.rules run.pending (is.routes version route) (is.changes version route);
    some_slots = is.some_slots;
    most_slots = is.most_slots;
    size = slots-after run.manager.state holds.made ∙ is.size;
    few = few;
    shows = λ idle slots within.
        subst (λ state. Shows state (set_after run.manager.rules run.pending)) (sym (after-state slots)) (holds.segment slots within).hitless.after;
    halfway = λ some. absurd (let none : false ≡ true = some in cc);
    idle = λ none. (refl, refl, refl);
  }

  -- once they were taken back
  pub returned-run : (pending : List Change) (commits writes : ℕ) (both : List Write) → ((version : IpVersion) → run.family ≡ routes_of version → OnlyChangesRoutes version pending)
      → writes ≤ commits * (2 ^ 36 - 1) → state_after run.manager.state both ≡ run.manager.state → ShowsRules (record run.manager { held = None })
      → IsRun (record (run_returned run both) { pending = pending; commits = commits; writes = writes })
  returned-run pending commits writes both changes few ends shows = record {
    changes = changes;
    asks = is.asks;
    routes = is.routes;
    some_slots = is.some_slots;
    most_slots = is.most_slots;
    size = slots-after run.manager.state both ∙ is.size;
    few = few;
    shows = λ idle slots within. subst (λ state. Shows (on_device slots state) run.manager.rules) (sym ends) (shows refl slots within);
    halfway = λ some. absurd (let none : false ≡ true = some in cc);
    idle = λ none. (refl, refl, refl);
  }

  pub after-run : IsRun (run_after run holds.made counts)
  after-run =
      let few = is.few in
      let more = holds.few in
      let same = (holds.numbers run.manager.slots (omega arith)).writes in
      made-run [] (run.commits + 1) (run.writes + counts.writes) (λ version route. tt) (omega arith)

  pub after-progress : (slots : ℕ) → run.manager.slots ≤ slots
      → progress_of slots (run_after run holds.made counts) ≡ after_segment (setting_of run) (progress_of slots run) holds.made
  after-progress slots within =
      let at : State → ℕ → Progress = λ state writes. record (progress_of slots (run_after run holds.made counts)) { state = state; writes = writes } in
      ap (λ after. at after (run.writes + counts.writes)) (after-state slots)
      ∙ ap (λ count. at (state_after (on_device slots run.manager.state) holds.made) (run.writes + count)) (holds.numbers slots within).writes

  pub of-family : (slots : ℕ) → run.manager.slots ≤ slots → OfFamily run.family (insertions (on_device slots run.manager.state) holds.made)
  of-family slots within = go run.family refl
    where
      go : (family : Family) → run.family ≡ family → OfFamily family (insertions (on_device slots run.manager.state) holds.made)
      go Route route = holds.uncrossed slots within V4 (is.routes V4 route) (is.changes V4 route)
      go Acl other = tt
      go Route6 route = holds.uncrossed slots within V6 (is.routes V6 route) (is.changes V6 route)
      go Acl6 other = tt

  -- the writes of the commit
  abbrev pub writes-of : (slots : ℕ) → run.manager.slots ≤ slots → AreCommitWrites (setting_of run) (progress_of slots run) holds.made
  writes-of slots within = record {
    segment = holds.segment slots within;
    placed = subst (λ (state : State). IsPlacedBy run.manager.placement run.manager.mode run.manager.bits run.manager.rules run.pending state holds.made)
        (sym (in-use (setting_of run) slots run.manager.state is.size)) holds.placed;
    of_family = of-family slots within;
    in_use = holds.in_use;
    counts = counts;
    numbers = holds.numbers slots within;
  }

  -- the commit, as what it writes and prints
  abbrev pub commits-with : (slots : ℕ) → run.manager.slots ≤ slots → (effects : List Effect)
      → effects ≡ carried (setting_of run) (progress_of slots run) (actions_for (setting_of run) (progress_of slots run) holds.made) ++ Prints (done_line run.json run.early (run.commits + 1) counts) ∷ []
      → Commits (setting_of run) (progress_of slots run) effects (progress_of slots (run_after run holds.made counts))
  commits-with slots within effects same = record {
    made = holds.made;
    writes = writes-of slots within;
    effects_are = same;
    after = after-progress slots within;
  }

  -- the commit taken back, as what it writes and prints
  pub returns-with : (slots : ℕ) → run.manager.slots ≤ slots → (limit : ℕ) (both : List Write) → limit < length holds.made → state_after run.manager.state both ≡ run.manager.state → length both ≡ 2 * limit → (effects : List Effect)
      → effects ≡ carried (setting_of run) (progress_of slots run) (actions_back (setting_of run) (progress_of slots run) limit holds.made) ++ Prints (aborted_line (run.commits + 1) (2 * limit)) ∷ []
      → Returns (setting_of run) (progress_of slots run) limit effects (progress_of slots (run_returned run both))
  returns-with slots within limit both more ends number effects same = record {
    made = holds.made;
    past = record { writes = writes-of slots within; more = more };
    effects_are = same;
    after =
        let at : State → ℕ → Progress = λ state writes. record (progress_of slots (run_returned run both)) { state = on_device slots state; writes = writes } in
        ap (λ state. at state (run.writes + length both)) ends ∙ ap (λ count. at run.manager.state (run.writes + count)) number;
  }
