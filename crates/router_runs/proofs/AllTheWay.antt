-- Between any two events of a table's device every key has the answer of one of the script's sets or of the next one.
use Rattle.std.proofs.Common.{◌≡◌, inl, inr, ℕ, Bool, List, [], ◌∷◌, ◌++◌, take, refl, ap, sym, ◌∙◌, subst, append_assoc}
use Rattle.rule_model.specs.declared.Rule.{Rule}
use Rattle.rule_model.specs.declared.Key.{Key}
use Rattle.rule_store.specs.declared.Command.{Command}
use Rattle.rule_store.specs.Batch.{set_after}
use Rattle.script_runs.specs.Runs.{Run}
use Rattle.tcam_device.specs.State.{Shows}
use Rattle.tcam_device.specs.Hitless.{ShowsOldOrNew}
use Rattle.tcam_device.proofs.Wider.{blank_shows}
use Rattle.split_device.specs.declared.SplitAction.{SplitAction}
use Rattle.split_device.specs.State.{SplitState, blank_split, split_after, undivided}
use Rattle.split_device.proofs.Whole.{split_lookup-is}
use Rattle.split_order.proofs.Rested.{undivided_blank}
use Rattle.router.specs.declared.Side.{Side}
use Rattle.router.specs.declared.Side.TheVariants as side
use Rattle.router.specs.declared.RouterAct.{RouterAct}
use Rattle.router.specs.declared.RouterAct.TheVariants.{Change, Packet, Commit}
use Rattle.router.specs.Run.{Commits, DeviceSlots, Effect, HasEffects, IsPartOfCommit, Progress, Refuses, Setting, Table, after_part, start, table_state}
use Rattle.router_runs.specs.Runs.{made_of_both}
use Rattle.router_runs.specs.RuleLists.{RuleLists, lists_after, lists_dropped, lists_with, no_rules, rules_of, table_sets_through}
use Rattle.router_runs.specs.AllTheWay.{LooksUpAllTheWay, EndsAtLastSet, LooksUp, LooksUpEither, state_past}
use Rattle.router_runs.specs.Promise.{events_on, slots_on}
use Rattle.router_runs.proofs.Kind.{list-append, routes-append}
use Rattle.router_runs.proofs.Effects.{IsMade, IsRefused, list-of-commit, lists_at, made-or-refused, routes-of-commit}
use Rattle.router_runs.proofs.Answers.{cut, ends-behind, past-both, segment, stays, wider, written-first}
use Rattle.router_runs.proofs.Sets.{first-set, more-sets, sets_by}

-- ---- look-ups by the undivided state

looks-as : (state : SplitState) (rules : List Rule) → Shows (undivided state) rules → LooksUp state rules
looks-as state rules shows = λ key valid. split_lookup-is state key ∙ shows key valid

looks-either : (state : SplitState) (old new : List Rule) → ShowsOldOrNew (undivided state) old new → LooksUpEither state old new
looks-either state old new shows = λ key valid. elim (shows key valid) [ inl is ↦ inl (split_lookup-is state key ∙ is) | inr is ↦ inr (split_lookup-is state key ∙ is) ]

blank-looks : (slots : ℕ) → LooksUp (blank_split slots) []
blank-looks slots = looks-as (blank_split slots) [] (subst (λ state. Shows state []) (sym (undivided_blank slots)) (blank_shows slots))

-- ---- a table in the course of a run

abbrev table_on : Side → Progress → Table
table_on side.List progress = progress.listed
table_on side.Routes progress = progress.routed

-- the state of its device, and what some effects make of it
abbrev state_at : Side → DeviceSlots → Progress → SplitState
state_at which slots progress = table_state (slots_on which slots) (table_on which progress)

abbrev pub made_by : Side → List Effect → List SplitAction
made_by which effects = events_on which (made_of_both effects)

pub made-append : (which : Side) (front back : List Effect) → made_by which (front ++ back) ≡ made_by which front ++ made_by which back
made-append side.List front back = list-append front back
made-append side.Routes front back = routes-append front back

state-start : (which : Side) (slots : DeviceSlots) → state_at which slots start ≡ blank_split (slots_on which slots)
state-start side.List slots = refl
state-start side.Routes slots = refl

rules-start : (which : Side) → rules_of which (lists_at start) ≡ []
rules-start side.List = refl
rules-start side.Routes = refl

-- what packets see of a commit's part of one table
record SeesPart (state : SplitState) (old new : List Rule) (made : List SplitAction) (after : SplitState) : Type 0 where
  during : (n : ℕ) → LooksUpEither (state_past state (take n made)) old new
  last : LooksUp (state_past state made) new
  after_is : after ≡ state_past state made

sees-table : (setting : Setting) (slots : ℕ) (old new : Table) (made : List SplitAction) → IsPartOfCommit setting slots old made → new ≡ after_part setting old made
    → SeesPart (table_state slots old) old.rules (set_after old.rules old.batch) made (table_state slots new)
sees-table setting slots old new made part same = record {
  during = λ n.
      let first = written-first n made in
      looks-either (state_past (table_state slots old) (take n made)) old.rules (set_after old.rules old.batch)
      (subst (λ writes. ShowsOldOrNew (undivided (split_after (table_state slots old) writes)) old.rules (set_after old.rules old.batch)) (sym first.1) (part.under_way.during first.0));
  last = looks-as (state_past (table_state slots old) made) (set_after old.rules old.batch) part.under_way.after;
  after_is = ap (table_state slots) same ∙ past-both (blank_split slots) old.events made;
}

module _ (setting : Setting) (slots : DeviceSlots) (old : Progress) (effects : List Effect) (new : Progress) where
  sees-commit : (which : Side) → Commits setting slots old effects new
      → SeesPart (state_at which slots old) (rules_of which (lists_at old)) (rules_of which (lists_after (lists_at old))) (made_by which effects) (state_at which slots new)
  sees-commit side.List commits =
      let made = list-of-commit setting slots old effects new commits in
      sees-table setting slots.listed old.listed new.listed _ (subst (IsPartOfCommit setting slots.listed old.listed) (sym made) commits.list_part)
      (ap (λ (p : Progress). p.listed) commits.after ∙ ap (after_part setting old.listed) (sym made))
  sees-commit side.Routes commits =
      let made = routes-of-commit setting slots old effects new commits in
      sees-table setting slots.routed old.routed new.routed _ (subst (IsPartOfCommit setting slots.routed old.routed) (sym made) commits.route_part)
      (ap (λ (p : Progress). p.routed) commits.after ∙ ap (after_part setting old.routed) (sym made))

-- ---- a run

-- on the way, and at its end
abbrev Goes : SplitState → List (List Rule) → List SplitAction → Type 0
Goes state sets events = LooksUpAllTheWay state sets events × EndsAtLastSet state sets events

-- where a run stands a table's device shows its set
abbrev IsShown : Side → DeviceSlots → Progress → Type 0
IsShown which slots progress = LooksUp (state_at which slots progress) (rules_of which (lists_at progress))

-- what acts do from where a run stands
abbrev GoesOn : Side → Setting → DeviceSlots → Progress → List RouterAct → List SplitAction → Type 0
GoesOn which setting slots old acts events = Goes (state_at which slots old) (table_sets_through which setting (lists_at old) acts) events

-- an act that does nothing to the table's device leads to these lists
record IsStill (which : Side) (slots : DeviceSlots) (old : Progress) (effects : List Effect) (new : Progress) (lists : RuleLists) : Type 0 where
  none : made_by which effects ≡ []
  state_same : state_at which slots new ≡ state_at which slots old
  lists_are : lists_at new ≡ lists
  rules_same : rules_of which lists ≡ rules_of which (lists_at old)

module _ (which : Side) (setting : Setting) (slots : DeviceSlots) (old : Progress) (effects : List Effect) (new : Progress) (acts : List RouterAct) (back : List SplitAction)
    (shown : IsShown which slots old) (more : IsShown which slots new → GoesOn which setting slots new acts back) where
  goes-still : (lists : RuleLists) → IsStill which slots old effects new lists → Goes (state_at which slots old) (table_sets_through which setting lists acts) (made_by which effects ++ back)
  goes-still lists still =
      let now : IsShown which slots new =
      subst (λ (state : SplitState). LooksUp state (rules_of which (lists_at new))) (sym still.state_same)
      (subst (λ (rules : List Rule). LooksUp (state_at which slots old) rules) (sym (ap (rules_of which) still.lists_are ∙ still.rules_same)) shown) in
      subst (λ (events : List SplitAction). Goes (state_at which slots old) (table_sets_through which setting lists acts) (events ++ back)) (sym still.none)
      (subst (λ (state : SplitState). Goes state (table_sets_through which setting lists acts) back) still.state_same
      (subst (λ (all : RuleLists). Goes (state_at which slots new) (table_sets_through which setting all acts) back) still.lists_are (more now)))

  goes-made : IsMade setting slots old effects new → GoesOn which setting slots old (Commit ∷ acts) (made_by which effects ++ back)
  goes-made made =
      let sees = sees-commit setting slots old effects new which made.1 in
      let lists : lists_at new ≡ lists_after (lists_at old) = ap lists_at made.1.after in
      let now : IsShown which slots new =
      subst (λ (state : SplitState). LooksUp state (rules_of which (lists_at new))) (sym sees.after_is)
      (subst (λ (all : RuleLists). LooksUp (state_past (state_at which slots old) (made_by which effects)) (rules_of which all)) (sym lists) sees.last) in
      let sets : List (List Rule) = table_sets_through which setting (lists_after (lists_at old)) acts in
      let goes : Goes (state_past (state_at which slots old) (made_by which effects)) sets back =
      subst (λ (state : SplitState). Goes state sets back) sees.after_is
      (subst (λ (all : RuleLists). Goes (state_at which slots new) (table_sets_through which setting all acts) back) lists (more now)) in
      subst (λ (taken : Bool). Goes (state_at which slots old) (sets_by which setting (lists_at old) acts taken) (made_by which effects ++ back)) (sym made.0) (
        segment (rules_of which (lists_at old)) (rules_of which (lists_after (lists_at old))) sets (state_at which slots old) (made_by which effects) back
            (first-set which setting (lists_after (lists_at old)) acts) sees.during sees.last goes.0,
        ends-behind (state_at which slots old) (rules_of which (lists_at old)) sets (made_by which effects) back shown goes.1,
      )

  goes-refused : IsRefused setting old effects new → GoesOn which setting slots old (Commit ∷ acts) (made_by which effects ++ back)
  goes-refused refused =
      subst (λ (taken : Bool). Goes (state_at which slots old) (sets_by which setting (lists_at old) acts taken) (made_by which effects ++ back)) (sym refused.0)
      (goes-still (lists_dropped (lists_at old)) (still which refused.1.2))
    where
      still : (one : Side) → Refuses setting refused.1.0 old refused.1.1 effects new → IsStill one slots old effects new (lists_dropped (lists_at old))
      still side.List is = record {
        none = ap (made_by side.List) is.0;
        state_same = ap (state_at side.List slots) is.1;
        lists_are = ap lists_at is.1;
        rules_same = refl;
      }
      still side.Routes is = record {
        none = ap (made_by side.Routes) is.0;
        state_same = ap (state_at side.Routes slots) is.1;
        lists_are = ap lists_at is.1;
        rules_same = refl;
      }

-- a change joins its table's pending ones, and a packet does nothing
changed : (which : Side) (slots : DeviceSlots) (setting : Setting) (old : Progress) (one : Side) (command : Command) (effects : List Effect) (new : Progress)
    → HasEffects setting slots old (Change one command) effects new → IsStill which slots old effects new (lists_with one command (lists_at old))
changed side.List slots setting old side.List command effects new step =
    record { none = ap (made_by side.List) step.0; state_same = ap (state_at side.List slots) step.1; lists_are = ap lists_at step.1; rules_same = refl }
changed side.List slots setting old side.Routes command effects new step =
    record { none = ap (made_by side.List) step.0; state_same = ap (state_at side.List slots) step.1; lists_are = ap lists_at step.1; rules_same = refl }
changed side.Routes slots setting old side.List command effects new step =
    record { none = ap (made_by side.Routes) step.0; state_same = ap (state_at side.Routes slots) step.1; lists_are = ap lists_at step.1; rules_same = refl }
changed side.Routes slots setting old side.Routes command effects new step =
    record { none = ap (made_by side.Routes) step.0; state_same = ap (state_at side.Routes slots) step.1; lists_are = ap lists_at step.1; rules_same = refl }

looked : (which : Side) (slots : DeviceSlots) (setting : Setting) (old : Progress) (key : Key) (effects : List Effect) (new : Progress)
    → HasEffects setting slots old (Packet key) effects new → IsStill which slots old effects new (lists_at old)
looked side.List slots setting old key effects new step =
    record { none = ap (made_by side.List) step.0; state_same = ap (state_at side.List slots) step.1; lists_are = ap lists_at step.1; rules_same = refl }
looked side.Routes slots setting old key effects new step =
    record { none = ap (made_by side.Routes) step.0; state_same = ap (state_at side.Routes slots) step.1; lists_are = ap lists_at step.1; rules_same = refl }

-- one act and those behind it
goes-step : (which : Side) (setting : Setting) (slots : DeviceSlots) (old : Progress) (act : RouterAct) (front : List Effect) (mid : Progress) (acts : List RouterAct) (back : List SplitAction)
    → IsShown which slots old → HasEffects setting slots old act front mid → (IsShown which slots mid → GoesOn which setting slots mid acts back)
    → GoesOn which setting slots old (act ∷ acts) (made_by which front ++ back)
goes-step which setting slots old (Change one command) front mid acts back shown step more =
    goes-still which setting slots old front mid acts back shown more (lists_with one command (lists_at old)) (changed which slots setting old one command front mid step)
goes-step which setting slots old (Packet key) front mid acts back shown step more =
    goes-still which setting slots old front mid acts back shown more (lists_at old) (looked which slots setting old key front mid step)
goes-step which setting slots old Commit front mid acts back shown step more = elim (made-or-refused setting slots old front mid step) [
  | inl made ↦ goes-made which setting slots old front mid acts back shown more made
  | inr refused ↦ goes-refused which setting slots old front mid acts back shown more refused
]

made-none : (which : Side) → made_by which [] ≡ []
made-none side.List = refl
made-none side.Routes = refl

goes : (which : Side) (setting : Setting) (slots : DeviceSlots) (old : Progress) (acts : List RouterAct) (effects : List Effect) (new : Progress) → IsShown which slots old
    → Run (HasEffects setting slots) old acts effects new → GoesOn which setting slots old acts (made_by which effects)
goes which setting slots old [] effects new shown run =
    let rules : List Rule = rules_of which (lists_at old) in
    subst (λ (events : List SplitAction). GoesOn which setting slots old [] events) (sym (ap (made_by which) run.0 ∙ made-none which))
    (stays (state_at which slots old) rules (rules ∷ []) refl shown, record { front = []; rules = rules; sets_are = refl; shows = shown; in_turn = ([], [], refl, shown, tt) })
goes which setting slots old (act ∷ acts) effects new shown (front, mid, back, step, rest, whole) =
    subst (λ (events : List SplitAction). GoesOn which setting slots old (act ∷ acts) events) (sym (ap (made_by which) whole ∙ made-append which front back))
    (goes-step which setting slots old act front mid acts (made_by which back) shown step (λ mid_shown. goes which setting slots mid acts back new mid_shown rest))

-- what a run over some acts shows of a table
abbrev pub RunGoes : Side → Setting → DeviceSlots → List RouterAct → List Effect → Type 0
RunGoes which setting slots acts effects = Goes (blank_split (slots_on which slots)) (table_sets_through which setting no_rules acts) (made_by which effects)

pub run-goes : (which : Side) (setting : Setting) (slots : DeviceSlots) (acts : List RouterAct) (effects : List Effect) (last : Progress) → Run (HasEffects setting slots) start acts effects last
    → RunGoes which setting slots acts effects
run-goes which setting slots acts effects last run =
    let blank : IsShown which slots start =
    subst (λ (state : SplitState). LooksUp state (rules_of which (lists_at start))) (sym (state-start which slots))
    (subst (λ (rules : List Rule). LooksUp (blank_split (slots_on which slots)) rules) (sym (rules-start which)) (blank-looks (slots_on which slots))) in
    subst (λ (state : SplitState). Goes state (table_sets_through which setting no_rules acts) (made_by which effects)) (state-start which slots)
    (goes which setting slots start acts effects last blank run)

-- where a run is cut in the middle of an act, by what it would have come to
pub cut-answers : (which : Side) (setting : Setting) (slots : DeviceSlots) (done : List RouterAct) (act : RouterAct) (behind all : List RouterAct) (body front back : List Effect) → all ≡ done ++ act ∷ behind
    → RunGoes which setting slots (done ++ act ∷ []) (body ++ (front ++ back))
    → LooksUpAllTheWay (blank_split (slots_on which slots)) (table_sets_through which setting no_rules all) (made_by which (body ++ front))
cut-answers which setting slots done act behind all body front back same goes =
    let blank : SplitState = blank_split (slots_on which slots) in
    let first : List RouterAct = done ++ act ∷ [] in
    let whole : List Effect = body ++ (front ++ back) in
    let parts : made_by which whole ≡ made_by which (body ++ front) ++ made_by which back =
    ap (made_by which) (sym (append_assoc body front back)) ∙ made-append which (body ++ front) back in
    let sets : List (List Rule) = table_sets_through which setting no_rules all in
    let more = more-sets which setting no_rules first behind in
    let answers : LooksUpAllTheWay blank sets (made_by which whole) =
    subst (λ (acts : List RouterAct). LooksUpAllTheWay blank (table_sets_through which setting no_rules acts) (made_by which whole)) (sym (same ∙ sym (append_assoc done (act ∷ []) behind)))
    (wider blank (table_sets_through which setting no_rules first) (table_sets_through which setting no_rules (first ++ behind)) more.0 (made_by which whole) more.1 goes.0) in
    cut blank sets (made_by which (body ++ front)) (made_by which back) (subst (λ (events : List SplitAction). LooksUpAllTheWay blank sets events) parts answers)
