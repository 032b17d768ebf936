-- What calls leave of both devices, one after the other.
use Rattle.std.proofs.Common.{◌≡◌, ℕ, ◌+◌, Option, Some, None, IsSome, Result, Err, List, [], ◌++◌, length, refl, sym, ap, ◌∙◌, subst, append_assoc, append-nil, arith, length-append}
use Rattle.std.proofs.lemmas.Int.{clamps}
use Rattle.batch_order.specs.CarriedOut.{IsTried}
use Rattle.batch_order.specs.Managed.{HeldCommit}
use Rattle.split_device.specs.declared.SplitAction.{SplitAction}
use Rattle.split_device.specs.Flight.{Flight, written}
use Rattle.split_writes.proofs.Made.{written_append}
use Rattle.router.specs.declared.Side.{Side}
use Rattle.router.specs.declared.Side.TheVariants as side
use Rattle.router.specs.declared.RouterFault.{RouterFault}
use Rattle.router.specs.declared.RouterFault.TheVariants.{Device}
use Rattle.router.specs.Routing.{Routing}
use Rattle.router.specs.Carried.{LeavesDevice}
use Rattle.router.specs.Acting.{FailedAt, failed_side}
use Rattle.router.proofs.Parts.{leaves_same}
use Rattle.router.proofs.Cutting.{list_failed, routes_failed}
use Rattle.router_runs.specs.Rounds.{LeavesBoth}

-- ---- which device failed

-- what says of each device whether it failed, by whether one did, and which
abbrev pub FailsOf : Type 0 → Side → Side → Type 0
FailsOf Stuck failed which = Stuck × (failed ≡ which)

pub never-fails : (Stuck : Type 0) (failed : Side) → (Stuck → ⊥) → (which : Side) → FailsOf Stuck failed which → ⊥
never-fails Stuck failed never which fails = never fails.0

pub fails-as : (A B : Type 0) (failed : Side) → (A → B) → (which : Side) → FailsOf A failed which → FailsOf B failed which
fails-as A B failed to which fails = (to fails.0, fails.1)

-- the list where its plan is held still, and else the routes
held-of : (router : Routing) → failed_side router ≡ side.List → IsSome router.listed.whole.held
held-of router same = by router.listed.whole.held refl
  where
    by : (held : Option HeldCommit) → router.listed.whole.held ≡ held → IsSome router.listed.whole.held
    by (Some one) is = subst (λ (held : Option HeldCommit). IsSome held) (sym is) refl
    by None is = absurd (let wrong : side.Routes ≡ side.List = routes_failed router is ∙ same in cc)

none-of : (router : Routing) → failed_side router ≡ side.Routes → router.listed.whole.held ≡ None
none-of router same = by router.listed.whole.held refl
  where
    by : (held : Option HeldCommit) → router.listed.whole.held ≡ held → router.listed.whole.held ≡ None
    by (Some one) is = absurd (let wrong : side.List ≡ side.Routes = list_failed router (subst (λ (held : Option HeldCommit). IsSome held) (sym is) refl) ∙ same in cc)
    by None is = is

-- ---- what is left of them

-- no part is tried
tried-none : (Stuck : Type 0) (count : ℕ) → (Stuck → ⊥) → IsTried 4 0 Stuck count count
tried-none Stuck count never = record {
  later = omega arith;
  most = λ _. omega arith;
  most_stuck = omega arith;
  failed = λ stuck. absurd (never stuck);
}

-- first some that came to their end, and then some more
tried-then : (first second : ℕ) (A B : Type 0) (before mid now : ℕ) → (A → ⊥) → IsTried 4 first A before mid → IsTried 4 second B mid now → IsTried 4 (first + second) B before now
tried-then first second A B before mid now went was is =
    let early = was.later in
    let low = was.most went in
    record {
      later = (let late = is.later in omega arith);
      most = λ ends. (let high = is.most ends in omega arith);
      most_stuck = (let high = is.most_stuck in omega arith);
      failed = λ stuck. (let rose = is.failed stuck in omega (arith, clamps));
    }

module _ {D : Type 0} (slots : D → ℕ) (events : D → List SplitAction) (flight : D → Flight) (faults : D → ℕ) where
  leaves-still : (device : D) (Failed : Type 0) → (Failed → ⊥) → LeavesDevice slots events flight faults device device Failed
  leaves-still device Failed never = record {
    slot_count = refl;
    flight_is = refl;
    made = [];
    grown = sym (append-nil (events device));
    cause = tried-none Failed (faults device) never;
  }

  leaves-then : (old mid new : D) (A B : Type 0) → (A → ⊥) → LeavesDevice slots events flight faults old mid A → LeavesDevice slots events flight faults mid new B
      → LeavesDevice slots events flight faults old new B
  leaves-then old mid new A B went was is = record {
    slot_count = is.slot_count ∙ was.slot_count;
    flight_is = is.flight_is ∙ was.flight_is;
    made = was.made ++ is.made;
    grown = is.grown ∙ ap (λ (made : List SplitAction). made ++ is.made) was.grown ∙ append_assoc (events old) was.made is.made;
    cause = subst (λ (n : ℕ). IsTried 4 n B (faults old) (faults new)) (sym (ap length (written_append was.made is.made) ∙ length-append (written was.made) (written is.made)))
        (tried-then (length (written was.made)) (length (written is.made)) A B (faults old) (faults mid) (faults new) went was.cause is.cause);
  }

  -- neither device is touched
  pub both-still : (list routes : D) (Failed : Side → Type 0) → ((which : Side) → Failed which → ⊥) → LeavesBoth slots events flight faults list list routes routes Failed
  both-still list routes Failed never =
      record { list = leaves-still list (Failed side.List) (never side.List); routes = leaves-still routes (Failed side.Routes) (never side.Routes) }

  -- a call by which neither failed, and then another
  pub both-then : (list_old list_mid list_new routes_old routes_mid routes_new : D) (A B : Side → Type 0) → ((which : Side) → A which → ⊥)
      → LeavesBoth slots events flight faults list_old list_mid routes_old routes_mid A → LeavesBoth slots events flight faults list_mid list_new routes_mid routes_new B
      → LeavesBoth slots events flight faults list_old list_new routes_old routes_new B
  both-then list_old list_mid list_new routes_old routes_mid routes_new A B went was is = record {
    list = leaves-then list_old list_mid list_new (A side.List) (B side.List) (went side.List) was.list is.list;
    routes = leaves-then routes_old routes_mid routes_new (A side.Routes) (B side.Routes) (went side.Routes) was.routes is.routes;
  }

  -- failures that come exactly where those do
  pub both-as : (list_old list_new routes_old routes_new : D) (A B : Side → Type 0) → ((which : Side) → A which → B which) → ((which : Side) → B which → A which)
      → LeavesBoth slots events flight faults list_old list_new routes_old routes_new A → LeavesBoth slots events flight faults list_old list_new routes_old routes_new B
  both-as list_old list_new routes_old routes_new A B to back is = record {
    list = leaves_same slots events flight faults list_old list_new (A side.List) (B side.List) (to side.List) (back side.List) is.list;
    routes = leaves_same slots events flight faults routes_old routes_new (A side.Routes) (B side.Routes) (to side.Routes) (back side.Routes) is.routes;
  }

  -- what an act leaves: where the list's plan is held still its device failed, and else the routes'
  pub both-of : (list_old list_new routes_old routes_new : D) (new : Routing) (result : Result (Unit {0}) RouterFault)
      → LeavesDevice slots events flight faults list_old list_new (FailedAt side.List new result) → LeavesDevice slots events flight faults routes_old routes_new (FailedAt side.Routes new result)
      → LeavesBoth slots events flight faults list_old list_new routes_old routes_new (FailsOf (result ≡ Err Device) (failed_side new))
  both-of list_old list_new routes_old routes_new new result list routes = record {
    list = leaves_same slots events flight faults list_old list_new (FailedAt side.List new result) (FailsOf (result ≡ Err Device) (failed_side new) side.List)
        (λ failed. (failed.0, sym (list_failed new failed.1))) (λ failed. (failed.0, held-of new failed.1)) list;
    routes = leaves_same slots events flight faults routes_old routes_new (FailedAt side.Routes new result) (FailsOf (result ≡ Err Device) (failed_side new) side.Routes)
        (λ failed. (failed.0, sym (routes_failed new failed.1))) (λ failed. (failed.0, none-of new failed.1)) routes;
  }

  -- the tries of a run whose devices were blank, by their events
  pub list-tried : (list_old list_new routes_old routes_new : D) (A : Side → Type 0) (is : LeavesBoth slots events flight faults list_old list_new routes_old routes_new A) → events list_old ≡ []
      → IsTried 4 (length (written (events list_new))) (A side.List) (faults list_old) (faults list_new)
  list-tried list_old list_new routes_old routes_new A is blank =
      subst (λ (all : List SplitAction). IsTried 4 (length (written all)) (A side.List) (faults list_old) (faults list_new))
      (sym (is.list.grown ∙ ap (λ (old : List SplitAction). old ++ is.list.made) blank)) is.list.cause

  pub routes-tried : (list_old list_new routes_old routes_new : D) (A : Side → Type 0) (is : LeavesBoth slots events flight faults list_old list_new routes_old routes_new A) → events routes_old ≡ []
      → IsTried 4 (length (written (events routes_new))) (A side.Routes) (faults routes_old) (faults routes_new)
  routes-tried list_old list_new routes_old routes_new A is blank =
      subst (λ (all : List SplitAction). IsTried 4 (length (written all)) (A side.Routes) (faults routes_old) (faults routes_new))
      (sym (is.routes.grown ∙ ap (λ (old : List SplitAction). old ++ is.routes.made) blank)) is.routes.cause
