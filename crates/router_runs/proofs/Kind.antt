-- A router's runs as a kind of runs: what the lemmas of script_runs ask of them.
use Rattle.std.proofs.Common.{◌≡◌, ℕ, List, [], ◌∷◌, ◌++◌, refl, ap, ap₂, append_assoc, append-nil}
use Rattle.script_runs.specs.Script.{Reading}
use Rattle.script_runs.specs.Rounds as rounds
use Rattle.script_runs.specs.Rounds.{Grows}
use Rattle.script_runs.proofs.Joined.{AreJoined, does-grows}
use Rattle.split_device.specs.declared.SplitAction.{SplitAction}
use Rattle.router.specs.declared.Side.TheVariants as side
use Rattle.router.specs.declared.RouterAct.{RouterAct}
use Rattle.router.specs.Run.{DeviceSlots, Effect, Makes, Prints, Setting, made_of_list, made_of_routes, printed}
use Rattle.router.specs.Acting.{Does, Outside}
use Rattle.router.specs.Taken.{made_on}
use Rattle.router.proofs.Effects.{printed_append}
use Rattle.router_runs.specs.Runs.{made_of_both, made_then, router_kind}

pub list-append : (front back : List Effect) → made_of_list (front ++ back) ≡ made_of_list front ++ made_of_list back
list-append [] back = refl
list-append (Makes side.List action ∷ front) back = ap (λ (made : List SplitAction). action ∷ made) (list-append front back)
list-append (Makes side.Routes action ∷ front) back = list-append front back
list-append (Prints line ∷ front) back = list-append front back

pub routes-append : (front back : List Effect) → made_of_routes (front ++ back) ≡ made_of_routes front ++ made_of_routes back
routes-append [] back = refl
routes-append (Makes side.List action ∷ front) back = routes-append front back
routes-append (Makes side.Routes action ∷ front) back = ap (λ (made : List SplitAction). action ∷ made) (routes-append front back)
routes-append (Prints line ∷ front) back = routes-append front back

pub joins : AreJoined Prints printed made_of_both made_then
joins = record {
  assoc = λ first second third. ap₂ made_on (append_assoc first.list second.list third.list) (append_assoc first.routes second.routes third.routes);
  none = λ events. ap₂ made_on (append-nil events.list) (append-nil events.routes);
  events_append = λ front back. ap₂ made_on (list-append front back) (routes-append front back);
  events_line = λ text. refl;
  printed_append = printed_append;
  printed_line = λ text. append-nil text;
}

module _ (reading : Reading RouterAct) (setting : Setting) (slots : DeviceSlots) (effects : List Effect) (partial : List ℕ) (before after : Outside) (does : Does effects partial before after) where
  pub does-of : rounds.Does (router_kind reading setting slots) effects partial (made_on before.list before.routes) (made_on after.list after.routes) before.taken after.taken
  does-of = record { events = ap₂ made_on does.list does.routes; report = does.report }

  pub grows-of : Grows made_then (made_on before.list before.routes) (made_on after.list after.routes) before.taken after.taken
  grows-of = does-grows (router_kind reading setting slots) joins effects partial (made_on before.list before.routes) (made_on after.list after.routes) before.taken after.taken does-of
