-- The report of one route, and how many commits of some acts are accepted, by computation.
use Rattle.std.proofs.Common.{◌≡◌, ℕ, true, false, List, [], ◌∷◌, ◌++◌, refl}
use Rattle.std.specs.Prelude.{codes}
use Rattle.std.specs.Fmt.{digits}
use Rattle.rule_model.specs.declared.IpVersion.TheVariants.{V4}
use Rattle.rule_model.specs.Entry.{entry_for}
use Rattle.rule_store.specs.declared.Command.TheVariants.{Add as Adds, Del as Dels}
use Rattle.rule_store.specs.declared.Mode.TheVariants.{Cover}
use Rattle.batch_order.specs.declared.Placement.TheVariants.{Middle}
use Rattle.trace_file.specs.declared.TraceLine.TheVariants.{Head, Add, Put, End, Done, Fault, Refused}
use Rattle.trace_file.specs.declared.TraceLine.TheVariants as line
use Rattle.trace_check.proofs.OneRoute.{route, piece}
use Rattle.replay.specs.declared.Act.{Act}
use Rattle.replay.specs.declared.Act.TheVariants.{Command, Commit, Trial}
use Rattle.report_lines.specs.declared.Family.TheVariants.{Route}
use Rattle.replay.specs.Effects.{Setting}
use Rattle.json_traces.specs.Traces.{trace_text, accepted_in, AreTraceActs}

abbrev feed : List ℕ
feed = 10 ∷ []

-- the report of one route over eight slots
one_route : trace_text V4 [] (Head V4 false false 8 ∷ line.Commit 1 ∷ Add route ∷ Put 3 (entry_for piece) ∷ Done 1 ∷ End 1 ∷ [])
    ≡ codes "{\"family\":\"route\",\"mode\":\"cover\",\"slots\":8}" ++ feed ++ codes "{\"commit\":1}" ++ feed
    ++ codes "{\"add\":[68887314432,0,0,167837696,16,null,0,65535,0,65535,7]}" ++ feed
    ++ codes "{\"put\":[0,167837696,0,0,0,0,4294901760,0,0,0,68887314432,7],\"slot\":3}" ++ feed ++ codes "{\"done\":1}" ++ feed ++ codes "{\"end\":1}" ++ feed
unfolding digits
one_route = refl

-- a commit that is refused, and a fault
one_fault : trace_text V4 (codes "host bits") (Head V4 false false 8 ∷ Refused 1 ∷ Fault 3 ∷ [])
    ≡ codes "{\"family\":\"route\",\"mode\":\"cover\",\"slots\":8}" ++ feed ++ codes "{\"refused\":1}" ++ feed ++ codes "{\"fault\":\"host bits\",\"line\":3}" ++ feed
unfolding digits
one_fault = refl

abbrev eight : Setting
eight = record { slots = 8; mode = Cover; placement = Middle; family = Route; trace = false; depth = 0; json = true; names = false; parts = false; large = false }

-- the route is added, once more, which is refused, and removed
abbrev three : List Act
three = Command (Adds route) ∷ Commit ∷ Command (Adds route) ∷ Commit ∷ Command (Dels route.priority) ∷ Commit ∷ []

two_accepted : accepted_in eight three ≡ 2
two_accepted = refl

-- a trial has no line
no_trial : AreTraceActs V4 0 (Trial 1 ∷ []) → ⊥
no_trial told = told
