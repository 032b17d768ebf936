-- What a commit prints in JSON is the text of its lines.
use Rattle.std.proofs.Common.{◌≡◌, ℕ, zero, suc, ◌+◌, ◌==◌, Bool, true, false, min, List, [], ◌∷◌, ◌++◌, length, map, Option, Some, None, refl, sym, ap, ap₂, ◌∙◌, arith, append_assoc, append-nil}
use Rattle.std.proofs.lemmas.Bool.Decides.{nat_tests}
use Rattle.std.proofs.lemmas.Grind.{flat_map-append}
use Rattle.rule_store.specs.declared.Command.{Command as Change}
use Rattle.rule_store.specs.declared.Command.TheVariants as change
use Rattle.tcam_device.specs.declared.Write.TheVariants as write
use Rattle.tcam_device.specs.declared.Action.{Action}
use Rattle.tcam_device.specs.declared.Action.TheVariants.{Written, Drained}
use Rattle.tcam_device.specs.Flight.{writes_in}
use Rattle.tcam_device.specs.State.{State, apply, state_after}
use Rattle.trace_file.specs.declared.TraceLine.{TraceLine}
use Rattle.trace_file.specs.declared.TraceLine.TheVariants as line
use Rattle.json_text.specs.JsonText.{json_line}
use Rattle.trace_check.specs.Places.{Work, part_lines}
use Rattle.trace_check.specs.Segments.{action_line}
use Rattle.replay.specs.Effects.{Setting, Effect, Acts, Prints, printed, searches_of, flushed, searched_after, waiting_after, effects_of}
use Rattle.replay.specs.JsonLines.{behind, change_line, head_line, shared_line}
use Rattle.report_lines.specs.Text.{family_version}
use Rattle.replay.specs.Reports.{head_due}
use Rattle.replay.specs.Run.{Progress, carried, carried_so_far}
use Rattle.replay.proofs.lines.Effects.{printed-append}
use Rattle.json_traces.specs.Traces.{trace_text}

-- the head, where it is due, and two texts
pub behind_append : (head : Option TraceLine) (a b : List ℕ) → behind head a ++ b ≡ behind head (a ++ b)
behind_append None a b = refl
behind_append (Some head) a b = append_assoc (shared_line [] head) a b

-- behind a commit none is due
pub none_due : (setting : Setting) (commits : ℕ) → head_due setting (commits + 1) ≡ None
none_due setting commits = go (commits + 1 == 0) later
  where
    later : (commits + 1 == 0) ≡ false
    later = grind (arith, nat_tests)

    go : (first : Bool) → first ≡ false
        → ◌≡◌ {A = Option TraceLine} (elim first [ true ↦ Some (head_line setting.family setting.mode setting.slots) | false ↦ None ]) None
    go true bad = absurd (let wrong : true ≡ false = bad in cc)
    go false is = refl

-- a report in JSON
abbrev pub in_json : Setting → Setting
in_json setting = record setting { json = true }

-- without probes nothing is searched
flushed-none : (setting : Setting) (number : ℕ) (state : State) (waiting : ℕ) → flushed setting.family [] number state waiting ≡ []
flushed-none setting number state zero = refl
flushed-none setting number state (suc more) = flushed-none setting number state more

searched-none : (setting : Setting) (number waiting : ℕ) (state : State) → searched_after setting [] number waiting state ≡ []
searched-none setting number waiting state = go (waiting == setting.depth)
  where
    go : (full : Bool) → ◌≡◌ {A = List Effect} (elim full [ true ↦ searches_of setting.family number state 1 [] | false ↦ [] ]) []
    go true = refl
    go false = refl

module _ (asked : Setting) (fault : List ℕ) where
  abbrev setting : Setting
  setting = in_json asked

  -- the commands
  pub of_commands : (batch : List Change) → printed (map (λ one. Prints (json_line (family_version setting.family) [] (change_line one))) batch) ≡ trace_text (family_version setting.family) fault (map change_line batch)
  of_commands [] = refl
  of_commands (change.Add rule ∷ batch) = ap (λ text. json_line (family_version setting.family) [] (line.Add rule) ++ text) (of_commands batch)
  of_commands (change.Set priority answer ∷ batch) = ap (λ text. json_line (family_version setting.family) [] (line.Set priority answer) ++ text) (of_commands batch)
  of_commands (change.Del priority ∷ batch) = ap (λ text. json_line (family_version setting.family) [] (line.Del priority) ++ text) (of_commands batch)

  -- the events
  pub of_actions : (actions : List Action) (number waiting : ℕ) (state : State) → printed (effects_of setting [] number waiting state actions) ≡ trace_text (family_version setting.family) fault (map action_line actions)
  of_actions [] number waiting state = refl
  of_actions (Written (write.Slot at (Some entry)) ∷ actions) number waiting state =
      let next = apply state (write.Slot at (Some entry)) in
      let later = effects_of setting [] (number + 1) (min (waiting + 1) setting.depth) next actions in
      ap (λ (found : List Effect). json_line (family_version setting.family) [] (line.Put at entry) ++ printed (found ++ later)) (searched-none setting (number + 1) waiting next)
      ∙ ap (λ text. json_line (family_version setting.family) [] (line.Put at entry) ++ text) (of_actions actions (number + 1) (min (waiting + 1) setting.depth) next)
  of_actions (Written (write.Slot at None) ∷ actions) number waiting state =
      let next = apply state (write.Slot at None) in
      let later = effects_of setting [] (number + 1) (min (waiting + 1) setting.depth) next actions in
      ap (λ (found : List Effect). json_line (family_version setting.family) [] (line.Erase at) ++ printed (found ++ later)) (searched-none setting (number + 1) waiting next)
      ∙ ap (λ text. json_line (family_version setting.family) [] (line.Erase at) ++ text) (of_actions actions (number + 1) (min (waiting + 1) setting.depth) next)
  of_actions (Written (write.Table field port word) ∷ actions) number waiting state =
      let next = apply state (write.Table field port word) in
      let later = effects_of setting [] (number + 1) (min (waiting + 1) setting.depth) next actions in
      ap (λ (found : List Effect). json_line (family_version setting.family) [] (line.Table field port word) ++ printed (found ++ later)) (searched-none setting (number + 1) waiting next)
      ∙ ap (λ text. json_line (family_version setting.family) [] (line.Table field port word) ++ text) (of_actions actions (number + 1) (min (waiting + 1) setting.depth) next)
  of_actions (Drained ∷ actions) number waiting state =
      let later = effects_of setting [] number 0 state actions in
      ap (λ (found : List Effect). printed (found ++ Acts Drained ∷ Prints (shared_line [] line.Drain) ∷ later)) (flushed-none setting number state waiting)
      ∙ ap (λ text. shared_line [] line.Drain ++ text) (of_actions actions number 0 state)

  -- four texts behind the head, where it is due
  regroup : (head : Option TraceLine) (a b c d : List ℕ) → ((behind head a ++ b) ++ c) ++ d ≡ behind head (a ++ (b ++ (c ++ d)))
  regroup head a b c d =
      ap (λ text. (text ++ c) ++ d) (behind_append head a b) ∙ ap (λ text. text ++ d) (behind_append head (a ++ b) c) ∙ behind_append head ((a ++ b) ++ c) d
      ∙ ap (behind head) (append_assoc (a ++ b) c d ∙ append_assoc a b (c ++ d))

  -- the lines of a commit, one part behind the other
  abbrev parts_text : ℕ → List Change → List Action → List ℕ
  parts_text number batch actions =
      shared_line [] (line.Commit number) ++ (trace_text (family_version setting.family) fault (map change_line batch) ++ (trace_text (family_version setting.family) fault (map action_line actions) ++ (shared_line [] (line.Done number) ++ [])))

  parts_text-is : (number : ℕ) (batch : List Change) (actions : List Action)
      → trace_text (family_version setting.family) fault (part_lines number (Work (map change_line batch) (map action_line actions))) ≡ parts_text number batch actions
  parts_text-is number batch actions =
      ap (λ text. shared_line [] (line.Commit number) ++ text)
      (flat_map-append (json_line (family_version setting.family) fault) (map change_line batch) (map action_line actions ++ line.Done number ∷ [])
      ∙ ap (λ text. trace_text (family_version setting.family) fault (map change_line batch) ++ text) (flat_map-append (json_line (family_version setting.family) fault) (map action_line actions) (line.Done number ∷ [])))

  -- a whole commit
  pub of_commit : (old : Progress) (actions : List Action)
      → printed (carried setting old actions ++ Prints (shared_line [] (line.Done (old.commits + 1))) ∷ [])
      ≡ behind (head_due setting old.commits) (trace_text (family_version setting.family) fault (part_lines (old.commits + 1) (Work (map change_line old.batch) (map action_line actions))))
  of_commit old actions =
      let number = old.commits + 1 in
      let due = head_due setting old.commits in
      let last : List Effect = Prints (shared_line [] (line.Done number)) ∷ [] in
      let first : List Effect = Prints (behind due (shared_line [] (line.Commit number))) ∷ map (λ one. Prints (json_line (family_version setting.family) [] (change_line one))) old.batch in
      let made : List Effect = effects_of setting [] 0 0 old.state actions in
      let found : List Effect = flushed setting.family [] (length (writes_in actions)) (state_after old.state (writes_in actions)) (waiting_after setting.depth 0 actions) in
      printed-append (carried setting old actions) last
      ∙ ap (λ text. text ++ printed last)
      (printed-append (carried_so_far setting old actions) found
      ∙ ap (λ (some : List Effect). printed (carried_so_far setting old actions) ++ printed some) (flushed-none setting (length (writes_in actions)) (state_after old.state (writes_in actions)) (waiting_after setting.depth 0 actions))
      ∙ append-nil (printed (carried_so_far setting old actions)) ∙ printed-append first made)
      ∙ ap₂ (λ a b. ((behind due (shared_line [] (line.Commit number)) ++ a) ++ b) ++ printed last) (of_commands old.batch) (of_actions actions 0 0 old.state)
      ∙ regroup due (shared_line [] (line.Commit number)) (trace_text (family_version setting.family) fault (map change_line old.batch)) (trace_text (family_version setting.family) fault (map action_line actions)) (printed last)
      ∙ ap (behind due) (sym (parts_text-is number old.batch actions))

  -- a refused one
  pub of_refusal : (commits : ℕ)
      → printed (Prints (behind (head_due setting commits) (shared_line [] (line.Refused (commits + 1)))) ∷ [])
      ≡ behind (head_due setting commits) (trace_text (family_version setting.family) fault (line.Refused (commits + 1) ∷ []))
  of_refusal commits = behind_append (head_due setting commits) (shared_line [] (line.Refused (commits + 1))) []
