-- What is told of a commit before its first write, and its actions behind that.
use Rattle.std.proofs.Common.{Bool, true, false, ◌+◌, ◌≡◌, ◌≤◌, ℕ, zero, suc, List, [], ◌∷◌, ◌++◌, Option, Some, Result, Ok, Err, OnErr, length, map, take, drop, refl, sym, ap, ◌∙◌, subst, append_assoc, append-nil, arith}
use Rattle.std.specs.Prelude.{slice_get}
use Rattle.std.proofs.lemmas.List.{take_all}
use Rattle.std.specs.Io.KnownBytes.{Appends}
use Rattle.std.proofs.KnownBytes.{Appends-trans}
use Rattle.rule_model.specs.declared.IpVersion.{IpVersion}
use Rattle.rule_store.specs.declared.Command.{Command as Change}
use Rattle.tcam_device.specs.declared.Action.{Action}
use Rattle.tcam_device.specs.Flight.{writes_in}
use Rattle.tcam_device.specs.State.{state_after}
use Rattle.json_text.specs.JsonText.{json_line}
use Rattle.trace_file.specs.declared.TraceLine.TheVariants as line
use Rattle.replay.specs.Effects.{Setting, Effect, Prints, events_in, effects_of, flushed, printed, probes_told, waiting_after}
use Rattle.report_lines.specs.Outside.{AppendsPart}
use Rattle.replay.specs.Outside.{CutsLines}
use Rattle.replay.specs.JsonLines.{behind, change_line, shared_line}
use Rattle.report_lines.specs.Text.{family_version}
use Rattle.replay.specs.Reports.{head_due, opened}
use Rattle.replay.specs.Run.{Progress, carried, carried_so_far}
use Rattle.replay.proofs.lines.Effects.{effects-append, events-actions, events-append, printed-append}

-- lines do nothing to the device
events-commands : (version : IpVersion) (batch : List Change) → events_in (map (λ change. Prints (json_line version [] (change_line change))) batch) ≡ []
events-commands version [] = refl
events-commands version (change ∷ batch) = events-commands version batch

pub events-opened : (setting : Setting) (commits : ℕ) (batch : List Change) → events_in (opened setting commits batch) ≡ []
events-opened setting commits batch = go setting.json
  where
    go : (json : Bool)
        → events_in
        (elim json [
          | true ↦
              Prints (behind (head_due setting commits) (shared_line [] (line.Commit (commits + 1))))
              ∷ map (λ change. Prints (json_line (family_version setting.family) [] (change_line change))) batch
          | false ↦ []
        ])
        ≡ []
    go true = events-commands (family_version setting.family) batch
    go false = refl

-- the lines of some commands
abbrev pub of_commands : IpVersion → List Change → List Effect
of_commands version batch = map (λ change. Prints (json_line version [] (change_line change))) batch

-- in JSON: the commit's number and the first so many of its commands
abbrev pub opening : Setting → ℕ → List Change → ℕ → List Effect
opening setting commits batch place =
    Prints (behind (head_due setting commits) (shared_line [] (line.Commit (commits + 1)))) ∷ of_commands (family_version setting.family) (take place batch)

-- one command more
commands-more : (version : IpVersion) (batch : List Change) (place : ℕ) (change : Change) → slice_get batch place ≡ Some change
    → of_commands version (take (suc place) batch) ≡ of_commands version (take place batch) ++ Prints (json_line version [] (change_line change)) ∷ []
commands-more version [] place change is = absurd (cc)
commands-more version (first ∷ batch) zero change is = let same : first ≡ change = cc in ap (λ one. Prints (json_line version [] (change_line one)) ∷ []) same
commands-more version (first ∷ batch) (suc place) change is = ap (λ lines. Prints (json_line version [] (change_line first)) ∷ lines) (commands-more version batch place change is)

-- and those behind it
commands-whole : (version : IpVersion) (batch : List Change) (place : ℕ) (change : Change) → slice_get batch place ≡ Some change
    → of_commands version batch ≡ of_commands version (take place batch) ++ Prints (json_line version [] (change_line change)) ∷ of_commands version (drop (suc place) batch)
commands-whole version [] place change is = absurd (cc)
commands-whole version (first ∷ batch) zero change is = let same : first ≡ change = cc in ap (λ one. Prints (json_line version [] (change_line one)) ∷ of_commands version batch) same
commands-whole version (first ∷ batch) (suc place) change is = ap (λ lines. Prints (json_line version [] (change_line first)) ∷ lines) (commands-whole version batch place change is)

-- what is told in words, and in JSON
pub opened-words : (setting : Setting) (commits : ℕ) (batch : List Change) → setting.json ≡ false → opened setting commits batch ≡ []
opened-words setting commits batch words = ap (λ json. opened (record setting { json = json }) commits batch) words

pub opened-json : (setting : Setting) (commits : ℕ) (batch : List Change) (place : ℕ) → setting.json ≡ true → length batch ≤ place → opened setting commits batch ≡ opening setting commits batch place
opened-json setting commits batch place json all =
    ap (λ one. opened (record setting { json = one }) commits batch) json
    ∙ ap (λ some. Prints (behind (head_due setting commits) (shared_line [] (line.Commit (commits + 1)))) ∷ of_commands (family_version setting.family) some) (sym (take_all place batch all))

module _ (setting : Setting) (commits : ℕ) (batch : List Change) (old mid new : Option (List ℕ)) where
  -- the first line is told
  pub opening-none : Appends old mid (behind (head_due setting commits) (shared_line [] (line.Commit (commits + 1)))) → Appends old mid (printed (opening setting commits batch 0))
  opening-none told = subst (Appends old mid) (sym (append-nil (behind (head_due setting commits) (shared_line [] (line.Commit (commits + 1)))))) told

  module _ (place : ℕ) (change : Change) (is : slice_get batch place ≡ Some change) (told : Appends old mid (printed (opening setting commits batch place))) where
    -- one line more is
    pub opening-more : Appends mid new (json_line (family_version setting.family) [] (change_line change)) → Appends old new (printed (opening setting commits batch (place + 1)))
    opening-more more =
        let next : place + 1 ≡ suc place = omega arith in
        let first = behind (head_due setting commits) (shared_line [] (line.Commit (commits + 1))) in
        let text = json_line (family_version setting.family) [] (change_line change) in
        subst (Appends old new)
        (sym (ap (λ n. printed (opening setting commits batch n)) next
        ∙ ap (λ lines. printed (Prints first ∷ lines)) (commands-more (family_version setting.family) batch place change is)
        ∙ printed-append (opening setting commits batch place) (Prints text ∷ [])
        ∙ ap (λ last. printed (opening setting commits batch place) ++ last) (append-nil text)))
        (Appends-trans old mid new (printed (opening setting commits batch place)) text told more)

    -- or it is cut
    opening-part : setting.json ≡ true → AppendsPart mid new (json_line (family_version setting.family) [] (change_line change)) → CutsLines (opened setting commits batch) old new
    opening-part json part =
        let first = behind (head_due setting commits) (shared_line [] (line.Commit (commits + 1))) in record {
          front = opening setting commits batch place;
          partial = part.0;
          rest = part.1;
          back = of_commands (family_version setting.family) (drop (suc place) batch);
          cut = ap (λ one. opened (record setting { json = one }) commits batch) json
              ∙ ap (λ lines. Prints first ∷ lines) (commands-whole (family_version setting.family) batch place change is)
              ∙ ap (λ text. opening setting commits batch place ++ Prints text ∷ of_commands (family_version setting.family) (drop (suc place) batch)) part.2;
          grown = Appends-trans old mid new (printed (opening setting commits batch place)) part.0 told part.3;
        }

    -- by the answer of what told it
    pub opening-cut : setting.json ≡ true → {E : Type 0} (result : Result (Unit {0}) E) → AppendsPart mid new (json_line (family_version setting.family) [] (change_line change)) → OnErr result (CutsLines (opened setting commits batch) old new)
    opening-cut json (Ok done) part = tt
    opening-cut json (Err fault) part = opening-part json part

-- some actions, and more behind them
pub carried-append : (setting : Setting) (old : Progress) (made more : List Action)
    → carried_so_far setting old (made ++ more)
    ≡ carried_so_far setting old made
    ++ effects_of setting (probes_told setting.json old.probes) (0 + length (writes_in made)) (waiting_after setting.depth 0 made) (state_after old.state (writes_in made)) more
carried-append setting old made more =
    let keys = probes_told setting.json old.probes in
    ap (λ effects. opened setting old.commits old.batch ++ effects) (effects-append setting keys 0 0 old.state made more)
    ∙ sym (append_assoc (opened setting old.commits old.batch) (effects_of setting keys 0 0 old.state made)
    (effects_of setting keys (0 + length (writes_in made)) (waiting_after setting.depth 0 made) (state_after old.state (writes_in made)) more))

-- all that the actions do to the device is what they are
pub events-so_far : (setting : Setting) (old : Progress) (actions : List Action) → events_in (carried_so_far setting old actions) ≡ actions
events-so_far setting old actions =
    let effects = effects_of setting (probes_told setting.json old.probes) 0 0 old.state actions in
    events-append (opened setting old.commits old.batch) effects
    ∙ ap (λ lines. lines ++ events_in effects) (events-opened setting old.commits old.batch)
    ∙ events-actions setting (probes_told setting.json old.probes) 0 0 old.state actions

-- in words nothing stands before the actions, and all probes are told of
pub so_far-words : (setting : Setting) (old : Progress) (actions : List Action) → setting.json ≡ false → carried_so_far setting old actions ≡ effects_of setting old.probes 0 0 old.state actions
so_far-words setting old actions words =
    ap (λ lines. lines ++ effects_of setting (probes_told setting.json old.probes) 0 0 old.state actions) (opened-words setting old.commits old.batch words)
    ∙ ap (λ json. effects_of setting (probes_told json old.probes) 0 0 old.state actions) words

pub carried-words : (setting : Setting) (old : Progress) (actions : List Action) → setting.json ≡ false
    → carried setting old actions
    ≡ effects_of setting old.probes 0 0 old.state actions
    ++ flushed setting.family old.probes (length (writes_in actions)) (state_after old.state (writes_in actions)) (waiting_after setting.depth 0 actions)
carried-words setting old actions words =
    let number = length (writes_in actions) in
    let after = state_after old.state (writes_in actions) in
    let waiting = waiting_after setting.depth 0 actions in
    ap (λ effects. effects ++ flushed setting.family (probes_told setting.json old.probes) number after waiting) (so_far-words setting old actions words)
    ∙ ap (λ json. effects_of setting old.probes 0 0 old.state actions ++ flushed setting.family (probes_told json old.probes) number after waiting) words
