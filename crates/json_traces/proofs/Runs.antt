-- What acts print in JSON that are all carried out are the commits of an orderly trace.
use Rattle.std.proofs.Common.{◌≡◌, Bool, true, false, ℕ, suc, ◌+◌, ◌^◌, ◌<◌, ◌≤◌, List, [], ◌∷◌, ◌++◌, length, map, None, refl, sym, ap, ap₂, ◌∙◌, subst, arith, append_assoc, append-nil, length-append}
use Rattle.std.proofs.lemmas.Grind.{flat_map-append}
use Rattle.std.specs.List.{AllByRecursion}
use Rattle.slot_order.specs.Order.{script_slots}
use Rattle.slot_order.proofs.Lists.{all_append}
use Rattle.rule_model.specs.declared.IpVersion.{IpVersion}
use Rattle.rule_model.specs.declared.Rule.{Rule}
use Rattle.rule_store.specs.declared.Command.{Command as Change}
use Rattle.rule_store.specs.Batch.{set_after}
use Rattle.rule_store.specs.Verdict.{Verdict, Accepted, Unsound, OutOfBits, OutOfSlots, verdict}
use Rattle.tcam_device.specs.declared.Write.{Write}
use Rattle.tcam_device.specs.declared.Action.{Action}
use Rattle.tcam_device.specs.Flight.{writes_in}
use Rattle.tcam_device.specs.State.{State, IsInUse, state_after}
use Rattle.commit_writes.specs.Actions.{have_bits}
use Rattle.commit_writes.specs.Bits.{bits_with, new_bits}
use Rattle.commit_writes.specs.Commit.{IsSegment}
use Rattle.commit_writes.specs.Segments.{MayBegin}
use Rattle.commit_writes.proofs.WritesIn.{writes_of_commit}
use Rattle.readback.specs.Laws.{HasUnused}
use Rattle.trace_file.specs.declared.TraceLine.{TraceLine}
use Rattle.trace_file.specs.declared.TraceLine.TheVariants as line
use Rattle.trace_file.specs.Forms.{IsTraceLineOf}
use Rattle.json_text.specs.JsonText.{json_line}
use Rattle.trace_check.specs.Hitless.{trace_writes}
use Rattle.trace_check.specs.Orderly.{Tracing, traced_on, AllKeepOrder}
use Rattle.trace_check.specs.Places.{Part, Refusal, Work, IsPart, part_lines, parts_lines, trace_commands}
use Rattle.trace_check.specs.Segments.{action_line, commit_lines}
use Rattle.replay.specs.declared.Act.{Act}
use Rattle.replay.specs.declared.Act.TheVariants.{Command, Ask, All, Probe, Packet, Commit, Trial, Crash}
use Rattle.replay.specs.Effects.{Setting, Effect, Prints, journal_of, printed}
use Rattle.replay.specs.JsonLines.{behind, change_line, shared_line}
use Rattle.report_lines.specs.Text.{family_version}
use Rattle.replay.specs.Reports.{head_due, refusal_line}
use Rattle.settled_changes.specs.declared.requested.Requested.{Requested}
use Rattle.settled_changes.specs.declared.requested.Requested.TheVariants.{Nothing, Whole}
use Rattle.settled_changes.specs.Requested.{asked_behind, asked_with, batch_behind, batch_with, changes_in}
use Rattle.replay.specs.Early.{at_first, at_rest, parts_at}
use Rattle.tcam_cli.specs.InTwo.{CommitsBy, RunBy, StepsInTwo}
use Rattle.tcam_cli.proofs.PartedWrites.{accepted-first, accepted-rest, both-commit, leads-whole}
use Rattle.tcam_cli.proofs.TwoParts.{parts-true}
use Rattle.replay.specs.Run.{Progress, Commits, Refuses, Judged, actions_for, after_refusal, after_segment, carried, pending_verdict, settled_at}
use Rattle.tcam_cli.proofs.OneMore.{more-behind, more-with}
use Rattle.replay.proofs.lines.Effects.{printed-append, written-append}
use Rattle.replay.proofs.lines.Written.{written-segment}
use Rattle.tcam_cli.specs.AllTheWay.{Led, Stands, led_by, sets_through}
use Rattle.tcam_cli.specs.Judgements.{LedTo, judged_as, judgements}
use Rattle.json_traces.specs.Traces.{trace_text, AreTraceActs, parted_through}
use Rattle.json_traces.proofs.EventsWithin.{TableFits, segment_tables, events_within}
use Rattle.json_traces.proofs.TraceRules.{IsTraceChange, known_ranked}
use Rattle.json_traces.proofs.Narrowed.{segments_on_devices}
use Rattle.json_traces.proofs.SettledTold.{behind_told, with_told}
use Rattle.json_traces.proofs.Standing.{StandsIn, StandsWith, accepted_settled, may_begin, stands_behind, stands_first_part, stands_rest, stands_settled}
use Rattle.json_traces.proofs.Texts.{in_json, behind_append, none_due, of_commit, of_refusal}
use Rattle.json_traces.proofs.Through.{traced_through, keeps_append, through_append, keeps_commands, through_commands, are_commands, command_count, are_events, with_made, through_events, writes-append, command_writes, event_writes, done_count, done-append, done-commit}

-- what is known between two commits of a run whose slots in use hold a state; what no line between them is judged by is of
-- another trace
abbrev pub standing : Setting → Progress → State → Tracing → Tracing
standing setting old state rest =
    record rest {
      slots = setting.slots;
      mode = setting.mode;
      rules = old.rules;
      bits = old.bits;
      batch = [];
      state = state;
      writes = old.writes;
    }

-- commands as a trace has them
commands_within : (version : IpVersion) (batch : List Change) → AllByRecursion (IsTraceChange version) batch → AllByRecursion (IsTraceLineOf version) (map change_line batch)
commands_within version [] told = tt
commands_within version (one ∷ batch) told = (told.0, commands_within version batch told.1)

-- the number of the next commit
abbrev next_number : Progress → ℕ
next_number old = old.commits + 1

module _ (asked : Setting) (device_slots : ℕ) (few : asked.slots ≤ script_slots) (fault : List ℕ) where
  abbrev setting : Setting
  setting = in_json asked

  -- what some acts of a run print, as commits of a trace, by what stands before them and how many are accepted, and one
  pub record GoesFrom (commits writes : ℕ) (known : Tracing) (count : ℕ) (effects : List Effect) (new : Progress) : Type 0 where
    pub parts : List Part
    pub are : AllByRecursion (IsPart setting.slots) parts
    pub text : (more : List ℕ) → printed effects ++ behind (head_due setting new.commits) more
        ≡ behind (head_due setting commits) (trace_text (family_version setting.family) fault (parts_lines (commits + 1) parts) ++ more)
    pub keeps : AllKeepOrder known (parts_lines (commits + 1) parts)
    pub last_state : State
    pub last_rest : Tracing
    pub comes : traced_through known (parts_lines (commits + 1) parts) ≡ standing setting new last_state last_rest
    pub made : trace_writes (parts_lines (commits + 1) parts) ≡ journal_of effects
    pub accepted : count ≡ suc (done_count (parts_lines (commits + 1) parts))
    pub further : commits ≤ new.commits
    pub counts : new.writes ≡ writes + length (journal_of effects)
    pub within : new.commits < 2 ^ 32 → AllByRecursion (IsTraceLineOf (family_version setting.family)) (parts_lines (commits + 1) parts)

  -- the sets that acts lead through, and their commits in two parts
  abbrev pub count_of : List Rule → List Change → Requested → List Act → ℕ
  count_of rules batch asked acts = length (sets_through setting [] rules batch asked acts) + parted_through setting rules batch asked acts

  abbrev pub ActsGo : List Act → Progress → State → Tracing → List Effect → Progress → Type 0
  ActsGo acts old state rest effects new = GoesFrom old.commits old.writes (standing setting old state rest) (count_of old.rules old.batch old.asked acts) effects new

  -- no act
  none : (old : Progress) (state : State) (rest : Tracing) → ActsGo [] old state rest [] old
  none old state rest = record {
    parts = [];
    are = tt;
    text = λ more. refl;
    keeps = tt;
    last_state = state;
    last_rest = rest;
    comes = refl;
    made = refl;
    accepted = refl;
    further = omega arith;
    counts = (let same : old.writes ≡ old.writes + 0 = omega arith in same);
    within = λ small. tt;
  }

  -- a commit of a trace that some effects print
  record OneGoes (part : Part) (old : Progress) (state : State) (rest : Tracing) (front : List Effect) (mid : Progress) (mid_state : State) (mid_rest : Tracing) : Type 0 where
    is : IsPart setting.slots part
    counted : mid.commits ≡ old.commits + 1
    text : printed front ≡ behind (head_due setting old.commits) (trace_text (family_version setting.family) fault (part_lines (old.commits + 1) part))
    keeps : AllKeepOrder (standing setting old state rest) (part_lines (old.commits + 1) part)
    comes : traced_through (standing setting old state rest) (part_lines (old.commits + 1) part) ≡ standing setting mid mid_state mid_rest
    made : trace_writes (part_lines (old.commits + 1) part) ≡ journal_of front
    counts : mid.writes ≡ old.writes + length (journal_of front)
    within : old.commits + 1 < 2 ^ 32 → AllByRecursion (IsTraceLineOf (family_version setting.family)) (part_lines (old.commits + 1) part)

  -- a trace of what is pending there, as what is settled or a part of it, goes on from where the run stood before that
  of_same : (part : Part) (old : Progress) (batch : List Change) (asked_for : Requested) (early : Bool) (state : State) (rest : Tracing) (front : List Effect) (mid : Progress) (mid_state : State) (mid_rest : Tracing)
      → OneGoes part (record old { batch = batch; asked = asked_for; early = early }) state rest front mid mid_state mid_rest → OneGoes part old state rest front mid mid_state mid_rest
  of_same part old batch asked_for early state rest front mid mid_state mid_rest one = record {
    is = one.is;
    counted = one.counted;
    text = one.text;
    keeps = one.keeps;
    comes = one.comes;
    made = one.made;
    counts = one.counts;
    within = one.within;
  }

  -- the sets that acts lead through are one more where the first of them is a commit that finishes
  abbrev LeadsOn : Progress → Act → Progress → List Act → Part → Type 0
  LeadsOn old act mid acts part =
      count_of old.rules old.batch old.asked (act ∷ acts) ≡ done_count (part_lines (old.commits + 1) part) + count_of mid.rules mid.batch mid.asked acts

  -- a commit of a trace, and those behind it
  one_further : (old : Progress) (state : State) (rest : Tracing) (front : List Effect) (mid : Progress) (mid_state : State) (mid_rest : Tracing) (back : List Effect) (new : Progress) (part : Part) (count more_count : ℕ)
      → OneGoes part old state rest front mid mid_state mid_rest → count ≡ done_count (part_lines (old.commits + 1) part) + more_count
      → GoesFrom mid.commits mid.writes (standing setting mid mid_state mid_rest) more_count back new → GoesFrom old.commits old.writes (standing setting old state rest) count (front ++ back) new
  one_further old state rest front mid mid_state mid_rest back new part count more_count one led later =
      let n = old.commits + 1 in
      let here = part_lines n part in
      let there = parts_lines (n + 1) later.parts in
      let same : mid.commits + 1 ≡ n + 1 = ap (λ m. m + 1) one.counted in
      let due : head_due setting mid.commits ≡ None = ap (head_due setting) one.counted ∙ none_due setting old.commits in
      record {
        parts = part ∷ later.parts;
        are = (one.is, later.are);
        text = λ more.
            let first = head_due setting old.commits in
            let last = behind (head_due setting new.commits) more in
            ap (λ text. text ++ last) (printed-append front back) ∙ append_assoc (printed front) (printed back) last
            ∙ ap (λ text. printed front ++ text) (later.text more)
            ∙ ap₂ (λ head m. printed front ++ behind head (trace_text (family_version setting.family) fault (parts_lines m later.parts) ++ more)) due same
            ∙ ap (λ text. text ++ (trace_text (family_version setting.family) fault there ++ more)) one.text
            ∙ behind_append first (trace_text (family_version setting.family) fault here) (trace_text (family_version setting.family) fault there ++ more)
            ∙ ap (behind first) (sym (append_assoc (trace_text (family_version setting.family) fault here) (trace_text (family_version setting.family) fault there) more) ∙ ap (λ text. text ++ more) (sym (flat_map-append (json_line (family_version setting.family) fault) here there)));
        keeps = keeps_append here there (standing setting old state rest) one.keeps
            (subst (λ (t : Tracing). AllKeepOrder t there) (sym one.comes) (subst (λ m. AllKeepOrder (standing setting mid mid_state mid_rest) (parts_lines m later.parts)) same later.keeps));
        last_state = later.last_state;
        last_rest = later.last_rest;
        comes = through_append here there (standing setting old state rest) ∙ ap (λ (t : Tracing). traced_through t there) one.comes
            ∙ ap (λ m. traced_through (standing setting mid mid_state mid_rest) (parts_lines m later.parts)) (sym same) ∙ later.comes;
        made = writes-append here there ∙ ap₂ (λ a b. a ++ b) one.made (ap (λ m. trace_writes (parts_lines m later.parts)) (sym same) ∙ later.made) ∙ sym (written-append front back);
        accepted = (let sum = done-append here there in let more = later.accepted in
            let there_is : done_count (parts_lines (mid.commits + 1) later.parts) ≡ done_count there = ap (λ m. done_count (parts_lines m later.parts)) same in
            omega arith);
        further = (let next = one.counted in let more = later.further in omega arith);
        counts = (let first = one.counts in let second = later.counts in
            let sum : length (journal_of (front ++ back)) ≡ length (journal_of front) + length (journal_of back) = ap (λ (ws : List Write). length ws) (written-append front back) ∙ length-append (journal_of front) (journal_of back) in
            omega arith);
        within = λ small.
            let next = one.counted in
            let more = later.further in
            all_append (IsTraceLineOf (family_version setting.family)) here there (one.within (omega arith)) (subst (λ m. AllByRecursion (IsTraceLineOf (family_version setting.family)) (parts_lines m later.parts)) same (later.within small));
      }

  -- and those behind it
  one_more : (old : Progress) (state : State) (rest : Tracing) (front : List Effect) (mid : Progress) (mid_state : State) (mid_rest : Tracing) (back : List Effect) (new : Progress) (act : Act) (acts : List Act) (part : Part)
      → OneGoes part old state rest front mid mid_state mid_rest → LeadsOn old act mid acts part → ActsGo acts mid mid_state mid_rest back new → ActsGo (act ∷ acts) old state rest (front ++ back) new
  one_more old state rest front mid mid_state mid_rest back new act acts part one led later =
      one_further old state rest front mid mid_state mid_rest back new part (count_of old.rules old.batch old.asked (act ∷ acts)) (count_of mid.rules mid.batch mid.asked acts) one led later

  -- ---- an accepted commit

  module _ (old : Progress) (state : State) (rest : Tracing) (stands : StandsIn setting device_slots old state)
      (accepted : verdict setting.slots setting.mode old.rules old.batch ≡ Accepted) (made : List Write)
      (segment : IsSegment setting.mode old.bits old.rules old.batch old.state made) (in_use : AllByRecursion (IsInUse setting.slots) made) where
    abbrev actions : List Action
    actions = actions_for setting old made

    abbrev number : ℕ
    number = next_number old

    abbrev commands : List TraceLine
    commands = map change_line old.batch

    abbrev events : List TraceLine
    events = map action_line actions

    -- behind the line of its number, and behind its commands
    abbrev begun : Tracing
    begun = traced_on (standing setting old state rest) (line.Commit number)

    abbrev in_batch : Tracing
    in_batch = record begun { batch = old.batch }

    written : writes_in actions ≡ made
    written = writes_of_commit (have_bits (new_bits old.bits (bits_with setting.mode old.rules old.batch old.bits))) made

    events_keep : AllKeepOrder in_batch (commit_lines actions number)
    events_keep =
        segments_on_devices in_batch device_slots number made stands.size
        (record {
          may = subst (MayBegin setting.mode old.bits old.rules old.batch) stands.at (may_begin setting device_slots old state stands accepted);
          taken = accepted;
          unused = subst (HasUnused setting.slots) stands.at stands.unused;
          moved = refl;
          no_put = refl;
        })
        (subst (λ (s : State). IsSegment setting.mode old.bits old.rules old.batch s made) stands.at segment) in_use

    part_keeps : AllKeepOrder (standing setting old state rest) (part_lines number (Work commands events))
    part_keeps = (
      tt,
      keeps_append commands (events ++ line.Done number ∷ []) begun (keeps_commands old.batch begun)
          (subst (λ (t : Tracing). AllKeepOrder t (commit_lines actions number)) (sym (through_commands old.batch begun)) events_keep),
    )

    -- what is known behind its last line
    abbrev ended : Tracing
    ended = (through_events actions in_batch).0

    part_comes : traced_through (standing setting old state rest) (part_lines number (Work commands events))
        ≡ standing setting (after_segment setting old made) (state_after state made) (record ended { accepted = ended.accepted + 1 })
    part_comes =
        through_append commands (events ++ line.Done number ∷ []) begun
        ∙ ap (λ (t : Tracing). traced_through t (events ++ line.Done number ∷ [])) (through_commands old.batch begun)
        ∙ through_append events (line.Done number ∷ []) in_batch
        ∙ ap (λ (t : Tracing). traced_on t (line.Done number)) (through_events actions in_batch).1
        ∙ ap (λ (ws : List Write). traced_on (with_made in_batch (state_after state ws) (old.writes + length ws) ended) (line.Done number)) written

    part_writes : trace_writes (part_lines number (Work commands events)) ≡ made
    part_writes =
        writes-append commands (events ++ line.Done number ∷ []) ∙ ap (λ some. some ++ trace_writes (events ++ line.Done number ∷ [])) (command_writes old.batch)
        ∙ writes-append events (line.Done number ∷ []) ∙ append-nil (trace_writes events) ∙ event_writes actions ∙ written

    part_is : IsPart setting.slots (Work commands events)
    part_is = (
      subst (λ n. n ≤ trace_commands) (sym (command_count old.batch)) stands.short,
      are_commands old.batch,
      are_events setting.slots actions (subst (AllByRecursion (IsInUse setting.slots)) (sym written) in_use),
    )

    part_within : number < 2 ^ 32 → AllByRecursion (IsTraceLineOf (family_version setting.family)) (part_lines number (Work commands events))
    part_within small =
        let begin = may_begin setting device_slots old state stands accepted in
        let tables : AllByRecursion TableFits (writes_in actions) = subst (AllByRecursion TableFits) (sym written) (segment_tables setting.mode old.bits old.rules old.batch old.state made begin segment) in
        let inside : AllByRecursion (IsInUse (length state.slots)) (writes_in actions) =
        subst (AllByRecursion (IsInUse (length state.slots))) (sym written) (subst (λ n. AllByRecursion (IsInUse n) made) (sym stands.size) in_use) in
        let room : length state.slots ≤ script_slots = subst (λ n. n ≤ script_slots) (sym stands.size) few in
        let here = events_within (family_version setting.family) actions in_batch number events_keep inside room (known_ranked (family_version setting.family) setting.mode old.bits old.rules old.batch old.state begin stands.rules_told stands.told) tables in
        (small, all_append (IsTraceLineOf (family_version setting.family)) commands (events ++ line.Done number ∷ []) (commands_within (family_version setting.family) old.batch stands.told) (all_append (IsTraceLineOf (family_version setting.family)) events (line.Done number ∷ []) here (small, tt)))

    commit_goes : OneGoes (Work commands events) old state rest (carried setting old actions ++ Prints (shared_line [] (line.Done number)) ∷ []) (after_segment setting old made) (state_after state made)
        (record ended { accepted = ended.accepted + 1 })
    commit_goes = record {
      is = part_is;
      counted = refl;
      text = of_commit asked fault old actions;
      keeps = part_keeps;
      comes = part_comes;
      made = part_writes ∙ sym (written-segment setting old made (shared_line [] (line.Done number)));
      counts = ap (λ (ws : List Write). old.writes + length ws) (sym (written-segment setting old made (shared_line [] (line.Done number))));
      within = part_within;
    }

  -- ---- all acts

  -- the rest of a run, from where it stands
  abbrev Later : List Act → Progress → List Effect → Progress → Type 0
  Later acts mid back new = (state : State) (rest : Tracing) → StandsWith setting device_slots mid state → ActsGo acts mid state rest back new

  -- the sets by the verdict on a commit
  abbrev sets_by : List Act → Progress → Verdict → List Led
  sets_by acts old is =
      let new = set_after old.rules old.batch in
      Stands old.rules ∷ led_by (judged_as is (LedTo new ∷ judgements setting [] new [] Nothing acts) (judgements setting [] old.rules [] Nothing acts))

  -- and how many commits are accepted, of one in one part,
  abbrev counted_by : List Act → Progress → Verdict → ℕ
  counted_by acts old is =
      length (sets_by acts old is)
      + (elim is [ Accepted ↦ parted_through setting (set_after old.rules old.batch) [] Nothing acts | _ ↦ parted_through setting old.rules [] Nothing acts ])

  -- or in two
  abbrev committed_by : List Act → Progress → Bool → Verdict → ℕ
  committed_by acts old in_two is =
      elim in_two [ true ↦ suc (suc (count_of (set_after old.rules old.batch) [] Nothing acts)) | false ↦ counted_by acts old is ]

  count-is : (acts : List Act) (pending : Progress) (in_two : Bool) → parts_at setting pending ≡ in_two
      → count_of pending.rules pending.batch pending.asked (Commit ∷ acts) ≡ committed_by acts (settled_at pending) in_two (pending_verdict setting pending)
  count-is acts pending in_two is = ap (counts acts pending) is ∙ by in_two
    where
      counts : List Act → Progress → Bool → ℕ
      counts acts pending in_two =
          length (sets_by acts (settled_at pending) (elim in_two [ true ↦ Accepted | false ↦ pending_verdict setting pending ]))
          + (elim in_two [
            | true ↦ suc (parted_through setting (set_after pending.rules (settled_at pending).batch) [] Nothing acts)
            | false ↦
                elim (pending_verdict setting pending) [
                  | Accepted ↦ parted_through setting (set_after pending.rules (settled_at pending).batch) [] Nothing acts
                  | _ ↦ parted_through setting pending.rules [] Nothing acts
                ]
          ])

      by : (in_two : Bool) → counts acts pending in_two ≡ committed_by acts (settled_at pending) in_two (pending_verdict setting pending)
      by false = refl
      by true =
          let sets = length (sets_through setting [] (set_after pending.rules (settled_at pending).batch) [] Nothing acts) in
          let parted = parted_through setting (set_after pending.rules (settled_at pending).batch) [] Nothing acts in
          let same : suc sets + suc parted ≡ suc (suc (sets + parted)) = omega arith in
          same

  module _ (acts : List Act) (pending : Progress) (state : State) (rest : Tracing) (front : List Effect) (mid : Progress) (back : List Effect) (new : Progress)
      (stands : StandsWith setting device_slots pending state) (later : Later acts mid back new) where
    -- where it stands once what is pending is settled
    abbrev old : Progress
    old = settled_at pending

    abbrev Goes : Type 0
    Goes = ActsGo (Commit ∷ acts) pending state rest (front ++ back) new

    refusal_led : (is : Verdict) → parts_at setting pending ≡ false → counted_by acts old is ≡ count_of old.rules [] Nothing acts → pending_verdict setting pending ≡ is → LeadsOn pending Commit (after_refusal old) acts Refusal
    refusal_led is one none same =
        let by : count_of pending.rules pending.batch pending.asked (Commit ∷ acts) ≡ count_of old.rules [] Nothing acts = count-is acts pending false one ∙ ap (counted_by acts old) same ∙ none in
        let more : count_of old.rules [] Nothing acts ≡ 0 + count_of old.rules [] Nothing acts = omega arith in
        by ∙ more

    accepted_goes : parts_at setting pending ≡ false → pending_verdict setting pending ≡ Accepted → Commits setting old front mid → Goes
    accepted_goes alone judged commits =
        let settled_stands = stands_settled setting device_slots pending state few stands judged in
        let accepted : verdict setting.slots setting.mode old.rules old.batch ≡ Accepted = accepted_settled setting pending stands.at_rest.is_set stands.at_rest.right few pending.asked judged in
        let mid_state = state_after state commits.made in
        let known = ended old state rest settled_stands accepted commits.made commits.writes.segment commits.writes.in_use in
        let mid_rest : Tracing = record known { accepted = known.accepted + 1 } in
        let actions = actions_for setting old commits.made in
        let sets = length (sets_through setting [] (set_after old.rules old.batch) [] Nothing acts) in
        let parted = parted_through setting (set_after old.rules old.batch) [] Nothing acts in
        let by : count_of pending.rules pending.batch pending.asked (Commit ∷ acts) ≡ suc sets + parted = count-is acts pending false alone ∙ ap (counted_by acts old) judged in
        let one : done_count (part_lines (old.commits + 1) (Work (map change_line old.batch) (map action_line actions))) ≡ 1 = done-commit old.batch actions (old.commits + 1) in
        let led : LeadsOn pending Commit (after_segment setting old commits.made) acts (Work (map change_line old.batch) (map action_line actions)) = omega arith in
        subst (λ (some : List Effect). ActsGo (Commit ∷ acts) pending state rest (some ++ back) new) (sym commits.effects_are)
        (one_more pending state rest (carried setting old (actions_for setting old commits.made) ++ Prints (shared_line [] (line.Done (old.commits + 1))) ∷ []) (after_segment setting old commits.made) mid_state mid_rest back new Commit acts (Work (map change_line old.batch) (map action_line actions))
        (of_same _ pending old.batch old.asked old.early state rest _ _ _ _ (commit_goes old state rest settled_stands accepted commits.made commits.writes.segment commits.writes.in_use)) led
        (subst (λ p. Later acts p back new) commits.after later mid_state mid_rest (stands_behind setting device_slots old state commits.made settled_stands accepted commits.writes.segment commits.writes.in_use refl)))

    refused_goes : (reason : Verdict) → LeadsOn pending Commit (after_refusal old) acts Refusal → Refuses setting old reason front mid → Goes
    refused_goes reason led refuses =
        subst (λ (some : List Effect). ActsGo (Commit ∷ acts) pending state rest (some ++ back) new) (sym refuses.0)
        (one_more pending state rest (Prints (refusal_line setting old.commits reason) ∷ []) (after_refusal old) state rest back new Commit acts Refusal
        (record {
          is = tt;
          counted = refl;
          text = of_refusal asked fault old.commits;
          keeps = (tt, tt);
          comes = refl;
          made = refl;
          counts = (let same : old.writes ≡ old.writes + 0 = omega arith in same);
          within = λ small. (small, tt);
        })
        led
        (subst (λ p. Later acts p back new) refuses.1 later state rest
        (record { at = stands.at; size = stands.size; at_rest = stands.at_rest; unused = stands.unused; rules_told = stands.rules_told; told = tt; asks_told = tt; short = omega arith })))

    judged_goes : (is : Verdict) → parts_at setting pending ≡ false → pending_verdict setting pending ≡ is → Judged Commits setting old is front mid → Goes
    judged_goes Accepted one same step = accepted_goes one same step
    judged_goes (Unsound why) one same step = refused_goes (Unsound why) (refusal_led (Unsound why) one refl same) step
    judged_goes (OutOfBits field needed free) one same step = refused_goes (OutOfBits field needed free) (refusal_led (OutOfBits field needed free) one refl same) step
    judged_goes (OutOfSlots needed free) one same step = refused_goes (OutOfSlots needed free) (refusal_led (OutOfSlots needed free) one refl same) step

    -- one in two parts is two commits of the trace
    two_goes : StepsInTwo setting pending front mid → Goes
    two_goes two =
        let right = two.right in
        let both = both-commit setting pending right front mid two in
        let one = both.one in
        let other = both.other in
        let first = at_first pending in
        let first_stands = stands_first_part setting device_slots pending state few stands right in
        let first_accepted : verdict setting.slots setting.mode first.rules first.batch ≡ Accepted = accepted-first setting pending right in
        let between = after_segment setting first one.made in
        let between_state = state_after state one.made in
        let known = ended first state rest first_stands first_accepted one.made one.writes.segment one.writes.in_use in
        let between_rest : Tracing = record known { accepted = known.accepted + 1 } in
        let between_stands = stands_behind setting device_slots first state one.made first_stands first_accepted one.writes.segment one.writes.in_use refl in
        let last = at_rest pending between in
        let last_stands = stands_rest setting device_slots pending state few stands right between between_state between_stands in
        let last_accepted : verdict setting.slots setting.mode last.rules last.batch ≡ Accepted = accepted-rest setting pending right in
        let behind_known = ended last between_state between_rest last_stands last_accepted other.made other.writes.segment other.writes.in_use in
        let last_rest : Tracing = record behind_known { accepted = behind_known.accepted + 1 } in
        let one_actions = actions_for setting first one.made in
        let other_actions = actions_for setting last other.made in
        let one_part = Work (map change_line first.batch) (map action_line one_actions) in
        let other_part = Work (map change_line last.batch) (map action_line other_actions) in
        let next = count_of (set_after last.rules last.batch) [] Nothing acts in
        let same : count_of pending.rules pending.batch pending.asked (Commit ∷ acts) ≡ suc (suc next) =
        count-is acts pending true (parts-true setting pending right) ∙ ap (λ (set : List Rule). suc (suc (count_of set [] Nothing acts))) (sym (leads-whole setting pending right)) in
        let one_done : done_count (part_lines (first.commits + 1) one_part) ≡ 1 = done-commit first.batch one_actions (first.commits + 1) in
        let other_done : done_count (part_lines (between.commits + 1) other_part) ≡ 1 = done-commit last.batch other_actions (between.commits + 1) in
        let last_goes = one_further between between_state between_rest (carried setting last other_actions ++ Prints (shared_line [] (line.Done (last.commits + 1))) ∷ []) (after_segment setting last other.made) (state_after between_state other.made) last_rest back new other_part (suc next) next
        (of_same other_part between last.batch last.asked last.early between_state between_rest _ _ _ _ (commit_goes last between_state between_rest last_stands last_accepted other.made other.writes.segment other.writes.in_use)) (omega (arith, other_done))
        (subst (λ p. Later acts p back new) other.after later (state_after between_state other.made) last_rest (stands_behind setting device_slots last between_state other.made last_stands last_accepted other.writes.segment other.writes.in_use refl)) in
        let all = one_further pending state rest (carried setting first one_actions ++ Prints (shared_line [] (line.Done (first.commits + 1))) ∷ []) between between_state between_rest
        ((carried setting last other_actions ++ Prints (shared_line [] (line.Done (last.commits + 1))) ∷ []) ++ back) new one_part (count_of pending.rules pending.batch pending.asked (Commit ∷ acts)) (suc next)
        (of_same one_part pending first.batch first.asked first.early state rest _ _ _ _ (commit_goes first state rest first_stands first_accepted one.made one.writes.segment one.writes.in_use)) (omega (arith, same, one_done)) last_goes in
        subst (λ (some : List Effect). ActsGo (Commit ∷ acts) pending state rest some new)
        (ap₂ (λ (one_front : List Effect) (other_front : List Effect). one_front ++ (other_front ++ back)) (sym one.effects_are) (sym other.effects_are)
        ∙ sym (append_assoc both.front both.back back) ∙ ap (λ (some : List Effect). some ++ back) (sym both.effects_are)) all

  -- behind a commit none is pending
  none_pending : (old : Progress) (is : Verdict) (front : List Effect) (mid : Progress) → Judged Commits setting (settled_at old) is front mid → 0 ≡ changes_in mid.batch mid.asked
  none_pending old Accepted front mid step = ap (λ (p : Progress). changes_in p.batch p.asked) (sym step.after)
  none_pending old (Unsound why) front mid step = ap (λ (p : Progress). changes_in p.batch p.asked) (sym step.1)
  none_pending old (OutOfBits field needed free) front mid step = ap (λ (p : Progress). changes_in p.batch p.asked) (sym step.1)
  none_pending old (OutOfSlots needed free) front mid step = ap (λ (p : Progress). changes_in p.batch p.asked) (sym step.1)

  -- a commit in one part or in two
  committed_goes : (acts : List Act) (old : Progress) (state : State) (rest : Tracing) (front : List Effect) (mid : Progress) (back : List Effect) (new : Progress) → StandsWith setting device_slots old state
      → (0 ≡ changes_in mid.batch mid.asked → Later acts mid back new) → (in_two : Bool) → parts_at setting old ≡ in_two → CommitsBy in_two setting old front mid → ActsGo (Commit ∷ acts) old state rest (front ++ back) new
  committed_goes acts old state rest front mid back new stands next false one step =
      let is = pending_verdict setting old in judged_goes acts old state rest front mid back new stands (next (none_pending old is front mid step)) is one refl step
  committed_goes acts old state rest front mid back new stands next true both two =
      let last = at_rest old two.middle in
      two_goes acts old state rest front mid back new stands (next (none_pending last (pending_verdict setting last) two.second mid two.rest)) two

  pub acts_go : (acts : List Act) (old : Progress) (state : State) (rest : Tracing) (effects : List Effect) (new : Progress) → StandsWith setting device_slots old state
      → AreTraceActs (family_version setting.family) (changes_in old.batch old.asked) acts → RunBy setting old acts effects new → ActsGo acts old state rest effects new
  acts_go [] old state rest effects new stands told run =
      subst (λ (some : List Effect). ActsGo [] old state rest some new) (sym run.0) (subst (ActsGo [] old state rest []) (sym run.1) (none old state rest))
  acts_go (Command change ∷ acts) old state rest effects new stands told (front, mid, back, step, run, are) =
      let size = more-with old.batch old.asked change in
      let less = told.1 in
      let both = with_told (family_version setting.family) old.batch old.asked change stands.told stands.asks_told told.0 in
      let later = acts_go acts (record old { batch = batch_with old.batch old.asked change; asked = asked_with old.asked change }) state rest back new
      (record { at = stands.at; size = stands.size; at_rest = stands.at_rest; unused = stands.unused; rules_told = stands.rules_told; told = both.0; asks_told = both.1; short = omega arith })
      (subst (λ n. AreTraceActs (family_version setting.family) n acts) (sym size) told.2) (subst (λ p. RunBy setting p acts back new) step.1 run) in
      subst (λ (some : List Effect). ActsGo (Command change ∷ acts) old state rest some new) (sym (are ∙ ap (λ some. some ++ back) step.0)) later
  acts_go (Ask request ∷ acts) old state rest effects new stands told (front, mid, back, step, run, are) =
      let size = more-behind old.batch old.asked request in
      let less = told.1 in
      let both = behind_told (family_version setting.family) old.batch old.asked request stands.told stands.asks_told told.0 in
      let later = acts_go acts (record old { batch = batch_behind old.batch old.asked; asked = asked_behind old.batch old.asked request }) state rest back new
      (record { at = stands.at; size = stands.size; at_rest = stands.at_rest; unused = stands.unused; rules_told = stands.rules_told; told = both.0; asks_told = both.1; short = omega arith })
      (subst (λ n. AreTraceActs (family_version setting.family) n acts) (sym size) told.2) (subst (λ p. RunBy setting p acts back new) step.1 run) in
      subst (λ (some : List Effect). ActsGo (Ask request ∷ acts) old state rest some new) (sym (are ∙ ap (λ some. some ++ back) step.0)) later
  acts_go (All ∷ acts) old state rest effects new stands told (front, mid, back, step, run, are) =
      let later = acts_go acts (record old { batch = []; asked = Whole [] }) state rest back new
      (record { at = stands.at; size = stands.size; at_rest = stands.at_rest; unused = stands.unused; rules_told = stands.rules_told; told = tt; asks_told = tt; short = omega arith }) told
      (subst (λ p. RunBy setting p acts back new) step.1 run) in
      subst (λ (some : List Effect). ActsGo (All ∷ acts) old state rest some new) (sym (are ∙ ap (λ some. some ++ back) step.0)) later
  acts_go (Probe key ∷ acts) old state rest effects new stands told (front, mid, back, step, run, are) =
      let later = acts_go acts (record old { probes = old.probes ++ key ∷ [] }) state rest back new
      (record { at = stands.at; size = stands.size; at_rest = stands.at_rest; unused = stands.unused; rules_told = stands.rules_told; told = stands.told; asks_told = stands.asks_told; short = stands.short }) told
      (subst (λ p. RunBy setting p acts back new) step.1 run) in
      subst (λ (some : List Effect). ActsGo (Probe key ∷ acts) old state rest some new) (sym (are ∙ ap (λ some. some ++ back) step.0)) later
  acts_go (Packet key ∷ acts) old state rest effects new stands told (front, mid, back, step, run, are) =
      let later = acts_go acts old state rest back new stands told (subst (λ p. RunBy setting p acts back new) step.1 run) in
      subst (λ (some : List Effect). ActsGo (Packet key ∷ acts) old state rest some new) (sym (are ∙ ap (λ some. some ++ back) step.0)) later
  acts_go (Commit ∷ acts) old state rest effects new stands told (front, mid, back, step, run, are) =
      subst (λ (some : List Effect). ActsGo (Commit ∷ acts) old state rest some new) (sym are)
      (committed_goes acts old state rest front mid back new stands
      (λ none mid_state mid_rest mid_stands. acts_go acts mid mid_state mid_rest back new mid_stands (subst (λ n. AreTraceActs (family_version setting.family) n acts) none told) run)
      (parts_at setting old) refl step)
  acts_go (Trial most ∷ acts) old state rest effects new stands told run = absurd told
  acts_go (Crash after ∷ acts) old state rest effects new stands told run = absurd told
