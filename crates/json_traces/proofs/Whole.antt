-- The report of a run that was carried out to its end is an orderly trace.
use Rattle.std.proofs.Common.{◌≡◌, ℕ, ◌^◌, ◌<◌, Bool, List, [], ◌∷◌, ◌++◌, Some, refl, sym, ap, ◌∙◌, subst, arith, append-nil, if◌then◌else◌}
use Rattle.std.proofs.lemmas.Grind.{flat_map-append}
use Rattle.slot_order.proofs.Lists.{all_append}
use Rattle.rule_model.specs.declared.IpVersion.{IpVersion}
use Rattle.rule_store.specs.declared.Mode.{Mode}
use Rattle.rule_store.specs.declared.Mode.TheVariants.{Cover, Bits}
use Rattle.tcam_device.specs.State.{blank}
use Rattle.trace_file.specs.declared.TraceLine.{TraceLine}
use Rattle.trace_file.specs.declared.TraceLine.TheVariants as line
use Rattle.trace_file.specs.Forms.{IsTraceLineOf}
use Rattle.json_text.specs.JsonText.{json_line}
use Rattle.trace_check.specs.declared.places.Place.{Place}
use Rattle.trace_check.specs.declared.places.Place.TheVariants.{AtStart, Between, InBatch, InEvents, AtEnd}
use Rattle.trace_check.specs.Hitless.{trace_writes}
use Rattle.trace_check.specs.Orderly.{Tracing, untraced, first_tracing, traced_on, Keeps, AllKeepOrder, Follow, IsTrace}
use Rattle.trace_check.specs.Places.{Heads, Ends, kind_of, place_by, place_after, LinesLead, IsWholeTrace, parts_lines}
use Rattle.trace_check.proofs.Whole.{leads_whole, past_start}
use Rattle.replay.specs.declared.Act.{Act}
use Rattle.replay.specs.Effects.{Setting, Effect, journal_of, printed}
use Rattle.replay.specs.JsonLines.{behind, head_line, is_by_bits, is_list, shared_line}
use Rattle.report_lines.specs.Text.{family_version}
use Rattle.replay.specs.Reports.{fault_told, head_due}
use Rattle.replay.specs.Run.{Progress, start, ending}
use Rattle.tcam_cli.specs.InTwo.{RunsBy}
use Rattle.json_traces.specs.Traces.{trace_text, accepted_in, IsOrderlyReport, AreTraceActs, WantsTrace, JsonRunsAreOrderly}
use Rattle.json_traces.proofs.Runs.{standing, ActsGo, acts_go}
use Rattle.json_traces.proofs.Standing.{stands_first}
use Rattle.json_traces.proofs.Texts.{in_json}
use Rattle.json_traces.proofs.Through.{keeps_append, writes-append, done_count, commits-counted, done-append}

-- lines that lead from a place past the start follow one another there
leads_follow : (slots : ℕ) (lines : List TraceLine) (now : Tracing) (place end : Place) → now.slots ≡ slots → (place ≡ AtStart → ⊥) → LinesLead slots place lines end → Follow now place lines end
leads_follow slots [] now place end same some leads = leads
leads_follow slots (first ∷ lines) now place end same some leads = (
  leads.0,
  subst (λ n. place_after n place first ≡ Some leads.0) (sym same) leads.1,
  leads_follow slots lines (traced_on now first) leads.0 end (keeps_slots first now leads.0 same leads.1) (past_start slots place leads.0 (kind_of first) leads.1) leads.2,
)
  where
    no_head : (p next : Place) → (p ≡ AtStart → ⊥) → place_by slots p Heads ≡ Some next → ⊥
    no_head AtStart next some there = some refl
    no_head (Between n) next some there = (cc)
    no_head (InBatch n k) next some there = (cc)
    no_head (InEvents n) next some there = (cc)
    no_head AtEnd next some there = (cc)

    keeps_slots : (l : TraceLine) (t : Tracing) (next : Place) → t.slots ≡ slots → place_after slots place l ≡ Some next → (traced_on t l).slots ≡ slots
    keeps_slots (line.Head version acl bits n) t next same there = absurd (no_head place next some there)
    keeps_slots (line.Commit n) t next same there = same
    keeps_slots (line.Add rule) t next same there = same
    keeps_slots (line.Set priority answer) t next same there = same
    keeps_slots (line.Del priority) t next same there = same
    keeps_slots (line.Put slot entry) t next same there = same
    keeps_slots (line.Erase slot) t next same there = same
    keeps_slots (line.Table field port word) t next same there = same
    keeps_slots line.Drain t next same there = same
    keeps_slots (line.Done n) t next same there = same
    keeps_slots (line.Refused n) t next same there = same
    keeps_slots (line.End writes) t next same there = same
    keeps_slots (line.Fault n) t next same there = same

whole_trace : (slots : ℕ) (version : IpVersion) (acl bits : Bool) (rest : List TraceLine) → IsWholeTrace slots (line.Head version acl bits slots ∷ rest) → IsTrace (line.Head version acl bits slots ∷ rest)
whole_trace slots version acl bits rest whole =
    let leads = leads_whole slots (line.Head version acl bits slots ∷ rest) whole in
    let first : leads.0 ≡ Between 0 = (let e : Some (Between 0) ≡ Some leads.0 = leads.1 in cc) in
    (Between 0, refl, leads_follow slots rest (traced_on untraced (line.Head version acl bits slots)) (Between 0) AtEnd refl (λ e. cc) (subst (λ p. LinesLead slots p rest AtEnd) first leads.2))

-- the head tells the encoding of ranges
told_mode : (mode : Mode) → (if is_by_bits mode then Bits else Cover) ≡ mode
told_mode Cover = refl
told_mode Bits = refl

module _ (asked : Setting) (device_slots : ℕ) (wants : WantsTrace asked device_slots) (acts : List Act) (told : AreTraceActs (family_version asked.family) 0 acts) (body : List Effect) (last : Progress)
    (run : RunsBy (in_json asked) device_slots acts body last) (small : last.commits < 2 ^ 32) (fault : List ℕ) where
  abbrev setting : Setting
  setting = in_json asked

  abbrev first : Tracing
  first = first_tracing (family_version setting.family) setting.slots setting.mode

  -- what the acts print
  pub gone : ActsGo asked device_slots wants.most fault acts (start device_slots) (blank setting.slots) first body last
  gone = acts_go asked device_slots wants.most fault acts (start device_slots) (blank setting.slots) first body last (stands_first setting device_slots wants.device) told run

  abbrev head : TraceLine
  head = head_line setting.family setting.mode setting.slots

  -- with a last line the report is whole
  pub report_with : (end : TraceLine) → kind_of end ≡ Ends → Keeps (standing setting last gone.last_state gone.last_rest) end → trace_writes (end ∷ []) ≡ [] → done_count (end ∷ []) ≡ 0 → IsTraceLineOf (family_version setting.family) end
      → IsOrderlyReport fault (printed body ++ behind (head_due setting last.commits) (json_line (family_version setting.family) fault end)) (accepted_in setting acts) (journal_of body)
  report_with end is_last keeps none undone fits = record {
    lines = head ∷ (parts_lines 1 gone.parts ++ end ∷ []);
    text_is = gone.text (json_line (family_version setting.family) fault end)
        ∙ ap (λ text. shared_line [] head ++ text)
        (ap (λ text. trace_text (family_version setting.family) fault (parts_lines 1 gone.parts) ++ text) (sym (append-nil (json_line (family_version setting.family) fault end))) ∙ sym (flat_map-append (json_line (family_version setting.family) fault) (parts_lines 1 gone.parts) (end ∷ [])));
    within = ((wants.some, wants.most), all_append (IsTraceLineOf (family_version setting.family)) (parts_lines 1 gone.parts) (end ∷ []) (gone.within small) (fits, tt));
    trace = whole_trace setting.slots (family_version setting.family) (is_list setting.family) (is_by_bits setting.mode) (parts_lines 1 gone.parts ++ end ∷ [])
        (record { version = family_version setting.family; acl = is_list setting.family; bits = is_by_bits setting.mode; parts = gone.parts; last = end; are_parts = gone.are; is_last = is_last; lines_are = refl });
    orderly = (
      tt,
      subst (λ (mode : Mode). AllKeepOrder (first_tracing (family_version setting.family) setting.slots mode) (parts_lines 1 gone.parts ++ end ∷ [])) (sym (told_mode setting.mode))
          (keeps_append (parts_lines 1 gone.parts) (end ∷ []) first gone.keeps (subst (λ (now : Tracing). Keeps now end) (sym gone.comes) keeps, tt)),
    );
    commits_are = commits-counted (head ∷ (parts_lines 1 gone.parts ++ end ∷ [])) untraced
        ∙ (let sum = done-append (parts_lines 1 gone.parts) (end ∷ []) in let sets = gone.accepted in
        let all : done_count (parts_lines 1 gone.parts ++ end ∷ []) ≡ accepted_in setting acts = omega arith in
        all);
    writes_are = writes-append (parts_lines 1 gone.parts) (end ∷ []) ∙ ap (λ some. trace_writes (parts_lines 1 gone.parts) ++ some) none
        ∙ append-nil (trace_writes (parts_lines 1 gone.parts)) ∙ gone.made;
  }

pub json_runs_orderly : JsonRunsAreOrderly
json_runs_orderly setting device_slots acts body last wants told run small few =
    let whole : setting ≡ in_json setting = ap (λ (told : Bool). record setting { json = told }) wants.json in
    let carried = subst (λ (asked : Setting). RunsBy asked device_slots acts body last) whole run in
    let fits : last.writes < 2 ^ 64 = (let counts = (gone setting device_slots wants acts told body last carried small []).counts in omega arith) in
    subst (λ (asked : Setting). IsOrderlyReport [] (printed body ++ ending asked last) (accepted_in asked acts) (journal_of body)
    × ((number : ℕ) (text : List ℕ) → number < 2 ^ 32 → IsOrderlyReport text (printed body ++ fault_told asked last.commits number text) (accepted_in asked acts) (journal_of body))) (sym whole) (
      report_with setting device_slots wants acts told body last carried small [] (line.End last.writes) refl refl refl refl fits,
      λ number text below. report_with setting device_slots wants acts told body last carried small text (line.Fault number) refl tt refl refl below,
    )
