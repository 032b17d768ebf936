-- Where a run stands between its commits: its set is at rest on the device, whose other slots are empty.
use Rattle.std.proofs.Common.{◌≡◌, true, false, ℕ, ◌+◌, ◌-◌, ◌≤◌, List, [], ◌∷◌, ◌++◌, length, replicate, Contains, Option, Some, None, refl, sym, ap, ◌∙◌, subst, arith}
use Rattle.std.specs.List.{AllByRecursion}
use Rattle.std.proofs.lemmas.List.{length-replicate, replicate-append-replicate}
use Rattle.std.proofs.lemmas.Option.{none-some}
use Rattle.std.proofs.lemmas.Bool.{and_parts}
use Rattle.slot_order.proofs.Lists.{contains_none}
use Rattle.rule_model.specs.declared.IpVersion.{IpVersion}
use Rattle.rule_model.specs.declared.words.Entry.{Entry}
use Rattle.rule_store.specs.declared.Mode.{Mode}
use Rattle.rule_store.specs.declared.Command.{Command as Change}
use Rattle.rule_store.specs.Batch.{ChangesRules, most_pending}
use Rattle.rule_store.specs.declared.BatchFault.{BatchFault}
use Rattle.rule_store.specs.Verdict.{Accepted, Verdict, room_verdict, verdict, verdict_by}
use Rattle.tcam_device.specs.declared.Write.{Write}
use Rattle.tcam_device.specs.State.{State, blank, IsInUse, on_device, state_after}
use Rattle.tcam_device.specs.Order.{IsOrdered}
use Rattle.tcam_device.proofs.States.{IsState-blank}
use Rattle.tcam_device.proofs.Wider.{empty_slot, slots-after, state_after-on_device}
use Rattle.commit_writes.specs.Bits.{no_bits}
use Rattle.commit_writes.specs.Commit.{IsSegment}
use Rattle.commit_writes.specs.Segments.{IsAtRest, MayBegin}
use Rattle.commit_writes.proofs.AtRest.{commits_come_to_rest}
use Rattle.commit_writes.proofs.ServedTables.{bits_blank}
use Rattle.readback.specs.Laws.{HasUnused}
use Rattle.trace_file.specs.Forms.{IsTraceRule}
use Rattle.readback.proofs.Accepted.{taken}
use Rattle.trace_check.proofs.Ended.{segment_ended}
use Rattle.replay.specs.Effects.{Setting}
use Rattle.slot_order.specs.Order.{script_slots}
use Rattle.rule_model.specs.Rule.{HasConditions}
use Rattle.rule_model.specs.RuleSet.{IsRuleSet}
use Rattle.settled_changes.specs.Requests.{asked_set, requests_fault}
use Rattle.settled_changes.specs.Settled.{settled, whole_requests}
use Rattle.settled_changes.proofs.Forgiving.{whole-set}
use Rattle.settled_changes.proofs.Leads.{leads}
use Rattle.settled_changes.proofs.Many.{twice_as_many}
use Rattle.settled_changes.proofs.OverNone.{whole_few}
use Rattle.settled_changes.proofs.At.{asked-set}
use Rattle.batch_order.proofs.ids.Needed.{rules_entries}
use Rattle.batch_order.proofs.planning.Judged.{accepted_room}
use Rattle.settled_changes.specs.declared.requested.Requested.{Requested}
use Rattle.settled_changes.specs.declared.requested.Requested.TheVariants.{Nothing, Changes, Whole}
use Rattle.settled_changes.specs.Requested.{TakesAsked, changes_in, settled_batch, settled_verdict}
use Rattle.replay.specs.Run.{Progress, start, after_segment, pending_verdict, settled_at}
use Rattle.report_lines.specs.Text.{family_version}
use Rattle.rule_model.specs.declared.Rule.{Rule}
use Rattle.removals_first.specs.Early.{early_batch, spared_rules}
use Rattle.replay.specs.Early.{IsPartedAt, at_first, at_rest, is_sound}
use Rattle.tcam_cli.proofs.PartedWrites.{accepted-first}
use Rattle.json_traces.proofs.PartsTold.{early_few, early_short, early_told, late_few, late_told}
use Rattle.json_traces.proofs.SettledTold.{batch_told, forms_of}
use Rattle.json_traces.proofs.TraceRules.{IsTraceChange, told_changes, set_told}
use Rattle.trace_check.specs.Places.{trace_commands}

-- The slots in use hold a state, and over a device of so many slots the run is at rest with it. Rules and changes are those
-- of a trace of the family's version, and no more changes are pending than a batch has room for.
pub record StandsIn (setting : Setting) (device_slots : ℕ) (old : Progress) (state : State) : Type 0 where
  pub at : old.state ≡ on_device device_slots state
  pub size : length state.slots ≡ setting.slots
  pub at_rest : IsAtRest setting.mode old.bits old.rules old.state
  pub unused : HasUnused setting.slots old.state
  pub rules_told : AllByRecursion (IsTraceRule (family_version setting.family)) old.rules
  pub told : AllByRecursion (IsTraceChange (family_version setting.family)) old.batch
  pub short : length old.batch ≤ trace_commands

-- Where acts stand between two commits: likewise, with what is asked for beside the batch. No more changes are pending than may
-- wait.
pub record StandsWith (setting : Setting) (device_slots : ℕ) (old : Progress) (state : State) : Type 0 where
  pub at : old.state ≡ on_device device_slots state
  pub size : length state.slots ≡ setting.slots
  pub at_rest : IsAtRest setting.mode old.bits old.rules old.state
  pub unused : HasUnused setting.slots old.state
  pub rules_told : AllByRecursion (IsTraceRule (family_version setting.family)) old.rules
  pub told : AllByRecursion (IsTraceChange (family_version setting.family)) old.batch
  pub asks_told : AllByRecursion (IsTraceChange (family_version setting.family)) (forms_of old.asked)
  pub short : changes_in old.batch old.asked ≤ most_pending

-- the slots that aren't in use are blank too
blank_wider : (slots device_slots : ℕ) → slots ≤ device_slots → blank device_slots ≡ on_device device_slots (blank slots)
blank_wider slots device_slots wide =
    let blanks : List (Option Entry) = replicate slots None in
    let all : device_slots ≡ slots + (device_slots - slots) = omega arith in
    ap (λ (held : List (Option Entry)). record (blank device_slots) { slots = held })
    (ap (λ n. replicate n None) all ∙ sym (replicate-append-replicate slots (device_slots - slots) None)
    ∙ ap (λ n. blanks ++ replicate (device_slots - n) None) (sym (length-replicate slots None)))

-- a blank device has nothing in order
blank_ordered : (slots : ℕ) → IsOrdered (blank slots) (Contains [])
blank_ordered slots = record {
  known = λ at entry held. absurd (none-some entry (sym (empty_slot {E = Entry} slots at) ∙ held));
  complete = λ ranked member. absurd (contains_none ranked member);
  order = λ i j first second less a b here there over. absurd (contains_none first a);
}

blank_rest : (mode : Mode) (slots : ℕ) → IsAtRest mode no_bits [] (blank slots)
blank_rest mode slots =
    let is = IsState-blank slots in record {
      is_set = tt;
      right = tt;
      is_state = record { size = refl; src_size = is.src_size; dst_size = is.dst_size; src_words = is.src_words; dst_words = is.dst_words };
      bits_are = bits_blank mode slots;
      ordered = blank_ordered slots;
    }

-- so it is before the first act
pub stands_first : (setting : Setting) (device_slots : ℕ) → setting.slots ≤ device_slots → StandsWith setting device_slots (start device_slots) (blank setting.slots)
stands_first setting device_slots wide = record {
  at = blank_wider setting.slots device_slots wide;
  size = length-replicate {A = Option Entry} setting.slots None;
  at_rest = blank_rest setting.mode device_slots;
  unused = λ at past. empty_slot device_slots at;
  rules_told = tt;
  told = tt;
  asks_told = tt;
  short = omega arith;
}

-- what is added has right conditions
all_changes : (version : IpVersion) (batch : List Change) → AllByRecursion (IsTraceChange version) batch → AllByRecursion ChangesRules batch
all_changes version [] told = tt
all_changes version (one ∷ batch) told = (told_changes version one told.0, all_changes version batch told.1)

-- an accepted batch may begin
pub may_begin : (setting : Setting) (device_slots : ℕ) (old : Progress) (state : State) → StandsIn setting device_slots old state → verdict setting.slots setting.mode old.rules old.batch ≡ Accepted
    → MayBegin setting.mode old.bits old.rules old.batch old.state
may_begin setting device_slots old state stands accepted =
    let fits = taken setting.slots setting.mode old.rules old.batch accepted in
    record { at_rest = stands.at_rest; changes = all_changes (family_version setting.family) old.batch stands.told; sound = fits.sound; few = fits.few }

-- and behind its segment the run stands again
pub stands_behind : (setting : Setting) (device_slots : ℕ) (old : Progress) (state : State) (made : List Write) → StandsIn setting device_slots old state
    → verdict setting.slots setting.mode old.rules old.batch ≡ Accepted → IsSegment setting.mode old.bits old.rules old.batch old.state made → AllByRecursion (IsInUse setting.slots) made
    → old.asked ≡ Nothing → StandsWith setting device_slots (after_segment setting old made) (state_after state made)
stands_behind setting device_slots old state made stands accepted segment in_use plain =
    let may = may_begin setting device_slots old state stands accepted in
    let inside : AllByRecursion (IsInUse (length state.slots)) made = subst (λ n. AllByRecursion (IsInUse n) made) (sym stands.size) in_use in
    record {
      at = ap (λ (s : State). state_after s made) stands.at ∙ state_after-on_device device_slots state made inside;
      size = slots-after state made ∙ stands.size;
      at_rest = (commits_come_to_rest setting.mode old.bits old.rules old.batch (record { state = old.state; flight = [] }) made may segment).0;
      unused = (segment_ended setting.slots setting.mode old.bits old.rules old.batch old.state made may segment stands.unused in_use).1.unused;
      rules_told = set_told (family_version setting.family) old.rules old.batch stands.rules_told stands.told;
      told = tt;
      asks_told = subst (λ (asked : Requested). AllByRecursion (IsTraceChange (family_version setting.family)) (forms_of asked)) (sym plain) tt;
      short = subst (λ (asked : Requested). changes_in [] asked ≤ most_pending) (sym plain) (omega arith);
    }

-- ---- what is pending, once it is settled

-- where it is accepted the set takes it, and there is room for its batch
module _ (setting : Setting) (old : Progress) (set : IsRuleSet old.rules) (right : AllByRecursion HasConditions old.rules) (few_slots : setting.slots ≤ script_slots) where
  -- no fault is found of what is accepted
  no_fault : (found : Option BatchFault) (room : Verdict) → verdict_by found room ≡ Accepted → (found ≡ None) × (room ≡ Accepted)
  no_fault None room accepted = (refl, accepted)
  no_fault (Some fault) room accepted = absurd (cc)

  pub accepted_taken : (asked : Requested) → settled_verdict setting.slots setting.mode old.rules old.batch asked ≡ Accepted → TakesAsked old.rules asked
  accepted_taken Nothing accepted = tt
  accepted_taken (Changes requests) accepted = (no_fault (requests_fault old.rules requests) _ accepted).0
  accepted_taken (Whole requests) accepted = (no_fault (requests_fault [] requests) _ accepted).0

  -- so the settled batch is accepted too
  pub accepted_settled : (asked : Requested) → settled_verdict setting.slots setting.mode old.rules old.batch asked ≡ Accepted
      → verdict setting.slots setting.mode old.rules (settled_batch old.rules old.batch asked) ≡ Accepted
  accepted_settled Nothing accepted = accepted
  accepted_settled (Changes requests) accepted =
      let found = no_fault (requests_fault old.rules requests) _ accepted in
      ap (λ fault. verdict_by fault (room_verdict setting.slots setting.mode old.rules (settled old.rules requests))) (leads old.rules requests set found.0).0 ∙ found.1
  accepted_settled (Whole requests) accepted =
      let found = no_fault (requests_fault [] requests) _ accepted in
      let whole = asked_set [] requests in
      let is_set : IsRuleSet whole = asked-set [] requests tt in
      let sound = (leads old.rules (whole_requests old.rules whole) set (whole-set old.rules whole set is_set).0).0 in
      ap (λ fault. verdict_by fault (room_verdict setting.slots setting.mode old.rules (settled old.rules (whole_requests old.rules whole)))) sound ∙ found.1

  -- the rules are no more than the slots
  pub rules_few : (batch : List Change) → verdict setting.slots setting.mode old.rules batch ≡ Accepted → length old.rules ≤ most_pending
  rules_few batch accepted =
      let fits = taken setting.slots setting.mode old.rules batch accepted in
      let entries = (accepted_room setting.slots setting.mode old.rules batch fits.sound accepted).entries in
      let fewer = rules_entries setting.mode old.rules right in
      omega arith

  pub settled_short : (asked : Requested) → changes_in old.batch asked ≤ most_pending → length old.rules ≤ most_pending → length (settled_batch old.rules old.batch asked) ≤ trace_commands
  settled_short Nothing short few = omega arith
  settled_short (Changes requests) short few = let many = twice_as_many old.rules requests in omega arith
  settled_short (Whole requests) short few = let all = whole_few old.rules requests (asked_set [] requests) refl in omega arith

-- a run that stands so stands with its settled batch, where that is accepted
pub stands_settled : (setting : Setting) (device_slots : ℕ) (old : Progress) (state : State) → setting.slots ≤ script_slots → StandsWith setting device_slots old state → pending_verdict setting old ≡ Accepted
    → StandsIn setting device_slots (settled_at old) state
stands_settled setting device_slots old state few stands accepted = record {
  at = stands.at;
  size = stands.size;
  at_rest = stands.at_rest;
  unused = stands.unused;
  rules_told = stands.rules_told;
  told = batch_told (family_version setting.family) old.rules old.batch old.asked stands.rules_told stands.told stands.asks_told
      (accepted_taken setting old stands.at_rest.is_set stands.at_rest.right few old.asked accepted);
  short = settled_short setting old stands.at_rest.is_set stands.at_rest.right few old.asked stands.short
      (rules_few setting old stands.at_rest.is_set stands.at_rest.right few (settled_batch old.rules old.batch old.asked) (accepted_settled setting old stands.at_rest.is_set stands.at_rest.right few old.asked accepted));
}

-- ---- in two parts

-- what is pending is taken, where it is parted
sound_taken : (found : Option BatchFault) (room : Verdict) → is_sound (verdict_by found room) ≡ true → found ≡ None
sound_taken None room is = refl
sound_taken (Some fault) room is = absurd (let clash : false ≡ true = is in cc)

parted_taken : (slots : ℕ) (mode : Mode) (rules : List Rule) (batch : List Change) (asked : Requested) → is_sound (settled_verdict slots mode rules batch asked) ≡ true → TakesAsked rules asked
parted_taken slots mode rules batch Nothing is = tt
parted_taken slots mode rules batch (Changes requests) is = sound_taken (requests_fault rules requests) _ is
parted_taken slots mode rules batch (Whole requests) is = sound_taken (requests_fault [] requests) _ is

module _ (setting : Setting) (device_slots : ℕ) (old : Progress) (state : State) (few : setting.slots ≤ script_slots) (stands : StandsWith setting device_slots old state) (right : IsPartedAt setting old) where
  abbrev batch : List Change
  batch = settled_batch old.rules old.batch old.asked

  abbrev early : List Rule
  early = spared_rules old.rules batch

  fewer : length old.rules ≤ most_pending
  fewer = rules_few setting old stands.at_rest.is_set stands.at_rest.right few (early_batch early) (accepted-first setting old right)

  batch_is : (AllByRecursion (IsTraceChange (family_version setting.family)) batch) × (length batch ≤ trace_commands)
  batch_is =
      let sound = (and_parts (is_sound (settled_verdict setting.slots setting.mode old.rules old.batch old.asked)) _ right.1.in_two).0 in (
        batch_told (family_version setting.family) old.rules old.batch old.asked stands.rules_told stands.told stands.asks_told (parted_taken setting.slots setting.mode old.rules old.batch old.asked sound),
        settled_short setting old stands.at_rest.is_set stands.at_rest.right few old.asked stands.short fewer,
      )

  -- a run stands so at the first part,
  pub stands_first_part : StandsIn setting device_slots (at_first old) state
  stands_first_part = record {
    at = stands.at;
    size = stands.size;
    at_rest = stands.at_rest;
    unused = stands.unused;
    rules_told = stands.rules_told;
    told = early_told (family_version setting.family) old.rules batch old.rules stands.rules_told;
    short = let less = early_few old.rules batch old.rules in let same = early_short early in let most = fewer in omega (arith, less, same, most);
  }

  -- and at the second behind it
  pub stands_rest : (mid : Progress) (mid_state : State) → StandsWith setting device_slots mid mid_state → StandsIn setting device_slots (at_rest old mid) mid_state
  stands_rest mid mid_state between = record {
    at = between.at;
    size = between.size;
    at_rest = between.at_rest;
    unused = between.unused;
    rules_told = between.rules_told;
    told = late_told (family_version setting.family) early batch batch_is.0;
    short = let less = late_few early batch in let most = batch_is.1 in omega (arith, less, most);
  }
