-- Whether a commit is made in two parts, and what a run is then.
use Rattle.std.proofs.Common.{◌≡◌, ℕ, Bool, true, false, not, ◌&&◌, ◌==◌, Option, Some, None, List, [], ◌∷◌, length, cond, nat_lt, ◌+◌, ◌-◌, refl, sym, ap, ◌∙◌, subst, arith}
use Rattle.std.specs.List.{AllByRecursion}
use Rattle.std.proofs.lemmas.Bool.{and_parts, ne_eqb}
use Rattle.rule_model.specs.declared.IpVersion.{IpVersion}
use Rattle.rule_model.specs.declared.Field.{Field}
use Rattle.rule_model.specs.declared.Field.TheVariants.{Src, Dst}
use Rattle.rule_model.specs.declared.Rule.{Rule}
use Rattle.rule_model.specs.Rule.{HasConditions}
use Rattle.rule_model.specs.RuleSet.{IsRuleSet, has_priority}
use Rattle.rule_store.specs.declared.BatchFault.{BatchFault}
use Rattle.rule_store.specs.declared.Mode.{Mode}
use Rattle.rule_store.specs.declared.Mode.TheVariants.{Cover, Bits}
use Rattle.rule_store.specs.declared.Command.{Command as Change}
use Rattle.rule_store.specs.declared.Command.TheVariants.{Add, Set, Del}
use Rattle.rule_store.specs.Batch.{ChangesRules, IsSound, batch_fault, set_after}
use Rattle.rule_store.specs.Verdict.{Verdict, Accepted, OutOfBits, OutOfSlots, bits_verdict, coded_ranges, entries_added, entries_of, field_bits, new_ranges, room_verdict, slots_verdict, verdict, verdict_by}
use Rattle.settled_changes.specs.declared.SettleFault.TheVariants.{Unsound as Unsettled}
use Rattle.settled_changes.specs.declared.requested.Requested.{Requested}
use Rattle.settled_changes.specs.declared.requested.Requested.TheVariants.{Nothing, Changes, Whole}
use Rattle.settled_changes.specs.Requests.{requests_fault}
use Rattle.settled_changes.specs.Requested.{IsWhyNone, TakesAsked, settled_batch, settled_verdict}
use Rattle.settled_changes.proofs.AskedFor.{verdict-fault, verdict-taken}
use Rattle.batch_order.specs.Managed.{OnlyChangesRoutes}
use Rattle.removals_first.specs.Early.{early_batch, early_verdict, late_batch, spared_rules, without_early}
use Rattle.removals_first.proofs.Parted.{parted as parts-sound}
use Rattle.removals_first.proofs.Covered.{spared_told}
use Rattle.replay.specs.Running.{IsRun, Running}
use Rattle.replay.specs.Early.{AreParts, IsParted, MayJoin, first_part, goes_in_two, is_accepted, is_sound, rest_part}
use Rattle.replay.proofs.between.Runs.{joined-run, never-halfway}
use Rattle.replay.proofs.between.SettledRoutes.{batch-routes}

-- ---- whether it is made in two

and-false : (one : Bool) → (one && false) ≡ false
and-false true = refl
and-false false = refl

-- that both parts are taken, of which the second isn't empty
abbrev behind : ℕ → Mode → List Rule → List Rule → List Change → Bool
behind slots mode rules early batch =
    not (length (late_batch early batch) == 0)
    && (is_accepted (verdict slots mode rules (early_batch early)) && is_accepted (early_verdict slots mode rules early batch))

-- the tests, over a batch that is settled, by its verdict
abbrev tests : ℕ → Mode → List Rule → List Change → Verdict → Bool
tests slots mode rules batch judged =
    let early = spared_rules rules batch in
    is_sound judged && (not (length early == 0) && behind slots mode rules early batch)

-- what isn't taken isn't parted
unsound-never : (fault : Option BatchFault) (room : Verdict) (why : BatchFault) → fault ≡ Some why → is_sound (verdict_by fault room) ≡ false
unsound-never fault room why is = ap (λ some. is_sound (verdict_by some room)) is

-- the room alone finds no fault
slots-sound : (slots : ℕ) (mode : Mode) (rules : List Rule) (batch : List Change) → is_sound (slots_verdict slots mode rules batch) ≡ true
slots-sound slots mode rules batch = by (nat_lt slots (entries_of mode rules + entries_added mode rules batch))
  where
    by : (over : Bool) → is_sound (elim over [ true ↦ OutOfSlots (entries_added mode rules batch) (slots - entries_of mode rules) | false ↦ Accepted ]) ≡ true
    by true = refl
    by false = refl

bits-sound : (field : Field) (rules : List Rule) (batch : List Change) (rest : Verdict) → is_sound rest ≡ true → is_sound (bits_verdict field rules batch rest) ≡ true
bits-sound field rules batch rest is = by (nat_lt field_bits (length (coded_ranges field rules) + length (new_ranges field rules batch)))
  where
    by : (over : Bool) → is_sound (elim over [ true ↦ OutOfBits field (length (new_ranges field rules batch)) (field_bits - length (coded_ranges field rules)) | false ↦ rest ]) ≡ true
    by true = refl
    by false = is

room-sound : (slots : ℕ) (mode : Mode) (rules : List Rule) (batch : List Change) → is_sound (room_verdict slots mode rules batch) ≡ true
room-sound slots Cover rules batch = slots-sound slots Cover rules batch
room-sound slots Bits rules batch =
    bits-sound Src rules batch (bits_verdict Dst rules batch (slots_verdict slots Bits rules batch))
    (bits-sound Dst rules batch (slots_verdict slots Bits rules batch) (slots-sound slots Bits rules batch))

all-true : (sound none left both : Bool) → sound ≡ true → none ≡ false → left ≡ false → both ≡ true → (sound && (not none && (not left && both))) ≡ true
all-true sound none left both s n l b =
    ap (λ one. one && (not none && (not left && both))) s ∙ ap (λ one. not one && (not left && both)) n ∙ ap (λ one. not one && both) l ∙ b

module _ (slots : ℕ) (mode : Mode) (rules : List Rule) (batch : List Change) where
  abbrev early : List Rule
  early = spared_rules rules batch

  abbrev parted_in_two : Bool
  parted_in_two = goes_in_two slots mode rules batch Nothing

  -- a batch that the set doesn't take,
  pub never-unsound : (why : BatchFault) → batch_fault rules batch ≡ Some why → parted_in_two ≡ false
  never-unsound why is =
      ap (λ sound. sound && (not (length early == 0) && behind slots mode rules early batch))
      (unsound-never (batch_fault rules batch) (room_verdict slots mode rules batch) why is)

  -- one of which no removal may go first,
  pub never-none : length early ≡ 0 → parted_in_two ≡ false
  never-none none =
      let sound = is_sound (verdict slots mode rules batch) in
      ap (λ (count : ℕ). sound && (not (count == 0) && behind slots mode rules early batch)) none ∙ and-false sound

  -- and one that leaves nothing behind these
  pub never-left : length (late_batch early batch) ≡ 0 → parted_in_two ≡ false
  never-left none =
      let sound = is_sound (verdict slots mode rules batch) in
      let some = not (length early == 0) in
      let both = is_accepted (verdict slots mode rules (early_batch early)) && is_accepted (early_verdict slots mode rules early batch) in
      ap (λ (count : ℕ). sound && (some && (not (count == 0) && both))) none ∙ ap (λ rest. sound && rest) (and-false some) ∙ and-false sound

  module _ (is_set : IsRuleSet rules) (conditions : AllByRecursion HasConditions rules) (changes : AllByRecursion ChangesRules batch) (none : batch_fault rules batch ≡ None)
      (first rest : List Change) (first_is : first ≡ early_batch early) (rest_is : rest ≡ late_batch early batch) where
    parts : IsSound rules (early_batch early)
        × (set_after rules (early_batch early) ≡ without_early rules early)
        × IsSound (without_early rules early) (late_batch early batch)
        × (set_after (without_early rules early) (late_batch early batch) ≡ set_after rules batch)
    parts = parts-sound rules batch early is_set none (spared_told rules batch is_set conditions changes)

    -- the verdict on the rest over the set behind the first part is that of the whole
    rest-judged : verdict slots mode (set_after rules first) rest ≡ early_verdict slots mode rules early batch
    rest-judged =
        ap (λ (some : List Change). verdict slots mode (set_after rules first) some) rest_is
        ∙ ap (λ (some : List Rule). verdict slots mode some (late_batch early batch)) (ap (set_after rules) first_is ∙ parts.1)
        ∙ ap (λ fault. verdict_by fault (room_verdict slots mode (without_early rules early) (late_batch early batch))) (parts.2 ∙ sym none)

    -- so both are taken, or it isn't parted
    both-judged : (is_accepted (verdict slots mode rules first) && is_accepted (verdict slots mode (set_after rules first) rest))
        ≡ (is_accepted (verdict slots mode rules (early_batch early)) && is_accepted (early_verdict slots mode rules early batch))
    both-judged =
        ap (λ (some : List Change). is_accepted (verdict slots mode rules some) && is_accepted (verdict slots mode (set_after rules first) rest)) first_is
        ∙ ap (λ judged. is_accepted (verdict slots mode rules (early_batch early)) && is_accepted judged) rest-judged

    pub never-taken : (taken : Bool) → taken ≡ (is_accepted (verdict slots mode rules first) && is_accepted (verdict slots mode (set_after rules first) rest)) → taken ≡ false → parted_in_two ≡ false
    never-taken taken is not_taken =
        let sound = is_sound (verdict slots mode rules batch) in
        let some = not (length early == 0) in
        let left = not (length (late_batch early batch) == 0) in
        ap (λ both. sound && (some && (left && both))) (sym both-judged ∙ sym is ∙ not_taken)
        ∙ ap (λ rest. sound && (some && rest)) (and-false left) ∙ ap (λ rest. sound && rest) (and-false some) ∙ and-false sound

    pub in-two : (taken : Bool) → taken ≡ (is_accepted (verdict slots mode rules first) && is_accepted (verdict slots mode (set_after rules first) rest)) → taken ≡ true
        → (length early == 0) ≡ false → (length (late_batch early batch) == 0) ≡ false → IsParted slots mode rules batch Nothing
    in-two taken is taken_is some left = record {
      is_set = is_set;
      conditions = conditions;
      changes = changes;
      in_two =
          all-true (is_sound (verdict slots mode rules batch)) (length early == 0) (length (late_batch early batch) == 0) _
          (ap (λ fault. is_sound (verdict_by fault (room_verdict slots mode rules batch))) none ∙ room-sound slots mode rules batch) some left
          (sym both-judged ∙ sym is ∙ taken_is);
    }

-- ---- what is asked for is parted as its settled batch

module _ (slots : ℕ) (mode : Mode) (rules : List Rule) (pending : List Change) (asked : Requested) where
  pub settled-parts : (batch : List Change) (parts : Option (List Change × List Change)) → batch ≡ settled_batch rules pending asked
      → settled_verdict slots mode rules pending asked ≡ verdict slots mode rules (settled_batch rules pending asked)
      → AreParts slots mode rules batch Nothing parts → AreParts slots mode rules pending asked parts
  settled-parts batch parts is same are =
      go parts (subst (λ (some : List Change). AreParts slots mode rules some Nothing parts) is are)
    where
      go : (parts : Option (List Change × List Change)) → AreParts slots mode rules (settled_batch rules pending asked) Nothing parts → AreParts slots mode rules pending asked parts
      go None are = ap (tests slots mode rules (settled_batch rules pending asked)) same ∙ are
      go (Some two) are = (
        record {
          is_set = are.0.is_set;
          conditions = are.0.conditions;
          changes = are.0.changes;
          in_two = ap (tests slots mode rules (settled_batch rules pending asked)) same ∙ are.0.in_two;
        },
        are.1,
        are.2,
      )

  pub plain-parts : (parts : Option (List Change × List Change)) → asked ≡ Nothing → AreParts slots mode rules pending Nothing parts → AreParts slots mode rules pending asked parts
  plain-parts parts none are = subst (λ (one : Requested). AreParts slots mode rules pending one parts) (sym none) are

  pub taken-parts : (batch : List Change) (parts : Option (List Change × List Change)) → TakesAsked rules asked → IsSound rules batch → batch ≡ settled_batch rules pending asked
      → AreParts slots mode rules batch Nothing parts → AreParts slots mode rules pending asked parts
  taken-parts batch parts taken sound is are =
      settled-parts batch parts is (verdict-taken slots mode rules pending asked taken (subst (IsSound rules) is sound)) are

  pub refused-parts : (fault : BatchFault) → IsWhyNone rules asked (Unsettled fault) → AreParts slots mode rules pending asked None
  refused-parts fault why =
      ap (tests slots mode rules (settled_batch rules pending asked)) (verdict-fault slots mode rules pending asked fault why)

-- ---- the run

-- removals add nothing
dels-routes : (version : IpVersion) (goes : List Rule) → OnlyChangesRoutes version (early_batch goes)
dels-routes version [] = tt
dels-routes version (rule ∷ goes) = dels-routes version goes

-- a part of a batch adds no more than that
late-routes : (version : IpVersion) (goes : List Rule) (batch : List Change) → OnlyChangesRoutes version batch → OnlyChangesRoutes version (late_batch goes batch)
late-routes version goes [] is = tt
late-routes version goes (Add rule ∷ batch) is = (is.0, late-routes version goes batch is.1)
late-routes version goes (Set priority answer ∷ batch) is = late-routes version goes batch is
late-routes version goes (Del priority ∷ batch) is = by (not (has_priority goes priority)) (late-routes version goes batch is)
  where
    by : (stays : Bool) → OnlyChangesRoutes version (late_batch goes batch) → OnlyChangesRoutes version (cond stays (Del priority ∷ late_batch goes batch) (late_batch goes batch))
    by true rest = rest
    by false rest = rest

-- what is in order is taken
sound-taken : (fault : Option BatchFault) (room : Verdict) → is_sound (verdict_by fault room) ≡ true → fault ≡ None
sound-taken None room is = refl
sound-taken (Some fault) room is = absurd (let clash : false ≡ true = is in cc)

taken-of : (slots : ℕ) (mode : Mode) (rules : List Rule) (pending : List Change) (asked : Requested) → is_sound (settled_verdict slots mode rules pending asked) ≡ true → TakesAsked rules asked
taken-of slots mode rules pending Nothing is = tt
taken-of slots mode rules pending (Changes requests) is =
    sound-taken (requests_fault rules requests) (room_verdict slots mode rules (settled_batch rules pending (Changes requests))) is
taken-of slots mode rules pending (Whole requests) is =
    sound-taken (requests_fault [] requests) (room_verdict slots mode rules (settled_batch rules pending (Whole requests))) is

-- whether what is pending go before a rest makes no difference to a run that is idle
early-run : (run : Running) (early : Bool) → IsRun run → run.manager.held ≡ None → IsRun (record run { early = early })
early-run run early is none = record {
  changes = is.changes;
  asks = is.asks;
  routes = is.routes;
  some_slots = is.some_slots;
  most_slots = is.most_slots;
  size = is.size;
  few = is.few;
  shows = is.shows;
  halfway = never-halfway run (record run { early = early }) none;
  idle = is.idle;
}

module _ (run : Running) (is : IsRun run) (none : run.manager.held ≡ None) where
  pub parted-run : (first : List Change) → first ≡ first_part run.manager.rules run.pending run.asked → IsRun (record run { pending = first; asked = Nothing; early = true })
  parted-run first first_is =
      let early = spared_rules run.manager.rules (settled_batch run.manager.rules run.pending run.asked) in
      let parted = joined-run run first Nothing is none (λ version route. (subst (OnlyChangesRoutes version) (sym first_is) (dels-routes version early), tt)) in
      early-run (record run { pending = first; asked = Nothing }) true parted none

  -- what is left behind them may join
  pub may-join : (slots : ℕ) (mode : Mode) (rest : List Change) → goes_in_two slots mode run.manager.rules run.pending run.asked ≡ true
      → rest ≡ rest_part run.manager.rules run.pending run.asked → MayJoin run rest
  may-join slots mode rest in_two rest_is version route =
      let batch = settled_batch run.manager.rules run.pending run.asked in
      let early = spared_rules run.manager.rules batch in
      let others = not (length early == 0) && behind slots mode run.manager.rules early batch in
      let sound = (and_parts (is_sound (settled_verdict slots mode run.manager.rules run.pending run.asked)) others in_two).0 in
      subst (OnlyChangesRoutes version) (sym rest_is)
      (late-routes version early batch
      (batch-routes version run.manager.rules run.pending run.asked (is.changes version route) (is.asks version route) (taken-of slots mode run.manager.rules run.pending run.asked sound)))

  pub joined-again : (rest : List Change) → run.asked ≡ Nothing → MayJoin run rest → IsRun (record run { pending = rest; early = false })
  joined-again rest strict may =
      let waits = joined-run run rest run.asked is none (λ version route. (may version route, is.asks version route)) in
      early-run (record run { pending = rest; asked = run.asked }) false waits none

-- of what is seen of a run
pub parted-inside : {inside run : Running} (first rest : List Change) → inside ≡ run → IsRun inside → run.manager.held ≡ None
    → AreParts run.manager.slots run.manager.mode run.manager.rules run.pending run.asked (Some (first, rest)) → IsRun (record inside { pending = first; asked = Nothing; early = true })
parted-inside {run = run} first rest same is none are =
    subst (λ (r : Running). IsRun (record r { pending = first; asked = Nothing; early = true })) (sym same) (parted-run run (subst IsRun same is) none first are.1)

pub joins-inside : {inside run : Running} (first rest : List Change) → inside ≡ run → IsRun inside → run.manager.held ≡ None
    → AreParts run.manager.slots run.manager.mode run.manager.rules run.pending run.asked (Some (first, rest)) → MayJoin inside rest
joins-inside {run = run} first rest same is none are =
    subst (λ (r : Running). MayJoin r rest) (sym same) (may-join run (subst IsRun same is) none run.manager.slots run.manager.mode rest are.0.in_two are.2)

-- a part that isn't empty
pub some-early : (rules : List Rule) (first : List Change) → first ≡ early_batch rules → ((first ≡ []) → ⊥) → (length rules == 0) ≡ false
some-early [] first is never = absurd (never is)
some-early (rule ∷ rules) first is never = ne_eqb (length (rule ∷ rules)) 0 (λ same. omega (arith, same))

pub some-left : (batch rest : List Change) → rest ≡ batch → ((rest ≡ []) → ⊥) → (length batch == 0) ≡ false
some-left [] rest is never = absurd (never is)
some-left (change ∷ batch) rest is never = ne_eqb (length (change ∷ batch)) 0 (λ same. omega (arith, same))
