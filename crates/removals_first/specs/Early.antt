-- Which removals of a batch may be made before its additions, and what packets see of a commit in two parts.
use Rattle.std.specs.Prelude.{◌≡◌, ℕ, ◌<◌, ◌⊎◌, not, ◌&&◌, IsTrue, IsFalse, List, ◌++◌, Contains, map, filter, take, [], ◌∷◌, if◌then◌else◌, Bool, ◌||◌, nat_le, nat_lt, nat_eq, true, false, Option, Some, None}
use Rattle.rule_model.specs.AddressBlock.{AddressBlock, block_holds}
use Rattle.rule_model.specs.PortRange.{PortRange}
use Rattle.std.specs.List.{list_any, AllByRecursion}
use Rattle.rule_model.specs.declared.Key.{Key}
use Rattle.rule_model.specs.declared.Rule.{Rule}
use Rattle.rule_model.specs.Key.{IsKey}
use Rattle.rule_model.specs.Rule.{Overlap, HasConditions, rule_matches, rules_meet}
use Rattle.rule_model.specs.RuleSet.{IsRuleSet, answer, has_priority}
use Rattle.rule_store.specs.declared.Command.{Command}
use Rattle.rule_store.specs.declared.Command.TheVariants.{Del}
use Rattle.rule_store.specs.Batch.{named_priority, is_removal, removes, additions, IsSound, set_after, ChangesRules}
use Rattle.rule_store.specs.declared.Mode.{Mode}
use Rattle.rule_store.specs.Verdict.{Verdict, room_verdict, verdict_by}
use Rattle.rule_store.specs.Batch.{batch_fault}
use Rattle.settled_changes.specs.Laws.{is_named}
use Rattle.tcam_device.specs.declared.Write.{Write}
use Rattle.tcam_device.specs.State.{State, Shows, state_after}
use Rattle.tcam_device.specs.Hitless.{IsHitless, KeepsOldOrNew, TurnsOnce}

-- At a key that an early rule and another one match some rule of the set does so too that spares it: it is above the early
-- one, which then answers nothing there, or it is above the other one, and the batch leaves it as it is.
abbrev pub IsSpared : List Rule → List Command → Rule → Rule → Key → Type 0
IsSpared rules batch rule other key =
    (cover : Rule) × Contains rules cover × IsTrue (rule_matches cover key)
    × ((rule.priority < cover.priority) ⊎ ((other.priority < cover.priority) × IsFalse (is_named cover.priority batch)))

-- Rules that a batch may remove before it adds anything: it removes them,
pub record AreEarly (rules : List Rule) (batch : List Command) (early : List Rule) : Type 0 where
  pub members : (rule : Rule) → Contains early rule → Contains rules rule
  pub is_set : IsRuleSet early
  pub removed : (rule : Rule) → Contains early rule → IsTrue (removes rule.priority batch)
  -- each key that one of them and an added rule match is spared,
  pub apart : (rule new : Rule) (key : Key) → Contains early rule → Contains (additions batch) new → IsKey key
      → IsTrue (rule_matches rule key) → IsTrue (rule_matches new key) → IsSpared rules batch rule new key
  -- and so is each that one of them and a lower rule match that the batch removes, replaces or changes, if that isn't early
  -- too
  pub closed : (rule lower : Rule) (key : Key) → Contains early rule → Contains rules lower → lower.priority < rule.priority
      → IsKey key
      → IsTrue (rule_matches rule key) → IsTrue (rule_matches lower key) → IsTrue (is_named lower.priority batch)
      → Contains early lower ⊎ IsSpared rules batch rule lower key

-- the plain case: no added rule overlaps one of them, and each lower rule that overlaps one is early too or stays as it is
pub record ArePlainlyEarly (rules : List Rule) (batch : List Command) (early : List Rule) : Type 0 where
  pub members : (rule : Rule) → Contains early rule → Contains rules rule
  pub is_set : IsRuleSet early
  pub removed : (rule : Rule) → Contains early rule → IsTrue (removes rule.priority batch)
  pub apart : (rule new : Rule) → Contains early rule → Contains (additions batch) new → Overlap rule new → ⊥
  pub closed : (rule lower : Rule) → Contains early rule → Contains rules lower → lower.priority < rule.priority
      → Overlap rule lower
      → IsTrue (is_named lower.priority batch) → Contains early lower

abbrev pub PlainlyEarlyAreEarly : Type 0
PlainlyEarlyAreEarly =
    (rules : List Rule) (batch : List Command) (early : List Rule)
    → ArePlainlyEarly rules batch early → AreEarly rules batch early

-- the set between the two parts
abbrev pub without_early : List Rule → List Rule → List Rule
without_early rules early = filter (λ rule. not (has_priority early rule.priority)) rules

-- the first part, made by rising priority as the removals of any commit are
abbrev pub early_batch : List Rule → List Command
early_batch early = map (λ rule. Del rule.priority) early

-- and the rest: of a replaced rule the addition
abbrev pub late_batch : List Rule → List Command → List Command
late_batch early batch = filter (λ command. not (is_removal command && has_priority early (named_priority command))) batch

-- The verdict: the fault of the whole batch, or the room of the rest over the set without the early rules. So their slots
-- count as free, and by bits the ranges that only they need.
abbrev pub early_verdict : ℕ → Mode → List Rule → List Rule → List Command → Verdict
early_verdict slots mode rules early batch =
    verdict_by (batch_fault rules batch) (room_verdict slots mode (without_early rules early) (late_batch early batch))

-- Both parts are sound, the first leads to the set between, and the second from there to the set after the whole batch.
abbrev pub PartsAreSound : Type 0
PartsAreSound =
    (rules : List Rule) (batch : List Command) (early : List Rule)
    → IsRuleSet rules → IsSound rules batch → AreEarly rules batch early
    → IsSound rules (early_batch early)
    × (set_after rules (early_batch early) ≡ without_early rules early)
    × IsSound (without_early rules early) (late_batch early batch)
    × (set_after (without_early rules early) (late_batch early batch) ≡ set_after rules batch)

-- each key gets the answer that the old set gives it, or that of the new one
abbrev pub IsBetween : List Rule → List Rule → List Rule → Type 0
IsBetween old middle new =
    (key : Key) → IsKey key → (answer middle key ≡ answer old key) ⊎ (answer middle key ≡ answer new key)

-- Without the early rules of a sound batch each key gets the old or the new answer.
abbrev pub EarlyRemovalsShowOldOrNew : Type 0
EarlyRemovalsShowOldOrNew =
    (rules : List Rule) (batch : List Command) (early : List Rule)
    → IsRuleSet rules → IsSound rules batch → AreEarly rules batch early
    → IsBetween rules (without_early rules early) (set_after rules batch)

-- Two hitless parts by way of such a set are hitless,
abbrev pub TwoPartsAreHitless : Type 0
TwoPartsAreHitless =
    (old middle new : List Rule) (state : State) (first second : List Write) → IsBetween old middle new
    → IsHitless old middle state first → IsHitless middle new (state_after state first) second
    → IsHitless old new state (first ++ second)

-- and a key that turns once at most in each of them turns once at most in both.
abbrev pub TwoPartsTurnOnce : Type 0
TwoPartsTurnOnce =
    (old middle new : List Rule) (state : State) (first second : List Write) → IsBetween old middle new
    → TurnsOnce old middle state first → TurnsOnce middle new (state_after state first) second
    → TurnsOnce old new state (first ++ second)

-- No other set will do: one that the device shows on a hitless way from the old set to the new one is such a set.
abbrev pub NoOtherSetBetween : Type 0
NoOtherSetBetween =
    (old middle new : List Rule) (state : State) (writes : List Write) (n : ℕ) → KeepsOldOrNew old new state writes
    → Shows (state_after state (take n writes)) middle → IsBetween old middle new

-- whether a rule may go before the additions, where these lower ones stand and so many of them go first
abbrev pub goes_first : List Command → Rule → List Rule → List Rule → Bool
goes_first batch rule lower early =
    removes rule.priority batch && not (list_any (rules_meet rule) (additions batch))
    && not (list_any (λ other.
    rules_meet rule other && (is_named other.priority batch && not (has_priority early other.priority))) lower)

-- The rules of a set that a batch removes first, told from the lowest up: as many as are plainly early.
abbrev pub early_rules : List Command → List Rule → List Rule
early_rules batch [] = []
early_rules batch (rule ∷ lower) =
    let early = early_rules batch lower in if goes_first batch rule lower early then rule ∷ early else early

-- They are plainly early, and so early.
abbrev pub EarlyRulesAreEarly : Type 0
EarlyRulesAreEarly =
    (rules : List Rule) (batch : List Command)
    → IsRuleSet rules → AllByRecursion HasConditions rules → AllByRecursion ChangesRules batch
    → ArePlainlyEarly rules batch (early_rules batch rules)

-- A block, a protocol or a range holds all that two others have in common, told by one of the two at each end.
abbrev pub block_within : AddressBlock → AddressBlock → Bool
block_within inner outer = nat_le outer.len inner.len && block_holds outer inner.addr

abbrev pub block_covers : AddressBlock → AddressBlock → AddressBlock → Bool
block_covers cover a b = block_within a cover || block_within b cover

abbrev pub is_proto : ℕ → Option ℕ → Bool
is_proto number None = false
is_proto number (Some proto) = nat_eq proto number

abbrev pub proto_covers : Option ℕ → Option ℕ → Option ℕ → Bool
proto_covers None a b = true
proto_covers (Some number) a b = is_proto number a || is_proto number b

abbrev pub range_covers : PortRange → PortRange → PortRange → Bool
range_covers cover a b = (nat_le cover.lo a.lo || nat_le cover.lo b.lo) && (nat_le a.hi cover.hi || nat_le b.hi cover.hi)

-- so does a rule
abbrev pub rule_covers : Rule → Rule → Rule → Bool
rule_covers cover a b =
    block_covers cover.src a.src b.src && (block_covers cover.dst a.dst b.dst && (proto_covers cover.proto a.proto b.proto
    && (range_covers cover.sport a.sport b.sport && range_covers cover.dport a.dport b.dport)))

-- whether one rule of the set spares all keys that an early rule and another one match
abbrev pub is_spared : List Rule → List Command → Rule → Rule → Bool
is_spared rules batch rule other =
    list_any (λ cover. rule_covers cover rule other
    && (nat_lt rule.priority cover.priority
    || (nat_lt other.priority cover.priority && not (is_named cover.priority batch)))) rules

abbrev pub spared_goes_first : List Rule → List Command → Rule → List Rule → List Rule → Bool
spared_goes_first rules batch rule lower early =
    removes rule.priority batch
    && (not (list_any (λ new. rules_meet rule new && not (is_spared rules batch rule new)) (additions batch))
    && not (list_any (λ other.
    rules_meet rule other && (is_named other.priority batch
    && (not (has_priority early other.priority) && not (is_spared rules batch rule other)))) lower))

-- The same with covers: of these rules, which are the last ones of the set, those that go first.
abbrev pub spared_rules_in : List Rule → List Command → List Rule → List Rule
spared_rules_in rules batch [] = []
spared_rules_in rules batch (rule ∷ lower) =
    let early = spared_rules_in rules batch lower in
    if spared_goes_first rules batch rule lower early then rule ∷ early else early

-- those of the whole set
abbrev pub spared_rules : List Rule → List Command → List Rule
spared_rules rules batch = spared_rules_in rules batch rules

-- They are early.
abbrev pub SparedRulesAreEarly : Type 0
SparedRulesAreEarly =
    (rules : List Rule) (batch : List Command)
    → IsRuleSet rules → AllByRecursion HasConditions rules → AllByRecursion ChangesRules batch
    → AreEarly rules batch (spared_rules rules batch)
