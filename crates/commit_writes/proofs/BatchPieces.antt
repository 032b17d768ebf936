-- What a sound batch does to each piece of a set, and how its inserted, rewritten and erased pieces are listed.
use Rattle.std.proofs.Common.{◌≡◌, ◌<◌, ◌≤◌, not, List, ◌++◌, filter, reverse, Option, Some, None, IsTrue, IsFalse, Contains, ◌⊎◌, inl, inr, sym, subst, ◌∙◌, arith, le_refl}
use Rattle.std.proofs.lemmas.Bool.{cases_Bool, both_ways}
use Rattle.rule_model.specs.declared.Rule.{Rule}
use Rattle.rule_model.specs.Rule.{HasConditions}
use Rattle.rule_model.specs.RuleSet.{rule_at, IsRuleSet}
use Rattle.rule_store.specs.declared.Mode.{Mode}
use Rattle.rule_store.specs.declared.Command.{Command}
use Rattle.rule_store.specs.Batch.{removes, additions, set_after}
use Rattle.rule_store.specs.Verdict.{pieces_of, has_piece, replaced_rule, added_pieces, added_pieces_over}
use Rattle.rule_store.proofs.Members.{IsKept, set_after-member}
use Rattle.rule_model.specs.Entry.{RankedPiece}
use Rattle.tcam_device.specs.State.{State}
use Rattle.rule_store.proofs.Additions.{new_rules, additions_set}
use Rattle.commit_writes.specs.Bits.{FieldBits}
use Rattle.commit_writes.specs.Shape.{set_pieces, inserted_pieces, rewritten_pieces, erased_pieces, common_pieces, names}
use Rattle.commit_writes.proofs.SetPieces.{HasPiece, LacksPiece, IsChosen, in_chosen, chosen_in, all_chosen, set_has, AreOnce, chosen_once, chosen_ordered, pieces_once, rules_fall, chosen_served}
use Rattle.commit_writes.proofs.BatchRules.{IsSoundChange, unnamed_stays, unnamed_same, added_named, set_after-is, right_after}
use Rattle.std.specs.Prelude.{All, AllPairs}
use Rattle.std.specs.List.{AllByRecursion}
use Rattle.std.proofs.lemmas.List.Kept.{AllPairs-filter}
use Rattle.std.proofs.lemmas.List.Elements.{Contains-append_cases, Contains-append_left, Contains-append_right}
use Rattle.slot_order.specs.Order.{IsFalling, IsRising}
use Rattle.slot_order.proofs.Lists.{AllByRecursion-member}
use Rattle.rule_model.proofs.Pairs.{pairs_none, pairs_append}
use Rattle.rule_store.proofs.Falling.{IsRuleSet-filter}
use Rattle.commit_writes.specs.Planned.{IsServedBy}
use Rattle.commit_writes.specs.Serving.{AreServing}
use Rattle.commit_writes.proofs.ModePieces.{pieces_bitless, pieces_apart}
use Rattle.commit_writes.proofs.ServedRules.{IsServedRule, rule_served, served_after}
use Rattle.commit_writes.proofs.Filters.{all_members, all_from, pairs_reverse}
use Rattle.commit_writes.proofs.PieceChanges.{added_chosen, common_chosen, dropped_chosen, names_rank, inserted_stays, inserted_from, rewritten-is, rewritten_from, erased-is, erased_from}

-- the pieces of the set and those that a batch inserts
abbrev pub row_pieces : Mode → FieldBits → List Rule → List Command → List RankedPiece
row_pieces mode bits rules batch = set_pieces mode bits rules ++ inserted_pieces mode bits rules batch

pub rewritten_was : (mode : Mode) (bits : FieldBits) (rules : List Rule) (batch : List Command) → IsSoundChange rules batch → (ranked : RankedPiece) → Contains (rewritten_pieces mode bits rules batch) ranked
    → HasPiece (set_pieces mode bits rules) ranked
rewritten_was mode bits rules batch change ranked member = (rewritten-is mode bits rules batch ranked member).was

pub rewritten_stays : (mode : Mode) (bits : FieldBits) (rules : List Rule) (batch : List Command) → IsSoundChange rules batch → (ranked : RankedPiece) → Contains (rewritten_pieces mode bits rules batch) ranked
    → Contains (set_pieces mode bits (set_after rules batch)) ranked
rewritten_stays mode bits rules batch change ranked member = (rewritten-is mode bits rules batch ranked member).stays

-- so neither what is inserted nor what is rewritten is erased
pub erased_was : (mode : Mode) (bits : FieldBits) (rules : List Rule) (batch : List Command) → IsSoundChange rules batch → (ranked : RankedPiece) → Contains (erased_pieces mode bits rules batch) ranked
    → Contains (set_pieces mode bits rules) ranked
    × (LacksPiece (set_pieces mode bits (set_after rules batch)) ranked
    × (LacksPiece (inserted_pieces mode bits rules batch) ranked × LacksPiece (rewritten_pieces mode bits rules batch) ranked))
erased_was mode bits rules batch change ranked member =
    let w = erased-is mode bits rules batch change ranked member in (
      w.0,
      (w.1, (λ other new. w.1 other (inserted_stays mode bits rules batch change other new).0, λ other told. w.1 other (rewritten-is mode bits rules batch other told).stays)),
    )

-- a piece is neither rewritten nor erased
abbrev pub IsUntouched : Mode → FieldBits → List Rule → List Command → RankedPiece → Type 0
IsUntouched mode bits rules batch ranked = LacksPiece (rewritten_pieces mode bits rules batch) ranked × LacksPiece (erased_pieces mode bits rules batch) ranked

-- as where no command names its rule
untouched : (mode : Mode) (bits : FieldBits) (rules : List Rule) (batch : List Command) → IsSoundChange rules batch → (ranked : RankedPiece) → IsFalse (names_rank batch ranked.rank)
    → Contains (set_pieces mode bits (set_after rules batch)) ranked → IsUntouched mode bits rules batch ranked
untouched mode bits rules batch change ranked none stays = (
  λ other told piece_is rank_is. both_ways (names_rank batch ranked.rank) none (subst (λ rank. IsTrue (names_rank batch rank)) rank_is (rewritten-is mode bits rules batch other told).named),
  λ other gone piece_is rank_is. (erased-is mode bits rules batch change other gone).1 ranked stays (sym piece_is) (sym rank_is),
)

-- an old piece stays as it is, or gets a result, or goes
pub old_piece : (mode : Mode) (bits : FieldBits) (rules : List Rule) (batch : List Command) → IsSoundChange rules batch → (ranked : RankedPiece) → Contains (set_pieces mode bits rules) ranked
    → (Contains (set_pieces mode bits (set_after rules batch)) ranked × IsUntouched mode bits rules batch ranked)
    ⊎ (HasPiece (rewritten_pieces mode bits rules batch) ranked ⊎ Contains (erased_pieces mode bits rules batch) ranked)
old_piece mode bits rules batch change ranked member = elim (set_has mode bits (set_after rules batch) ranked is.piece (pieces_bitless mode is.rule is.piece is.has) is.piece_is) [
  | inr lacks ↦ inr (inr (erased_from mode bits rules batch ranked member lacks))
  | inl now ↦ elim (cases_Bool (names_rank batch ranked.rank)) [
    | inl named ↦ inr (inl (
      now.0,
      rewritten_from mode bits rules batch change now.0
          (record { stays = now.1; was = (ranked, member, sym now.2, sym now.3); named = subst (λ rank. IsTrue (names_rank batch rank)) (sym now.3) named }),
      now.2,
      now.3,
    ))
    | inr none ↦ inl (stays none, untouched mode bits rules batch change ranked none (stays none))
  ]
]
  where
    is : IsChosen bits (pieces_of mode) rules ranked
    is = in_chosen bits (pieces_of mode) rules ranked member

    stays : IsFalse (names_rank batch ranked.rank) → Contains (set_pieces mode bits (set_after rules batch)) ranked
    stays none =
        let unnamed : IsFalse (names batch is.rule) = subst (λ rank. IsFalse (names_rank batch rank)) is.rank_is none in
        chosen_in bits (pieces_of mode) (set_after rules batch) ranked
        (record {
          rule = is.rule;
          member = (set_after-member rules batch is.rule).1 (inr (is.rule, is.member, unnamed_stays batch is.rule unnamed, sym (unnamed_same batch is.rule unnamed)));
          rank_is = is.rank_is;
          result_is = is.result_is;
          piece = is.piece;
          has = is.has;
          piece_is = is.piece_is;
        })

-- a piece of the new set is an old one, or one that got a result, or an inserted one
pub new_piece : (mode : Mode) (bits : FieldBits) (rules : List Rule) (batch : List Command) → IsSoundChange rules batch → (ranked : RankedPiece) → Contains (set_pieces mode bits (set_after rules batch)) ranked
    → (Contains (set_pieces mode bits rules) ranked × IsUntouched mode bits rules batch ranked)
    ⊎ (Contains (rewritten_pieces mode bits rules batch) ranked ⊎ Contains (inserted_pieces mode bits rules batch) ranked)
new_piece mode bits rules batch change ranked member = elim (set_has mode bits rules ranked is.piece (pieces_bitless mode is.rule is.piece is.has) is.piece_is) [
  | inr lacks ↦ inr (inr (inserted_from mode bits rules batch change ranked member lacks))
  | inl was ↦ elim (cases_Bool (names_rank batch ranked.rank)) [
    | inl named ↦ inr (inl (rewritten_from mode bits rules batch change ranked (record { stays = member; was = was; named = named })))
    | inr none ↦ inl (stood none, untouched mode bits rules batch change ranked none member)
  ]
]
  where
    is : IsChosen bits (pieces_of mode) (set_after rules batch) ranked
    is = in_chosen bits (pieces_of mode) (set_after rules batch) ranked member

    stood : IsFalse (names_rank batch ranked.rank) → Contains (set_pieces mode bits rules) ranked
    stood none =
        let unnamed : IsFalse (names batch is.rule) = subst (λ rank. IsFalse (names_rank batch rank)) is.rank_is none in
        chosen_in bits (pieces_of mode) rules ranked
        (record {
          rule = is.rule;
          member = as_it_was unnamed ((set_after-member rules batch is.rule).0 is.member);
          rank_is = is.rank_is;
          result_is = is.result_is;
          piece = is.piece;
          has = is.has;
          piece_is = is.piece_is;
        })
      where
        as_it_was : IsFalse (names batch is.rule) → Contains (additions batch) is.rule ⊎ IsKept rules batch is.rule → Contains rules is.rule
        as_it_was unnamed (inl new) = absurd (both_ways (names batch is.rule) unnamed (added_named batch is.rule new))
        as_it_was unnamed (inr (old, was, stays, same)) =
            let unnamed_old : IsFalse (names batch old) = subst (λ (r : Rule). IsFalse (names batch r)) same unnamed in
            subst (Contains rules) (sym (same ∙ unnamed_same batch old unnamed_old)) was

-- priorities of a set differ
differ : (rules : List Rule) → IsRuleSet rules → AllPairs (λ a b. a.priority ≡ b.priority → ⊥) rules
differ rules set i j d less inside same = let falls = rules_fall rules set i j d less inside in omega arith

-- each is listed once
pub inserted_once : (mode : Mode) (bits : FieldBits) (rules : List Rule) (batch : List Command) → IsSoundChange rules batch → AreOnce (inserted_pieces mode bits rules batch)
inserted_once mode bits rules batch change =
    chosen_once mode bits (added_pieces mode rules) (new_rules batch) (added_chosen mode rules) (differ (new_rules batch) (additions_set rules batch change.sound)) apart
  where
    apart : (new : Rule) → AllPairs (λ a b. a ≡ b → ⊥) (added_pieces mode rules new)
    apart new = go (replaced_rule rules new)
      where
        go : (old : Option Rule) → AllPairs (λ a b. a ≡ b → ⊥) (added_pieces_over mode old new)
        go None = pieces_apart mode new
        go (Some old) = AllPairs-filter (λ a b. a ≡ b → ⊥) (λ piece. not (has_piece (pieces_of mode old) piece)) (pieces_of mode new) (pieces_apart mode new)

pub rewritten_once : (mode : Mode) (bits : FieldBits) (rules : List Rule) (batch : List Command) → IsSoundChange rules batch → AreOnce (rewritten_pieces mode bits rules batch)
rewritten_once mode bits rules batch change =
    chosen_once mode bits (λ new. common_pieces mode (replaced_rule rules new) new) (filter (names batch) (set_after rules batch)) (common_chosen mode rules)
    (differ (filter (names batch) (set_after rules batch)) (IsRuleSet-filter (names batch) (set_after rules batch) (set_after-is rules batch change))) apart
  where
    apart : (new : Rule) → AllPairs (λ a b. a ≡ b → ⊥) (common_pieces mode (replaced_rule rules new) new)
    apart new = go (replaced_rule rules new)
      where
        go : (old : Option Rule) → AllPairs (λ a b. a ≡ b → ⊥) (common_pieces mode old new)
        go None = pairs_none (λ a b. a ≡ b → ⊥)
        go (Some old) = AllPairs-filter (λ a b. a ≡ b → ⊥) (has_piece (pieces_of mode old)) (pieces_of mode new) (pieces_apart mode new)

-- the rules that a batch removes, by rising priority
removed_rise : (rules : List Rule) (batch : List Command) → IsRuleSet rules → AllPairs (λ a b. a.priority < b.priority) (reverse (filter (λ rule. removes rule.priority batch) rules))
removed_rise rules batch set =
    let removed = filter (λ (rule : Rule). removes rule.priority batch) rules in
    pairs_reverse (λ a b. a.priority < b.priority) removed (rules_fall removed (IsRuleSet-filter (λ rule. removes rule.priority batch) rules set))

pub erased_once : (mode : Mode) (bits : FieldBits) (rules : List Rule) (batch : List Command) → IsSoundChange rules batch → AreOnce (erased_pieces mode bits rules batch)
erased_once mode bits rules batch change =
    chosen_once mode bits (λ old. added_pieces_over mode (rule_at (additions batch) old.priority) old) (reverse (filter (λ rule. removes rule.priority batch) rules)) (dropped_chosen mode batch)
    (λ i j d less inside same. let rises = removed_rise rules batch change.is_set i j d less inside in omega arith) apart
  where
    apart : (old : Rule) → AllPairs (λ a b. a ≡ b → ⊥) (added_pieces_over mode (rule_at (additions batch) old.priority) old)
    apart old = go (rule_at (additions batch) old.priority)
      where
        go : (new : Option Rule) → AllPairs (λ a b. a ≡ b → ⊥) (added_pieces_over mode new old)
        go None = pieces_apart mode old
        go (Some new) = AllPairs-filter (λ a b. a ≡ b → ⊥) (λ piece. not (has_piece (pieces_of mode new) piece)) (pieces_of mode old) (pieces_apart mode old)

-- inserted by falling priority and erased by rising priority
pub inserted_falls : (mode : Mode) (bits : FieldBits) (rules : List Rule) (batch : List Command) → IsSoundChange rules batch → IsFalling (λ (ranked : RankedPiece). ranked.rank) (inserted_pieces mode bits rules batch)
inserted_falls mode bits rules batch change =
    chosen_ordered bits (λ m n. n ≤ m) (added_pieces mode rules) (new_rules batch) le_refl
    (λ i j d less inside. let falls = rules_fall (new_rules batch) (additions_set rules batch change.sound) i j d less inside in omega arith)

pub erased_rises : (mode : Mode) (bits : FieldBits) (rules : List Rule) (batch : List Command) → IsSoundChange rules batch → IsRising (λ (ranked : RankedPiece). ranked.rank) (erased_pieces mode bits rules batch)
erased_rises mode bits rules batch change =
    chosen_ordered bits (λ m n. m ≤ n) (λ old. added_pieces_over mode (rule_at (additions batch) old.priority) old) (reverse (filter (λ rule. removes rule.priority batch) rules)) le_refl
    (λ i j d less inside. let rises = removed_rise rules batch change.is_set i j d less inside in omega arith)

-- tables that serve the old rules and the added ones serve those of the set after it,
served_rules : (mode : Mode) (bits : FieldBits) (state : State) (rules : List Rule) (batch : List Command) → IsSoundChange rules batch
    → AreServing mode bits (rules ++ additions batch) state → (rule : Rule) → Contains (set_after rules batch) rule → HasConditions rule × IsServedRule mode bits state rule
served_rules mode bits state rules batch change serving rule member = (
  AllByRecursion-member HasConditions (set_after rules batch) rule (right_after rules batch change) member,
  elim ((set_after-member rules batch rule).0 member) [
    | inl new ↦ rule_served mode bits state (rules ++ additions batch) rule serving (Contains-append_right rules (additions batch) rule new)
    | inr kept ↦ subst (IsServedRule mode bits state) (sym kept.3)
        (served_after mode bits state batch kept.0 (rule_served mode bits state (rules ++ additions batch) kept.0 serving (Contains-append_left rules (additions batch) kept.0 kept.1)))
  ],
)

-- so they serve its pieces,
pub after_served : (mode : Mode) (bits : FieldBits) (state : State) (rules : List Rule) (batch : List Command) → IsSoundChange rules batch
    → AreServing mode bits (rules ++ additions batch) state → AllByRecursion (IsServedBy state) (set_pieces mode bits (set_after rules batch))
after_served mode bits state rules batch change serving =
    all_members (IsServedBy state) (set_pieces mode bits (set_after rules batch))
    (chosen_served mode bits state (pieces_of mode) (set_after rules batch) (all_chosen mode) (served_rules mode bits state rules batch change serving))

-- and all that stand while it is inserted,
pub row_served : (mode : Mode) (bits : FieldBits) (state : State) (rules : List Rule) (batch : List Command) → IsSoundChange rules batch
    → AreServing mode bits (rules ++ additions batch) state → AllByRecursion (IsServedBy state) (set_pieces mode bits rules ++ inserted_pieces mode bits rules batch)
row_served mode bits state rules batch change serving =
    all_members (IsServedBy state) (set_pieces mode bits rules ++ inserted_pieces mode bits rules batch) (λ ranked member.
    elim (Contains-append_cases (set_pieces mode bits rules) (inserted_pieces mode bits rules batch) ranked member) [
      | inl old ↦ chosen_served mode bits state (pieces_of mode) rules (all_chosen mode) old_rules ranked old
      | inr new ↦ AllByRecursion-member (IsServedBy state) (set_pieces mode bits (set_after rules batch)) ranked
          (after_served mode bits state rules batch change serving) (inserted_stays mode bits rules batch change ranked new).0
    ])
  where
    old_rules : (rule : Rule) → Contains rules rule → HasConditions rule × IsServedRule mode bits state rule
    old_rules rule member = (
      AllByRecursion-member HasConditions rules rule change.right member,
      rule_served mode bits state (rules ++ additions batch) rule serving (Contains-append_left rules (additions batch) rule member),
    )

-- which stand once
pub row_once : (mode : Mode) (bits : FieldBits) (rules : List Rule) (batch : List Command) → IsSoundChange rules batch → AreOnce (set_pieces mode bits rules ++ inserted_pieces mode bits rules batch)
row_once mode bits rules batch change =
    pairs_append (λ a b. a.rank ≡ b.rank → a.piece ≡ b.piece → ⊥) old inserted (pieces_once mode bits rules change.is_set) (inserted_once mode bits rules batch change)
    (all_from (λ a. All (λ b. a.rank ≡ b.rank → a.piece ≡ b.piece → ⊥) inserted) old
    (λ a was. all_from (λ b. a.rank ≡ b.rank → a.piece ≡ b.piece → ⊥) inserted
    (λ b new same_rank piece_is. (inserted_stays mode bits rules batch change b new).1 a was piece_is same_rank)))
  where
    old : List RankedPiece
    old = set_pieces mode bits rules

    inserted : List RankedPiece
    inserted = inserted_pieces mode bits rules batch
