-- Which pieces a sound batch inserts, rewrites and erases: those of the new set that the old one hasn't, those that both have
-- where the batch names their rule, and those of the old set that the new one hasn't.
use Rattle.std.proofs.Common.{◌≡◌, ℕ, Bool, not, List, filter, reverse, Option, Some, None, IsTrue, IsFalse, Contains, inl, inr, refl, sym, ap, subst, ◌∙◌}
use Rattle.std.specs.Prelude.{nat_eq}
use Rattle.std.specs.List.{list_any}
use Rattle.std.proofs.lemmas.Bool.{cases_Bool, false_from_ne_true, not-true, not_from_false, both_ways}
use Rattle.slot_order.proofs.Lists.{contains_none, in_filter, filter_in}
use Rattle.rule_model.specs.declared.Rule.{Rule}
use Rattle.rule_model.specs.declared.Piece.{Piece}
use Rattle.rule_model.specs.RuleSet.{rule_at}
use Rattle.rule_model.proofs.RuleSets.{IsRuleSet-distinct}
use Rattle.rule_store.specs.declared.Mode.{Mode}
use Rattle.rule_store.specs.declared.Command.{Command}
use Rattle.rule_store.specs.Batch.{named_priority, removes, additions, with_result_after, set_after}
use Rattle.rule_store.specs.Verdict.{pieces_of, has_piece, replaced_rule, added_pieces, added_pieces_over}
use Rattle.rule_store.proofs.Members.{set_after-member}
use Rattle.rule_model.specs.Entry.{RankedPiece}
use Rattle.rule_store.proofs.PieceTests.{has_piece-from}
use Rattle.rule_store.proofs.Additions.{new_rules, new_rules-member, member-new_rules, additions_distinct}
use Rattle.rule_store.proofs.RulesAt.{cases_rule_at, rule_at-member}
use Rattle.commit_writes.specs.Bits.{FieldBits, with_bits}
use Rattle.commit_writes.specs.Shape.{set_pieces, inserted_pieces, rewritten_pieces, erased_pieces, common_pieces, names}
use Rattle.commit_writes.proofs.Filters.{in_reverse, reverse_in}
use Rattle.commit_writes.proofs.ModePieces.{pieces_bitless, pieces_after, has_piece-member}
use Rattle.commit_writes.proofs.SetPieces.{HasPiece, LacksPiece, IsChoice, IsChosen, in_chosen, chosen_in, chosen_same, all_chosen}
use Rattle.commit_writes.proofs.BatchRules.{IsSoundChange}

-- which pieces are taken of a rule that is added, of one that is named, and of one that is removed
pub added_chosen : (mode : Mode) (rules : List Rule) → IsChoice mode (added_pieces mode rules)
added_chosen mode rules new piece member = go (replaced_rule rules new) member
  where
    go : (old : Option Rule) → Contains (added_pieces_over mode old new) piece → Contains (pieces_of mode new) piece
    go None is = is
    go (Some old) is = (in_filter (λ p. not (has_piece (pieces_of mode old) p)) (pieces_of mode new) piece is).0

pub common_chosen : (mode : Mode) (rules : List Rule) → IsChoice mode (λ new. common_pieces mode (replaced_rule rules new) new)
common_chosen mode rules new piece member = go (replaced_rule rules new) member
  where
    go : (old : Option Rule) → Contains (common_pieces mode old new) piece → Contains (pieces_of mode new) piece
    go None is = absurd (contains_none piece is)
    go (Some old) is = (in_filter (has_piece (pieces_of mode old)) (pieces_of mode new) piece is).0

pub dropped_chosen : (mode : Mode) (batch : List Command) → IsChoice mode (λ old. added_pieces_over mode (rule_at (additions batch) old.priority) old)
dropped_chosen mode batch old piece member = go (rule_at (additions batch) old.priority) member
  where
    go : (new : Option Rule) → Contains (added_pieces_over mode new old) piece → Contains (pieces_of mode old) piece
    go None is = is
    go (Some new) is = (in_filter (λ p. not (has_piece (pieces_of mode new) p)) (pieces_of mode old) piece is).0

-- what is in the set at a rule is a piece of it
at_rule : (mode : Mode) (bits : FieldBits) (rules : List Rule) (rule : Rule) (ranked : RankedPiece) (piece : Piece) → Contains rules rule → ranked.rank ≡ rule.priority
    → Contains (pieces_of mode rule) piece → with_bits bits piece ≡ ranked.piece → HasPiece (set_pieces mode bits rules) ranked
at_rule mode bits rules rule ranked piece member rank has piece_is =
    let is : RankedPiece = record { piece = ranked.piece; rank = rule.priority; result = rule.result } in (
      is,
      chosen_in bits (pieces_of mode) rules is
          (record { rule = rule; member = member; rank_is = refl; result_is = refl; piece = piece; has = has; piece_is = piece_is }),
      refl,
      sym rank,
    )

-- the pieces of a rule that another one at its priority hasn't, where the other ones are known
over_lacks : (mode : Mode) (rules : List Rule) (rule : Rule) (piece : Piece) → Contains (added_pieces_over mode (rule_at rules rule.priority) rule) piece
    → (other : Rule) → rule_at rules rule.priority ≡ Some other → Contains (pieces_of mode other) piece → ⊥
over_lacks mode rules rule piece member other found has =
    let fresh = in_filter (λ p. not (has_piece (pieces_of mode other) p)) (pieces_of mode rule) piece (subst (λ old. Contains (added_pieces_over mode old rule) piece) found member) in
    both_ways (has_piece (pieces_of mode other) piece) (not-true _ fresh.1) (has_piece-from (pieces_of mode other) piece has)

over_from : (mode : Mode) (rules : List Rule) (rule : Rule) (piece : Piece) → Contains (pieces_of mode rule) piece
    → ((other : Rule) → Contains rules other → other.priority ≡ rule.priority → Contains (pieces_of mode other) piece → ⊥)
    → Contains (added_pieces_over mode (rule_at rules rule.priority) rule) piece
over_from mode rules rule piece has lacks = elim (cases_rule_at rules rule.priority) [
  | inr none ↦ subst (λ old. Contains (added_pieces_over mode old rule) piece) (sym none.0) has
  | inl found ↦ subst (λ old. Contains (added_pieces_over mode old rule) piece) (sym found.1)
      (filter_in (λ p. not (has_piece (pieces_of mode found.0) p)) (pieces_of mode rule) piece has
      (not_from_false _ (false_from_ne_true _ (λ same. lacks found.0 found.2 found.3 (has_piece-member mode found.0 piece (pieces_bitless mode rule piece has) same)))))
]

-- inserted are the pieces of the new set that the old one hasn't
pub inserted_stays : (mode : Mode) (bits : FieldBits) (rules : List Rule) (batch : List Command) → IsSoundChange rules batch → (ranked : RankedPiece)
    → Contains (inserted_pieces mode bits rules batch) ranked
    → Contains (set_pieces mode bits (set_after rules batch)) ranked × LacksPiece (set_pieces mode bits rules) ranked
inserted_stays mode bits rules batch change ranked member = (
  chosen_in bits (pieces_of mode) (set_after rules batch) ranked
      (record {
        rule = is.rule;
        member = (set_after-member rules batch is.rule).1 (inl (new_rules-member batch is.rule is.member));
        rank_is = is.rank_is;
        result_is = is.result_is;
        piece = is.piece;
        has = added_chosen mode rules is.rule is.piece is.has;
        piece_is = is.piece_is;
      }),
  lacks,
)
  where
    is : IsChosen bits (added_pieces mode rules) (new_rules batch) ranked
    is = in_chosen bits (added_pieces mode rules) (new_rules batch) ranked member

    lacks : LacksPiece (set_pieces mode bits rules) ranked
    lacks other old piece_is rank_is =
        let was = in_chosen bits (pieces_of mode) rules other old in
        let same : was.rule.priority ≡ is.rule.priority = sym was.rank_is ∙ (rank_is ∙ is.rank_is) in
        over_lacks mode rules is.rule is.piece is.has was.rule
        (subst (λ priority. rule_at rules priority ≡ Some was.rule) same (rule_at-member rules was.rule (IsRuleSet-distinct rules change.is_set) was.member))
        (subst (Contains (pieces_of mode was.rule))
        (chosen_same mode bits (pieces_of mode) (added_pieces mode rules) rules (new_rules batch) other ranked (all_chosen mode) (added_chosen mode rules) was is piece_is) was.has)

pub inserted_from : (mode : Mode) (bits : FieldBits) (rules : List Rule) (batch : List Command) → IsSoundChange rules batch → (ranked : RankedPiece)
    → Contains (set_pieces mode bits (set_after rules batch)) ranked
    → LacksPiece (set_pieces mode bits rules) ranked → Contains (inserted_pieces mode bits rules batch) ranked
inserted_from mode bits rules batch change ranked member lacks = elim ((set_after-member rules batch is.rule).0 is.member) [
  | inl new ↦ chosen_in bits (added_pieces mode rules) (new_rules batch) ranked
      (record {
        rule = is.rule;
        member = member-new_rules batch is.rule new;
        rank_is = is.rank_is;
        result_is = is.result_is;
        piece = is.piece;
        has = over_from mode rules is.rule is.piece is.has (λ other old same has. never other old (same ∙ sym is.rank_is) has);
        piece_is = is.piece_is;
      })
  | inr kept ↦ absurd (never kept.0 kept.1 (ap (λ (r : Rule). r.priority) (sym kept.3) ∙ sym is.rank_is)
      (subst (λ pieces. Contains pieces is.piece) (pieces_after mode batch kept.0) (subst (λ r. Contains (pieces_of mode r) is.piece) kept.3 is.has)))
]
  where
    is : IsChosen bits (pieces_of mode) (set_after rules batch) ranked
    is = in_chosen bits (pieces_of mode) (set_after rules batch) ranked member

    never : (old : Rule) → Contains rules old → old.priority ≡ ranked.rank → Contains (pieces_of mode old) is.piece → ⊥
    never old was same has = let w = at_rule mode bits rules old ranked is.piece was (sym same) has is.piece_is in lacks w.0 w.1 w.2 w.3

-- whether a command names a priority
abbrev pub names_rank : List Command → ℕ → Bool
names_rank batch rank = list_any (λ command. nat_eq (named_priority command) rank) batch

-- rewritten are the pieces that both sets have, of rules that the batch names
pub record IsRewritten (mode : Mode) (bits : FieldBits) (rules : List Rule) (batch : List Command) (ranked : RankedPiece) : Type 0 where
  pub stays : Contains (set_pieces mode bits (set_after rules batch)) ranked
  pub was : HasPiece (set_pieces mode bits rules) ranked
  pub named : IsTrue (names_rank batch ranked.rank)

pub rewritten-is : (mode : Mode) (bits : FieldBits) (rules : List Rule) (batch : List Command) → (ranked : RankedPiece)
    → Contains (rewritten_pieces mode bits rules batch) ranked → IsRewritten mode bits rules batch ranked
rewritten-is mode bits rules batch ranked member = record {
  stays = chosen_in bits (pieces_of mode) (set_after rules batch) ranked
      (record {
        rule = is.rule;
        member = is_named.0;
        rank_is = is.rank_is;
        result_is = is.result_is;
        piece = is.piece;
        has = common_chosen mode rules is.rule is.piece is.has;
        piece_is = is.piece_is;
      });
  was = elim (cases_rule_at rules is.rule.priority) [
    | inr none ↦ absurd (contains_none is.piece (subst (λ old. Contains (common_pieces mode old is.rule) is.piece) none.0 is.has))
    | inl found ↦
        let common = in_filter (has_piece (pieces_of mode found.0)) (pieces_of mode is.rule) is.piece (subst (λ old. Contains (common_pieces mode old is.rule) is.piece) found.1 is.has) in
        at_rule mode bits rules found.0 ranked is.piece found.2 (is.rank_is ∙ sym found.3)
        (has_piece-member mode found.0 is.piece (pieces_bitless mode is.rule is.piece common.0) common.1) is.piece_is
  ];
  named = subst (λ rank. IsTrue (names_rank batch rank)) (sym is.rank_is) is_named.1;
}
  where
    is : IsChosen bits (λ new. common_pieces mode (replaced_rule rules new) new) (filter (names batch) (set_after rules batch)) ranked
    is = in_chosen bits (λ new. common_pieces mode (replaced_rule rules new) new) (filter (names batch) (set_after rules batch)) ranked member

    is_named : Contains (set_after rules batch) is.rule × IsTrue (names batch is.rule)
    is_named = in_filter (names batch) (set_after rules batch) is.rule is.member

pub rewritten_from : (mode : Mode) (bits : FieldBits) (rules : List Rule) (batch : List Command) → IsSoundChange rules batch → (ranked : RankedPiece)
    → IsRewritten mode bits rules batch ranked → Contains (rewritten_pieces mode bits rules batch) ranked
rewritten_from mode bits rules batch change ranked rewritten =
    chosen_in bits (λ new. common_pieces mode (replaced_rule rules new) new) (filter (names batch) (set_after rules batch)) ranked
    (record {
      rule = is.rule;
      member = filter_in (names batch) (set_after rules batch) is.rule is.member (subst (λ rank. IsTrue (names_rank batch rank)) is.rank_is rewritten.named);
      rank_is = is.rank_is;
      result_is = is.result_is;
      piece = is.piece;
      has = subst (λ old. Contains (common_pieces mode old is.rule) is.piece) (sym found)
          (filter_in (has_piece (pieces_of mode was.rule)) (pieces_of mode is.rule) is.piece is.has
          (has_piece-from (pieces_of mode was.rule) is.piece
          (subst (Contains (pieces_of mode was.rule))
          (chosen_same mode bits (pieces_of mode) (pieces_of mode) rules (set_after rules batch) rewritten.was.0 ranked (all_chosen mode) (all_chosen mode) was is rewritten.was.2) was.has)));
      piece_is = is.piece_is;
    })
  where
    is : IsChosen bits (pieces_of mode) (set_after rules batch) ranked
    is = in_chosen bits (pieces_of mode) (set_after rules batch) ranked rewritten.stays

    was : IsChosen bits (pieces_of mode) rules rewritten.was.0
    was = in_chosen bits (pieces_of mode) rules rewritten.was.0 rewritten.was.1

    found : rule_at rules is.rule.priority ≡ Some was.rule
    found = subst (λ priority. rule_at rules priority ≡ Some was.rule) (sym was.rank_is ∙ (rewritten.was.3 ∙ is.rank_is)) (rule_at-member rules was.rule (IsRuleSet-distinct rules change.is_set) was.member)

-- erased are the pieces of the old set that the new one hasn't
pub erased-is : (mode : Mode) (bits : FieldBits) (rules : List Rule) (batch : List Command) → IsSoundChange rules batch → (ranked : RankedPiece)
    → Contains (erased_pieces mode bits rules batch) ranked
    → Contains (set_pieces mode bits rules) ranked × LacksPiece (set_pieces mode bits (set_after rules batch)) ranked
erased-is mode bits rules batch change ranked member = (
  chosen_in bits (pieces_of mode) rules ranked
      (record {
        rule = is.rule;
        member = goes.0;
        rank_is = is.rank_is;
        result_is = is.result_is;
        piece = is.piece;
        has = dropped_chosen mode batch is.rule is.piece is.has;
        piece_is = is.piece_is;
      }),
  lacks,
)
  where
    removed : List Rule
    removed = filter (λ rule. removes rule.priority batch) rules

    dropped : Rule → List Piece
    dropped old = added_pieces_over mode (rule_at (additions batch) old.priority) old

    is : IsChosen bits dropped (reverse removed) ranked
    is = in_chosen bits dropped (reverse removed) ranked member

    goes : Contains rules is.rule × IsTrue (removes is.rule.priority batch)
    goes = in_filter (λ rule. removes rule.priority batch) rules is.rule (in_reverse removed is.rule is.member)

    has_over : Contains (added_pieces_over mode (rule_at (additions batch) is.rule.priority) is.rule) is.piece
    has_over = is.has

    lacks : LacksPiece (set_pieces mode bits (set_after rules batch)) ranked
    lacks other new piece_is rank_is =
        let now = in_chosen bits (pieces_of mode) (set_after rules batch) other new in
        let same : now.rule.priority ≡ is.rule.priority = sym now.rank_is ∙ (rank_is ∙ is.rank_is) in
        elim ((set_after-member rules batch now.rule).0 now.member) [
          | inl added ↦ over_lacks mode (additions batch) is.rule is.piece has_over now.rule
              (subst (λ priority. rule_at (additions batch) priority ≡ Some now.rule) same (rule_at-member (additions batch) now.rule (additions_distinct rules batch change.sound) added))
              (subst (Contains (pieces_of mode now.rule))
              (chosen_same mode bits (pieces_of mode) dropped (set_after rules batch) (reverse removed) other ranked (all_chosen mode) (dropped_chosen mode batch) now is piece_is) now.has)
          | inr kept ↦ both_ways (removes is.rule.priority batch) (subst (λ priority. IsFalse (removes priority batch)) (ap (λ (r : Rule). r.priority) (sym kept.3) ∙ same) kept.2) goes.1
        ]

pub erased_from : (mode : Mode) (bits : FieldBits) (rules : List Rule) (batch : List Command) → (ranked : RankedPiece) → Contains (set_pieces mode bits rules) ranked
    → LacksPiece (set_pieces mode bits (set_after rules batch)) ranked → Contains (erased_pieces mode bits rules batch) ranked
erased_from mode bits rules batch ranked member lacks =
    chosen_in bits (λ old. added_pieces_over mode (rule_at (additions batch) old.priority) old) (reverse removed) ranked
    (record {
      rule = is.rule;
      member = reverse_in removed is.rule (filter_in (λ rule. removes rule.priority batch) rules is.rule is.member goes);
      rank_is = is.rank_is;
      result_is = is.result_is;
      piece = is.piece;
      has = over_from mode (additions batch) is.rule is.piece is.has
          (λ other added same has. never other ((set_after-member rules batch other).1 (inl added)) (same ∙ sym is.rank_is) has);
      piece_is = is.piece_is;
    })
  where
    removed : List Rule
    removed = filter (λ rule. removes rule.priority batch) rules

    is : IsChosen bits (pieces_of mode) rules ranked
    is = in_chosen bits (pieces_of mode) rules ranked member

    never : (new : Rule) → Contains (set_after rules batch) new → new.priority ≡ ranked.rank → Contains (pieces_of mode new) is.piece → ⊥
    never new now same has = let w = at_rule mode bits (set_after rules batch) new ranked is.piece now (sym same) has is.piece_is in lacks w.0 w.1 w.2 w.3

    goes : IsTrue (removes is.rule.priority batch)
    goes = elim (cases_Bool (removes is.rule.priority batch)) [
      | inl removes ↦ removes
      | inr stays ↦ absurd (never (with_result_after batch is.rule) ((set_after-member rules batch (with_result_after batch is.rule)).1 (inr (is.rule, is.member, stays, refl))) (sym is.rank_is)
          (subst (λ pieces. Contains pieces is.piece) (sym (pieces_after mode batch is.rule)) is.has))
    ]
