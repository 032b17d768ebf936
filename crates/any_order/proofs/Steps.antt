-- Pieces that are in step answer every key as the old set or as the new one.
use Rattle.std.proofs.Common.{◌≡◌, ◌≤◌, List, Option, None, Some, IsTrue, Contains, inl, inr, ◌⊎◌, option_map, refl, sym, ◌∙◌, subst, ap, arith}
use Rattle.slot_order.specs.Order.{first_hit, IsBest, Distinct}
use Rattle.slot_order.proofs.Rules.{best_best}
use Rattle.rule_model.specs.declared.Key.{Key}
use Rattle.rule_model.specs.declared.Rule.{Rule}
use Rattle.rule_model.specs.Key.{IsKey}
use Rattle.rule_model.specs.Rule.{rule_matches}
use Rattle.rule_model.specs.RuleSet.{answer, best_rule}
use Rattle.rule_model.specs.Piece.{piece_matches}
use Rattle.rule_model.specs.declared.words.Entry.{Entry}
use Rattle.rule_model.specs.Entry.{RankedPiece, entry_for}
use Rattle.tcam_device.specs.State.{State, hits_key, told}
use Rattle.tcam_device.proofs.Lookups.{EntriesOf, hits_valid, lookup_best}
use Rattle.any_order.specs.AnyOrder.{AnyOrderAnswersOldOrNew, AreCutFrom, HitAsMatched, PieceStands, IsAhead, AreInStep}

module _ (state : State) (Standing : RankedPiece → Type 0) (served : HitAsMatched state Standing) (key : Key) (valid : IsKey key) where
  -- the best entry that stands
  abbrev IsFirst : Option Entry → Type 0
  IsFirst found = IsBest (hits_valid state) (λ (entry : Entry). entry.tag) (EntriesOf Standing) (key, valid) found

  hits_it : (ranked : RankedPiece) → Standing ranked → IsTrue (piece_matches ranked.piece key) → IsTrue (hits_key state (entry_for ranked) key)
  hits_it ranked member met = subst (λ b. IsTrue b) (sym (served ranked key member valid)) met

  met_by : (entry : Entry) (m : EntriesOf Standing entry) → IsTrue (hits_key state entry key) → IsTrue (piece_matches m.0.piece key)
  met_by entry m hits = subst (λ b. IsTrue b) (served m.0 key m.1 valid) (subst (λ (e : Entry). IsTrue (hits_key state e key)) (sym m.2) hits)

  -- a piece that stands and matches isn't above what is found
  below : (entry : Entry) (ranked : RankedPiece) → IsFirst (Some entry) → IsTrue (piece_matches ranked.piece key) → PieceStands Standing ranked → ranked.rank ≤ entry.tag
  below entry ranked best met stands =
      let met_is : IsTrue (piece_matches stands.0.piece key) = subst (λ p. IsTrue (piece_matches p key)) (sym stands.2) met in
      subst (λ n. n ≤ entry.tag) stands.3 (best.2 (entry_for stands.0) (stands.0, stands.1, refl) (hits_it stands.0 stands.1 met_is))

  never : (ranked : RankedPiece) → IsFirst None → IsTrue (piece_matches ranked.piece key) → PieceStands Standing ranked → ⊥
  never ranked none met stands =
      let met_is : IsTrue (piece_matches stands.0.piece key) = subst (λ p. IsTrue (piece_matches p key)) (sym stands.2) met in
      none (entry_for stands.0) (stands.0, stands.1, refl) (hits_it stands.0 stands.1 met_is)

  -- what is found is the answer of a set whose pieces it is ahead of
  answers : (rules : List Rule) (Member : RankedPiece → Type 0) (entry : Entry) (best : Option Rule) → Distinct (λ (rule : Rule). rule.priority) rules → AreCutFrom rules Member
      → (first : IsFirst (Some entry)) → Member first.0.0 → IsAhead Member Standing first.0.0 → IsBest rule_matches (λ (rule : Rule). rule.priority) (Contains rules) key best
      → told (Some entry) ≡ option_map (λ rule. (rule.priority, rule.result)) best
  answers rules Member entry None distinct cut first member ahead none =
      let o = cut.of first.0.0 member in
      absurd (none o.0 o.1 (o.4 key valid (met_by entry first.0 first.1)))
  answers rules Member entry (Some rule) distinct cut first member ahead best =
      let m = first.0 in
      let met : IsTrue (piece_matches m.0.piece key) = met_by entry m first.1 in
      let o = cut.of m.0 member in
      let c = cut.cover rule key best.0 valid best.1 in
      let tag : m.0.rank ≡ entry.tag = ap (λ (e : Entry). e.tag) m.2 in
      let result : m.0.result ≡ entry.result = ap (λ (e : Entry). e.result) m.2 in
      let up : o.0.priority ≤ rule.priority = best.2 o.0 o.1 (o.4 key valid met) in
      let down : c.0.rank ≤ entry.tag = elim (ahead c.0 c.1 (key, valid, c.3, met)) [
        | inl stands ↦ below entry c.0 first c.3 stands
        | inr lower ↦ subst (λ n. c.0.rank ≤ n) tag lower
      ] in
      let rank = o.2 in
      let covered = c.2 in
      let level : o.0.priority ≡ rule.priority = omega arith in
      let same : o.0 ≡ rule = distinct o.0 rule o.1 best.0 level in
      let priority : entry.tag ≡ rule.priority = sym tag ∙ o.2 ∙ level in
      let shown : entry.result ≡ rule.result = sym result ∙ o.3 ∙ ap (λ (r : Rule). r.result) same in
      cc

  -- where nothing is found one of the sets has nothing
  misses : (old new : List Rule) (Old New : RankedPiece → Type 0) (best_old best_new : Option Rule) → AreCutFrom old Old → AreCutFrom new New → AreInStep Old New Standing → IsFirst None
      → IsBest rule_matches (λ (rule : Rule). rule.priority) (Contains old) key best_old → IsBest rule_matches (λ (rule : Rule). rule.priority) (Contains new) key best_new
      → (told None ≡ option_map (λ rule. (rule.priority, rule.result)) best_old) ⊎ (told None ≡ option_map (λ rule. (rule.priority, rule.result)) best_new)
  misses old new Old New None best_new cut_old cut_new step none is_old is_new = inl refl
  misses old new Old New (Some was) None cut_old cut_new step none is_old is_new = inr refl
  misses old new Old New (Some was) (Some is) cut_old cut_new step none is_old is_new =
      let a = cut_old.cover was key is_old.0 valid is_old.1 in
      let b = cut_new.cover is key is_new.0 valid is_new.1 in
      absurd (elim (step.no_gap a.0 b.0 a.1 b.1 (key, valid, a.3, b.3)) [
        | inl stands ↦ never a.0 none a.3 stands
        | inr stands ↦ never b.0 none b.3 stands
      ])

  judged : (old new : List Rule) (Old New : RankedPiece → Type 0) (found : Option Entry) → Distinct (λ (rule : Rule). rule.priority) old → Distinct (λ (rule : Rule). rule.priority) new
      → AreCutFrom old Old → AreCutFrom new New → AreInStep Old New Standing → IsFirst found → (told found ≡ answer old key) ⊎ (told found ≡ answer new key)
  judged old new Old New None distinct_old distinct_new cut_old cut_new step none =
      misses old new Old New (best_rule old key) (best_rule new key) cut_old cut_new step none
      (best_best rule_matches (λ (rule : Rule). rule.priority) old key) (best_best rule_matches (λ (rule : Rule). rule.priority) new key)
  judged old new Old New (Some entry) distinct_old distinct_new cut_old cut_new step first = elim (step.each first.0.0 first.0.1) [
    | inl was ↦ inl (answers old Old entry (best_rule old key) distinct_old cut_old first was.0 was.1 (best_best rule_matches (λ (rule : Rule). rule.priority) old key))
    | inr is ↦ inr (answers new New entry (best_rule new key) distinct_new cut_new first is.0 is.1 (best_best rule_matches (λ (rule : Rule). rule.priority) new key))
  ]

pub in_step_shows : AnyOrderAnswersOldOrNew
in_step_shows state old new old_pieces new_pieces standing distinct_old distinct_new cut_old cut_new served ordered step key valid =
    judged state (Contains standing) served key valid old new (Contains old_pieces) (Contains new_pieces) (first_hit (hits_key state) state.slots key)
    distinct_old distinct_new cut_old cut_new step (lookup_best state (Contains standing) key valid served ordered)
