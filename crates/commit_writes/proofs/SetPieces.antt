-- The pieces of rules with their bits: each stands once and is served by tables that serve its rule, and a set's match what
-- its rules match.
use Rattle.std.proofs.Common.{◌≡◌, ℕ, ◌<◌, Bool, true, ◌&&◌, List, length, get_or, IsTrue, Contains, ◌⊎◌, inl, inr, refl, sym, ap, subst, ◌∙◌, arith, eqb-true, eq-eqb}
use Rattle.std.specs.Prelude.{AllPairs, flat_map, nat_eq}
use Rattle.std.specs.List.{AllByRecursion, list_any}
use Rattle.std.proofs.lemmas.Bool.{cases_Bool, and_parts, and_from, both_ways}
use Rattle.std.proofs.lemmas.List.{get_or_default}
use Rattle.slot_order.proofs.Lists.{AllByRecursion-member, any_is, any_from, in_map, map_in}
use Rattle.rule_model.specs.declared.Rule.{Rule}
use Rattle.rule_model.specs.declared.Piece.{Piece}
use Rattle.rule_model.specs.Rule.{HasConditions}
use Rattle.rule_model.specs.RuleSet.{IsRuleSet}
use Rattle.rule_model.specs.Piece.{same_piece, piece_matches}
use Rattle.rule_model.proofs.Pairs.{pairs_map}
use Rattle.rule_model.proofs.Parts.{IsBitless, same_piece-self, same_piece-is}
use Rattle.rule_store.specs.declared.Mode.{Mode}
use Rattle.rule_store.specs.Verdict.{pieces_of}
use Rattle.rule_store.proofs.Sets.{falls-at}
use Rattle.rule_model.specs.Entry.{RankedPiece}
use Rattle.tcam_device.specs.State.{State}
use Rattle.tcam_device.proofs.Shown.{ArePiecesOf}
use Rattle.commit_writes.specs.Bits.{FieldBits, with_bits}
use Rattle.commit_writes.specs.Shape.{ranked_piece, ranked_pieces, set_pieces}
use Rattle.commit_writes.specs.Planned.{IsServedBy}
use Rattle.commit_writes.specs.Serving.{AreServing}
use Rattle.commit_writes.proofs.Filters.{all_members, in_images, images_in, pairs_images}
use Rattle.commit_writes.proofs.ModePieces.{pieces_bitless, piece_within, piece_for, pieces_apart, with_bits-one}
use Rattle.commit_writes.proofs.ServedRules.{IsServedRule, rule_served, piece_served}

-- a piece and rank stand among some pieces, or don't
abbrev pub HasPiece : List RankedPiece → RankedPiece → Type 0
HasPiece pieces ranked = (is : RankedPiece) × Contains pieces is × (is.piece ≡ ranked.piece) × (is.rank ≡ ranked.rank)

abbrev pub LacksPiece : List RankedPiece → RankedPiece → Type 0
LacksPiece pieces ranked = (other : RankedPiece) → Contains pieces other → other.piece ≡ ranked.piece → other.rank ≡ ranked.rank → ⊥

-- of one rank no two are the same piece
abbrev pub AreOnce : List RankedPiece → Type 0
AreOnce pieces = AllPairs (λ a b. a.rank ≡ b.rank → a.piece ≡ b.piece → ⊥) pieces

-- some pieces of each rule of a list, as they may be chosen
abbrev pub chosen_pieces : FieldBits → (Rule → List Piece) → List Rule → List RankedPiece
chosen_pieces bits choose rules = flat_map (λ rule. ranked_pieces bits rule (choose rule)) rules

abbrev pub IsChoice : Mode → (Rule → List Piece) → Type 0
IsChoice mode choose = (rule : Rule) (piece : Piece) → Contains (choose rule) piece → Contains (pieces_of mode rule) piece

-- one of them: a piece of a rule that was chosen, with its bits
pub record IsChosen (bits : FieldBits) (choose : Rule → List Piece) (rules : List Rule) (ranked : RankedPiece) : Type 0 where
  pub rule : Rule
  pub member : Contains rules rule
  pub rank_is : ranked.rank ≡ rule.priority
  pub result_is : ranked.result ≡ rule.result
  pub piece : Piece
  pub has : Contains (choose rule) piece
  pub piece_is : with_bits bits piece ≡ ranked.piece

pub in_chosen : (bits : FieldBits) (choose : Rule → List Piece) (rules : List Rule) (ranked : RankedPiece) → Contains (chosen_pieces bits choose rules) ranked
    → IsChosen bits choose rules ranked
in_chosen bits choose rules ranked member =
    let w = in_images (λ rule. ranked_pieces bits rule (choose rule)) rules ranked member in
    let m = in_map (ranked_piece bits w.0) (choose w.0) ranked w.2 in
    record {
      rule = w.0;
      member = w.1;
      rank_is = ap (λ (r : RankedPiece). r.rank) (sym m.2);
      result_is = ap (λ (r : RankedPiece). r.result) (sym m.2);
      piece = m.0;
      has = m.1;
      piece_is = ap (λ (r : RankedPiece). r.piece) m.2;
    }

pub chosen_in : (bits : FieldBits) (choose : Rule → List Piece) (rules : List Rule) (ranked : RankedPiece) → IsChosen bits choose rules ranked
    → Contains (chosen_pieces bits choose rules) ranked
chosen_in bits choose rules ranked is =
    images_in (λ rule. ranked_pieces bits rule (choose rule)) rules is.rule ranked is.member
    (subst (Contains (ranked_pieces bits is.rule (choose is.rule))) made (map_in (ranked_piece bits is.rule) (choose is.rule) is.piece is.has))
  where
    made : ranked_piece bits is.rule is.piece ≡ ranked
    made =
        ap (λ p. record { piece = p; rank = is.rule.priority; result = is.rule.result }) is.piece_is
        ∙ (ap (λ n. record { piece = ranked.piece; rank = n; result = is.rule.result }) (sym is.rank_is) ∙ ap (λ n. record ranked { result = n }) (sym is.result_is))

-- two that have one piece with bits have one without
pub chosen_same : (mode : Mode) (bits : FieldBits) (choose others : Rule → List Piece) (rules some : List Rule) (a b : RankedPiece) → IsChoice mode choose → IsChoice mode others
    → (x : IsChosen bits choose rules a) → (y : IsChosen bits others some b) → a.piece ≡ b.piece → x.piece ≡ y.piece
chosen_same mode bits choose others rules some a b choice choice_too x y same =
    with_bits-one bits x.piece y.piece (pieces_bitless mode x.rule x.piece (choice x.rule x.piece x.has)) (pieces_bitless mode y.rule y.piece (choice_too y.rule y.piece y.has))
    (x.piece_is ∙ (same ∙ sym y.piece_is))

rank_of : (bits : FieldBits) (rule : Rule) (pieces : List Piece) (ranked : RankedPiece) → Contains (ranked_pieces bits rule pieces) ranked → rule.priority ≡ ranked.rank
rank_of bits rule pieces ranked member = let w = in_map (ranked_piece bits rule) pieces ranked member in ap (λ (r : RankedPiece). r.rank) w.2

earlier : (i j n : ℕ) → i < j → j < n → i < n
earlier i j n less inside = omega arith

-- where no two rules have one priority, each stands once
pub chosen_once : (mode : Mode) (bits : FieldBits) (choose : Rule → List Piece) (rules : List Rule) → IsChoice mode choose → AllPairs (λ a b. a.priority ≡ b.priority → ⊥) rules
    → ((rule : Rule) → AllPairs (λ a b. a ≡ b → ⊥) (choose rule)) → AreOnce (chosen_pieces bits choose rules)
chosen_once mode bits choose rules choice differ apart =
    pairs_images once (λ rule. ranked_pieces bits rule (choose rule)) rules
    (λ i j d less inside p q is_p is_q same_rank piece_is.
    differ i j d less inside (rank_of bits (get_or rules i d) (choose (get_or rules i d)) p is_p ∙ (same_rank ∙ sym (rank_of bits (get_or rules j d) (choose (get_or rules j d)) q is_q))))
    within
  where
    once : RankedPiece → RankedPiece → Type 0
    once a b = a.rank ≡ b.rank → a.piece ≡ b.piece → ⊥

    bitless_at : (rule : Rule) (k : ℕ) (d : Piece) → k < length (choose rule) → IsBitless (get_or (choose rule) k d)
    bitless_at rule k d less =
        pieces_bitless mode rule (get_or (choose rule) k d) (choice rule (get_or (choose rule) k d) (k, less, get_or_default (choose rule) k (get_or (choose rule) k d) d less))

    within : (rule : Rule) → AllPairs once (ranked_pieces bits rule (choose rule))
    within rule = pairs_map once (ranked_piece bits rule) (choose rule) (λ i j d less inside same_rank piece_is.
        apart rule i j d less inside (with_bits-one bits (get_or (choose rule) i d) (get_or (choose rule) j d)
        (bitless_at rule i d (earlier i j (length (choose rule)) less inside)) (bitless_at rule j d inside) piece_is))

-- they are ordered as the rules are
pub chosen_ordered : (bits : FieldBits) (Before : ℕ → ℕ → Type 0) (choose : Rule → List Piece) (rules : List Rule) → ((n : ℕ) → Before n n)
    → AllPairs (λ a b. Before a.priority b.priority) rules → AllPairs (λ a b. Before a.rank b.rank) (chosen_pieces bits choose rules)
chosen_ordered bits Before choose rules self ordered =
    pairs_images (λ a b. Before a.rank b.rank) (λ rule. ranked_pieces bits rule (choose rule)) rules
    (λ i j d less inside p q is_p is_q.
    subst (λ n. Before n q.rank) (rank_of bits (get_or rules i d) (choose (get_or rules i d)) p is_p) (subst (Before (get_or rules i d).priority) (rank_of bits (get_or rules j d) (choose (get_or rules j d)) q is_q) (ordered i j d less inside)))
    (λ rule. pairs_map (λ (a b : RankedPiece). Before a.rank b.rank) (ranked_piece bits rule) (choose rule) (λ i j d less inside. self rule.priority))

-- priorities fall
pub rules_fall : (rules : List Rule) → IsRuleSet rules → AllPairs (λ a b. b.priority < a.priority) rules
rules_fall rules set i j d less inside = falls-at rules set i j d less inside

-- all pieces are a choice
pub all_chosen : (mode : Mode) → IsChoice mode (pieces_of mode)
all_chosen mode rule piece member = member

pub pieces_once : (mode : Mode) (bits : FieldBits) (rules : List Rule) → IsRuleSet rules → AreOnce (set_pieces mode bits rules)
pieces_once mode bits rules set =
    chosen_once mode bits (pieces_of mode) rules (all_chosen mode)
    (λ i j d less inside same. let falls = rules_fall rules set i j d less inside in omega arith) (pieces_apart mode)

-- pieces of rules with right conditions are served where the rules are
pub chosen_served : (mode : Mode) (bits : FieldBits) (state : State) (choose : Rule → List Piece) (rules : List Rule) → IsChoice mode choose
    → ((rule : Rule) → Contains rules rule → HasConditions rule × IsServedRule mode bits state rule)
    → (ranked : RankedPiece) → Contains (chosen_pieces bits choose rules) ranked → IsServedBy state ranked
chosen_served mode bits state choose rules choice right ranked member =
    let is = in_chosen bits choose rules ranked member in
    let good = right is.rule is.member in
    subst (λ p. IsServedBy state (record ranked { piece = p })) is.piece_is
    (piece_served mode bits state is.rule is.piece ranked.rank ranked.result good.0 good.1 (choice is.rule is.piece is.has))

pub set_served : (mode : Mode) (bits : FieldBits) (state : State) (rules : List Rule) → AreServing mode bits rules state → AllByRecursion HasConditions rules
    → AllByRecursion (IsServedBy state) (set_pieces mode bits rules)
set_served mode bits state rules serving right =
    all_members (IsServedBy state) (set_pieces mode bits rules)
    (chosen_served mode bits state (pieces_of mode) rules (all_chosen mode)
    (λ rule member. (AllByRecursion-member HasConditions rules rule right member, rule_served mode bits state rules rule serving member)))

-- a set's pieces match what its rules do
pub set_pieces-of : (mode : Mode) (bits : FieldBits) (rules : List Rule) → AllByRecursion HasConditions rules → ArePiecesOf rules (Contains (set_pieces mode bits rules))
set_pieces-of mode bits rules right = record {
  of = λ ranked member. let is = in_chosen bits (pieces_of mode) rules ranked member in (
    is.rule,
    is.member,
    is.rank_is,
    is.result_is,
    λ key valid matched. piece_within mode is.rule is.piece key (good is.rule is.member) is.has valid (subst (λ p. IsTrue (piece_matches p key)) (sym is.piece_is) matched),
  );
  cover = λ rule key member valid matched.
      let w = piece_for mode rule key (good rule member) valid matched in
      let ranked : RankedPiece = record { piece = with_bits bits w.0; rank = rule.priority; result = rule.result } in (
        ranked,
        chosen_in bits (pieces_of mode) rules ranked
            (record { rule = rule; member = member; rank_is = refl; result_is = refl; piece = w.0; has = w.1; piece_is = refl }),
        refl,
        w.2,
      );
}
  where
    good : (rule : Rule) → Contains rules rule → HasConditions rule
    good rule member = AllByRecursion-member HasConditions rules rule right member

-- whether a set has a piece at a rank
pub set_has : (mode : Mode) (bits : FieldBits) (rules : List Rule) (ranked : RankedPiece) (piece : Piece) → IsBitless piece → with_bits bits piece ≡ ranked.piece
    → HasPiece (set_pieces mode bits rules) ranked ⊎ LacksPiece (set_pieces mode bits rules) ranked
set_has mode bits rules ranked piece bitless piece_is = elim (cases_Bool (list_any same pieces)) [
  | inl found ↦ inl (let w = any_is same pieces found in has w.0 w.1 w.2)
  | inr none ↦ inr (λ other member is_piece is_rank. both_ways (list_any same pieces) none (any_from same pieces other member (and_from _ _ (eq-eqb _ _ is_rank) (subst (λ p. same_piece other.piece p ≡ true) is_piece (same_piece-self other.piece)))))
]
  where
    pieces : List RankedPiece
    pieces = set_pieces mode bits rules

    same : RankedPiece → Bool
    same other = nat_eq other.rank ranked.rank && same_piece other.piece ranked.piece

    has : (other : RankedPiece) → Contains pieces other → same other ≡ true → HasPiece pieces ranked
    has other member is =
        let parts = and_parts (nat_eq other.rank ranked.rank) (same_piece other.piece ranked.piece) is in
        let w = in_chosen bits (pieces_of mode) rules other member in
        let clear = pieces_bitless mode w.rule w.piece w.has in
        let met : same_piece w.piece piece ≡ true =
        subst (λ p. same_piece p piece ≡ true) (sym w.piece_is) (subst (λ p. same_piece other.piece p ≡ true) (sym piece_is) parts.1) in
        let one : w.piece ≡ piece = same_piece-is w.piece piece (clear.0 ∙ sym bitless.0) (clear.1 ∙ sym bitless.1) met in
        (other, member, sym w.piece_is ∙ (ap (with_bits bits) one ∙ piece_is), eqb-true _ _ parts.0)
