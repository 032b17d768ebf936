-- The pieces that stand while a batch is inserted are of the old rules and the added ones, so their chains are no longer, and
-- those of routes are nested.
use Rattle.std.proofs.Common.{◌≡◌, ℕ, ◌<◌, List, [], ◌∷◌, ◌++◌, length, IsTrue, Contains, inl, inr, refl, sym, ap, subst, ◌∙◌, arith}
use Rattle.std.specs.List.{AllByRecursion}
use Rattle.std.proofs.lemmas.List.Elements.{Contains-append_cases, Contains-append_left, Contains-append_right}
use Rattle.slot_order.specs.Chains.{IsChain, BoundsMemberChains}
use Rattle.slot_order.proofs.Lists.{contains_head, contains_tail, contains_cases, contains_none, AllByRecursion-member}
use Rattle.rule_model.specs.declared.Key.{Key}
use Rattle.rule_model.specs.declared.Rule.{Rule}
use Rattle.rule_model.specs.AddressBlock.{BlocksOverlap}
use Rattle.rule_model.specs.PortRange.{RangesOverlap}
use Rattle.rule_model.specs.Key.{IsKey}
use Rattle.rule_model.specs.Rule.{HasConditions, Overlap, ProtosOverlap, route_rule, rule_matches}
use Rattle.rule_model.specs.RuleSet.{IsOverlapChain, BoundsChains}
use Rattle.rule_model.specs.Piece.{PiecesOverlap, piece_matches, whole_piece}
use Rattle.rule_model.specs.declared.IpVersion.{IpVersion}
use Rattle.rule_model.specs.declared.IpVersion.TheVariants.{V4, V6}
use Rattle.rule_model.specs.Routes.{IsNested}
use Rattle.rule_model.proofs.CommonKeys.{overlap_parts, overlap_from}
use Rattle.rule_model.proofs.Routes.{ipv4_priority, ipv4_routes-nested, ipv4_chains-short}
use Rattle.rule_model.proofs.Routes6.{ipv6_priority, ipv6_routes-nested, ipv6_chains-short}
use Rattle.rule_store.specs.declared.Mode.{Mode}
use Rattle.rule_store.specs.declared.Command.{Command}
use Rattle.rule_store.specs.Batch.{additions}
use Rattle.rule_store.specs.Verdict.{pieces_of, added_pieces}
use Rattle.rule_model.specs.Entry.{RankedPiece}
use Rattle.rule_store.proofs.Additions.{new_rules, new_rules-member}
use Rattle.commit_writes.specs.Bits.{FieldBits, with_bits}
use Rattle.commit_writes.specs.Shape.{set_pieces, inserted_pieces}
use Rattle.commit_writes.specs.Routes.{IsRoute, prefix_lengths}
use Rattle.commit_writes.specs.Planned.{AreNested, BoundsPieceChains}
use Rattle.commit_writes.proofs.ModePieces.{piece_within, route_whole}
use Rattle.commit_writes.proofs.SetPieces.{IsChosen, in_chosen}
use Rattle.commit_writes.proofs.BatchPieces.{row_pieces}
use Rattle.commit_writes.proofs.BatchRules.{IsSoundChange, right_added}
use Rattle.commit_writes.proofs.PieceChanges.{added_chosen}

-- each is of an old rule or of an added one
row_of : (mode : Mode) (bits : FieldBits) (rules : List Rule) (batch : List Command) (ranked : RankedPiece) → Contains (row_pieces mode bits rules batch) ranked
    → IsChosen bits (pieces_of mode) (rules ++ additions batch) ranked
row_of mode bits rules batch ranked member = elim (Contains-append_cases (set_pieces mode bits rules) (inserted_pieces mode bits rules batch) ranked member) [
  | inl old ↦
      let is = in_chosen bits (pieces_of mode) rules ranked old in
      record {
        rule = is.rule;
        member = Contains-append_left rules (additions batch) is.rule is.member;
        rank_is = is.rank_is;
        result_is = is.result_is;
        piece = is.piece;
        has = is.has;
        piece_is = is.piece_is;
      }
  | inr new ↦
      let is = in_chosen bits (added_pieces mode rules) (new_rules batch) ranked new in
      record {
        rule = is.rule;
        member = Contains-append_right rules (additions batch) is.rule (new_rules-member batch is.rule is.member);
        rank_is = is.rank_is;
        result_is = is.result_is;
        piece = is.piece;
        has = added_chosen mode rules is.rule is.piece is.has;
        piece_is = is.piece_is;
      }
]

-- the rule has the piece's rank, and matches all that it matches
record IsWithin (ranked : RankedPiece) (rule : Rule) : Type 0 where
  rank_is : ranked.rank ≡ rule.priority
  inside : (key : Key) → IsKey key → IsTrue (piece_matches ranked.piece key) → IsTrue (rule_matches rule key)

within_meet : (a b : RankedPiece) (p q : Rule) → IsWithin a p → IsWithin b q → PiecesOverlap a.piece b.piece → Overlap p q
within_meet a b p q in_p in_q (key, valid, first, second) = (key, valid, in_p.inside key valid first, in_q.inside key valid second)

-- a chain of pieces is one of rules
record IsLifted (all : List Rule) (first : RankedPiece) (rest : List RankedPiece) : Type 0 where
  upper : Rule
  lower : List Rule
  within : IsWithin first upper
  members : (rule : Rule) → Contains (upper ∷ lower) rule → Contains all rule
  chain : IsOverlapChain (upper ∷ lower)
  long : length lower ≡ length rest

lifted : (all : List Rule) (first : RankedPiece) (rest : List RankedPiece)
    → ((ranked : RankedPiece) → Contains (first ∷ rest) ranked → (rule : Rule) × Contains all rule × IsWithin ranked rule)
    → IsChain (λ a b. PiecesOverlap a.piece b.piece) (λ ranked. ranked.rank) (first ∷ rest) → IsLifted all first rest
lifted all first [] of chain =
    let is = of first (contains_head first []) in
    record {
      upper = is.0;
      lower = [];
      within = is.2;
      members = λ rule member. elim (contains_cases is.0 rule [] member) [ inl same ↦ subst (Contains all) same is.1 | inr none ↦ absurd (contains_none rule none) ];
      chain = tt;
      long = refl;
    }
lifted all first (second ∷ rest) of chain =
    let is = of first (contains_head first (second ∷ rest)) in
    let later = lifted all second rest (λ ranked member. of ranked (contains_tail first ranked (second ∷ rest) member)) chain.2 in
    let level = is.2.rank_is in
    let next = later.within.rank_is in
    let falls : second.rank < first.rank = chain.1 in
    let size = later.long in
    record {
      upper = is.0;
      lower = later.upper ∷ later.lower;
      within = is.2;
      members = λ rule member. elim (contains_cases is.0 rule (later.upper ∷ later.lower) member) [ inl same ↦ subst (Contains all) same is.1 | inr behind ↦ later.members rule behind ];
      chain = (within_meet first second is.0 later.upper is.2 later.within chain.0, omega arith, later.chain);
      long = omega arith;
    }

-- so the pieces' chains are no longer than the rules'
pub row_chains : (mode : Mode) (bits : FieldBits) (rules : List Rule) (batch : List Command) → IsSoundChange rules batch → (bound : ℕ) → BoundsChains (rules ++ additions batch) bound
    → BoundsPieceChains (set_pieces mode bits rules ++ inserted_pieces mode bits rules batch) bound
row_chains mode bits rules batch change bound bounds [] members chain = let some = bounds [] (λ rule none. absurd (contains_none rule none)) tt in some
row_chains mode bits rules batch change bound bounds (first ∷ rest) members chain =
    let up = lifted (rules ++ additions batch) first rest (λ ranked member. of ranked (members ranked member)) chain in
    let most = bounds (up.upper ∷ up.lower) up.members up.chain in
    let size = up.long in
    omega arith
  where
    right : (rule : Rule) → Contains (rules ++ additions batch) rule → HasConditions rule
    right rule member = elim (Contains-append_cases rules (additions batch) rule member) [
      | inl old ↦ AllByRecursion-member HasConditions rules rule change.right old
      | inr new ↦ AllByRecursion-member HasConditions (additions batch) rule (right_added batch change.changes) new
    ]

    of : (ranked : RankedPiece) → Contains (row_pieces mode bits rules batch) ranked → (rule : Rule) × Contains (rules ++ additions batch) rule × IsWithin ranked rule
    of ranked member =
        let is = row_of mode bits rules batch ranked member in (
          is.rule,
          is.member,
          record {
            rank_is = is.rank_is;
            inside = λ key valid matched.
                piece_within mode is.rule is.piece key (right is.rule is.member) is.has valid (subst (λ p. IsTrue (piece_matches p key)) (sym is.piece_is) matched);
          },
        )

-- a route is its rank, its block and its result
route_form : (version : IpVersion) (rule : Rule) → IsRoute version rule → rule ≡ route_rule rule.priority rule.dst rule.result
route_form V4 rule is = subst (λ rank. rule ≡ route_rule rank rule.dst rule.result) (sym (ipv4_priority rule is)) is.route
route_form V6 rule is = subst (λ rank. rule ≡ route_rule rank rule.dst rule.result) (sym (ipv6_priority rule is)) is.route

nested_in : (version : IpVersion) (upper lower : Rule) → IsRoute version upper → IsRoute version lower → Overlap upper lower → lower.priority < upper.priority → IsNested lower upper
nested_in V4 upper lower is_upper is_lower = ipv4_routes-nested upper lower is_upper is_lower
nested_in V6 upper lower is_upper is_lower = ipv6_routes-nested upper lower is_upper is_lower

chains_short : (version : IpVersion) → BoundsMemberChains Overlap (λ rule. rule.priority) (IsRoute version) (prefix_lengths version)
chains_short V4 = ipv4_chains-short
chains_short V6 = ipv6_chains-short

-- the old rules and the added ones are routes
routes_all : (version : IpVersion) (rules : List Rule) (batch : List Command) → AllByRecursion (IsRoute version) rules → AllByRecursion (IsRoute version) (additions batch)
    → (rule : Rule) → Contains (rules ++ additions batch) rule → IsRoute version rule
routes_all version rules batch routes added rule member = elim (Contains-append_cases rules (additions batch) rule member) [
  | inl old ↦ AllByRecursion-member (IsRoute version) rules rule routes old
  | inr new ↦ AllByRecursion-member (IsRoute version) (additions batch) rule added new
]

-- two routes that overlap a third, one higher and one lower, overlap one another
routes_nested : (version : IpVersion) (upper middle lower : Rule) → IsRoute version upper → IsRoute version middle → IsRoute version lower → Overlap middle upper → Overlap middle lower
    → middle.priority < upper.priority → lower.priority < middle.priority → Overlap lower upper
routes_nested version upper middle lower is_upper is_middle is_lower over_upper over_lower more less =
    let parts = overlap_parts (whole_piece middle) (whole_piece upper) over_upper in
    let inside = nested_in version middle lower is_middle is_lower over_lower less in
    let form = route_form version middle is_middle in
    let below = route_form version lower is_lower in
    overlap_from (whole_piece lower) (whole_piece upper)
    (subst (λ src. BlocksOverlap src upper.src) (ap (λ r. r.src) form ∙ sym (ap (λ r. r.src) below)) parts.0)
    (parts.1.0, parts.1.1, inside.within parts.1.0 parts.1.2, parts.1.3)
    (subst (λ proto. ProtosOverlap proto upper.proto) (ap (λ r. r.proto) form ∙ sym (ap (λ r. r.proto) below)) parts.2)
    (subst (λ range. RangesOverlap range upper.sport) (ap (λ r. r.sport) form ∙ sym (ap (λ r. r.sport) below)) parts.3)
    (subst (λ range. RangesOverlap range upper.dport) (ap (λ r. r.dport) form ∙ sym (ap (λ r. r.dport) below)) parts.4)

module _ (mode : Mode) (bits : FieldBits) (rules : List Rule) (batch : List Command) (version : IpVersion) (change : IsSoundChange rules batch)
    (routes : AllByRecursion (IsRoute version) rules) (added : AllByRecursion (IsRoute version) (additions batch)) where
  route : (rule : Rule) → Contains (rules ++ additions batch) rule → IsRoute version rule
  route = routes_all version rules batch routes added

  -- chains of routes are short
  pub row_short : BoundsPieceChains (set_pieces mode bits rules ++ inserted_pieces mode bits rules batch) (prefix_lengths version)
  row_short = row_chains mode bits rules batch change (prefix_lengths version) (λ chain members is. chains_short version chain (λ rule member. route rule (members rule member)) is)

  -- a piece of a route is the whole of it
  whole_of : (ranked : RankedPiece) (is : IsChosen bits (pieces_of mode) (rules ++ additions batch) ranked) → ranked.piece ≡ with_bits bits (whole_piece is.rule)
  whole_of ranked is = sym (ap (with_bits bits) (route_whole mode is.rule is.piece (route_form version is.rule (route is.rule is.member)) is.has) ∙ is.piece_is)

  -- so pieces of routes are nested
  pub row_nested : AreNested (set_pieces mode bits rules ++ inserted_pieces mode bits rules batch)
  row_nested upper one lower in_upper in_one in_lower more less over_upper over_lower =
      let u = row_of mode bits rules batch upper in_upper in
      let i = row_of mode bits rules batch one in_one in
      let l = row_of mode bits rules batch lower in_lower in
      let piece_u = whole_of upper u in
      let piece_i = whole_of one i in
      let piece_l = whole_of lower l in
      let rank_u = u.rank_is in
      let rank_i = i.rank_is in
      let rank_l = l.rank_is in
      subst (λ p. PiecesOverlap p upper.piece) (sym piece_l) (subst (PiecesOverlap (whole_piece l.rule)) (sym piece_u)
      (routes_nested version u.rule i.rule l.rule (route u.rule u.member) (route i.rule i.member) (route l.rule l.member)
      (subst (λ p. PiecesOverlap p (whole_piece u.rule)) piece_i (subst (PiecesOverlap one.piece) piece_u over_upper))
      (subst (λ p. PiecesOverlap p (whole_piece l.rule)) piece_i (subst (PiecesOverlap one.piece) piece_l over_lower))
      (omega arith) (omega arith)))
