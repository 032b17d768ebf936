-- An ordered device whose tables serve its pieces answers every key as the rules do that the pieces are of.
use Rattle.std.proofs.Common.{◌≡◌, ℕ, ◌<◌, ◌≤◌, ◌^◌, Bool, List, Option, None, Some, IsTrue, Contains, refl, sym, ◌∙◌, subst, ap, arith}
use Rattle.std.specs.Prelude.{◌&&◌, slice_index, option_map}
use Rattle.slot_order.specs.Order.{first_hit, IsBest, Distinct}
use Rattle.slot_order.proofs.Rules.{best_best}
use Rattle.rule_model.specs.declared.Key.{Key}
use Rattle.rule_model.specs.declared.Rule.{Rule}
use Rattle.rule_model.specs.Key.{IsKey}
use Rattle.rule_model.specs.AddressBlock.{block_holds}
use Rattle.rule_model.specs.PortRange.{PortRange, range_holds}
use Rattle.rule_model.specs.Rule.{rule_matches, proto_holds}
use Rattle.rule_model.specs.Piece.{piece_matches}
use Rattle.rule_model.specs.RuleSet.{best_rule}
use Rattle.rule_model.specs.declared.words.Entry.{Entry}
use Rattle.rule_model.specs.Entry.{RankedPiece, HitsExactly, entry_for, port_tested}
use Rattle.tcam_device.specs.State.{State, IsState, Shows, told, hits_key}
use Rattle.tcam_device.specs.Order.{IsOrdered, ServesBits, IsTranslated}
use Rattle.tcam_device.proofs.Lookups.{HitAsPieces, EntriesOf, hits_valid, lookup_best}

-- where the tables serve them, entries hit the keys that their pieces match
pub hit_as_pieces : (slots : ℕ) (state : State) (Member : RankedPiece → Type 0) → IsState slots state
    → ((ranked : RankedPiece) → Member ranked → HitsExactly ranked.piece (entry_for ranked)) → ServesBits state Member → HitAsPieces state Member
hit_as_pieces slots state Member is exact bits ranked key m valid =
    exact ranked m key valid (slice_index state.src key.sport) (slice_index state.dst key.dport) (is.src_words key.sport) (is.dst_words key.dport)
    ∙ (ap (λ b. front && b && port_tested ranked.piece.dport ranked.piece.dstbit key.dport (slice_index state.dst key.dport))
    (port state.src ranked.piece.sport ranked.piece.srcbit key.sport valid.sport (λ bit e. bits.srcbits ranked bit m e))
    ∙ ap (λ b. front && range_holds ranked.piece.sport key.sport && b)
    (port state.dst ranked.piece.dport ranked.piece.dstbit key.dport valid.dport (λ bit e. bits.dstbits ranked bit m e)))
  where
    front : Bool
    front = block_holds ranked.piece.src key.src && block_holds ranked.piece.dst key.dst && proto_holds ranked.piece.proto key.proto

    port : (table : List ℕ) (range : PortRange) (bit : Option ℕ) (port : ℕ) → port < 2 ^ 16 → ((b : ℕ) → bit ≡ Some b → IsTranslated table b range)
        → port_tested range bit port (slice_index table port) ≡ range_holds range port
    port table range None at l t = refl
    port table range (Some b) at l t = t b refl at l

-- the pieces of some rules: each is of one of them, and each key that a rule matches is matched by a piece of it
pub record ArePiecesOf (rules : List Rule) (Member : RankedPiece → Type 0) : Type 0 where
  pub of : (ranked : RankedPiece) → Member ranked → (rule : Rule) × Contains rules rule × (ranked.rank ≡ rule.priority) × (ranked.result ≡ rule.result)
      × ((key : Key) → IsKey key → IsTrue (piece_matches ranked.piece key) → IsTrue (rule_matches rule key))
  pub cover : (rule : Rule) (key : Key) → Contains rules rule → IsKey key → IsTrue (rule_matches rule key)
      → (ranked : RankedPiece) × Member ranked × (ranked.rank ≡ rule.priority) × IsTrue (piece_matches ranked.piece key)

-- the entry of greatest tag tells what the rule of greatest priority answers
pub tells : (state : State) (rules : List Rule) (Member : RankedPiece → Type 0) (key : Key) (valid : IsKey key) (found : Option Entry) (best : Option Rule)
    → Distinct (λ (rule : Rule). rule.priority) rules → ArePiecesOf rules Member → HitAsPieces state Member
    → IsBest (hits_valid state) (λ entry. entry.tag) (EntriesOf Member) (key, valid) found
    → IsBest rule_matches (λ rule. rule.priority) (Contains rules) key best
    → told found ≡ option_map (λ rule. (rule.priority, rule.result)) best
tells state rules Member key valid None None distinct are hit w v = refl
tells state rules Member key valid None (Some rule) distinct are hit w v =
    let c = are.cover rule key v.0 valid v.1 in
    absurd (w (entry_for c.0) (c.0, c.1, refl) (subst (λ b. IsTrue b) (sym (hit c.0 key c.1 valid)) c.3))
tells state rules Member key valid (Some entry) None distinct are hit w v =
    let m = w.0 in
    let o = are.of m.0 m.1 in
    let met : IsTrue (piece_matches m.0.piece key) = subst (λ b. IsTrue b) (hit m.0 key m.1 valid) (subst (λ e. IsTrue (hits_key state e key)) (sym m.2) w.1) in
    absurd (v o.0 o.1 (o.4 key valid met))
tells state rules Member key valid (Some entry) (Some rule) distinct are hit w v =
    let m = w.0 in
    let o = are.of m.0 m.1 in
    let met : IsTrue (piece_matches m.0.piece key) = subst (λ b. IsTrue b) (hit m.0 key m.1 valid) (subst (λ e. IsTrue (hits_key state e key)) (sym m.2) w.1) in
    let c = are.cover rule key v.0 valid v.1 in
    let tag : m.0.rank ≡ entry.tag = ap (λ e. e.tag) m.2 in
    let result : m.0.result ≡ entry.result = ap (λ e. e.result) m.2 in
    let up : o.0.priority ≤ rule.priority = v.2 o.0 o.1 (o.4 key valid met) in
    let down : c.0.rank ≤ entry.tag = w.2 (entry_for c.0) (c.0, c.1, refl) (subst (λ b. IsTrue b) (sym (hit c.0 key c.1 valid)) c.3) in
    let rank = o.2 in
    let covered = c.2 in
    let level : o.0.priority ≡ rule.priority = omega arith in
    let same : o.0 ≡ rule = distinct o.0 rule o.1 v.0 level in
    let priority : entry.tag ≡ rule.priority = sym tag ∙ o.2 ∙ level in
    let shown : entry.result ≡ rule.result = sym result ∙ o.3 ∙ ap (λ r. r.result) same in
    cc

-- an ordered device answers every key as the rules do
pub ordered_shows : (state : State) (rules : List Rule) (Member : RankedPiece → Type 0) → Distinct (λ (rule : Rule). rule.priority) rules
    → ArePiecesOf rules Member → HitAsPieces state Member → IsOrdered state Member → Shows state rules
ordered_shows state rules Member distinct are hit ordered key valid =
    tells state rules Member key valid (first_hit (hits_key state) state.slots key) (best_rule rules key) distinct are hit
    (lookup_best state Member key valid hit ordered) (best_best rule_matches (λ rule. rule.priority) rules key)
