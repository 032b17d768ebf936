-- The first entry of a set that hits a key's word answers as the set.
use Rattle.std.proofs.Common.{◌≡◌, ℕ, suc, ◌+◌, ◌<◌, ◌^◌, Bool, true, false, List, [], ◌∷◌, ◌++◌, length, get_or, take, Option, None, Some, option_map, IsTrue, ◌⊎◌, inl, inr, refl, sym, ◌∙◌, ap, ap₂, arith}
use Rattle.std.specs.Prelude.{map, ◌||◌, if◌then◌else◌}
use Rattle.std.specs.List.{find, list_any, All, AllByRecursion}
use Rattle.std.specs.Option.{option_or}
use Rattle.std.proofs.lemmas.Bool.{cases_Bool, cond-true, cond-false}
use Rattle.std.proofs.lemmas.List.{map-append, take_more}
use Rattle.std.proofs.lemmas.List.Folds.{find-append}
use Rattle.rule_model.specs.declared.Key.{Key}
use Rattle.rule_model.specs.declared.Rule.{Rule}
use Rattle.rule_model.specs.declared.Piece.{Piece}
use Rattle.rule_model.specs.declared.words.Entry.{Entry}
use Rattle.rule_model.specs.Key.{IsKey}
use Rattle.rule_model.specs.PortRange.{is_block}
use Rattle.rule_model.specs.Rule.{AreConditions, HasConditions, rule_matches}
use Rattle.rule_model.specs.RuleSet.{Answer, IsRuleSet, answer}
use Rattle.rule_model.specs.Piece.{piece_matches, cover_pieces}
use Rattle.rule_model.specs.Word.{word_of}
use Rattle.rule_model.specs.Entry.{IsEncodable, RankedPiece, entry_for, hits}
use Rattle.rule_model.proofs.CoverPieces.{piece_matches-cover, cover_pieces-right, cover_pieces-blocks}
use Rattle.rule_model.proofs.Exact.{hits-entry_of}
use Rattle.rule_store.proofs.Best.{best-first, best-next}
use Rattle.rule_store.specs.declared.Mode.TheVariants.{Cover}
use Rattle.tcam_device.specs.State.{told}
use Rattle.commit_writes.specs.Bits.{no_bits, with_bits}
use Rattle.commit_writes.specs.Shape.{ranked_piece, ranked_pieces, set_pieces}
use Rattle.slot_order.proofs.Lists.{all_append}

told_or : (x y : Option Entry) → told (option_or x y) ≡ option_or (told x) (told y)
told_or None y = refl
told_or (Some e) y = refl

-- a piece of blocks, without bits, has its entry
pub block_encodable : (piece : Piece) → IsTrue (is_block piece.sport) → IsTrue (is_block piece.dport) → IsEncodable (with_bits no_bits piece)
block_encodable piece sport dport = record { sport = sport; dport = dport; srcbit = tt; dstbit = tt }

module _ (key : Key) (valid : IsKey key) (src dst : ℕ) (below_src : src < 2 ^ 16) (below_dst : dst < 2 ^ 16) where
  abbrev test : Entry → Bool
  test entry = hits entry (word_of key src dst)

  module _ (rule : Rule) (right : HasConditions rule) where
    abbrev entry_by : Piece → Entry
    entry_by piece = entry_for (ranked_piece no_bits rule piece)

    abbrev own : Answer
    own = Some (rule.priority, rule.result)

    abbrev rest_found : List Piece → Option Entry
    rest_found pieces = find test (map entry_for (ranked_pieces no_bits rule pieces))

    piece_hit : (piece : Piece) → AreConditions piece.src piece.dst piece.proto piece.sport piece.dport → IsTrue (is_block piece.sport) × IsTrue (is_block piece.dport)
        → test (entry_by piece) ≡ piece_matches piece key
    piece_hit piece conditions blocks =
        hits-entry_of (with_bits no_bits piece) rule.priority rule.result conditions (block_encodable piece blocks.0 blocks.1) key valid src dst below_src below_dst

    one : (pieces : List Piece) → All (λ piece. test (entry_by piece) ≡ piece_matches piece key) pieces
        → told (find test (map entry_for (ranked_pieces no_bits rule pieces))) ≡ (if list_any (λ piece. piece_matches piece key) pieces then own else None)
    one [] all = refl
    one (piece ∷ pieces) all = by (piece_matches piece key) (all 0 piece (omega arith)) (one pieces (λ k d less. all (suc k) d (omega arith)))
      where
        by : (b : Bool) → test (entry_by piece) ≡ b
            → told (rest_found pieces) ≡ (if list_any (λ piece. piece_matches piece key) pieces then own else None)
            → told (if test (entry_by piece) then Some (entry_by piece) else rest_found pieces)
            ≡ (if (b || list_any (λ piece. piece_matches piece key) pieces) then own else None)
        by true e later = ap told (cond-true _ _ _ e)
        by false e later = ap told (cond-false _ _ _ e) ∙ later

    rule_found : told (find test (map entry_for (ranked_pieces no_bits rule (cover_pieces rule)))) ≡ (if rule_matches rule key then own else None)
    rule_found =
        one (cover_pieces rule) (λ k d less. piece_hit (get_or (cover_pieces rule) k d) (cover_pieces-right rule right k d less) (cover_pieces-blocks rule right k d less))
        ∙ ap (λ (b : Bool). if b then own else None) (piece_matches-cover rule key valid right)

  pub set_found : (rules : List Rule) → AllByRecursion HasConditions rules → IsRuleSet rules → told (find test (map entry_for (set_pieces Cover no_bits rules))) ≡ answer rules key
  set_found [] right set = refl
  set_found (rule ∷ rules) right set =
      ap (λ es. told (find test es)) (map-append entry_for (ranked_pieces no_bits rule (cover_pieces rule)) (set_pieces Cover no_bits rules))
      ∙ ap told (find-append test (map entry_for (ranked_pieces no_bits rule (cover_pieces rule))) (map entry_for (set_pieces Cover no_bits rules)))
      ∙ told_or _ _ ∙ ap₂ option_or (rule_found rule right.0) (set_found rules right.1 set.1) ∙ best (cases_Bool (rule_matches rule key))
    where
      best : ((rule_matches rule key ≡ true) ⊎ (rule_matches rule key ≡ false))
          → option_or (if rule_matches rule key then Some (rule.priority, rule.result) else None) (answer rules key) ≡ answer (rule ∷ rules) key
      best (inl hit) =
          ap (λ (found : Answer). option_or found (answer rules key)) (cond-true _ _ _ hit)
          ∙ sym (ap (λ (found : Option Rule). option_map (λ (rule : Rule). (rule.priority, rule.result)) found) (best-first rule rules key set hit))
      best (inr miss) =
          ap (λ (found : Answer). option_or found (answer rules key)) (cond-false _ _ _ miss)
          ∙ sym (ap (λ (found : Option Rule). option_map (λ (rule : Rule). (rule.priority, rule.result)) found) (best-next rule rules key miss))

-- each piece of a set has its entry
pub set_encodable : (rules : List Rule) → AllByRecursion HasConditions rules → AllByRecursion (λ (ranked : RankedPiece). IsEncodable ranked.piece) (set_pieces Cover no_bits rules)
set_encodable [] right = tt
set_encodable (rule ∷ rules) right =
    all_append (λ (ranked : RankedPiece). IsEncodable ranked.piece) (ranked_pieces no_bits rule (cover_pieces rule)) (set_pieces Cover no_bits rules)
    (each (cover_pieces rule) (cover_pieces-blocks rule right.0)) (set_encodable rules right.1)
  where
    each : (pieces : List Piece) → All (λ piece. IsTrue (is_block piece.sport) × IsTrue (is_block piece.dport)) pieces
        → AllByRecursion (λ (ranked : RankedPiece). IsEncodable ranked.piece) (ranked_pieces no_bits rule pieces)
    each [] all = tt
    each (piece ∷ pieces) all =
        (block_encodable piece (all 0 piece (omega arith)).0 (all 0 piece (omega arith)).1, each pieces (λ k d less. all (suc k) d (omega arith)))

-- one piece more has its entry
pub entry_next : (pieces : List RankedPiece) (i : ℕ) (ranked : RankedPiece) → i < length pieces → ranked ≡ get_or pieces i ranked
    → map entry_for (take i pieces) ++ entry_for ranked ∷ [] ≡ map entry_for (take (i + 1) pieces)
entry_next pieces i ranked less is =
    sym (map-append entry_for (take i pieces) (ranked ∷ []))
    ∙ ap (λ (one : RankedPiece). map entry_for (take i pieces ++ one ∷ [])) is ∙ sym (ap (map entry_for) (take_more pieces i ranked less))
