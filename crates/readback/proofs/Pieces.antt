-- The pieces of a sound batch: what is known of them, and that they lead to the new set's.
use Rattle.std.proofs.Common.{◌≡◌, ℕ, true, false, not, Bool, Option, None, Some, List, [], ◌++◌, map, fold, Contains, inl, inr, ◌⊎◌, refl, sym, ◌∙◌, subst, ap}
use Rattle.std.specs.Prelude.{All, AllPairs, IfNone, nat_eq}
use Rattle.std.proofs.lemmas.Bool.{cases_Bool, eqb-true, eq-eqb}
use Rattle.std.proofs.lemmas.List.Kept.{AllPairs-filter}
use Rattle.std.proofs.lemmas.List.Elements.{Contains-append_left, Contains-append_right, Contains-append_cases}
use Rattle.slot_order.proofs.Lists.{in_map, in_filter, filter_in, AllByRecursion-member}
use Rattle.rule_model.specs.declared.Rule.{Rule}
use Rattle.rule_model.specs.declared.Piece.{Piece}
use Rattle.rule_model.specs.PortRange.{PortRange}
use Rattle.rule_model.specs.RuleSet.{rule_at}
use Rattle.rule_model.proofs.Pairs.{pairs_append, pairs_map}
use Rattle.rule_model.proofs.RuleSets.{IsRuleSet-distinct}
use Rattle.rule_store.specs.declared.Mode.{Mode}
use Rattle.rule_store.specs.declared.Command.{Command}
use Rattle.rule_store.specs.Batch.{additions, set_after, with_rule}
use Rattle.rule_store.specs.Verdict.{pieces_of, added_pieces}
use Rattle.rule_store.proofs.RulesAt.{rule_at-member}
use Rattle.rule_model.specs.Entry.{RankedPiece}
use Rattle.rule_model.proofs.ApartEntries.{SameParts, same_match-parts}
use Rattle.range_bits.specs.LiveRanges.{LiveRanges, range_at}
use Rattle.tcam_device.specs.State.{State}
use Rattle.commit_writes.specs.Bits.{FieldBits, bits_with}
use Rattle.commit_writes.specs.Shape.{set_pieces, rewritten_pieces}
use Rattle.commit_writes.specs.Planned.{IsServedBy}
use Rattle.commit_writes.specs.Serving.{AreServing}
use Rattle.commit_writes.proofs.BatchRules.{IsSoundChange, set_after-is}
use Rattle.commit_writes.proofs.BatchPieces.{row_pieces, row_served, after_served, rewritten_was, rewritten_stays, erased_was, old_piece, new_piece, inserted_once, rewritten_once, erased_once, inserted_falls, erased_rises}
use Rattle.commit_writes.proofs.Filters.{all_from}
use Rattle.commit_writes.proofs.LiveBits.{HasLiveBits, chosen_live}
use Rattle.commit_writes.proofs.OnTheWay.{once_one}
use Rattle.commit_writes.proofs.PieceChanges.{inserted_stays}
use Rattle.commit_writes.proofs.SetPieces.{in_chosen, pieces_once}
use Rattle.readback.specs.Tasks.{CommitPieces, commit_pieces, known_pieces, has_result, changes_result, Task, Insert, Rewrite, Erase, tasks_of}
use Rattle.readback.proofs.Facts.{ArePieces, AreOthers, IsSame, known_cases}
use Rattle.readback.proofs.Finishing.{IsToldBefore}
use Rattle.readback.proofs.Shows.{InOrder, LeadTo}

-- ranges that are tested by one bit are one, and so are those that two pieces test by themselves
same_range : (live : LiveRanges) (bit : Option ℕ) (a b : PortRange) → IfNone bit (a ≡ b)
    → ((n : ℕ) → bit ≡ Some n → range_at live n ≡ Some a) → ((n : ℕ) → bit ≡ Some n → range_at live n ≡ Some b) → a ≡ b
same_range live None a b same here there = same
same_range live (Some n) a b same here there = let e : Some a ≡ Some b = sym (here n refl) ∙ there n refl in cc

-- pieces of live ranges that have the same parts are one
parts_same : (bits : FieldBits) (a b : Piece) → HasLiveBits bits a → HasLiveBits bits b → SameParts a b → a ≡ b
parts_same bits a b live_a live_b same =
    let sport : a.sport ≡ b.sport = same_range bits.src a.srcbit a.sport b.sport same.sport live_a.src (λ n tested. live_b.src n (sym same.srcbit ∙ tested)) in
    let dport : a.dport ≡ b.dport = same_range bits.dst a.dstbit a.dport b.dport same.dport live_a.dst (λ n tested. live_b.dst n (sym same.dstbit ∙ tested)) in
    ap (λ x. record a { src = x }) same.src ∙ (ap (λ x. record a { src = b.src; dst = x }) same.dst ∙ (ap (λ x. record a { src = b.src; dst = b.dst; proto = x }) same.proto
    ∙ (ap (λ (x : PortRange). record b { sport = x; dport = a.dport; srcbit = a.srcbit; dstbit = a.dstbit }) sport
    ∙ (ap (λ (x : PortRange). record b { dport = x; srcbit = a.srcbit; dstbit = a.dstbit }) dport
    ∙ (ap (λ (x : Option ℕ). record b { srcbit = x; dstbit = a.dstbit }) same.srcbit ∙ ap (λ (x : Option ℕ). record b { dstbit = x }) same.dstbit)))))

-- what holds of each two elements of two lists' images
across : (R : Task → Task → Type 0) (f g : RankedPiece → Task) (xs ys : List RankedPiece) → ((x y : RankedPiece) → Contains xs x → Contains ys y → R (f x) (g y))
    → All (λ a. All (λ b. R a b) (map g ys)) (map f xs)
across R f g xs ys each = all_from (λ a. All (λ b. R a b) (map g ys)) (map f xs) (λ a in_a. let x = in_map f xs a in_a in
    all_from (λ b. R a b) (map g ys) (λ b in_b. let y = in_map g ys b in_b in subst (λ t. R t b) x.2 (subst (R (f x.0)) y.2 (each x.0 y.0 x.1 y.1))))

-- three lists of tasks, from what holds inside each and between each two
three : (R : Task → Task → Type 0) (p : CommitPieces)
    → AllPairs (λ a b. R (Insert a) (Insert b)) p.inserted → AllPairs (λ a b. R (Rewrite a) (Rewrite b)) p.rewritten → AllPairs (λ a b. R (Erase a) (Erase b)) p.erased
    → ((x y : RankedPiece) → Contains p.inserted x → Contains p.rewritten y → R (Insert x) (Rewrite y))
    → ((x y : RankedPiece) → Contains p.inserted x → Contains p.erased y → R (Insert x) (Erase y))
    → ((x y : RankedPiece) → Contains p.rewritten x → Contains p.erased y → R (Rewrite x) (Erase y))
    → AllPairs R (tasks_of p)
three R p inserts rewrites erases first second third =
    pairs_append R (map Insert p.inserted) (map Rewrite p.rewritten ++ map Erase p.erased) (pairs_map R Insert p.inserted inserts)
    (pairs_append R (map Rewrite p.rewritten) (map Erase p.erased) (pairs_map R Rewrite p.rewritten rewrites) (pairs_map R Erase p.erased erases) (across R Rewrite Erase p.rewritten p.erased third))
    (all_from (λ a. All (λ b. R a b) (map Rewrite p.rewritten ++ map Erase p.erased)) (map Insert p.inserted) (λ a in_a. let x = in_map Insert p.inserted a in_a in
    all_from (λ b. R a b) (map Rewrite p.rewritten ++ map Erase p.erased) (λ b in_b. subst (λ t. R t b) x.2 (elim (Contains-append_cases (map Rewrite p.rewritten) (map Erase p.erased) b in_b) [
      | inl is ↦ let y = in_map Rewrite p.rewritten b is in subst (R (Insert x.0)) y.2 (first x.0 y.0 x.1 y.1)
      | inr is ↦ let y = in_map Erase p.erased b is in subst (R (Insert x.0)) y.2 (second x.0 y.0 x.1 y.1)
    ]))))

module _ (mode : Mode) (bits : FieldBits) (rules : List Rule) (batch : List Command) (change : IsSoundChange rules batch) where
  abbrev during : FieldBits
  during = bits_with mode rules batch bits

  abbrev p : CommitPieces
  p = commit_pieces mode bits rules batch

  abbrev new : List RankedPiece
  new = set_pieces mode during (set_after rules batch)

  abbrev rewritten : List RankedPiece
  rewritten = rewritten_pieces mode during rules batch

  -- whether a result changes is told by the old piece
  changes_by : (old now : RankedPiece) → Contains p.old old → IsSame old now → has_result now.result (rule_at rules now.rank) ≡ nat_eq old.result now.result
  changes_by old now member same =
      let is = in_chosen during (pieces_of mode) rules old member in
      let found : rule_at rules now.rank ≡ Some is.rule = subst (λ n. rule_at rules n ≡ Some is.rule) (sym is.rank_is ∙ same.1) (rule_at-member rules is.rule (IsRuleSet-distinct rules change.is_set) is.member) in
      ap (has_result now.result) found ∙ ap (λ n. nat_eq n now.result) (sym is.result_is)

  -- a piece that both sets have, with what it was
  was_old : (now : RankedPiece) → Contains rewritten now → (old : RankedPiece) × Contains p.old old × IsSame old now
  was_old now member = let w = rewritten_was mode during rules batch change now member in (w.0, w.1, (w.2, w.3))

  same_result : (old now : RankedPiece) → IsSame old now → old.result ≡ now.result → old ≡ now
  same_result old now same result =
      ap (λ x. record old { piece = x }) same.0 ∙ (ap (λ n. record { piece = now.piece; rank = n; result = old.result }) same.1 ∙ ap (λ n. record now { result = n }) result)

  -- one that doesn't change is an old one
  unchanged : (now : RankedPiece) → Contains rewritten now → changes_result rules now ≡ false → Contains p.old now
  unchanged now member same =
      let w = was_old now member in
      subst (Contains p.old) (same_result w.0 now w.2 (eqb-true w.0.result now.result (sym (changes_by w.0 now w.1 w.2) ∙ from_not (has_result now.result (rule_at rules now.rank)) same))) w.1
    where
      from_not : (b : Bool) → not b ≡ false → b ≡ true
      from_not true e = refl
      from_not false e = absurd (let wrong : true ≡ false = e in cc)

  in_rewritten : (now : RankedPiece) → Contains p.rewritten now → Contains rewritten now × (changes_result rules now ≡ true)
  in_rewritten now member = in_filter (changes_result rules) rewritten now member

  -- the new set's pieces test live bits alone,
  pub new_live : (x : RankedPiece) → Contains new x → HasLiveBits during x.piece
  new_live x member = chosen_live during (pieces_of mode) (set_after rules batch) x member

  -- and so do all that may stand
  pub live : (x : RankedPiece) → Contains (known_pieces p) x → HasLiveBits during x.piece
  live x member = elim (known_cases p x member) [
    | inl old ↦ chosen_live during (pieces_of mode) rules x old
    | inr rest ↦ elim rest [
      | inl put ↦ chosen_live during (added_pieces mode rules) (fold with_rule [] (additions batch)) x put
      | inr told ↦ new_live x (rewritten_stays mode during rules batch change x (in_rewritten x told).0)
    ]
  ]

  pub pieces_lead : LeadTo (commit_pieces mode bits rules batch) (set_pieces mode during (set_after rules batch))
  pieces_lead = record {
    in_order = three InOrder p
        (λ i j d less inside. inserted_falls mode during rules batch change i j d less inside)
        (λ i j d less inside. tt)
        (λ i j d less inside. erased_rises mode during rules batch change i j d less inside)
        (λ x y put told. tt) (λ x y put goes. tt) (λ x y told goes. tt);
    new_once = λ a b in_a in_b same. once_one new a b (pieces_once mode during (set_after rules batch) (set_after-is rules batch change)) in_a in_b same.1 same.0;
    inserted_new = λ x put. (inserted_stays mode during rules batch change x put).0;
    rewritten_new = λ x told. rewritten_stays mode during rules batch change x (in_rewritten x told).0;
    kept = λ now old told goes same. (erased_was mode during rules batch change old goes).1.1.1 now (in_rewritten now told).0 (sym same.0) (sym same.1);
    old_cases = λ x member. elim (old_piece mode during rules batch change x member) [
      | inl stays ↦ inr ((λ goes. stays.1.1 x goes refl refl), inl stays.0)
      | inr rest ↦ elim rest [
        | inr goes ↦ inl goes
        | inl gets ↦ inr ((λ goes. (erased_was mode during rules batch change x goes).1.1.1 gets.0 gets.1 gets.2 gets.3), told x member gets.0 gets.1 (sym gets.2, sym gets.3))
      ]
    ];
    new_cases = λ x member. elim (new_piece mode during rules batch change x member) [
      | inl stood ↦ inl (stood.0, λ goes. stood.1.1 x goes refl refl)
      | inr rest ↦ elim rest [
        | inr put ↦ inr (inr put)
        | inl gets ↦ elim (cases_Bool (changes_result rules x)) [
          | inl changes ↦ inr (inl (filter_in (changes_result rules) rewritten x gets changes))
          | inr same ↦ inl (unchanged x gets same, λ goes. (erased_was mode during rules batch change x goes).1.1.1 x gets refl refl)
        ]
      ]
    ];
  }
    where
      -- it stays as it is, or its result changes
      told : (x : RankedPiece) → Contains p.old x → (now : RankedPiece) → Contains rewritten now → IsSame x now
          → Contains new x ⊎ ((now : RankedPiece) × Contains p.rewritten now × IsSame x now)
      told x member now gets same = elim (cases_Bool (changes_result rules now)) [
        | inl changes ↦ inr (now, filter_in (changes_result rules) rewritten now gets changes, same)
        | inr as_before ↦ inl (
            subst (Contains new) (once_one p.old now x (pieces_once mode during rules change.is_set) (unchanged now gets as_before) member (sym same.1) (sym same.0)) (rewritten_stays mode during rules batch change now gets))
      ]

  -- a rewritten piece whose result doesn't change shows it before
  pub unchanged_told : (now : RankedPiece) → Contains (rewritten_pieces mode during rules batch) now → changes_result rules now ≡ false
      → IsToldBefore (commit_pieces mode bits rules batch) now
  unchanged_told now member same = (
    unchanged now member same,
    λ y told alike.
        let is = in_rewritten y told in
        let one : now ≡ y = once_one rewritten now y (rewritten_once mode during rules batch change) member is.0 alike.1 alike.0 in
        let wrong : false ≡ true = sym same ∙ (ap (changes_result rules) one ∙ is.1) in cc,
  )

  -- Under tables that serve the old rules and the new ones:
  module _ (behind : State) (serving : AreServing mode (bits_with mode rules batch bits) (rules ++ additions batch) behind) where
    -- the new set's pieces have their entries, and those that may stand
    pub new_served : (x : RankedPiece) → Contains new x → IsServedBy behind x
    new_served x member = AllByRecursion-member (IsServedBy behind) new x (after_served mode during behind rules batch change serving) member

    row_is_served : (x : RankedPiece) → Contains (p.old ++ p.inserted) x → IsServedBy behind x
    row_is_served x member = AllByRecursion-member (IsServedBy behind) (row_pieces mode during rules batch) x (row_served mode during behind rules batch change serving) member

    pub served : (x : RankedPiece) → Contains (known_pieces p) x → IsServedBy behind x
    served x member = elim (known_cases p x member) [
      | inl old ↦ row_is_served x (Contains-append_left p.old p.inserted x old)
      | inr rest ↦ elim rest [
        | inl put ↦ row_is_served x (Contains-append_right p.old p.inserted x put)
        | inr told ↦ new_served x (rewritten_stays mode during rules batch change x (in_rewritten x told).0)
      ]
    ]

    pub pieces_are : ArePieces (commit_pieces mode bits rules batch)
    pieces_are = record {
      apart = λ a b in_a in_b match.
          let x = served a in_a in let y = served b in_b in
          let same = same_match-parts a b x.right y.right x.encodable y.encodable match in
          (parts_same during a.piece b.piece (live a in_a) (live b in_b) same.1, same.0);
      once = three AreOthers p
          (λ i j d less inside same. inserted_once mode during rules batch change i j d less inside same.1 same.0)
          (AllPairs-filter (λ a b. AreOthers (Rewrite a) (Rewrite b)) (changes_result rules) rewritten (λ i j d less inside same. rewritten_once mode during rules batch change i j d less inside same.1 same.0))
          (λ i j d less inside same. erased_once mode during rules batch change i j d less inside same.1 same.0)
          (λ x y put told same. let w = was_old y (in_rewritten y told).0 in (inserted_stays mode during rules batch change x put).1 w.0 w.1 (w.2.0 ∙ sym same.0) (w.2.1 ∙ sym same.1))
          (λ x y put goes same. (inserted_stays mode during rules batch change x put).1 y (erased_was mode during rules batch change y goes).0 (sym same.0) (sym same.1))
          (λ x y told goes same. (erased_was mode during rules batch change y goes).1.1.1 x (in_rewritten x told).0 same.0 same.1);
      old_once = λ a b in_a in_b same. once_one p.old a b (pieces_once mode during rules change.is_set) in_a in_b same.1 same.0;
      new_apart = λ a b old put same. (inserted_stays mode during rules batch change b put).1 a old same.0 same.1;
      was = λ now told.
          let is = in_rewritten now told in let w = was_old now is.0 in (
            w.0,
            w.1,
            w.2,
            λ same. let e = changes_by w.0 now w.1 w.2 ∙ eq-eqb w.0.result now.result same in
                let wrong : not (has_result now.result (rule_at rules now.rank)) ≡ not true = ap not e in let right = is.1 in cc,
          );
      goes = λ x member. (erased_was mode during rules batch change x member).0;
    }
