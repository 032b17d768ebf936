-- One entry has passed the boundary of a cut under way.
use Rattle.std.proofs.Common.{◌≡◌, ℕ, ◌+◌, ◌-◌, ◌<◌, ◌≤◌, Bool, true, false, None, Some, List, [], ◌∷◌, ◌++◌, length, map, inl, inr, arith, refl, sym, ◌∙◌, subst, ap, append_assoc, length-append}
use Rattle.std.specs.Prelude.{slice_index_or}
use Rattle.std.proofs.lemmas.Bool.{cases_eq}
use Rattle.std.proofs.lemmas.List.{length-map, map-append}
use Rattle.slot_order.specs.Order.{slot, Ordered, most_slots}
use Rattle.slot_order.specs.Chains.{applied}
use Rattle.slot_moves.specs.Moves.{chain_moves, Turn, Down, Up, turn_moves}
use Rattle.slot_moves.specs.Cuts.{holds, early, late, HasRoom}
use Rattle.slot_order.proofs.Writes.{slot_inside}
use Rattle.slot_moves.proofs.Count.{length-chain_moves}
use Rattle.slot_moves.proofs.Passing.{IsPass, HasSides, Passed, Shows, GoesDown, GoesUp, pass_keeps, shows_down, shows_up, goes_down, goes_up}
use Rattle.slot_moves.proofs.Passes.{room_down, room_up}
use Rattle.slot_pool.specs.Arrangement.{Slots, next_free_above, last_free_below}
use Rattle.slot_pool.proofs.Scan.{next_free_is, last_free_is}
use Rattle.placement.specs.Live.{LivePieces, is_above, rank_in}
use Rattle.placement.specs.declared.Move.{Move}
use Rattle.placement.specs.declared.Move.TheVariants.{Erase}
use Rattle.move_planner.specs.Made.{moves_made}
use Rattle.move_planner.specs.declared.sides.Sides.{Sides}
use Rattle.move_planner.specs.declared.crossings.Cut.{Cut}
use Rattle.move_planner.specs.declared.chains.Chain.{Chain}
use Rattle.placement.specs.Placement.{Above, after_moves, moves_along, DownChain, UpChain, AreSides, Pass, pass_down, pass_up, IsLastBefore, IsFirstFrom}
use Rattle.placement.specs.Insertion.{IsLive, IsOther, free_slots}
use Rattle.placement.specs.Ready.{IsReady}
use Rattle.move_planner.specs.Steps.{IsShiftedOut, IsUnderway, OnePassed, IsDown as FoundDown, IsUp as FoundUp}
use Rattle.placement.proofs.Chain.{write_of, after_moves-applied, Reads, IsDown, IsUp}
use Rattle.placement.proofs.Planner.{Related, ranked_reads}
use Rattle.placement.proofs.Orders.{ranked}
use Rattle.placement.proofs.Readied.{ready_ordered, order_from, down_size, up_size}
use Rattle.move_planner.proofs.Turned.{chain_down, chain_up}
use Rattle.placement.proofs.Leading.{has_sides}
use Rattle.placement.proofs.Reach.{holding, sides_still}

-- an entry went past a boundary along its chain
pub record WentDown (above : Above) (slots slots' : Slots) (plan plan' : List Move) (lower cut : ℕ) : Type 0 where
  pub down : DownChain above slots lower (next_free_above slots (cut - 1))
  pub gained : plan' ≡ plan ++ (moves_along slots down.free (lower ∷ down.rest) ++ Erase lower ∷ [])
  pub after : slots' ≡ after_moves slots (moves_along slots down.free (lower ∷ down.rest) ++ Erase lower ∷ [])
  pub same_free : free_slots slots' ≡ free_slots slots

pub record WentUp (above : Above) (slots slots' : Slots) (plan plan' : List Move) (upper cut : ℕ) : Type 0 where
  pub up : UpChain above slots upper (last_free_below slots cut)
  pub gained : plan' ≡ plan ++ (moves_along slots up.free (upper ∷ up.rest) ++ Erase upper ∷ [])
  pub after : slots' ≡ after_moves slots (moves_along slots up.free (upper ∷ up.rest) ++ Erase upper ∷ [])
  pub same_free : free_slots slots' ≡ free_slots slots

-- a chain that was found and moved
abbrev pub went_down : (index : LivePieces) (slots slots' : Slots) (plan plan' : List Move) (lower cut : ℕ) (chain : Chain) → FoundDown (is_above index.live) slots lower (next_free_above slots (cut - 1)) chain
    → IsShiftedOut slots slots' plan plan' chain → WentDown (is_above index.live) slots slots' plan plan' lower cut
went_down index slots slots' plan plan' lower cut chain d out =
    let listed : moves_along slots chain.free chain.members.items ++ Erase (slice_index_or chain.members.items 0 chain.free) ∷ [] ≡ moves_along slots chain.free (lower ∷ d.rest) ++ Erase lower ∷ [] =
    ap (λ ms. moves_along slots chain.free ms ++ Erase (slice_index_or ms 0 chain.free) ∷ []) d.members in
    record {
      down = record { free = chain.free; rest = d.rest; to = d.to; chain = d.follows };
      gained = out.gained ∙ ap (λ ms. plan ++ ms) listed;
      after = out.after ∙ ap (after_moves slots) listed;
      same_free = out.same_free;
    }

abbrev pub went_up : (index : LivePieces) (slots slots' : Slots) (plan plan' : List Move) (upper cut : ℕ) (chain : Chain) → FoundUp (is_above index.live) slots upper (last_free_below slots cut) chain
    → IsShiftedOut slots slots' plan plan' chain → WentUp (is_above index.live) slots slots' plan plan' upper cut
went_up index slots slots' plan plan' upper cut chain d out =
    let listed : moves_along slots chain.free chain.members.items ++ Erase (slice_index_or chain.members.items 0 chain.free) ∷ [] ≡ moves_along slots chain.free (upper ∷ d.rest) ++ Erase upper ∷ [] =
    ap (λ ms. moves_along slots chain.free ms ++ Erase (slice_index_or ms 0 chain.free) ∷ []) d.members in
    record {
      up = record { free = chain.free; rest = d.rest; to = d.to; chain = d.follows };
      gained = out.gained ∙ ap (λ ms. plan ++ ms) listed;
      after = out.after ∙ ap (after_moves slots) listed;
      same_free = out.same_free;
    }

module _ (index : LivePieces) (id : ℕ) (behind before : ℕ → Bool) (slots : Slots) (sides : Sides) (cut : Cut) (w : IsUnderway index id behind before slots sides cut) where
  reads : Reads (Related (is_above index.live)) (rank_in index.live) (IsLive index.live) (is_above index.live)
  reads = ranked_reads (is_above index.live) (rank_in index.live) (IsLive index.live) (ranked index w.ready.apart)

  ordered : Ordered (Related (is_above index.live)) (rank_in index.live) (IsOther index.live id) slots
  ordered = ready_ordered index id slots w.ready

  has : HasSides (Related (is_above index.live)) (rank_in index.live) (IsOther index.live id) (IsLive index.live) behind before
  has = has_sides (Related (is_above index.live)) (rank_in index.live) (IsOther index.live id) (IsLive index.live) (is_above index.live) slots id behind before reads (λ a p. p.0) w.ready.live ordered w.are

  pub cut_inside : cut.boundary ≤ length slots
  cut_inside = let a = w.cut_high in let b = w.high_end in let c = w.inside in omega arith

  -- an arrangement after a turn is ready, and has the same sides
  ready_after : (slots' : Slots) (turn : Turn) → slots' ≡ applied slots (turn_moves slots turn) → free_slots slots' ≡ free_slots slots
      → Passed (Related (is_above index.live)) (rank_in index.live) (IsOther index.live id) behind before cut.boundary slots turn
      → IsReady index id slots' × AreSides (is_above index.live) slots' id behind before
  ready_after slots' turn there free k =
      let o : Ordered (Related (is_above index.live)) (rank_in index.live) (IsOther index.live id) slots' = subst (Ordered (Related (is_above index.live)) (rank_in index.live) (IsOther index.live id)) (sym there) k.ordered in (
        record {
          few = subst (λ n. n ≤ most_slots) (sym (ap length there ∙ k.size)) w.ready.few;
          free = subst (λ n. 0 < n) (sym free) w.ready.free;
          live = w.ready.live;
          apart = w.ready.apart;
          standing = record {
            within = o.within;
            placed = o.placed;
            once = subst (λ d. (i j other : ℕ) → slot d i ≡ Some other → slot d j ≡ Some other → i ≡ j) (sym there) (k.once w.ready.standing.once);
          };
          order = order_from (is_above index.live) (rank_in index.live) (IsOther index.live id) slots' (ranked index w.ready.apart) o;
        },
        sides_still (is_above index.live) slots slots' id behind before
            (λ at other s. o.placed other (ordered.within at other s)) (λ at other s. ordered.placed other (o.within at other s)) w.are,
      )

  -- the last one before the boundary went past it
  pub passed_down : (slots' : Slots) (plan plan' : List Move) (lower : ℕ) → sides.start ≤ lower → lower < cut.low → IsLastBefore behind cut.boundary slots lower
      → (went : WentDown (is_above index.live) slots slots' plan plan' lower cut.boundary)
      → ((upper : ℕ) → IsFirstFrom before cut.boundary slots upper → (up : UpChain (is_above index.live) slots upper (last_free_below slots cut.boundary)) → length went.down.rest ≤ length up.rest)
      → OnePassed index id behind before (moves_made slots plan) (moves_made slots' plan') sides cut (record { boundary = cut.boundary; low = lower; high = cut.high })
  passed_down slots' plan plan' lower low less last went shortest = record {
    moves = moves;
    gained = went.gained;
    after = went.after;
    goes_on = λ rest p. subst (Pass (is_above index.live) behind before cut.boundary slots) (sym (append_assoc (moves_along slots went.down.free (lower ∷ went.down.rest)) (Erase lower ∷ []) rest))
        (pass_down lower last went.down shortest (subst (λ d. Pass (is_above index.live) behind before cut.boundary d rest) went.after p));
    underway = record {
      ready = r.0;
      are = r.1;
      room = subst (HasRoom behind before cut.boundary) (sym there) (room_down behind before cut.boundary slots (applied slots (turn_moves slots turn)) w.room g);
      start_low = low;
      low_cut = let a = w.low_cut in omega arith;
      cut_high = w.cut_high;
      high_end = w.high_end;
      inside = let a = w.inside in let s = size in omega arith;
      many_behind = w.many_behind;
      many_before = w.many_before;
      marks_behind = λ at a b. w.marks_behind at a (omega arith) ∙ others at (omega arith) (let l = last.inside in omega arith);
      clear_low = λ at a b. elim (cases_eq at lower) [
        | inl e ↦ ap (λ i. holds behind (slot slots' i)) e ∙ gone
        | inr n ↦ sym (others at n b) ∙ last.nearest at (omega arith) b
      ];
      clear_start = λ at a. sym (others at (λ e. absurd (omega arith)) (let l = last.inside in omega arith)) ∙ w.clear_start at a;
      marks_before = λ at a b. w.marks_before at a b ∙ kept at;
      clear_high = λ at a b. sym (kept at) ∙ w.clear_high at a b;
      clear_end = λ at a. sym (kept at) ∙ w.clear_end at a;
    };
    same_boundary = refl;
    same_free = went.same_free;
    fewer = let a = g.early_is in let b = g.late_is in
        let e : early behind cut.boundary slots' ≡ early behind cut.boundary (applied slots (turn_moves slots turn)) = ap (early behind cut.boundary) there in
        let l : late before cut.boundary slots' ≡ late before cut.boundary (applied slots (turn_moves slots turn)) = ap (late before cut.boundary) there in omega arith;
    few = few;
  }
    where
      x : (other : ℕ) × (slot slots lower ≡ Some other) × (behind other ≡ true)
      x = holding behind (slot slots lower) last.passing

      c : IsDown (Related (is_above index.live)) (rank_in index.live) slots went.down.free lower went.down.rest
      c = chain_down index id slots lower went.down.free went.down.rest w.ready x.0 x.1 went.down.chain

      moves : List Move
      moves = moves_along slots went.down.free (lower ∷ went.down.rest) ++ Erase lower ∷ []

      turn : Turn
      turn = Down went.down.free lower went.down.rest

      same : map write_of moves ≡ turn_moves slots turn
      same = map-append write_of (moves_along slots went.down.free (lower ∷ went.down.rest)) (Erase lower ∷ []) ∙ ap (λ xs. xs ++ (lower, None) ∷ []) c.moves

      there : slots' ≡ applied slots (turn_moves slots turn)
      there = went.after ∙ (after_moves-applied slots moves ∙ ap (applied slots) same)

      far : cut.boundary ≤ went.down.free
      far = let f = (next_free_is slots (cut.boundary - 1) went.down.free went.down.to).0 in let l = last.inside in omega arith

      is : IsPass (Related (is_above index.live)) (rank_in index.live) behind before cut.boundary slots turn
      is = let f = (next_free_is slots (cut.boundary - 1) went.down.free went.down.to).1 in (last.inside, far, f.inside, f.free, x, c.chain)

      k : Passed (Related (is_above index.live)) (rank_in index.live) (IsOther index.live id) behind before cut.boundary slots turn
      k = pass_keeps (Related (is_above index.live)) (rank_in index.live) (IsOther index.live id) (IsLive index.live) behind before cut.boundary slots turn has ordered is

      r : IsReady index id slots' × AreSides (is_above index.live) slots' id behind before
      r = ready_after slots' turn there went.same_free k

      size : length slots' ≡ length slots
      size = ap length there ∙ k.size

      shows : Shows behind before slots (applied slots (turn_moves slots turn)) went.down.free lower
      shows = shows_down (Related (is_above index.live)) (rank_in index.live) (IsOther index.live id) (IsLive index.live) behind before cut.boundary slots went.down.free lower went.down.rest has ordered is

      g : GoesDown behind before cut.boundary slots (applied slots (turn_moves slots turn))
      g = goes_down (Related (is_above index.live)) (rank_in index.live) (IsOther index.live id) (IsLive index.live) behind before cut.boundary slots went.down.free lower went.down.rest has ordered cut_inside is

      others : (at : ℕ) → (at ≡ lower → ⊥) → at < cut.boundary → holds behind (slot slots at) ≡ holds behind (slot slots' at)
      others at n l = shows.moved.others at n (λ e. let a = far in absurd (omega arith)) ∙ ap (λ d. holds behind (slot d at)) (sym there)

      gone : holds behind (slot slots' lower) ≡ false
      gone = ap (λ d. holds behind (slot d lower)) there ∙ shows.moved.gone

      kept : (at : ℕ) → holds before (slot slots at) ≡ holds before (slot slots' at)
      kept at = shows.kept at ∙ ap (λ d. holds before (slot d at)) (sym there)

      few : length moves ≤ (1 + most_slots)
      few =
          let n : length moves ≡ length (turn_moves slots turn) = sym (length-map moves write_of) ∙ ap length same in
          let f = (next_free_is slots (cut.boundary - 1) went.down.free went.down.to).1.inside in
          let l = down_size (Related (is_above index.live)) (rank_in index.live) slots went.down.free lower went.down.rest c.chain in
          let p = length-chain_moves slots went.down.free lower went.down.rest in
          let q = length-append (chain_moves slots went.down.free lower went.down.rest) ((lower, None) ∷ []) in
          let a = w.ready.few in omega arith

  -- the first one from the boundary on went before it
  pub passed_up : (slots' : Slots) (plan plan' : List Move) (upper : ℕ) → cut.high ≤ upper → upper < sides.end → IsFirstFrom before cut.boundary slots upper
      → (went : WentUp (is_above index.live) slots slots' plan plan' upper cut.boundary)
      → ((lower : ℕ) → IsLastBefore behind cut.boundary slots lower → (down : DownChain (is_above index.live) slots lower (next_free_above slots (cut.boundary - 1))) → length went.up.rest < length down.rest)
      → OnePassed index id behind before (moves_made slots plan) (moves_made slots' plan') sides cut (record { boundary = cut.boundary; low = cut.low; high = upper + 1 })
  passed_up slots' plan plan' upper low less first went shortest = record {
    moves = moves;
    gained = went.gained;
    after = went.after;
    goes_on = λ rest p. subst (Pass (is_above index.live) behind before cut.boundary slots) (sym (append_assoc (moves_along slots went.up.free (upper ∷ went.up.rest)) (Erase upper ∷ []) rest))
        (pass_up upper first went.up shortest (subst (λ d. Pass (is_above index.live) behind before cut.boundary d rest) went.after p));
    underway = record {
      ready = r.0;
      are = r.1;
      room = subst (HasRoom behind before cut.boundary) (sym there) (room_up behind before cut.boundary slots (applied slots (turn_moves slots turn)) w.room g);
      start_low = w.start_low;
      low_cut = w.low_cut;
      cut_high = let a = first.inside in omega arith;
      high_end = omega arith;
      inside = let a = w.inside in let s = size in omega arith;
      many_behind = w.many_behind;
      many_before = w.many_before;
      marks_behind = λ at a b. w.marks_behind at a b ∙ kept at;
      clear_low = λ at a b. sym (kept at) ∙ w.clear_low at a b;
      clear_start = λ at a. sym (kept at) ∙ w.clear_start at a;
      marks_before = λ at a b. w.marks_before at (omega arith) b ∙ others at (λ e. absurd (omega arith)) (let l = first.inside in omega arith);
      clear_high = λ at a b. elim (cases_eq at upper) [
        | inl e ↦ ap (λ i. holds before (slot slots' i)) e ∙ gone
        | inr n ↦ sym (others at n a) ∙ first.nearest at a (omega arith)
      ];
      clear_end = λ at a. sym (others at (λ e. absurd (omega arith)) (let l = first.inside in omega arith)) ∙ w.clear_end at a;
    };
    same_boundary = refl;
    same_free = went.same_free;
    fewer = let a = g.early_is in let b = g.late_is in
        let e : early behind cut.boundary slots' ≡ early behind cut.boundary (applied slots (turn_moves slots turn)) = ap (early behind cut.boundary) there in
        let l : late before cut.boundary slots' ≡ late before cut.boundary (applied slots (turn_moves slots turn)) = ap (late before cut.boundary) there in omega arith;
    few = few;
  }
    where
      x : (other : ℕ) × (slot slots upper ≡ Some other) × (before other ≡ true)
      x = holding before (slot slots upper) first.passing

      c : IsUp (Related (is_above index.live)) (rank_in index.live) slots went.up.free upper went.up.rest
      c = chain_up index id slots upper went.up.free went.up.rest w.ready x.0 x.1 went.up.chain

      moves : List Move
      moves = moves_along slots went.up.free (upper ∷ went.up.rest) ++ Erase upper ∷ []

      turn : Turn
      turn = Up went.up.free upper went.up.rest

      same : map write_of moves ≡ turn_moves slots turn
      same = map-append write_of (moves_along slots went.up.free (upper ∷ went.up.rest)) (Erase upper ∷ []) ∙ ap (λ xs. xs ++ (upper, None) ∷ []) c.moves

      there : slots' ≡ applied slots (turn_moves slots turn)
      there = went.after ∙ (after_moves-applied slots moves ∙ ap (applied slots) same)

      far : went.up.free < cut.boundary
      far = (last_free_is slots cut.boundary went.up.free went.up.to).0

      is : IsPass (Related (is_above index.live)) (rank_in index.live) behind before cut.boundary slots turn
      is = let f = (last_free_is slots cut.boundary went.up.free went.up.to).1 in (first.inside, far, f.inside, f.free, x, c.chain)

      k : Passed (Related (is_above index.live)) (rank_in index.live) (IsOther index.live id) behind before cut.boundary slots turn
      k = pass_keeps (Related (is_above index.live)) (rank_in index.live) (IsOther index.live id) (IsLive index.live) behind before cut.boundary slots turn has ordered is

      r : IsReady index id slots' × AreSides (is_above index.live) slots' id behind before
      r = ready_after slots' turn there went.same_free k

      size : length slots' ≡ length slots
      size = ap length there ∙ k.size

      shows : Shows before behind slots (applied slots (turn_moves slots turn)) went.up.free upper
      shows = shows_up (Related (is_above index.live)) (rank_in index.live) (IsOther index.live id) (IsLive index.live) behind before cut.boundary slots went.up.free upper went.up.rest has ordered is

      g : GoesUp behind before cut.boundary slots (applied slots (turn_moves slots turn))
      g = goes_up (Related (is_above index.live)) (rank_in index.live) (IsOther index.live id) (IsLive index.live) behind before cut.boundary slots went.up.free upper went.up.rest has ordered cut_inside is

      others : (at : ℕ) → (at ≡ upper → ⊥) → cut.boundary ≤ at → holds before (slot slots at) ≡ holds before (slot slots' at)
      others at n l = shows.moved.others at n (λ e. let a = far in absurd (omega arith)) ∙ ap (λ d. holds before (slot d at)) (sym there)

      gone : holds before (slot slots' upper) ≡ false
      gone = ap (λ d. holds before (slot d upper)) there ∙ shows.moved.gone

      kept : (at : ℕ) → holds behind (slot slots at) ≡ holds behind (slot slots' at)
      kept at = shows.kept at ∙ ap (λ d. holds behind (slot d at)) (sym there)

      few : length moves ≤ (1 + most_slots)
      few =
          let n : length moves ≡ length (turn_moves slots turn) = sym (length-map moves write_of) ∙ ap length same in
          let f = slot_inside slots upper x.0 x.1 in
          let l = up_size (Related (is_above index.live)) (rank_in index.live) slots went.up.free upper went.up.rest c.chain in
          let p = length-chain_moves slots went.up.free upper went.up.rest in
          let q = length-append (chain_moves slots went.up.free upper went.up.rest) ((upper, None) ∷ []) in
          let a = w.ready.few in omega arith
