-- How the owner of places is stored and made, and how a walk over places ends. Assumes `Logic`.
use Rattle.std.proofs.Common.{◌≡◌, ℕ, ◌*◌, ◌^◌, ◌<◌, List, [], ◌∷◌, length, replicate, Option, None, refl, sym, ap, ◌∙◌, arith}
use Rattle.std.proofs.lemmas.List.{length-replicate}
use Rattle.std.proofs.raw_atomic.Walks.{leaves}
use seplogic.Ra.Ura.{Ura}
use mir.Syntax.{ty_array}
use mir.Val.{Val, vptr, vstruct, vcons, vnil}
use base.Logic.{ent, sep, emp, id⊢}
use base.Fml.{Fml, ftrue, froom}
use contract.Monad.{fact}
use prog.Memory.{size, align, capped}
use prog.Capped.{capped_is}
use prog.RawLaws.{size-raw, align-raw}
use types.Logic.{Logic, sem}
use types.Kit.{Goal, Item, Seq, ‵, raw, ◌$◌, ◌∵◌, !, qed, by, move, use0, use1, fsplit3, fjoin, flt_i, flt_l, rewrite, done}
use denote.Pure.{Pure}
use denote.RawPtr.{Ptr, block_of, count_of, InBlock, block_ptr, null_ptr, at_block, in_block, ptr_val}
use denote.Shadow.{shadow, makes_shadow}
use denote.RattleType.{RattleType}
use denote.Signature.{type_at}
use denote.Steps.{heard}
use denote.Struct.Lending.{in_block_says}
use denote.Struct.Owning.{Owning, row, shape, to}
use denote.Struct.Struct.{Struct}
use denote.Struct.Tuple.{Tuple}
use denote.Triple.Clauses.{Clauses, Ended, Lasts, at_exit}
use denote.Triple.Entry.{Res, alive}
use denote.Triple.Walked.{Fit, Stays, has_of, walk_of}
use Rattle.core.specs.declared.alloc.Allocator.{Ghosts}
use Rattle.std_alloc.proofs.Pairs.{pair_of, pair_val}
use Rattle.std_alloc.proofs.RawLayout.{as_written}
use Rattle.order_chains.specs.declared.node.Node.{Node}
use Rattle.order_chains.specs.declared.raw.Places.{Places}
use Rattle.order_chains.specs.declared.raw.Deed.{Deed as Right}
use Rattle.order_chains.specs.contracts.raw.Deed
use Rattle.order_chains.specs.contracts.raw.Places.{the_type as owner, the_row as P}
use Rattle.order_chains.specs.Ownership.{node_size, node_layout, row_of, from, owned, all_places, whole_row}
use Rattle.order_chains.proofs.Rows.{row_of_room, room_of_row, first_is, in_line}

-- a row's size and alignment, as the allocator is told them
pub row_size : (len : ℕ) → len * node_size < 2 ^ 64 → capped (size (row_of len)) ≡ len * node_size
row_size len fits = ap capped (size-raw (ty_array node_layout len)) ∙ capped_is (len * node_size) fits

pub row_align : (len : ℕ) → capped (align (row_of len)) ≡ 4
row_align len = ap capped (align-raw (ty_array node_layout len))

-- the owner of the places at p, and a deed, as they are stored
abbrev pub stored : Ptr → Val
stored p = vstruct (vcons (vptr (block_of p) (count_of p)) vnil)

abbrev pub sealed : Val
sealed = vstruct (vcons (vstruct vnil) vnil)

-- what `take` makes
abbrev pub new_places : ℕ → ℕ → ℕ → Places
new_places block start len = record { at = block_ptr block start; nodes = replicate len None }

abbrev pub new_deed : {X : Type 0} → X → ℕ → ℕ → ℕ → Right X
new_deed alloc block start len = record { mark = record {}; alloc = alloc; start = block_ptr block start; len = len }

module _ {M : Type 1} {𝓤 : Ura M} (𝓛 : Logic 𝓤) where
  not_null : (p : Ptr) → InBlock p → ent 𝓤 (emp 𝓤) (sem 𝓛 (in_block p ftrue))
  not_null (block_ptr block start) there = id⊢ 𝓤 (emp 𝓤)
  not_null null_ptr there = absurd there

  -- where the fields of a struct only say what they are, it is made of what it owns beside them
  made_of : (T : Owning) (d : T.D) (v : Val) → Pure ((Struct (shape T)).own_val (to T d) (v ∷ [])) → shadow ((Struct (shape T)).own_val (to T d) (v ∷ []))
      → ent 𝓤 (sem 𝓛 (T.heap d)) (sem 𝓛 ((row T).own_val d (v ∷ [])))
  made_of T d v pure told = qed 𝓛 (‵ (T.heap d) ∷ []) ∵
      use0 𝓛 (‵ ((Struct (shape T)).own_val (to T d) (v ∷ []))) (makes_shadow 𝓛 ((Struct (shape T)).own_val (to T d) (v ∷ [])) pure told) $ fjoin ! $ done !

  pub owner_of : (p : Ptr) → InBlock p → (nodes : List (Option Node)) → length nodes * node_size < 2 ^ 63
      → ent 𝓤 (sem 𝓛 (all_places (owned (block_of p) (from (count_of p))) nodes)) (sem 𝓛 (P.own_val (record { at = p; nodes = nodes }) (stored p ∷ [])))
  owner_of p there nodes small = qed 𝓛 (‵ (all_places (owned (block_of p) (from (count_of p))) nodes) ∷ []) ∵
      flt_i ! (length nodes * node_size) (2 ^ 63) small $ fjoin ! $ use0 𝓛 (‵ (in_block p ftrue)) (not_null p there) $ fjoin ! $
      by ! (made_of owner (record { at = p; nodes = nodes }) (stored p) (λ vss. (tt, (tt, tt)))
      ((vptr (block_of p) (count_of p) ∷ [], tt), (refl, (ap (λ (q : Ptr). ptr_val q ∷ []) (sym (at_block p there)), tt))))

  deed_of : (A : RattleType) (g : Ghosts A.Denot) (d : (Deed.the_type A g).D) → ent 𝓤 (sem 𝓛 (g.dealloc_token d.alloc (row_of d.len) d.start)) (sem 𝓛 ((Deed.the_row A g).own_val d (sealed ∷ [])))
  deed_of A g d = made_of (Deed.the_type A g) d sealed (λ vss. (tt, ((λ us. (tt, tt)), tt))) ((vstruct vnil ∷ [], tt), (refl, ((tt, (refl, tt)), tt)))

  -- both together, in new room
  pub taken : (A : RattleType) (g : Ghosts A.Denot) (alloc : A.Denot) (block start len : ℕ) → len * node_size < 2 ^ 63
      → ent 𝓤 (sep 𝓤 (𝓛.H.room (row_of len) block start) (sem 𝓛 (g.dealloc_token alloc (row_of len) (block_ptr block start))))
      (sem 𝓛 ((Tuple (P ∷ Deed.the_row A g ∷ [])).own_val (new_places block start len, new_deed alloc block start len) (pair_val (stored (block_ptr block start)) sealed ∷ [])))
  taken A g alloc block start len small =
      let row = new_places block start len in let deed = new_deed alloc block start len in
      let empty : Option Node = None in let short : length row.nodes * node_size < 2 ^ 63 = omega (arith, length-replicate len empty) in
      qed 𝓛 (‵ (froom (row_of len) block start) ∷ ‵ (g.dealloc_token alloc (row_of len) row.at) ∷ []) ∵ as_written ! (ty_array node_layout len) block start $
      rewrite ! 0 (λ (o : ℕ). ‵ (froom (ty_array node_layout len) block o)) (first_is start) refl $
      use1 𝓛 (‵ (all_places (owned block (from start)) row.nodes)) (row_of_room 𝓛 block (from start) (in_line start) len) $
      use1 𝓛 (‵ (P.own_val row (stored row.at ∷ []))) (owner_of row.at tt row.nodes short) $ move ! (1 ∷ []) $
      use1 𝓛 (‵ ((Deed.the_row A g).own_val deed (sealed ∷ []))) (deed_of A g deed) $ move ! (1 ∷ 0 ∷ []) $
      by ! (pair_of 𝓛 P (Deed.the_row A g) row deed (stored row.at) sealed)

  -- and the room back, whatever the places hold
  pub returned : (block start : ℕ) (nodes : List (Option Node)) → ent 𝓤 (sem 𝓛 (all_places (owned block (from start)) nodes)) (𝓛.H.room (row_of (length nodes)) block start)
  returned block start nodes = qed 𝓛 (‵ (all_places (owned block (from start)) nodes) ∷ []) ∵
      use1 𝓛 (‵ (froom (ty_array node_layout (length nodes)) block (from start 0))) (room_of_row 𝓛 block (from start) (in_line start) nodes) $
      rewrite ! 0 (λ (o : ℕ). ‵ (froom (ty_array node_layout (length nodes)) block o)) (sym (first_is start)) refl $ by ! (𝓛.laws.room-raw (ty_array node_layout (length nodes)) block start)

  module _ (E : Ended) (hs : Stays E.signature.params E.kept) (c : Clauses 𝓤 E) (y : (walk_of 𝓛 E hs c).Ghost) where
    -- the tokens and the result are all that is left: the parameters are used up, and the clause is a fact
    pub ends : (v : Val) (r : Res E.signature y.0.0) (ws : Lasts E y.0.0 y.0.3) → Fit E hs y.0.0 y.0.3 ws
        → ent 𝓤 (emp 𝓤) (sem 𝓛 (has_of y.0.0 E.signature.params E.kept hs y.0.3 ws y.0.4))
        → ent 𝓤 (emp 𝓤) ((c y.0.0 y.0.3).ensures y.1 r (at_exit E y.0.0 y.0.3 ws))
        → ent 𝓤 (sep 𝓤 (alive 𝓛 E.signature y.0.0 y.0.1) (sem 𝓛 ((type_at E.signature.result y.0.0).own_val r (v ∷ [])))) ((walk_of 𝓛 E hs c).post y v)
    ends v r ws fit used clause = qed 𝓛 (raw (alive 𝓛 E.signature y.0.0 y.0.1) ∷ ‵ ((type_at E.signature.result y.0.0).own_val r (v ∷ [])) ∷ []) ∵
        use0 𝓛 (raw ((c y.0.0 y.0.3).ensures y.1 r (at_exit E y.0.0 y.0.3 ws))) clause $
        use0 𝓛 (‵ (has_of y.0.0 E.signature.params E.kept hs y.0.3 ws y.0.4)) used $ move ! (2 ∷ 0 ∷ 3 ∷ 1 ∷ []) $ by ! (leaves 𝓛 E hs c y v r ws fit)

module _ {M : Type 1} {𝓤 : Ura M} {𝓛 : Logic 𝓤} {K : Type 0} {Γ : List (Item 𝓤)} {G : Goal 𝓤 𝓛.H} where
  -- a step: a row that is owned or lent is its places, with what is known of where they lie
  pub lies : K → (place : ℕ → (ℕ → ℕ) → ℕ → Option Node → Fml) (p : Ptr) (nodes : List (Option Node))
      → (InBlock p → length nodes * node_size < 2 ^ 63 → Seq K 𝓛 (‵ (all_places (place (block_of p) (from (count_of p))) nodes) ∷ Γ) G) → Seq K 𝓛 (‵ (whole_row place p nodes) ∷ Γ) G
  lies t place p nodes next = fsplit3 t $ use1 𝓛 (raw (fact 𝓤 (InBlock p))) (in_block_says 𝓛 p) $ heard t (InBlock p) (λ there. flt_l t (next there))
