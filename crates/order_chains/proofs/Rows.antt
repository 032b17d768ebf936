-- One place of a row stands for itself, with the way back to the row whatever it holds then. Room is a row of empty
-- places. Assumes `Logic`.
use Rattle.std.proofs.Common.{◌≡◌, ℕ, zero, suc, ◌+◌, ◌<◌, List, [], ◌∷◌, length, get_or, set, replicate, Option, Some, None, refl, sym, ◌∙◌, arith, inl, inr}
use Rattle.std.proofs.lemmas.List.{get_or_past}
use Rattle.std.proofs.lemmas.Option.{none-some, slice_get_cases}
use seplogic.Ra.Ura.{Ura}
use base.Fraction.{full_share}
use base.Logic.{ent, sep, wand, id⊢, all_e, apply∗}
use base.Fml.{Fml, fwand, fall, fat, froom}
use mir.Syntax.{ty_array}
use mir.Val.{Val}
use types.Logic.{Logic, sem}
use types.Kit.{‵, raw, ◌⊛◌, some, ◌$◌, ◌∵◌, !, qed, by, move, keep, use1, use2, pick, split, frame, each, assume, fsplit, fjoin, rewrite, done}
use denote.Memory.{part_at}
use borrow.Table.OneValue.{part_in, part_out}
use Rattle.order_chains.specs.declared.node.Node.{Node}
use Rattle.order_chains.specs.contracts.node.Node.{the_row as N}
use Rattle.order_chains.specs.Ownership.{node_size, node_layout, from, owned, all_places}

-- a place that holds a node is one of the row
pub is_place : (nodes : List (Option Node)) (i : ℕ) (node : Node) → get_or nodes i None ≡ Some node → i < length nodes
is_place nodes i node holds = elim (slice_get_cases nodes i).1 [
  | inl there ↦ there.1
  | inr past ↦ absurd (none-some node (sym (get_or_past nodes i None past.0) ∙ holds))
]

-- places that follow each other
abbrev pub InLine : (ℕ → ℕ) → Type 0
InLine at = (i : ℕ) → at i + node_size ≡ at (suc i)

pub first_is : (start : ℕ) → start ≡ from start 0
first_is start = omega arith

pub in_line : (start : ℕ) → InLine (from start)
in_line start i = omega arith

-- the row, once its i-th place holds something
abbrev pub refills : (ℕ → Option Node → Fml) → List (Option Node) → ℕ → Option Node → Fml
refills place nodes i held = fwand (place i held) (all_places place (set nodes i held))

abbrev pub refill : (ℕ → Option Node → Fml) → List (Option Node) → ℕ → Fml
refill place nodes i = fall (Option Node) (refills place nodes i)

module _ {M : Type 1} {𝓤 : Ura M} (𝓛 : Logic 𝓤) where
  open 𝓛 use {H}

  pub refilled : (place : ℕ → Option Node → Fml) (nodes : List (Option Node)) (i : ℕ) (held : Option Node)
      → ent 𝓤 (sep 𝓤 (sem 𝓛 (place i held)) (sem 𝓛 (refill place nodes i))) (sem 𝓛 (all_places place (set nodes i held)))
  refilled place nodes i held = qed 𝓛 (‵ (place i held) ∷ ‵ (refill place nodes i) ∷ []) ∵ move ! (1 ∷ []) $
      use1 𝓛 (raw (wand 𝓤 (sem 𝓛 (place i held)) (sem 𝓛 (all_places place (set nodes i held))))) (all_e 𝓤 (λ (new : Option Node). sem 𝓛 (refills place nodes i new)) held) $
      move ! (1 ∷ 0 ∷ []) $ by ! (apply∗ 𝓤 (sem 𝓛 (place i held)) (sem 𝓛 (all_places place (set nodes i held))))

  pub focus : (place : ℕ → Option Node → Fml) (nodes : List (Option Node)) (i : ℕ) → i < length nodes
      → ent 𝓤 (sem 𝓛 (all_places place nodes)) (sep 𝓤 (sem 𝓛 (place i (get_or nodes i None))) (sem 𝓛 (refill place nodes i)))
  focus place [] i inside = absurd (omega arith)
  focus place (first ∷ others) zero inside =
      qed 𝓛 (‵ (all_places place (first ∷ others)) ∷ []) ∵ fsplit ! $ frame ! $ each ! _ (λ held. assume ! (‵ (place 0 held)) $ fjoin ! $ done !)
  focus place (first ∷ others) (suc i) inside = let next : ℕ → Option Node → Fml = λ k. place (suc k) in
      qed 𝓛 (‵ (all_places place (first ∷ others)) ∷ []) ∵ fsplit ! $ move ! (1 ∷ []) $
      use1 𝓛 (‵ (next i (get_or others i None)) ⊛ ‵ (refill next others i)) (focus next others i (omega arith)) $ split ! $ frame ! $
      each ! _ (λ held. assume ! (‵ (next i held)) $ use2 𝓛 (‵ (all_places next (set others i held))) (refilled next others i held) $ move ! (1 ∷ 0 ∷ []) $ fjoin ! $ done !)

  module _ (block : ℕ) where
    -- a node that is given up leaves room: nothing drops it
    pub vacated : (at : ℕ → ℕ) (i : ℕ) (held : Option Node) → ent 𝓤 (sem 𝓛 (owned block at i held)) (H.room node_layout block (at i))
    vacated at i None = id⊢ 𝓤 _
    vacated at i (Some node) = qed 𝓛 (‵ (part_at N full_share node block (at i)) ∷ []) ∵
        use1 𝓛 (some (λ (v : Val). ‵ (fat full_share node_layout block (at i) v) ⊛ ‵ (N.own_val node (v ∷ [])))) (part_out 𝓛 N refl full_share node block (at i)) $
        pick ! (λ v. split ! $ keep ! (0 ∷ []) $ by ! (𝓛.laws.at_room node_layout block (at i) v))

    -- the i-th place is written over
    pub emptied : (at : ℕ → ℕ) (nodes : List (Option Node)) (i : ℕ) → i < length nodes
        → ent 𝓤 (sem 𝓛 (all_places (owned block at) nodes)) (sep 𝓤 (H.room node_layout block (at i)) (sem 𝓛 (refill (owned block at) nodes i)))
    emptied at nodes i inside = qed 𝓛 (‵ (all_places (owned block at) nodes) ∷ []) ∵
        use1 𝓛 (‵ (owned block at i (get_or nodes i None)) ⊛ ‵ (refill (owned block at) nodes i)) (focus (owned block at) nodes i inside) $ split ! $
        use1 𝓛 (‵ (froom node_layout block (at i))) (vacated at i (get_or nodes i None)) $ done !

    pub written : (at : ℕ → ℕ) (nodes : List (Option Node)) (i : ℕ) (node : Node) (v : Val)
        → ent 𝓤 (sep 𝓤 (H.at full_share node_layout block (at i) v) (sep 𝓤 (sem 𝓛 (N.own_val node (v ∷ []))) (sem 𝓛 (refill (owned block at) nodes i))))
        (sem 𝓛 (all_places (owned block at) (set nodes i (Some node))))
    written at nodes i node v = qed 𝓛 (‵ (fat full_share node_layout block (at i) v) ∷ ‵ (N.own_val node (v ∷ [])) ∷ ‵ (refill (owned block at) nodes i) ∷ []) ∵
        use2 𝓛 (‵ (owned block at i (Some node))) (part_in 𝓛 N refl full_share node block (at i) v) $ by ! (refilled (owned block at) nodes i (Some node))

    pub row_of_room : (at : ℕ → ℕ) → InLine at → (len : ℕ) → ent 𝓤 (H.room (ty_array node_layout len) block (at 0)) (sem 𝓛 (all_places (owned block at) (replicate len None)))
    row_of_room at line zero = qed 𝓛 (‵ (froom (ty_array node_layout 0) block (at 0)) ∷ []) ∵ keep ! [] $ done !
    row_of_room at line (suc len) = let next : ℕ → ℕ = λ i. at (suc i) in
        qed 𝓛 (‵ (froom (ty_array node_layout (suc len)) block (at 0)) ∷ []) ∵
        use1 𝓛 (‵ (froom node_layout block (at 0)) ⊛ ‵ (froom (ty_array node_layout len) block (at 0 + node_size))) (𝓛.laws.room_uncons node_layout len block (at 0)) $ split ! $ frame ! $
        rewrite ! 0 (λ (o : ℕ). ‵ (froom (ty_array node_layout len) block o)) (line 0) refl $ by ! (row_of_room next (λ i. line (suc i)) len)

    pub room_of_row : (at : ℕ → ℕ) → InLine at → (nodes : List (Option Node)) → ent 𝓤 (sem 𝓛 (all_places (owned block at) nodes)) (H.room (ty_array node_layout (length nodes)) block (at 0))
    room_of_row at line [] = 𝓛.laws.room_nil node_layout block (at 0)
    room_of_row at line (first ∷ others) = let next : ℕ → ℕ = λ i. at (suc i) in let room = froom (ty_array node_layout (length others)) block in
        qed 𝓛 (‵ (owned block at 0 first) ∷ ‵ (all_places (owned block next) others) ∷ []) ∵
        use1 𝓛 (‵ (froom node_layout block (at 0))) (vacated at 0 first) $ move ! (1 ∷ []) $ use1 𝓛 (‵ (room (next 0))) (room_of_row next (λ i. line (suc i)) others) $
        rewrite ! 0 (λ (o : ℕ). ‵ (room o)) (sym (line 0)) refl $ move ! (1 ∷ 0 ∷ []) $ by ! (𝓛.laws.room_cons node_layout (length others) block (at 0))
