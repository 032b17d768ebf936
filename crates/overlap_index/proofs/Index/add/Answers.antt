use Rattle.std.proofs.Common.{◌≡◌, ℕ, ◌<◌, false, List, sym, ◌∙◌, ap, subst, ◌++◌, ◌∷◌, [], length, vec_len, rules, arith}
use Rattle.std.proofs.lemmas.Grind.{common_steps}
use Rattle.rule_model.specs.declared.Piece.{Piece}
use Rattle.overlap_index.specs.declared.Change.TheVariants.{Came}
use Rattle.placement.specs.declared.LivePiece.{LivePiece}
use Rattle.placement.specs.Live.{LivePieces, MayTell, is_live}
use Rattle.overlap_index.specs.Changes.{live_after}
use Rattle.overlap_index.specs.Tied.{AreTied, IsComing, told_of}
use Rattle.overlap_index.proofs.Linked.{pieces_size}
use Rattle.overlap_index.proofs.Came.{live_more}
use Rattle.overlap_index.proofs.Parts.{parts_coming, parts_more}
use Rattle.overlap_index.proofs.Index.add.Goals as goal

abbrev one : ℕ → Piece → ℕ → LivePiece
one id piece rank = record { id = id; piece = piece; rank = rank }

pub more-requires : goal.more-requires
more-requires c =
    let i = c.self.inside in
    let live = live_after i.history.items in
    let small = subst (λ v. c.args.id < v.slots) (sym c.self.view_is) c.requires.small in
    let absent = subst (λ v. is_live v.live c.args.id ≡ false) (sym c.self.view_is) c.requires.absent in
    rw (c.deref.ensures.value, c.deref-2.ensures.value, c.reserve.ensures.items)
    (live, parts_coming i.slots live i.pieces.items i.places.items i.buckets i.ties (one c.args.id c.args.piece.now c.args.priority) small absent c.self.invariant, c.self.invariant.tied)

-- with more room all is as before
pub invariant_of-self-in_err-more : goal.invariant_of-self-in_err-more
invariant_of-self-in_err-more c =
    let i = c.self.inside in
    let p = c.self.invariant in
    let live = live_after i.history.items in
    let same : c.deref.result.now ≡ i.pieces.items = c.deref.ensures.value ∙ c.reserve.ensures.items in
    rw c.reserve.ensures.items (record {
      most = p.most;
      apart = p.apart;
      table = p.table;
      found = p.found;
      tied = subst (λ (xs : List LivePiece). AreTied i.slots live xs c.more.new.self) same (c.in_err-more.ensures.refused live (subst (λ (xs : List LivePiece). AreTied i.slots live xs i.ties) (sym same) p.tied));
    })

-- a new id is live, and what it ties is kept
pub invariant_of-self-2 : goal.invariant_of-self-2
invariant_of-self-2 c =
    let i = c.self.inside in
    let live = live_after i.history.items in
    let new = one c.args.id c.args.piece.now c.args.priority in
    let small = subst (λ v. c.args.id < v.slots) (sym c.self.view_is) c.requires.small in
    let absent = subst (λ v. is_live v.live c.args.id ≡ false) (sym c.self.view_is) c.requires.absent in
    let after : live_after c.and-self-inside.result.items ≡ live ++ new ∷ [] = ap live_after c.and-self-inside.ensures ∙ live_more i.history.items (Came new) in
    let size : vec_len c.reserve.new.self ≡ length c.reserve.new.self.items = first_of (search rules, grind (arith, common_steps)) in
    let len : c.len.result ≡ length i.pieces.items = c.len.ensures ∙ size ∙ ap length c.reserve.ensures.items in
    let same : c.deref.result.now ≡ i.pieces.items = c.deref.ensures.value ∙ c.reserve.ensures.items in
    let coming : IsComing i.slots live c.deref.result.now c.deref-2.result.now new =
    rw (same, c.deref-2.ensures.value) (parts_coming i.slots live i.pieces.items i.places.items i.buckets i.ties new small absent c.self.invariant) in
    let before : AreTied i.slots live c.deref.result.now i.ties = subst (λ (xs : List LivePiece). AreTied i.slots live xs i.ties) (sym same) c.self.invariant.tied in
    let tied : AreTied i.slots (live ++ new ∷ []) (i.pieces.items ++ new ∷ []) c.more.new.self =
    subst (λ (xs : List LivePiece). AreTied i.slots (live ++ new ∷ []) (xs ++ new ∷ []) c.more.new.self) same (c.in_ok-more.ensures.tied live coming before) in
    rw (after, len, c.push_reserved.ensures.items, c.reserve.ensures.items, c.came.ensures)
    (parts_more i.slots live i.pieces.items i.places.items i.buckets i.ties c.more.new.self new small absent tied c.self.invariant)

pub returns-clause-live : goal.returns-clause-live
returns-clause-live c =
    let new = one c.args.id c.args.piece.now c.args.priority in
    ap live_after c.and-self-inside.ensures ∙ live_more c.self.inside.history.items (Came new) ∙ ap (λ v. v.live ++ new ∷ []) c.self.view_is

pub overflow_cast-len : goal.overflow_cast-len
overflow_cast-len c =
    let i = c.self.inside in
    let most = c.self.invariant.most in
    let few = pieces_size i.slots (live_after i.history.items) i.pieces.items i.places.items c.self.invariant.apart c.self.invariant.table in
    let size : vec_len c.reserve.new.self ≡ length c.reserve.new.self.items = first_of (search rules, grind (arith, common_steps)) in
    let len : c.len.result ≡ length i.pieces.items = c.len.ensures ∙ size ∙ ap length c.reserve.ensures.items in
    record { fits = omega arith }

pub came-requires : goal.came-requires
came-requires c =
    let small = subst (λ v. c.args.id < v.slots) (sym c.self.view_is) c.requires.small in
    subst (λ n. c.args.id < n) (sym c.self.invariant.found.size) small

pub returns-clause-told : goal.returns-clause-told
returns-clause-told c = subst (λ was. MayTell was c.args.id (told_of c.more.new.self)) (ap (λ (v : LivePieces). v.told) c.self.view_is) c.in_ok-more.ensures.told
