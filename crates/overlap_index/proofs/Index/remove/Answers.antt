use Rattle.std.proofs.Common.{◌≡◌, ◌<◌, ◌-◌, ◌∙◌, true, length, Contains, vec_len, get_or, ap, rules, arith, sym, subst}
use Rattle.std.proofs.lemmas.Grind.{common_steps}
use Rattle.overlap_index.specs.declared.Change.TheVariants.{Went}
use Rattle.overlap_index.specs.Changes.{live_after}
use Rattle.placement.specs.Live.{is_live, without_id}
use Rattle.overlap_index.proofs.Linked.{live_small}
use Rattle.overlap_index.proofs.Came.{live_more}
use Rattle.placement.specs.Live.{MayTell}
use Rattle.overlap_index.specs.Tied.{told_of}
use Rattle.overlap_index.proofs.InBuckets.{ends_at}
use Rattle.overlap_index.proofs.Parts.{parts_going, parts_less}
use Rattle.overlap_index.proofs.Placed.{Closes, reads_place, last_small}
use Rattle.overlap_index.proofs.Index.remove.Goals as goal

pub went-requires-clause-small : goal.went-requires-clause-small
went-requires-clause-small c =
    let i = c.self.inside in
    let live = subst (λ v. is_live v.live c.args.id ≡ true) (sym c.self.view_is) c.requires in
    subst (λ n. c.args.id < n) (sym c.self.invariant.found.size) (live_small i.slots (live_after i.history.items) c.args.id c.self.invariant.apart live)

pub went-requires-clause-ends : goal.went-requires-clause-ends
went-requires-clause-ends c =
    let i = c.self.inside in
    ends_at i.slots (live_after i.history.items) i.buckets c.self.invariant.apart c.self.invariant.found c.piece_of.result.now.piece c.piece_of.result.now.rank

pub index-requires : goal.index-requires
index-requires c =
    let parts = c.self.invariant in
    let live = subst (λ v. is_live v.live c.args.id ≡ true) (sym c.self.view_is) c.requires in
    let small = live_small c.self.inside.slots (live_after c.self.inside.history.items) c.args.id parts.apart live in
    let many = parts.table.many in
    grind (arith, common_steps)

pub overflow_sub-len : goal.overflow_sub-len
overflow_sub-len c =
    let i = c.self.inside in
    let live = subst (λ v. is_live v.live c.args.id ≡ true) (sym c.self.view_is) c.requires in
    let at = reads_place i.slots c.args.id c.index.result.now (live_after i.history.items) i.pieces.items i.places.items c.self.invariant.apart c.self.invariant.table live c.index.ensures in
    let inside = at.inside in
    let size = c.len.ensures in
    grind (arith, common_steps)

pub index-requires-2 : goal.index-requires-2
index-requires-2 c =
    let i = c.self.inside in
    let live = subst (λ v. is_live v.live c.args.id ≡ true) (sym c.self.view_is) c.requires in
    let at = reads_place i.slots c.args.id c.index.result.now (live_after i.history.items) i.pieces.items i.places.items c.self.invariant.apart c.self.invariant.table live c.index.ensures in
    let inside = at.inside in
    let size = c.len.ensures in
    grind (arith, common_steps)

pub index_mut-requires : goal.index_mut-requires
index_mut-requires c =
    let i = c.self.inside in
    let live = subst (λ v. is_live v.live c.args.id ≡ true) (sym c.self.view_is) c.requires in
    let at = reads_place i.slots c.args.id c.index.result.now (live_after i.history.items) i.pieces.items i.places.items c.self.invariant.apart c.self.invariant.table live c.index.ensures in
    let inside = at.inside in
    let size : vec_len i.pieces ≡ length i.pieces.items = first_of (search rules, grind (arith, common_steps)) in
    let end : c.index-2.result.now ≡ get_or i.pieces.items (length i.pieces.items - 1) c.index-2.result.now =
    c.index-2.ensures ∙ ap (λ n. get_or i.pieces.items (n - 1) c.index-2.result.now) (c.len.ensures ∙ size) in
    let small = last_small i.slots (live_after i.history.items) i.pieces.items i.places.items c.index-2.result.now c.self.invariant.apart c.self.invariant.table (omega arith) end in
    let many = c.self.invariant.table.many in
    grind (arith, common_steps)

pub swap_remove-requires : goal.swap_remove-requires
swap_remove-requires c =
    let i = c.self.inside in
    let live = subst (λ v. is_live v.live c.args.id ≡ true) (sym c.self.view_is) c.requires in
    let at = reads_place i.slots c.args.id c.index.result.now (live_after i.history.items) i.pieces.items i.places.items c.self.invariant.apart c.self.invariant.table live c.index.ensures in
    let inside = at.inside in
    grind (arith, common_steps)

pub less-requires : goal.less-requires
less-requires c =
    let i = c.self.inside in
    let live = subst (λ v. is_live v.live c.args.id ≡ true) (sym c.self.view_is) c.requires in
    let at = reads_place i.slots c.args.id c.index.result.now (live_after i.history.items) i.pieces.items i.places.items c.self.invariant.apart c.self.invariant.table live c.index.ensures in
    (i.slots, live_after i.history.items, i.pieces.items, parts_going i.slots c.args.id c.index.result.now (live_after i.history.items) i.pieces.items i.places.items i.buckets i.ties live at.inside c.self.invariant, c.self.invariant.tied)

-- the last piece takes the place of the one that goes
pub invariant_of-self : goal.invariant_of-self
invariant_of-self c =
    let i = c.self.inside in
    let live = subst (λ v. is_live v.live c.args.id ≡ true) (sym c.self.view_is) c.requires in
    let at = reads_place i.slots c.args.id c.index.result.now (live_after i.history.items) i.pieces.items i.places.items c.self.invariant.apart c.self.invariant.table live c.index.ensures in
    let size : vec_len i.pieces ≡ length i.pieces.items = first_of (search rules, grind (arith, common_steps)) in
    let new_size : vec_len c.swap_remove.new.self ≡ length c.swap_remove.new.self.items = first_of (search rules, grind (arith, common_steps)) in
    let less = c.swap_remove.ensures.len in
    let end : c.index-2.result.now ≡ get_or i.pieces.items (length i.pieces.items - 1) c.index-2.result.now =
    c.index-2.ensures ∙ ap (λ n. get_or i.pieces.items (n - 1) c.index-2.result.now) (c.len.ensures ∙ size) in
    let after : live_after c.and-self-inside.result.items ≡ without_id (live_after i.history.items) c.args.id = ap live_after c.and-self-inside.ensures ∙ live_more i.history.items (Went c.args.id) in
    let closes : Closes i.pieces.items c.swap_remove.new.self.items c.index.result.now =
    record {
      size = omega arith;
      filled = λ d l. c.swap_remove.ensures.by_index.0 d (omega arith) ∙ ap (λ n. get_or i.pieces.items (n - 1) d) size;
      others = λ k d apart l. c.swap_remove.ensures.by_index.1 k d apart (omega arith);
    } in
    let tied = c.less.ensures.tied i.slots (live_after i.history.items) i.pieces.items c.swap_remove.result
    (parts_going i.slots c.args.id c.index.result.now (live_after i.history.items) i.pieces.items i.places.items i.buckets i.ties live at.inside c.self.invariant) c.self.invariant.tied in
    rw (after, c.went.ensures)
    (parts_less i.slots c.args.id c.piece_of.result.now (live_after i.history.items) i.pieces.items c.swap_remove.new.self.items i.places.items i.buckets i.ties c.less.new.self c.index.result.now c.index-2.result.now c.swap_remove.result
    (subst (λ v. Contains v.live c.piece_of.result.now) (sym c.self.view_is) c.piece_of.ensures.live) c.piece_of.ensures.id at.is (sym end) c.swap_remove.ensures.items closes tied c.self.invariant)

pub returns-clause-live : goal.returns-clause-live
returns-clause-live c =
    ap live_after c.and-self-inside.ensures ∙ live_more c.self.inside.history.items (Went c.args.id) ∙ ap (λ v. without_id v.live c.args.id) c.self.view_is

pub returns-clause-told : goal.returns-clause-told
returns-clause-told c = subst (λ was. MayTell was c.args.id (told_of c.less.new.self)) (ap (λ v. v.told) c.self.view_is) c.less.ensures.told
