use Rattle.std.proofs.Common.{rules, ◌≡◌, ◌<◌, ◌+◌, ◌-◌, ◌∙◌, [], ◌∷◌, ◌++◌, length, vec_len, get_or, arith, Some, None, subst, sym, ap, slice_set, get_or-set_same}
use Rattle.std.specs.Option.{option_to_list}
use Rattle.std.proofs.lemmas.Grind.{common_steps}
use Rattle.std.proofs.lemmas.List.{length-set}
use Rattle.std.proofs.lemmas.List.Elements.{Contains-push}
use Rattle.placement.specs.declared.LivePiece.{LivePiece}
use Rattle.placement.proofs.Above.{is_live_from}
use Rattle.batch_order.proofs.ids.AtIds.{size_is, kept_at, live_still, last_small}
use Rattle.batch_order.proofs.ids.Ids.{kept_more}
use Rattle.batch_order.specs.Entries.{AreKept, live_entries}
use Rattle.batch_order.proofs.entries.LiveEntries.add.Goals as goal

pub index_mut-requires : goal.index_mut-requires
index_mut-requires c =
    let size = size_is c.self.inside.index.live c.self.inside.entries.items in
    let places : length (live_entries c.self.inside.index.live c.self.inside.entries.items) ≡ c.self.inside.index.slots = c.self.invariant.0.places in
    let room : length c.self.inside.index.live < c.self.inside.index.slots = rw (← c.self.view_is) at c.requires.room in
    let some : 0 < length c.self.inside.spare.items = (let count : length c.self.inside.spare.items + length c.self.inside.index.live ≡ c.self.inside.index.slots = c.self.invariant.0.count in omega arith) in
    let full : vec_len c.self.inside.spare ≡ length c.self.inside.spare.items = first_of (search rules, grind (arith, common_steps)) in
    let last : c.index-id.result.now ≡ get_or c.self.inside.spare.items (length c.self.inside.spare.items - 1) c.index-id.result.now =
    c.index-id.ensures ∙ ap (λ n. get_or c.self.inside.spare.items (n - 1) c.index-id.result.now) (c.len.ensures ∙ full) in
    let low : c.index-id.result.now < c.self.inside.index.slots = last_small c.self.inside.index.slots c.self.inside.spare.items c.index-id.result.now c.self.invariant.0.small some last in
    let inside : c.index-id.result.now < length c.self.inside.entries.items = omega arith in
    search (rules, inside)

pub invariant_of-self-2 : goal.invariant_of-self-2
invariant_of-self-2 c =
    let i = c.self.inside in
    let id = c.index-id.result.now in
    let one : LivePiece = record { id = id; piece = c.args.piece.now; rank = c.args.tag } in
    let kept = c.self.invariant.0 in
    let room : length i.index.live < i.index.slots = rw (← c.self.view_is) at c.requires.room in
    let some : 0 < length i.spare.items = (let count : length i.spare.items + length i.index.live ≡ i.index.slots = kept.count in omega arith) in
    let popped : c.pop.result ≡ Some id = search (rules, some) in
    let parts : i.spare.items ≡ c.pop.new.self.items ++ id ∷ [] = subst (λ o. i.spare.items ≡ c.pop.new.self.items ++ option_to_list o) popped c.pop.ensures.items in
    let entries = live_entries i.index.live i.entries.items in
    let before : AreKept i.index.slots i.index.live entries (c.pop.new.self.items ++ id ∷ []) = subst (λ s. AreKept i.index.slots i.index.live entries s) parts kept in
    let entries' = live_entries (i.index.live ++ one ∷ []) (slice_set i.entries.items id c.entry_of.result) in
    let same : length entries' ≡ length entries =
    size_is (i.index.live ++ one ∷ []) (slice_set i.entries.items id c.entry_of.result) ∙ length-set i.entries.items id c.entry_of.result ∙ sym (size_is i.index.live i.entries.items) in
    let after = kept_more i.index.slots i.index.live entries entries' c.pop.new.self.items one before same in
    (rw (c.add.ensures.slots, c.in_ok-add.ensures.live) after, rw c.add.ensures.slots (search (rules, c.self.invariant.1)))

pub returns-clause-entries : goal.returns-clause-entries
returns-clause-entries c =
    let i = c.self.inside in
    let id = c.index-id.result.now in
    let one : LivePiece = record { id = id; piece = c.args.piece.now; rank = c.args.tag } in
    let size = size_is i.index.live i.entries.items in
    let places : length (live_entries i.index.live i.entries.items) ≡ i.index.slots = c.self.invariant.0.places in
    let room : length c.self.inside.index.live < c.self.inside.index.slots = rw (← c.self.view_is) at c.requires.room in
    let some : 0 < length c.self.inside.spare.items = (let count : length c.self.inside.spare.items + length c.self.inside.index.live ≡ c.self.inside.index.slots = c.self.invariant.0.count in omega arith) in
    let full : vec_len c.self.inside.spare ≡ length c.self.inside.spare.items = first_of (search rules, grind (arith, common_steps)) in
    let last : c.index-id.result.now ≡ get_or c.self.inside.spare.items (length c.self.inside.spare.items - 1) c.index-id.result.now =
    c.index-id.ensures ∙ ap (λ n. get_or c.self.inside.spare.items (n - 1) c.index-id.result.now) (c.len.ensures ∙ full) in
    let low : c.index-id.result.now < c.self.inside.index.slots = last_small c.self.inside.index.slots c.self.inside.spare.items c.index-id.result.now c.self.invariant.0.small some last in
    let small : id < length i.entries.items = omega arith in
    rw (← c.self.view_is, c.in_ok-add.ensures.live, c.entry_of.ensures.entry)
    (kept_at i.index.live (i.index.live ++ one ∷ []) i.entries.items id _ small (is_live_from (i.index.live ++ one ∷ []) one (Contains-push i.index.live one)) (live_still i.index.live one))

pub returns-clause-entry : goal.returns-clause-entry
returns-clause-entry c =
    let i = c.self.inside in
    let id = c.index-id.result.now in
    let one : LivePiece = record { id = id; piece = c.args.piece.now; rank = c.args.tag } in
    let size = size_is i.index.live i.entries.items in
    let places : length (live_entries i.index.live i.entries.items) ≡ i.index.slots = c.self.invariant.0.places in
    let room : length c.self.inside.index.live < c.self.inside.index.slots = rw (← c.self.view_is) at c.requires.room in
    let some : 0 < length c.self.inside.spare.items = (let count : length c.self.inside.spare.items + length c.self.inside.index.live ≡ c.self.inside.index.slots = c.self.invariant.0.count in omega arith) in
    let full : vec_len c.self.inside.spare ≡ length c.self.inside.spare.items = first_of (search rules, grind (arith, common_steps)) in
    let last : c.index-id.result.now ≡ get_or c.self.inside.spare.items (length c.self.inside.spare.items - 1) c.index-id.result.now =
    c.index-id.ensures ∙ ap (λ n. get_or c.self.inside.spare.items (n - 1) c.index-id.result.now) (c.len.ensures ∙ full) in
    let low : c.index-id.result.now < c.self.inside.index.slots = last_small c.self.inside.index.slots c.self.inside.spare.items c.index-id.result.now c.self.invariant.0.small some last in
    let inside : id < length (live_entries i.index.live i.entries.items) = omega arith in
    let small : id < length i.entries.items = omega arith in
    rw (c.in_ok-add.ensures.live, c.entry_of.ensures.entry)
    (ap (λ entries. get_or entries id None) (kept_at i.index.live (i.index.live ++ one ∷ []) i.entries.items id _ small (is_live_from (i.index.live ++ one ∷ []) one (Contains-push i.index.live one)) (live_still i.index.live one))
    ∙ get_or-set_same (live_entries i.index.live i.entries.items) id _ None inside)
