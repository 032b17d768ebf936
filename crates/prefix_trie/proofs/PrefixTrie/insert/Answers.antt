use Rattle.std.proofs.Common.{◌≡◌, ◌++◌, take, drop, ℕ, List, Option, None, sym, ◌∙◌, ap, subst}
use Rattle.std.specs.Prelude.{length}
use Rattle.prefix_trie.specs.declared.node.Node.{Node}
use Rattle.prefix_trie.specs.declared.Change.TheVariants.{Came}
use Rattle.prefix_trie.specs.Routes.{Routes, route_of, IsNew, HasPrefix}
use Rattle.prefix_trie.specs.Changes.{routes_after}
use Rattle.prefix_trie.specs.Trie.{AreParts, IsDeepest, IsIdOf, IsRoom, IsTrie}
use Rattle.prefix_trie.proofs.Parts.{whole_of}
use Rattle.prefix_trie.proofs.Entered.{parts-same}
use Rattle.prefix_trie.proofs.Rooms.{deep-kept, room-kept}
use Rattle.prefix_trie.proofs.Shown.{parts-shown}
use Rattle.prefix_trie.proofs.Walked.{new_if_none, had_if_some}
use Rattle.prefix_trie.proofs.PrefixTrie.insert.Goals as goal

pub deepest-deep-requires : goal.deepest-deep-requires
deepest-deep-requires c = subst IsTrie (sym c.deref.ensures.value) c.self.invariant.trie

pub id_in-requires-clause-trie : goal.id_in-requires-clause-trie
id_in-requires-clause-trie c = subst IsTrie (sym c.deref-2.ensures.value) c.self.invariant.trie

pub id_in-requires-clause-deep : goal.id_in-requires-clause-deep
id_in-requires-clause-deep c =
    subst (λ (ns : List (Option Node)). IsDeepest ns c.args.prefix.now c.deepest-deep.result) (c.deref.ensures.value ∙ sym c.deref-2.ensures.value) c.deepest-deep.ensures

pub invariant_of-self : goal.invariant_of-self
invariant_of-self c =
    parts-same (routes_after (length c.self.inside.places.items) c.self.inside.history.items) c.self.inside.places.items c.self.inside.nodes.items c.room.new.nodes.items c.self.invariant c.room.ensures.like c.room.ensures.few

pub invariant_of-self-in_err-second : goal.invariant_of-self-in_err-second
invariant_of-self-in_err-second c =
    parts-same (routes_after (length c.self.inside.places.items) c.self.inside.history.items) c.self.inside.places.items c.room.new.nodes.items c.room-2.new.nodes.items
    (parts-same (routes_after (length c.self.inside.places.items) c.self.inside.history.items) c.self.inside.places.items c.self.inside.nodes.items c.room.new.nodes.items c.self.invariant c.room.ensures.like c.room.ensures.few)
    c.room-2.ensures.like c.room-2.ensures.few

pub enter-requires-clause-parts : goal.enter-requires-clause-parts
enter-requires-clause-parts c =
    let kept =
    parts-same (routes_after (length c.self.inside.places.items) c.self.inside.history.items) c.self.inside.places.items c.room.new.nodes.items c.room-2.new.nodes.items
    (parts-same (routes_after (length c.self.inside.places.items) c.self.inside.history.items) c.self.inside.places.items c.self.inside.nodes.items c.room.new.nodes.items c.self.invariant c.room.ensures.like c.room.ensures.few)
    c.room-2.ensures.like c.room-2.ensures.few in
    let lent =
    subst (λ (ps : List (Option ℕ)). AreParts (routes_after (length c.self.inside.places.items) c.self.inside.history.items) ps c.deref_mut.result.now) (sym c.deref_mut-2.ensures.value)
    (subst (AreParts (routes_after (length c.self.inside.places.items) c.self.inside.history.items) c.self.inside.places.items) (sym c.deref_mut.ensures.value) kept) in
    let absent = subst (λ (r : Routes). route_of r c.args.id ≡ None) (sym c.self.view_is) c.requires.absent in
    let fresh = new_if_none (routes_after (length c.self.inside.places.items) c.self.inside.history.items) c.self.inside.places.items c.self.inside.nodes.items c.self.invariant.held c.args.prefix.now c.id_in.result
    (subst (λ (ns : List (Option Node)). IsIdOf ns c.args.prefix.now c.id_in.result) c.deref-2.ensures.value c.id_in.ensures) (sym c.is_some.ensures ∙ c.if-is_some.false) in
    (routes_after (length c.self.inside.places.items) c.self.inside.history.items, lent, absent, fresh)

pub enter-requires-clause-first : goal.enter-requires-clause-first
enter-requires-clause-first c =
    subst (λ (ns : List (Option Node)). IsRoom ns 0 c.in_ok-first.first) (sym c.deref_mut.ensures.value)
    (room-kept c.room.new.nodes.items c.room-2.new.nodes.items 0 c.in_ok-first.first c.room-2.ensures.like c.room-2.ensures.grown c.in_ok-first.ensures.room)

pub invariant_of-self-2 : goal.invariant_of-self-2
invariant_of-self-2 c =
    let kept =
    parts-same (routes_after (length c.self.inside.places.items) c.self.inside.history.items) c.self.inside.places.items c.room.new.nodes.items c.room-2.new.nodes.items
    (parts-same (routes_after (length c.self.inside.places.items) c.self.inside.history.items) c.self.inside.places.items c.self.inside.nodes.items c.room.new.nodes.items c.self.invariant c.room.ensures.like c.room.ensures.few)
    c.room-2.ensures.like c.room-2.ensures.few in
    let lent =
    subst (λ (ps : List (Option ℕ)). AreParts (routes_after (length c.self.inside.places.items) c.self.inside.history.items) ps c.deref_mut.result.now) (sym c.deref_mut-2.ensures.value)
    (subst (AreParts (routes_after (length c.self.inside.places.items) c.self.inside.history.items) c.self.inside.places.items) (sym c.deref_mut.ensures.value) kept) in
    let absent = subst (λ (r : Routes). route_of r c.args.id ≡ None) (sym c.self.view_is) c.requires.absent in
    let fresh = new_if_none (routes_after (length c.self.inside.places.items) c.self.inside.history.items) c.self.inside.places.items c.self.inside.nodes.items c.self.invariant.held c.args.prefix.now c.id_in.result
    (subst (λ (ns : List (Option Node)). IsIdOf ns c.args.prefix.now c.id_in.result) c.deref-2.ensures.value c.id_in.ensures) (sym c.is_some.ensures ∙ c.if-is_some.false) in
    let all_places : length c.enter.new.places ≡ c.self.inside.places.len = c.enter.auto.places ∙ c.deref_mut-2.ensures.len in
    let all_nodes : length c.enter.new.nodes ≡ c.room-2.new.nodes.len = c.enter.auto.nodes ∙ c.deref_mut.ensures.len in
    let many : length c.enter.new.places ≡ length c.self.inside.places.items = c.enter.auto.places ∙ ap (λ (ps : List (Option ℕ)). length ps) c.deref_mut-2.ensures.value in
    parts-shown (length c.self.inside.places.items) c.self.inside.history.items c.and-self-inside.result.items (Came c.args.id c.args.prefix.now) c.enter.new.places
    (take c.self.inside.places.len (c.enter.new.places ++ drop (length c.enter.new.places) c.self.inside.places.items)) c.enter.new.nodes
    (take c.room-2.new.nodes.len (c.enter.new.nodes ++ drop (length c.enter.new.nodes) c.room-2.new.nodes.items)) c.and-self-inside.ensures
    (whole_of c.enter.new.places c.self.inside.places.items c.self.inside.places.len all_places) (whole_of c.enter.new.nodes c.room-2.new.nodes.items c.room-2.new.nodes.len all_nodes) many
    (c.enter.ensures (routes_after (length c.self.inside.places.items) c.self.inside.history.items) lent absent fresh)

pub enter-requires-clause-deep : goal.enter-requires-clause-deep
enter-requires-clause-deep c =
    subst (λ (ns : List (Option Node)). IsDeepest ns c.args.prefix.now c.deepest-deep.result) (sym c.deref_mut.ensures.value)
    (deep-kept c.room.new.nodes.items c.room-2.new.nodes.items c.args.prefix.now c.deepest-deep.result c.room-2.ensures.like
    (deep-kept c.self.inside.nodes.items c.room.new.nodes.items c.args.prefix.now c.deepest-deep.result c.room.ensures.like
    (subst (λ (ns : List (Option Node)). IsDeepest ns c.args.prefix.now c.deepest-deep.result) c.deref.ensures.value c.deepest-deep.ensures)))

pub returns-then-is_some-clause-taken : goal.returns-then-is_some-clause-taken
returns-then-is_some-clause-taken c lacks =
    subst (λ (r : Routes). (other : ℕ) × HasPrefix r c.args.prefix.now other) c.self.view_is
    (had_if_some (routes_after (length c.self.inside.places.items) c.self.inside.history.items) c.self.inside.places.items c.self.inside.nodes.items c.self.invariant.held c.args.prefix.now c.id_in.result
    (subst (λ (ns : List (Option Node)). IsIdOf ns c.args.prefix.now c.id_in.result) c.deref-2.ensures.value c.id_in.ensures) (sym c.is_some.ensures ∙ c.if-is_some.true))

pub returns-clause-new : goal.returns-clause-new
returns-clause-new c has =
    subst (λ (r : Routes). IsNew r c.args.prefix.now) c.self.view_is
    (new_if_none (routes_after (length c.self.inside.places.items) c.self.inside.history.items) c.self.inside.places.items c.self.inside.nodes.items c.self.invariant.held c.args.prefix.now c.id_in.result
    (subst (λ (ns : List (Option Node)). IsIdOf ns c.args.prefix.now c.id_in.result) c.deref-2.ensures.value c.id_in.ensures) (sym c.is_some.ensures ∙ c.if-is_some.false))
