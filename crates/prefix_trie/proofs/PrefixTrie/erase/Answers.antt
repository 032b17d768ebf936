use Rattle.std.proofs.Common.{◌≡◌, ◌++◌, take, drop, true, ℕ, List, Option, None, sym, ◌∙◌, ap, subst}
use Rattle.std.specs.Prelude.{is_some, length, replicate}
use Rattle.std.proofs.lemmas.List.Sums.{fold_push}
use Rattle.prefix_trie.specs.declared.Change.TheVariants.{Left}
use Rattle.prefix_trie.specs.Routes.{Routes, route_of}
use Rattle.prefix_trie.specs.Changes.{routes_after, changed, with_slot}
use Rattle.prefix_trie.specs.Trie.{AreParts}
use Rattle.prefix_trie.proofs.Parts.{whole_of}
use Rattle.prefix_trie.proofs.PrefixTrie.erase.Goals as goal

pub stand_at-requires : goal.stand_at-requires
stand_at-requires c =
    let lent =
    subst (λ (ps : List (Option ℕ)). AreParts (routes_after (length c.self.inside.places.items) c.self.inside.history.items) ps c.deref_mut.result.now) (sym c.deref.ensures.value)
    (subst (AreParts (routes_after (length c.self.inside.places.items) c.self.inside.history.items) c.self.inside.places.items) (sym c.deref_mut.ensures.value) c.self.invariant) in
    let some = subst (λ (r : Routes). is_some (route_of r c.args.id) ≡ true) (sym c.self.view_is) c.requires in
    (routes_after (length c.self.inside.places.items) c.self.inside.history.items, lent, some)

pub invariant_of-self : goal.invariant_of-self
invariant_of-self c =
    let lent =
    subst (λ (ps : List (Option ℕ)). AreParts (routes_after (length c.self.inside.places.items) c.self.inside.history.items) ps c.deref_mut.result.now) (sym c.deref.ensures.value)
    (subst (AreParts (routes_after (length c.self.inside.places.items) c.self.inside.history.items) c.self.inside.places.items) (sym c.deref_mut.ensures.value) c.self.invariant) in
    let some = subst (λ (r : Routes). is_some (route_of r c.args.id) ≡ true) (sym c.self.view_is) c.requires in
    let given = c.stand_at.ensures (routes_after (length c.self.inside.places.items) c.self.inside.history.items) lent some in
    let done : AreParts (with_slot (routes_after (length c.self.inside.places.items) c.self.inside.history.items) c.args.id None) c.deref.result.now c.stand_at.new.nodes = subst (λ (s : Option ℕ). AreParts (with_slot (routes_after (length c.self.inside.places.items) c.self.inside.history.items) c.args.id s) c.deref.result.now c.stand_at.new.nodes) c.none.ensures given in
    let all : length c.stand_at.new.nodes ≡ c.self.inside.nodes.len = c.stand_at.auto.nodes ∙ c.deref_mut.ensures.len in
    let history = ap (routes_after (length c.self.inside.places.items)) c.and-self-inside.ensures ∙ fold_push changed (replicate (length c.self.inside.places.items) None) c.self.inside.history.items (Left c.args.id) in
    let placed = subst (λ (ps : List (Option ℕ)). AreParts (with_slot (routes_after (length c.self.inside.places.items) c.self.inside.history.items) c.args.id None) ps c.stand_at.new.nodes) c.deref.ensures.value done in
    subst (λ (r : Routes). AreParts r c.self.inside.places.items (take c.self.inside.nodes.len (c.stand_at.new.nodes ++ drop (length c.stand_at.new.nodes) c.self.inside.nodes.items))) (sym history)
    (subst (AreParts (with_slot (routes_after (length c.self.inside.places.items) c.self.inside.history.items) c.args.id None) c.self.inside.places.items) (sym (whole_of c.stand_at.new.nodes c.self.inside.nodes.items c.self.inside.nodes.len all)) placed)
