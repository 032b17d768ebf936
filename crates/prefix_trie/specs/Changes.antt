-- The routes after some came, went and moved.
use Rattle.std.specs.Prelude.{ℕ, List, Option, Some, None, fold, replicate, slice_set}
use Rattle.prefix_trie.specs.declared.Change.{Change}
use Rattle.prefix_trie.specs.declared.Change.TheVariants.{Came, Went, Stood, Left}
use Rattle.prefix_trie.specs.Routes.{Route, Routes, route_of}

-- an id that has this gets a slot, or none
abbrev pub moved : Routes → ℕ → Option ℕ → Option Route → Routes
moved routes id slot None = routes
moved routes id slot (Some route) = slice_set routes id (Some (record { block = route.block; slot = slot }))

-- an id gets a slot, or none
abbrev pub with_slot : Routes → ℕ → Option ℕ → Routes
with_slot routes id slot = moved routes id slot (route_of routes id)

-- one change
abbrev pub changed : Routes → Change → Routes
changed routes (Came id prefix) = slice_set routes id (Some (record { block = prefix; slot = None }))
changed routes (Went id) = slice_set routes id None
changed routes (Stood id slot) = with_slot routes id (Some slot)
changed routes (Left id) = with_slot routes id None

-- all of them, from none, the oldest first
abbrev pub routes_after : ℕ → List Change → Routes
routes_after ids changes = fold changed (replicate ids None) changes
