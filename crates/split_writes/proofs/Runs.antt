-- More writes behind some add insertions and change none.
use Rattle.std.proofs.Common.{◌≡◌, Bool, true, false, None, Some, List, [], ◌∷◌, ◌++◌, refl, ap}
use Rattle.rule_model.specs.declared.words.Entry.{Entry}
use Rattle.tcam_device.specs.declared.Write.{Write}
use Rattle.tcam_device.specs.declared.Write.TheVariants.{Slot, Table}
use Rattle.tcam_device.specs.State.{State, apply}
use Rattle.tcam_device.specs.Insertion.{Insertion, is_new, insertions_from}

-- some insertions and more behind them
abbrev pub AreFirstOf : List Insertion → List Insertion → Type 0
AreFirstOf some all = (more : List Insertion) × (all ≡ some ++ more)

-- the insertions behind a write of an entry, new or not
abbrev cut : Bool → State → List Write → Entry → State → List Write → List Insertion
cut new begun longer entry next writes =
    elim new [
      | true ↦ record { before = begun; writes = longer; entry = entry } ∷ insertions_from next [] next writes
      | false ↦ insertions_from begun longer next writes
    ]

cut_more : (new : Bool) (begun : State) (longer : List Write) (entry : Entry) (next : State) (xs ys : List Write)
    → AreFirstOf (insertions_from next [] next xs) (insertions_from next [] next (xs ++ ys)) → AreFirstOf (insertions_from begun longer next xs) (insertions_from begun longer next (xs ++ ys))
    → AreFirstOf (cut new begun longer entry next xs) (cut new begun longer entry next (xs ++ ys))
cut_more true begun longer entry next xs ys ended on = (ended.0, ap (λ rest. record { before = begun; writes = longer; entry = entry } ∷ rest) ended.1)
cut_more false begun longer entry next xs ys ended on = on

pub insertions_more : (begun : State) (run : List Write) (state : State) (xs ys : List Write) → AreFirstOf (insertions_from begun run state xs) (insertions_from begun run state (xs ++ ys))
insertions_more begun run state [] ys = (insertions_from begun run state ys, refl)
insertions_more begun run state (Slot at (Some entry) ∷ xs) ys =
    let next = apply state (Slot at (Some entry)) in
    let longer = run ++ Slot at (Some entry) ∷ [] in
    cut_more (is_new state entry) begun longer entry next xs ys (insertions_more next [] next xs ys) (insertions_more begun longer next xs ys)
insertions_more begun run state (Slot at None ∷ xs) ys = insertions_more begun (run ++ Slot at None ∷ []) (apply state (Slot at None)) xs ys
insertions_more begun [] state (Table field port word ∷ xs) ys =
    insertions_more (apply state (Table field port word)) [] (apply state (Table field port word)) xs ys
insertions_more begun (first ∷ run) state (Table field port word ∷ xs) ys = insertions_more begun (first ∷ run) (apply state (Table field port word)) xs ys
