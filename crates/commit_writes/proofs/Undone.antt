-- Undo writes lead back through the states that the writes passed.
use Rattle.std.proofs.Common.{◌≡◌, suc, ◌-◌, List, [], ◌∷◌, ◌++◌, length, take, inl, inr, refl, sym, ◌∙◌, ap, arith, append_assoc, length-append}
use Rattle.std.proofs.lemmas.Bool.{cases_lt}
use Rattle.std.proofs.lemmas.List.{set-get_or, set-set, take-append-le, take_all}
use Rattle.std.proofs.Math.Seq.{take-nil}
use Rattle.rule_model.specs.declared.Field.TheVariants.{Src, Dst}
use Rattle.tcam_device.specs.declared.Write.{Write}
use Rattle.tcam_device.specs.declared.Write.TheVariants.{Slot, Table}
use Rattle.tcam_device.specs.State.{State, apply, state_after}
use Rattle.tcam_device.proofs.Spans.{state_after-append}
use Rattle.commit_writes.specs.Undo.{restoring, undo_writes, PassesNoNewState, EndsWhereItBegan}

-- what a write's slot or word held is put back
pub restored : (state : State) (write : Write) → apply (apply state write) (restoring state write) ≡ state
restored state (Slot at entry) =
    ap (λ xs. let s : State = record state { slots = xs } in s) (set-set state.slots at entry _ ∙ set-get_or state.slots at _)
restored state (Table Src port word) =
    ap (λ xs. let s : State = record state { src = xs } in s) (set-set state.src port word _ ∙ set-get_or state.src port 0)
restored state (Table Dst port word) =
    ap (λ xs. let s : State = record state { dst = xs } in s) (set-set state.dst port word _ ∙ set-get_or state.dst port 0)

pub length-undo_writes : (state : State) (writes : List Write) → length (undo_writes state writes) ≡ length writes
length-undo_writes state [] = refl
length-undo_writes state (write ∷ writes) =
    let rest = length-undo_writes (apply state write) writes in
    let more = length-append (undo_writes (apply state write) writes) (restoring state write ∷ []) in
    omega arith

-- one write more behind some
state_after-one : (state : State) (a b : List Write) (write : Write) → state_after state (a ++ (b ++ write ∷ [])) ≡ apply (state_after state (a ++ b)) write
state_after-one state a b write =
    ap (state_after state) (sym (append_assoc a b (write ∷ []))) ∙ state_after-append state (a ++ b) (write ∷ [])

pub undo_ends : EndsWhereItBegan
undo_ends state [] = refl
undo_ends state (write ∷ writes) =
    state_after-one (apply state write) writes (undo_writes (apply state write) writes) (restoring state write)
    ∙ ap (λ s. apply s (restoring state write)) (undo_ends (apply state write) writes) ∙ restored state write

pub undo_passes : PassesNoNewState
undo_passes state [] n below = ap (state_after state) (take-nil n) ∙ ap (state_after state) (sym (take-nil (0 - n)))
undo_passes state (write ∷ writes) n below =
    let size = length-undo_writes (apply state write) writes in
    let whole = length-undo_writes state (write ∷ writes) in
    elim (cases_lt (length writes) n) [
      | inl past ↦
          let all : take n (undo_writes state (write ∷ writes)) ≡ undo_writes state (write ∷ writes) = take_all n (undo_writes state (write ∷ writes)) (omega arith) in
          let none : take (length (write ∷ writes) - n) (write ∷ writes) ≡ [] =
          ap (λ k. take k (write ∷ writes)) (let e : length (write ∷ writes) - n ≡ 0 = omega arith in e) in
          ap (λ zs. state_after state ((write ∷ writes) ++ zs)) all ∙ undo_ends state (write ∷ writes) ∙ ap (state_after state) (sym none)
      | inr inside ↦
          let front : take n (undo_writes state (write ∷ writes)) ≡ take n (undo_writes (apply state write) writes) =
          take-append-le n (undo_writes (apply state write) writes) (restoring state write ∷ []) (omega arith) in
          let one : length (write ∷ writes) - n ≡ suc (length writes - n) = omega arith in
          ap (λ zs. state_after state ((write ∷ writes) ++ zs)) front ∙ undo_passes (apply state write) writes n inside
          ∙ ap (λ k. state_after state (take k (write ∷ writes))) (sym one)
    ]
