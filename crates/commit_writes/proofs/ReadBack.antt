-- Tables that are read back word by word.
use Rattle.std.proofs.Common.{◌≡◌, ℕ, ◌+◌, ◌<◌, ◌≤◌, ◌^◌, List, [], ◌∷◌, ◌++◌, length, take, refl, inl, inr, subst, sym, ap, ◌∙◌, arith, length-append, length-set}
use Rattle.std.specs.Prelude.{slice_index}
use Rattle.std.proofs.Math.ListN.{get_or-append}
use Rattle.std.proofs.Math.Seq.{get_or-append_seam}
use Rattle.std.proofs.lemmas.Bool.{cases_eq, cases_lt}
use Rattle.std.proofs.lemmas.List.{get_or_past, take_more, take_all}
use Rattle.rule_model.specs.declared.Field.{Field}
use Rattle.rule_model.specs.declared.Field.TheVariants.{Src, Dst}
use Rattle.tcam_device.specs.declared.Write.{Write}
use Rattle.tcam_device.specs.declared.Write.TheVariants.{Slot, Table}
use Rattle.tcam_device.specs.State.{State, apply, blank, replay, state_after, table_of}
use Rattle.tcam_device.proofs.States.{IsState-blank}

-- no write changes the size of a table
src-apply : (state : State) (write : Write) → length (apply state write).src ≡ length state.src
src-apply state (Slot at entry) = refl
src-apply state (Table Src port word) = length-set state.src port word
src-apply state (Table Dst port word) = refl

dst-apply : (state : State) (write : Write) → length (apply state write).dst ≡ length state.dst
dst-apply state (Slot at entry) = refl
dst-apply state (Table Src port word) = refl
dst-apply state (Table Dst port word) = length-set state.dst port word

src-after : (state : State) (writes : List Write) → length (state_after state writes).src ≡ length state.src
src-after state [] = refl
src-after state (write ∷ writes) = src-after (apply state write) writes ∙ src-apply state write

dst-after : (state : State) (writes : List Write) → length (state_after state writes).dst ≡ length state.dst
dst-after state [] = refl
dst-after state (write ∷ writes) = dst-after (apply state write) writes ∙ dst-apply state write

-- so a table has a word for each port
pub table_size : (field : Field) (slots : ℕ) (writes : List Write) → length (table_of field (replay slots writes)) ≡ 2 ^ 16
table_size Src slots writes = src-after (blank slots) writes ∙ (IsState-blank slots).src_size
table_size Dst slots writes = dst-after (blank slots) writes ∙ (IsState-blank slots).dst_size

-- one more word is read
pub next_word : (table items more : List ℕ) (i word : ℕ) → i < length table → word ≡ slice_index table i → items ≡ take i table → more ≡ items ++ word ∷ [] → more ≡ take (i + 1) table
next_word table items more i word inside read first put =
    put ∙ (ap (λ (some : List ℕ). some ++ word ∷ []) first ∙ (ap (λ (y : ℕ). take i table ++ y ∷ []) read ∙ sym (take_more table i 0 inside)))

-- and in the end all are
pub all_words : (table items : List ℕ) (i : ℕ) → length table ≤ i → items ≡ take i table → items ≡ table
all_words table items i past read = read ∙ take_all i table past

-- none is too great where one more isn't
pub one_more_short : (items more : List ℕ) (word : ℕ) → word < 2 ^ 16 → ((port : ℕ) → slice_index items port < 2 ^ 16) → more ≡ items ++ word ∷ [] → (port : ℕ) → slice_index more port < 2 ^ 16
one_more_short items more word fits short put port =
    subst (λ (some : List ℕ). slice_index some port < 2 ^ 16) (sym put) (elim (cases_lt port (length items)) [
      | inl below ↦ subst (λ (w : ℕ). w < 2 ^ 16) (sym (get_or-append items (word ∷ []) 0 port below)) (short port)
      | inr past ↦ elim (cases_eq port (length items)) [
        | inl same ↦ subst (λ (w : ℕ). w < 2 ^ 16) (sym (ap (slice_index (items ++ word ∷ [])) same ∙ get_or-append_seam items word [] 0)) fits
        | inr other ↦ let all = length-append items (word ∷ []) in
            subst (λ (w : ℕ). w < 2 ^ 16) (sym (get_or_past (items ++ word ∷ []) port 0 (omega arith))) (omega arith)
      ]
    ])
