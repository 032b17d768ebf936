-- What it says of a batch that it is accepted.
use Rattle.std.proofs.Common.{◌≡◌, ℕ, ◌+◌, ◌-◌, ◌≤◌, Bool, true, false, Option, Some, None, List, length, refl}
use Rattle.std.specs.Prelude.{nat_lt}
use Rattle.std.proofs.lemmas.Bool.{ltb-false}
use Rattle.rule_model.specs.declared.Rule.{Rule}
use Rattle.rule_model.specs.declared.Field.{Field}
use Rattle.rule_model.specs.declared.Field.TheVariants.{Src, Dst}
use Rattle.rule_store.specs.declared.BatchFault.{BatchFault}
use Rattle.rule_store.specs.declared.Command.{Command}
use Rattle.rule_store.specs.declared.Mode.{Mode}
use Rattle.rule_store.specs.declared.Mode.TheVariants.{Cover, Bits}
use Rattle.rule_store.specs.Batch.{batch_fault}
use Rattle.rule_store.specs.Verdict.{Verdict, Accepted, Unsound, OutOfBits, bits_verdict, coded_ranges, field_bits, new_ranges, room_verdict, slots_verdict, verdict, verdict_by}
use Rattle.commit_writes.specs.Serving.{HaveFreeBits}

-- what is accepted has enough
bits_room : (field : Field) (rules : List Rule) (batch : List Command) (rest : Verdict) → bits_verdict field rules batch rest ≡ Accepted
    → (length (coded_ranges field rules) + length (new_ranges field rules batch) ≤ field_bits) × (rest ≡ Accepted)
bits_room field rules batch rest accepted =
    let w = go (nat_lt field_bits (length (coded_ranges field rules) + length (new_ranges field rules batch))) accepted in (ltb-false _ _ w.0, w.1)
  where
    go : (over : Bool) → elim over [ true ↦ OutOfBits field (length (new_ranges field rules batch)) (field_bits - length (coded_ranges field rules)) | false ↦ rest ] ≡ Accepted → (over ≡ false) × (rest ≡ Accepted)
    go true bad = absurd (cc)
    go false fits = (refl, fits)

-- an accepted batch is sound, and its new ranges fit the free bits
pub record IsTaken (mode : Mode) (rules : List Rule) (batch : List Command) : Type 0 where
  pub sound : batch_fault rules batch ≡ None
  pub few : HaveFreeBits mode rules batch

pub taken : (slots : ℕ) (mode : Mode) (rules : List Rule) (batch : List Command) → verdict slots mode rules batch ≡ Accepted → IsTaken mode rules batch
taken slots mode rules batch accepted = go (batch_fault rules batch) refl accepted
  where
    room : (mode : Mode) → room_verdict slots mode rules batch ≡ Accepted → HaveFreeBits mode rules batch
    room Cover fits = tt
    room Bits fits =
        let src = bits_room Src rules batch (bits_verdict Dst rules batch (slots_verdict slots Bits rules batch)) fits in
        let dst = bits_room Dst rules batch (slots_verdict slots Bits rules batch) src.1 in
        (src.0, dst.0)

    go : (fault : Option BatchFault) → batch_fault rules batch ≡ fault → verdict_by fault (room_verdict slots mode rules batch) ≡ Accepted → IsTaken mode rules batch
    go None sound fits = record { sound = sound; few = room mode fits }
    go (Some fault) unsound bad = absurd (let wrong : Unsound fault ≡ Accepted = bad in cc)
