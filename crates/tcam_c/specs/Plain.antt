-- What the structs that cross to C say.
use Rattle.std.specs.Prelude.{◌≡◌, ℕ, ◌+◌, ◌*◌, ◌^◌, Option, Some, None, replicate}
use Rattle.rule_model.specs.Rank.{rank_of}
use Rattle.rule_model.specs.RuleSet.{Answer}
use Rattle.rule_model.specs.declared.Rule.{Rule}
use Rattle.rule_model.specs.declared.Field.{Field}
use Rattle.rule_model.specs.declared.Field.TheVariants.{Src, Dst}
use Rattle.rule_model.specs.declared.words.Entry.{Entry}
use Rattle.tcam_device.specs.declared.Action.{Action}
use Rattle.tcam_device.specs.declared.Action.TheVariants.{Written, Drained}
use Rattle.tcam_device.specs.declared.Write.TheVariants.{Slot, Table}
use Rattle.split_device.specs.declared.SplitAction.{SplitAction}
use Rattle.split_device.specs.declared.SplitAction.TheVariants as split_action
use Rattle.split_device.specs.declared.SplitWrite.TheVariants as split
use Rattle.rule_store.specs.declared.BatchFault.TheVariants.{Twice, Taken, Absent}
use Rattle.readback.specs.declared.Rejection.TheVariants.{Unsound, Bits, Slots}
use Rattle.batch_order.specs.declared.Refusal.{Refusal}
use Rattle.batch_order.specs.declared.Refusal.TheVariants.{Busy, Rejected, Memory}
use Rattle.tcam_c.specs.declared.plain.TcamAddress.{TcamAddress}
use Rattle.tcam_c.specs.declared.plain.TcamStored.{TcamStored}
use Rattle.tcam_c.specs.declared.plain.TcamTag.{TcamTag}
use Rattle.tcam_c.specs.declared.plain.TcamWrite.{TcamWrite}
use Rattle.tcam_c.specs.declared.plain.TcamAnswer.{TcamAnswer}
use Rattle.tcam_c.specs.declared.plain.TcamRefusal.{TcamRefusal}

-- the number that a tag stands for
abbrev pub tag_number : TcamTag → ℕ
tag_number tag = rank_of tag.high (tag.low_upper * 2 ^ 64 + tag.low_lower)

-- the tag of a priority
abbrev pub IsTag : ℕ → TcamTag → Type 0
IsTag rank tag = tag_number tag ≡ rank

-- the number that an address stands for, of 128 bits
abbrev pub address_number : TcamAddress → ℕ
address_number address = address.upper * 2 ^ 64 + address.lower

-- a protocol as a number, with 256 for any
abbrev pub protocol_code : Option ℕ → ℕ
protocol_code None = 256
protocol_code (Some protocol) = protocol

-- a rule of the set
pub record IsStoredTold (rule : Rule) (told : TcamStored) : Type 0 where
  pub tag : IsTag rule.priority told.tag
  pub source : address_number told.source ≡ rule.src.addr
  pub source_length : told.source_length ≡ rule.src.len
  pub destination : address_number told.destination ≡ rule.dst.addr
  pub destination_length : told.destination_length ≡ rule.dst.len
  pub protocol : told.protocol ≡ protocol_code rule.proto
  pub source_port_first : told.source_port_first ≡ rule.sport.lo
  pub source_port_last : told.source_port_last ≡ rule.sport.hi
  pub destination_port_first : told.destination_port_first ≡ rule.dport.lo
  pub destination_port_last : told.destination_port_last ≡ rule.dport.hi
  pub result : told.result ≡ rule.result

-- a field as a number
abbrev pub field_code : Field → ℕ
field_code Src = 0
field_code Dst = 1

-- a slot or none, as a number
abbrev pub no_slot_number : ℕ
no_slot_number = 4294967295

abbrev pub slot_number : Option ℕ → ℕ
slot_number None = no_slot_number
slot_number (Some slot) = slot

-- a tag that tells nothing, and what is due and what a refusal tells where no field is named
abbrev pub no_tag : TcamTag
no_tag = record { high = 0; low_upper = 0; low_lower = 0 }

abbrev pub no_write : TcamWrite
no_write =
    record {
      kind = 0;
      slot = 0;
      from = no_slot_number;
      value = replicate 11 0;
      mask = replicate 11 0;
      tag = no_tag;
      result = 0;
      field = 0;
      port = 0;
      word = 0;
    }

abbrev pub no_refusal : TcamRefusal
no_refusal = record { left = 0; tag = no_tag; field = 0; need = 0; free = 0 }

-- an entry that a slot gets, from this slot if it stands in one
pub record IsPutWrite (slot : ℕ) (entry : Entry) (from : Option ℕ) (write : TcamWrite) : Type 0 where
  pub kind : write.kind ≡ 1
  pub slot_is : write.slot ≡ slot
  pub from_is : write.from ≡ slot_number from
  pub value : write.value ≡ entry.value.lane
  pub mask : write.mask ≡ entry.mask.lane
  pub tag : IsTag entry.tag write.tag
  pub result : write.result ≡ entry.result
  pub no_field : write.field ≡ 0
  pub no_port : write.port ≡ 0
  pub no_word : write.word ≡ 0

-- what is due, with 0 in the fields that its kind doesn't name, and no slot that it comes from unless it is an entry
abbrev pub IsDueWrite : Option Action → Option ℕ → TcamWrite → Type 0
IsDueWrite None from write = write ≡ no_write
IsDueWrite (Some (Written (Slot slot None))) from write = write ≡ record no_write { kind = 2; slot = slot }
IsDueWrite (Some (Written (Slot slot (Some entry)))) from write = IsPutWrite slot entry from write
IsDueWrite (Some (Written (Table field port word))) from write =
    write ≡ record no_write { kind = 3; field = field_code field; port = port; word = word }
IsDueWrite (Some Drained) from write = write ≡ record no_write { kind = 4 }

-- a result word that a slot gets
pub record IsResultWrite (slot tag given : ℕ) (write : TcamWrite) : Type 0 where
  pub kind : write.kind ≡ 5
  pub slot_is : write.slot ≡ slot
  pub no_from : write.from ≡ no_slot_number
  pub no_value : write.value ≡ replicate 11 0
  pub no_mask : write.mask ≡ replicate 11 0
  pub tag_is : IsTag tag write.tag
  pub result : write.result ≡ given
  pub no_field : write.field ≡ 0
  pub no_port : write.port ≡ 0
  pub no_word : write.word ≡ 0

-- what is due where results stand beside the slots, likewise: a slot is put its value and its mask, and no part comes from a slot
abbrev pub IsDuePart : Option SplitAction → TcamWrite → Type 0
IsDuePart None write = write ≡ no_write
IsDuePart (Some (split_action.Written (split.Slot slot None))) write = write ≡ record no_write { kind = 2; slot = slot }
IsDuePart (Some (split_action.Written (split.Slot slot (Some (value, mask))))) write =
    write ≡ record no_write { kind = 1; slot = slot; value = value.lane; mask = mask.lane }
IsDuePart (Some (split_action.Written (split.Result slot tag given))) write = IsResultWrite slot tag given write
IsDuePart (Some (split_action.Written (split.Table field port word))) write =
    write ≡ record no_write { kind = 3; field = field_code field; port = port; word = word }
IsDuePart (Some split_action.Drained) write = write ≡ record no_write { kind = 4 }

-- what a key is answered
abbrev pub IsAnswer : Answer → TcamAnswer → Type 0
IsAnswer None answer = answer ≡ record { found = 0; result = 0; tag = no_tag }
IsAnswer (Some (tag, given)) answer = (answer.found ≡ 1) × IsTag tag answer.tag × (answer.result ≡ given)

-- the tag of a rule alone
abbrev pub IsTagged : ℕ → TcamRefusal → Type 0
IsTagged rank told = IsTag rank told.tag × (told ≡ record no_refusal { tag = told.tag })

-- what a refusal tells besides its code, and 0 else
abbrev pub IsRefusalTold : Refusal → TcamRefusal → Type 0
IsRefusalTold (Busy left) told = told ≡ record no_refusal { left = left }
IsRefusalTold (Rejected (Unsound (Twice rank))) told = IsTagged rank told
IsRefusalTold (Rejected (Unsound (Taken rank))) told = IsTagged rank told
IsRefusalTold (Rejected (Unsound (Absent rank))) told = IsTagged rank told
IsRefusalTold (Rejected (Bits field needed free)) told =
    told ≡ record no_refusal { field = field_code field; need = needed; free = free }
IsRefusalTold (Rejected (Slots needed free)) told = told ≡ record no_refusal { need = needed; free = free }
IsRefusalTold Memory told = told ≡ no_refusal
