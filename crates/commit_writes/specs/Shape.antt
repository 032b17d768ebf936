-- Which writes a commit makes: table words, insertions, new results, erases, in this order.
use Rattle.std.specs.Prelude.{◌≡◌, ℕ, Bool, ◌==◌, IsTrue, Option, Some, None, List, [], ◌++◌, filter, map, flat_map, fold, reverse, if◌then◌else◌, nat_eq}
use Rattle.std.specs.List.{list_any, filter_map, enumerate_from, AllZip}
use Rattle.slot_order.specs.Order.{slot}
use Rattle.rule_model.specs.declared.Rule.{Rule}
use Rattle.rule_model.specs.declared.Piece.{Piece}
use Rattle.rule_model.specs.declared.Field.{Field}
use Rattle.rule_model.specs.declared.Field.TheVariants.{Src, Dst}
use Rattle.rule_model.specs.declared.words.Entry.{Entry}
use Rattle.rule_model.specs.Entry.{RankedPiece, entry_for, same_match}
use Rattle.rule_store.specs.declared.Mode.{Mode}
use Rattle.rule_store.specs.declared.Command.{Command}
use Rattle.rule_store.specs.Batch.{named_priority, removes, additions, with_rule, set_after}
use Rattle.rule_store.specs.Verdict.{pieces_of, has_piece, replaced_rule, added_pieces}
use Rattle.range_bits.specs.LiveRanges.{LiveRanges, word_for}
use Rattle.tcam_device.specs.declared.Write.{Write}
use Rattle.tcam_device.specs.declared.Write.TheVariants.{Slot, Table}
use Rattle.tcam_device.specs.State.{State, state_after}
use Rattle.tcam_device.specs.Insertion.{Insertion, insertions}
use Rattle.commit_writes.specs.Bits.{FieldBits, bits_with, new_bits, with_bits}

-- the write of a table's word at a port, where the word changes
abbrev pub word_write : Field → LiveRanges → ℕ × ℕ → Option Write
word_write field live (port, old) =
    let word = word_for live port old in if word == old then None else Some (Table field port word)

-- one write for each port whose word differs, ports rising
abbrev pub field_writes : Field → LiveRanges → List ℕ → List Write
field_writes field live table = filter_map (word_write field live) (enumerate_from 0 table)

-- each table word that changes when the new bits are set exactly at their ranges' ports, the source table first
abbrev pub bit_writes : State → FieldBits → List Write
bit_writes state fresh = field_writes Src fresh.src state.src ++ field_writes Dst fresh.dst state.dst

-- the words of a commit's new bits that differ from those of the state
abbrev pub fresh_writes : Mode → FieldBits → List Rule → List Command → State → List Write
fresh_writes mode bits rules batch state = bit_writes state (new_bits bits (bits_with mode rules batch bits))

-- a piece of a rule, with its bits, the rule's priority and its result
abbrev pub ranked_piece : FieldBits → Rule → Piece → RankedPiece
ranked_piece bits rule piece = record { piece = with_bits bits piece; rank = rule.priority; result = rule.result }

-- pieces of a rule, likewise
abbrev pub ranked_pieces : FieldBits → Rule → List Piece → List RankedPiece
ranked_pieces bits rule pieces = map (ranked_piece bits rule) pieces

-- the pieces of a set, by falling priority and in their order
abbrev pub set_pieces : Mode → FieldBits → List Rule → List RankedPiece
set_pieces mode bits rules = flat_map (λ rule. ranked_pieces bits rule (pieces_of mode rule)) rules

-- the pieces that a batch inserts, by falling priority and in their order
abbrev pub inserted_pieces : Mode → FieldBits → List Rule → List Command → List RankedPiece
inserted_pieces mode bits rules batch =
    flat_map (λ new. ranked_pieces bits new (added_pieces mode rules new)) (fold with_rule [] (additions batch))

-- whether a command of the batch names the rule's priority
abbrev pub names : List Command → Rule → Bool
names batch rule = list_any (λ command. nat_eq (named_priority command) rule.priority) batch

-- the pieces that an old rule and a new one have in common, and none where there was no old one
abbrev pub common_pieces : Mode → Option Rule → Rule → List Piece
common_pieces mode None new = []
common_pieces mode (Some old) new = filter (has_piece (pieces_of mode old)) (pieces_of mode new)

-- the pieces that get a new result, by falling priority: a changed rule's, and those that a replaced one shares with its new
-- one
abbrev pub rewritten_pieces : Mode → FieldBits → List Rule → List Command → List RankedPiece
rewritten_pieces mode bits rules batch =
    flat_map (λ new. ranked_pieces bits new (common_pieces mode (replaced_rule rules new) new))
    (filter (names batch) (set_after rules batch))

-- the pieces that are erased, by rising priority and in their order: those of removed rules that no rule added there has
abbrev pub erased_pieces : Mode → FieldBits → List Rule → List Command → List RankedPiece
erased_pieces mode bits rules batch =
    flat_map (λ old. ranked_pieces bits old (added_pieces mode (additions batch) old))
    (reverse (filter (λ rule. removes rule.priority batch) rules))

-- the slot holds an entry of the piece, whatever its result
abbrev pub Stands : State → ℕ → RankedPiece → Type 0
Stands state at ranked =
    (entry : Entry) × (slot state.slots at ≡ Some entry) × IsTrue (same_match (entry_for ranked) entry)

-- the write gives the piece's slot its entry with the new result
abbrev pub Rewrites : State → RankedPiece → Write → Type 0
Rewrites state ranked write = (at : ℕ) × Stands state at ranked × (write ≡ Slot at (Some (entry_for ranked)))

-- the write erases the piece's slot
abbrev pub Erases : State → RankedPiece → Write → Type 0
Erases state ranked write = (at : ℕ) × Stands state at ranked × (write ≡ Slot at None)

-- What is to be done: pieces that are put in, pieces that get another result, with that, and pieces that are taken out, each in
-- the order of their writes.
pub record Due : Type 0 where
  pub inserted : List RankedPiece
  pub rewritten : List RankedPiece
  pub erased : List RankedPiece

-- all that a batch does to a set, with the bits that are live meanwhile
abbrev pub due_of : Mode → FieldBits → List Rule → List Command → Due
due_of mode during rules batch =
    record {
      inserted = inserted_pieces mode during rules batch;
      rewritten = rewritten_pieces mode during rules batch;
      erased = erased_pieces mode during rules batch;
    }

-- The writes that do what is due, from a state on, behind some first ones.
pub record HasShape (front : List Write) (due : Due) (state : State) (writes : List Write) : Type 0 where
  pub inserted : List Write
  pub rewritten : List Write
  pub erased : List Write
  pub parts : writes ≡ front ++ (inserted ++ (rewritten ++ erased))
  -- insertions and nothing else, one for each piece that is put in; the first writes belong to none
  pub whole : flat_map (λ insertion. insertion.writes) (insertions (state_after state front) inserted) ≡ inserted
  pub entries : map (λ insertion. insertion.entry) (insertions (state_after state front) inserted) ≡ map entry_for due.inserted
  -- one write for each piece that gets another result
  pub results : AllZip (Rewrites (state_after state (front ++ inserted))) due.rewritten rewritten
  -- one erase for each piece that goes
  pub erases : AllZip (Erases (state_after state (front ++ inserted ++ rewritten))) due.erased erased

-- the insertions of such writes, cut from behind the first ones on
abbrev pub insertions_behind : {front : List Write} {due : Due} {state : State} {writes : List Write} → HasShape front due state writes → List Insertion
insertions_behind {front = front} {state = state} shape =
    insertions (state_after state front) (shape.inserted ++ (shape.rewritten ++ shape.erased))
