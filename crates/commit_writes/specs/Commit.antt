-- What an accepted commit writes, and its numbers.
use Rattle.std.specs.Prelude.{◌≡◌, ℕ, ◌+◌, ◌≤◌, ◌⊎◌, IsFalse, Some, List, ◌++◌, Contains, fold, length, map, max, take, slice_get, flat_map}
use Rattle.rule_model.specs.declared.Rule.{Rule}
use Rattle.rule_model.specs.RuleSet.{BoundsChains}
use Rattle.rule_store.specs.declared.Mode.{Mode}
use Rattle.rule_store.specs.declared.Command.{Command}
use Rattle.rule_store.specs.Batch.{removes, additions, set_after}
use Rattle.rule_model.specs.Entry.{RankedPiece}
use Rattle.tcam_device.specs.declared.Write.{Write}
use Rattle.tcam_device.specs.State.{State, state_after}
use Rattle.tcam_device.specs.Order.{IsOrdered, ServesBits, StandsOnce, HasOneTwin}
use Rattle.tcam_device.specs.Hitless.{IsHitless, TurnsOnce}
use Rattle.tcam_device.specs.Insertion.{Insertion, insertions, table_writes, IsGreatestSpan, IsWithinTightBound}
use Rattle.commit_writes.specs.declared.Done.{Done}
use Rattle.commit_writes.specs.Bits.{FieldBits, bits_with}
use Rattle.commit_writes.specs.Shape.{set_pieces, inserted_pieces, fresh_writes, due_of, HasShape}

-- the numbers are those of these writes, which have these insertions
pub record AreCounts (made : List Write) (inserted : List Insertion) (counts : Done) : Type 0 where
  pub writes : counts.writes ≡ length made
  pub words : counts.words ≡ table_writes made
  pub most : counts.most ≡ fold max 0 (map (λ insertion. length insertion.writes) inserted)
  pub span : IsGreatestSpan inserted counts.span

-- pieces on the way from some to others: each is one of either, and of a piece that both have, be it with another result,
-- one is among them
pub record AreBetween (old new standing : List RankedPiece) : Type 0 where
  pub known : (ranked : RankedPiece) → Contains standing ranked → Contains old ranked ⊎ Contains new ranked
  pub kept : (was is : RankedPiece) → Contains old was → Contains new is → was.piece ≡ is.piece → was.rank ≡ is.rank
      → Contains standing was ⊎ Contains standing is

-- how many writes go to the tables and to insertions, which come before all others
abbrev pub insertion_writes : State → List Write → ℕ
insertion_writes state made = table_writes made + length (flat_map (λ insertion. insertion.writes) (insertions state made))

-- the device is in order for some pieces, and each bit that one of them tests is set exactly at the ports of its range
pub record HoldsInOrder (state : State) (Member : RankedPiece → Type 0) : Type 0 where
  pub ordered : IsOrdered state Member
  pub serves : ServesBits state Member

-- The device holds what it must, in order, on its way from the old pieces by some inserted ones to the new pieces. So an
-- entry that others shadow is neither lost nor left twice, not even from one insertion to a later one, no entry has its
-- new result before the insertions are made, and no word of a table changes in a bit that a slot tests.
pub record KeepsPieces (old inserted new : List RankedPiece) (state : State) (made : List Write) : Type 0 where
  -- while table words and insertions are written: the old pieces and the first of the inserted ones,
  pub inserting : (n : ℕ) → n ≤ insertion_writes state made → (k : ℕ) × HoldsInOrder (state_after state (take n made)) (Contains (old ++ take k inserted))
  -- whose number never falls: so what stands is put over only where it stands elsewhere too;
  pub rising : (n m : ℕ) (now : n ≤ insertion_writes state made) (later : m ≤ insertion_writes state made) → n ≤ m → (inserting n now).0 ≤ (inserting m later).0
  -- each of them in one slot where an insertion begins;
  pub between : (k : ℕ) (insertion : Insertion) → slice_get (insertions state made) k ≡ Some insertion
      → StandsOnce insertion.before (Contains (old ++ take k inserted))
  -- and inside one at most one piece stands in two slots;
  pub copies : (n : ℕ) → n ≤ insertion_writes state made → HasOneTwin (state_after state (take n made)).slots
  -- from then on pieces on the way from the old ones to the new ones, each in one slot;
  pub finishing : (n : ℕ) → insertion_writes state made ≤ n → (standing : List RankedPiece)
      × AreBetween old new standing
      × HoldsInOrder (state_after state (take n made)) (Contains standing)
      × StandsOnce (state_after state (take n made)) (Contains standing)
  -- and in the end the new ones
  pub after : HoldsInOrder (state_after state made) (Contains new)
  pub once : StandsOnce (state_after state made) (Contains new)

-- so it goes from the pieces of the old set to those of the new one, with the bits that are live meanwhile
abbrev pub KeepsOrder : Mode → FieldBits → List Rule → List Command → State → List Write → Type 0
KeepsOrder mode bits rules batch state made =
    let during = bits_with mode rules batch bits in
    KeepsPieces (set_pieces mode during rules) (inserted_pieces mode during rules batch) (set_pieces mode during (set_after rules batch)) state made

-- no priority is both removed and given to a new rule
abbrev pub ReplacesNone : List Command → Type 0
ReplacesNone batch = (new : Rule) → Contains (additions batch) new → IsFalse (removes new.priority batch)

-- the writes of an accepted commit: hitless, in order, as many of each kind as the rules fix, and within the bounds
pub record IsSegment (mode : Mode) (bits : FieldBits) (rules : List Rule) (batch : List Command) (state : State) (made : List Write) : Type 0 where
  pub hitless : IsHitless rules (set_after rules batch) state made
  -- and where no rule is replaced no key goes back to its old answer
  pub turns : ReplacesNone batch → TurnsOnce rules (set_after rules batch) state made
  pub order : KeepsOrder mode bits rules batch state made
  pub shape : HasShape (fresh_writes mode bits rules batch state) (due_of mode (bits_with mode rules batch bits) rules batch) state made
  pub tight : (chain : ℕ) → BoundsChains (rules ++ additions batch) chain → IsWithinTightBound chain (insertions state made)
