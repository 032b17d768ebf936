-- Slots by groups of the entries that they hold, so that an entry is sought among the slots of one group.
use Rattle.std.specs.Prelude.{◌≡◌, ℕ, ◌+◌, ◌*◌, ◌/◌, ◌%◌, ◌^◌, Option, Some, List, [], Contains, length, slice_index, slice_index_or}
use Rattle.slot_order.specs.Order.{slot}
use Rattle.rule_model.specs.Rank.{high_of, low_of}
use Rattle.rule_model.specs.declared.words.Entry.{Entry}
use Rattle.rule_model.specs.Entry.{RankedPiece, entry_for}

-- how many groups there are
abbrev pub group_count : ℕ
group_count = 8192

-- The part of a tag in a group's number: of its high part, and of the four words of 32 bits of its low one.
abbrev pub tag_sum : ℕ → ℕ
tag_sum tag =
    high_of tag * 41766579 + low_of tag / 2 ^ 96 * 96280217 + low_of tag / 2 ^ 64 % 2 ^ 32 * 214557397
    + low_of tag / 2 ^ 32 % 2 ^ 32 * 140426407 + low_of tag % 2 ^ 32 * 204155619

-- The group of an entry, by its tag and its ports alone: entries of one value and tag share it.
abbrev pub group_of : Entry → ℕ
group_of entry = (tag_sum entry.tag + slice_index entry.value.lane 8 * 165902235) / 2 ^ 20 % group_count

-- a group lists a slot
abbrev pub IsListed : List (List ℕ) → ℕ → ℕ → Type 0
IsListed groups group at = Contains (slice_index_or groups group []) at

-- each slot that has a piece is listed in the group of its entry
pub record AreGroupsOf (pieces : List (Option RankedPiece)) (groups : List (List ℕ)) : Type 0 where
  pub size : length groups ≡ group_count
  pub listed : (at : ℕ) (ranked : RankedPiece) → slot pieces at ≡ Some ranked → IsListed groups (group_of (entry_for ranked)) at
