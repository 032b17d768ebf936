-- The parts of an index, with one live id more and with one less.
use Rattle.std.proofs.Common.{◌≡◌, ℕ, ◌-◌, ◌<◌, ◌≤◌, true, false, List, [], ◌∷◌, ◌++◌, length, set, get_or, Contains, sym, subst}
use Rattle.std.specs.List.{swap_remove}
use Rattle.slot_order.specs.Order.{most_slots}
use Rattle.placement.specs.declared.LivePiece.{LivePiece}
use Rattle.placement.specs.Live.{is_live, without_id}
use Rattle.overlap_index.specs.Buckets.{Links, AreBuckets, no_links, bucket_of, with_first, without_link}
use Rattle.overlap_index.specs.Linked.{ArePlaced}
use Rattle.overlap_index.specs.Tied.{AreParts, AreTied, IsComing, IsGoing}
use Rattle.overlap_index.specs.declared.ties.Ties.{Ties}
use Rattle.placement.proofs.Above.{is_live_from}
use Rattle.placement.proofs.Live.{apart_none, apart_more, apart_filter}
use Rattle.overlap_index.proofs.InBuckets.{buckets_none, buckets_more, buckets_less}
use Rattle.overlap_index.proofs.Placed.{Closes, placed_none, placed_more, placed_less}

-- nothing is live
pub parts_none : (slots : ℕ) (places : List ℕ) (kept : Ties) → 1 ≤ slots → slots ≤ most_slots → length places ≡ slots → AreTied slots [] [] kept → AreParts slots [] [] places (no_links slots) kept
parts_none slots places kept some most many tied =
    record { most = most; apart = apart_none slots; table = placed_none slots places many; found = buckets_none slots some; tied = tied }

-- an id that isn't live may come
pub parts_coming : (slots : ℕ) (live pieces : List LivePiece) (places : List ℕ) (buckets : Links) (kept : Ties) (one : LivePiece) → one.id < slots → is_live live one.id ≡ false
    → AreParts slots live pieces places buckets kept → IsComing slots live pieces places one
parts_coming slots live pieces places buckets kept one small absent parts = record { most = parts.most; small = small; absent = absent; apart = parts.apart; table = parts.table }

-- and one that is may go
pub parts_going : (slots id place : ℕ) (live pieces : List LivePiece) (places : List ℕ) (buckets : Links) (kept : Ties) → is_live live id ≡ true → place < length pieces
    → AreParts slots live pieces places buckets kept → IsGoing slots live pieces id place
parts_going slots id place live pieces places buckets kept present inside parts = record { apart = parts.apart; present = present; inside = inside }

-- a new id is live
pub parts_more : (slots : ℕ) (live pieces : List LivePiece) (places : List ℕ) (buckets : Links) (was kept : Ties) (one : LivePiece) → one.id < slots → is_live live one.id ≡ false
    → AreTied slots (live ++ one ∷ []) (pieces ++ one ∷ []) kept → AreParts slots live pieces places buckets was
    → AreParts slots (live ++ one ∷ []) (pieces ++ one ∷ []) (set places one.id (length pieces)) (with_first buckets (bucket_of buckets.slots one.piece one.rank) one.id) kept
parts_more slots live pieces places buckets was kept one small absent tied parts = record {
  most = parts.most;
  apart = apart_more slots one live small absent parts.apart;
  table = placed_more slots one live pieces places small absent parts.table;
  found = subst (λ n. AreBuckets slots (live ++ one ∷ []) (with_first buckets (bucket_of n one.piece one.rank) one.id)) (sym parts.found.size)
      (buckets_more slots one live buckets parts.most small absent parts.apart parts.found);
  tied = tied;
}

-- an id is live no longer, and the last piece takes the place of its own
pub parts_less : (slots id : ℕ) (one : LivePiece) (live pieces new : List LivePiece) (places : List ℕ) (buckets : Links) (was kept : Ties) (place : ℕ) (last d : LivePiece)
    → Contains live one → one.id ≡ id → place ≡ get_or places id 0 → get_or pieces (length pieces - 1) last ≡ last → new ≡ swap_remove pieces place d → Closes pieces new place
    → AreTied slots (without_id live id) (swap_remove pieces place d) kept → AreParts slots live pieces places buckets was
    → AreParts slots (without_id live id) new (set places last.id place) (without_link buckets (bucket_of buckets.slots one.piece one.rank) id) kept
parts_less slots id one live pieces new places buckets was kept place last d has named at end swapped closes tied parts =
    let is : is_live live id ≡ true = subst (λ k. is_live live k ≡ true) named (is_live_from live one has) in
    record {
      most = parts.most;
      apart = apart_filter slots _ live parts.apart;
      table = subst (λ n. ArePlaced slots (without_id live id) new (set places last.id n)) (sym at)
          (placed_less slots id live pieces new places last parts.apart parts.table is end (subst (Closes pieces new) at closes));
      found = subst (λ k. AreBuckets slots (without_id live k) (without_link buckets (bucket_of buckets.slots one.piece one.rank) k)) named
          (subst (λ n. AreBuckets slots (without_id live one.id) (without_link buckets (bucket_of n one.piece one.rank) one.id)) (sym parts.found.size)
          (buckets_less slots one live buckets parts.apart has parts.found));
      tied = subst (λ xs. AreTied slots (without_id live id) xs kept) (sym swapped) tied;
    }
