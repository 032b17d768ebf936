-- The live ids in buckets, each followed by the next of its bucket.
use Rattle.std.specs.Prelude.{◌≡◌, ℕ, zero, suc, ◌+◌, ◌*◌, ◌/◌, ◌%◌, ◌^◌, ◌<◌, ◌≤◌, ◌↔◌, ◌==◌, nat_eq, if◌then◌else◌, List, [], ◌∷◌, length, replicate, Contains, slice_index_or, slice_set}
use Rattle.std.specs.List.{IsDistinct}
use Rattle.rule_model.specs.declared.Piece.{Piece}
use Rattle.rule_model.specs.Rank.{high_of, low_of}
use Rattle.placement.specs.declared.LivePiece.{LivePiece}

-- no id
abbrev pub nil : ℕ
nil = 4294967295

-- the number of ids and of buckets, and what follows each id; behind these the first of each bucket
pub record Links : Type 0 where
  pub slots : ℕ
  pub nexts : List ℕ

-- nothing in any bucket
abbrev pub no_links : ℕ → Links
no_links slots = record { slots = slots; nexts = replicate (slots + slots) nil }

-- a number that a piece and its priority are mixed to. All that is known of it elsewhere is that it is a function of these
unfoldable pub mixed : Piece → ℕ → ℕ
mixed piece rank =
    (low_of rank * 210306068529402873165736369884012333109 % 2 ^ 128
    + (high_of rank * 4294967296 + (piece.sport.lo * 65536 + piece.dport.lo)) * 48181483302151357469556550866566148933 % 2 ^ 128)
    % 2 ^ 128 / 2 ^ 96

-- the bucket of a piece and its priority, as the place of its first id
abbrev pub bucket_of : ℕ → Piece → ℕ → ℕ
bucket_of slots piece rank = slots + mixed piece rank % slots

-- what follows an id, or is the first of a bucket
abbrev pub next_of : List ℕ → ℕ → ℕ
next_of nexts at = slice_index_or nexts at nil

-- from one on these ids follow one another, and no others
abbrev pub IsPath : List ℕ → ℕ → List ℕ → Type 0
IsPath nexts from [] = from ≡ nil
IsPath nexts from (id ∷ ids) = (from ≡ id) × (id < length nexts) × (id < nil) × IsPath nexts (next_of nexts id) ids

-- from one on as many ids follow one another as there is room for, or fewer
pub record IsOnPath (nexts : List ℕ) (from : ℕ) : Type 0 where
  pub ids : List ℕ
  pub path : IsPath nexts from ids
  pub few : length ids ≤ length nexts

-- at most n ids, from one on
abbrev pub ids_from : List ℕ → ℕ → ℕ → List ℕ
ids_from nexts zero from = []
ids_from nexts (suc n) from = if from == nil then [] else from ∷ ids_from nexts n (next_of nexts from)

-- the ids of a bucket
abbrev pub ids_in : Links → ℕ → List ℕ
ids_in links bucket = ids_from links.nexts (length links.nexts) (next_of links.nexts bucket)

-- what stands before an id among some that begin behind `from`, or the last of them
abbrev pub before_of : ℕ → List ℕ → ℕ → ℕ
before_of from [] id = from
before_of from (other ∷ others) id = if other == id then from else before_of other others id

-- an id more, as the first of a bucket
abbrev pub with_first : Links → ℕ → ℕ → Links
with_first links bucket id =
    record { slots = links.slots; nexts = slice_set (slice_set links.nexts id (next_of links.nexts bucket)) bucket id }

-- an id less: what follows it follows the one before it
abbrev pub without_link : Links → ℕ → ℕ → Links
without_link links bucket id =
    record { slots = links.slots; nexts = slice_set links.nexts (before_of bucket (ids_in links bucket) id) (next_of links.nexts id) }

-- the id of a live piece that leads to this bucket with its priority
abbrev pub IsInBucket : ℕ → ℕ → List LivePiece → ℕ → Type 0
IsInBucket slots bucket live id = (one : LivePiece) × Contains live one × (one.id ≡ id) × (bucket_of slots one.piece one.rank ≡ bucket)

-- the ids of a bucket follow one another, each once: those of the live pieces that lead there, in any order
pub record IsBucket (slots bucket : ℕ) (live : List LivePiece) (nexts : List ℕ) : Type 0 where
  pub ids : List ℕ
  pub path : IsPath nexts (next_of nexts bucket) ids
  pub once : IsDistinct nat_eq ids
  pub exact : (id : ℕ) → Contains ids id ↔ IsInBucket slots bucket live id

-- each live id is in its bucket, and nothing else is in any
pub record AreBuckets (slots : ℕ) (live : List LivePiece) (links : Links) : Type 0 where
  pub some : 1 ≤ slots
  pub size : links.slots ≡ slots
  pub many : length links.nexts ≡ slots + slots
  pub each : (bucket : ℕ) → slots ≤ bucket → bucket < slots + slots → IsBucket slots bucket live links.nexts
