-- The routes of a prefix, one after the other, and the prefixes.
use Rattle.std.proofs.Common.{◌≡◌, ◌<◌, ◌≤◌, ◌+◌, ℕ, Bool, true, false, cond, not, ◌==◌, ◌&&◌, Option, Some, None, List, [], ◌∷◌, ◌++◌, length, drop, get_or, refl, sym, ap, ◌∙◌, append-nil, append_assoc}
use Rattle.std.specs.Prelude.{Vec, fold, map}
use Rattle.std.specs.Option.{option_map_or}
use Rattle.std.specs.Map.{lookup}
use Rattle.std.proofs.lemmas.List.{at_drop_more, at_drop_all}
use Rattle.indexmap.specs.IndexMap.{insert_entry}
use Rattle.rule_model.specs.AddressBlock.{AddressBlock}
use Rattle.ip_monitor.specs.declared.ranks.Ranked.{Ranked}
use Rattle.ip_monitor.specs.Ranks.{differs, least_of, lesser, number_at, others}
use Rattle.ip_monitor.specs.Standings.{Standing, ranks_of, with_ranks}

-- what a list has where it has nothing
abbrev pub no_rank : Ranked
no_rank = record { metric = 0; number = 0 }

-- ---- a route of a metric

number-there : (ranks : List Ranked) (metric place : ℕ) (rank unused : Ranked) → place < length ranks → rank ≡ get_or ranks place unused
    → number_at metric (drop place ranks) ≡ cond (rank.metric == metric) (Some rank.number) (number_at metric (drop (place + 1) ranks))
number-there ranks metric place rank unused below is =
    at_drop_more (λ l. number_at metric l) ranks place unused below
    ∙ ap (λ (r : Ranked). cond (r.metric == metric) (Some r.number) (number_at metric (drop (place + 1) ranks))) (sym is)

pub number-found : (ranks : List Ranked) (metric place : ℕ) (rank unused : Ranked) → place < length ranks → rank ≡ get_or ranks place unused → (rank.metric == metric) ≡ true
    → number_at metric (drop place ranks) ≡ Some rank.number
number-found ranks metric place rank unused below is same =
    number-there ranks metric place rank unused below is ∙ ap (λ b. cond b (Some rank.number) (number_at metric (drop (place + 1) ranks))) same

pub number-passed : (ranks : List Ranked) (metric place : ℕ) (rank unused : Ranked) → place < length ranks → rank ≡ get_or ranks place unused → (rank.metric == metric) ≡ false
    → number_at metric (drop place ranks) ≡ number_at metric (drop (place + 1) ranks)
number-passed ranks metric place rank unused below is other =
    number-there ranks metric place rank unused below is ∙ ap (λ b. cond b (Some rank.number) (number_at metric (drop (place + 1) ranks))) other

pub number-none : (ranks : List Ranked) (metric place : ℕ) → length ranks ≤ place → number_at metric (drop place ranks) ≡ None
number-none ranks metric place all = at_drop_all (λ l. number_at metric l) ranks place all

-- ---- those of other metrics

others-there : (ranks : List Ranked) (metric place : ℕ) (rank unused : Ranked) → place < length ranks → rank ≡ get_or ranks place unused
    → others metric (drop place ranks) ≡ cond (differs metric rank) (rank ∷ others metric (drop (place + 1) ranks)) (others metric (drop (place + 1) ranks))
others-there ranks metric place rank unused below is =
    at_drop_more (λ l. others metric l) ranks place unused below
    ∙ ap (λ (r : Ranked). cond (differs metric r) (r ∷ others metric (drop (place + 1) ranks)) (others metric (drop (place + 1) ranks))) (sym is)

-- one by one
others-first : (metric : ℕ) (rank : Ranked) (ranks : List Ranked) → others metric (rank ∷ ranks) ≡ others metric (rank ∷ []) ++ others metric ranks
others-first metric rank ranks = by (differs metric rank)
  where
    by : (b : Bool) → cond b (rank ∷ others metric ranks) (others metric ranks) ≡ cond b (rank ∷ []) [] ++ others metric ranks
    by true = refl
    by false = refl

pub others-next : (ranks kept new : List Ranked) (metric place : ℕ) (rank unused : Ranked) → place < length ranks → rank ≡ get_or ranks place unused → new ≡ kept ++ others metric (rank ∷ [])
    → kept ++ others metric (drop place ranks) ≡ new ++ others metric (drop (place + 1) ranks)
others-next ranks kept new metric place rank unused below is put =
    ap (λ l. kept ++ l) (others-there ranks metric place rank unused below is ∙ others-first metric rank (drop (place + 1) ranks))
    ∙ sym (append_assoc kept (others metric (rank ∷ [])) (others metric (drop (place + 1) ranks))) ∙ ap (λ l. l ++ others metric (drop (place + 1) ranks)) (sym put)

pub other-same : (kept : List Ranked) (metric : ℕ) (rank : Ranked) → (rank.metric == metric) ≡ true → kept ≡ kept ++ others metric (rank ∷ [])
other-same kept metric rank same = sym (append-nil kept) ∙ ap (λ b. kept ++ cond (not b) (rank ∷ []) []) (sym same)

pub other-new : (kept new : List Ranked) (metric : ℕ) (rank : Ranked) → (rank.metric == metric) ≡ false → new ≡ kept ++ rank ∷ [] → new ≡ kept ++ others metric (rank ∷ [])
other-new kept new metric rank other put = put ∙ ap (λ b. kept ++ cond (not b) (rank ∷ []) []) (sym other)

pub others-end : (ranks kept : List Ranked) (metric place : ℕ) → length ranks ≤ place → kept ++ others metric (drop place ranks) ≡ kept
others-end ranks kept metric place all = ap (λ l. kept ++ l) (at_drop_all (λ l. others metric l) ranks place all) ∙ append-nil kept

-- ---- the least

pub least-next : (ranks : List Ranked) (least next : Ranked) (place : ℕ) (rank unused : Ranked) → place < length ranks → rank ≡ get_or ranks place unused → next ≡ lesser least rank
    → fold lesser least (drop place ranks) ≡ fold lesser next (drop (place + 1) ranks)
least-next ranks least next place rank unused below is step =
    at_drop_more (λ l. fold lesser least l) ranks place unused below
    ∙ ap (λ r. fold lesser (lesser least r) (drop (place + 1) ranks)) (sym is) ∙ ap (λ l. fold lesser l (drop (place + 1) ranks)) (sym step)

pub least-end : (ranks : List Ranked) (least : Ranked) (place : ℕ) → length ranks ≤ place → fold lesser least (drop place ranks) ≡ least
least-end ranks least place all = at_drop_all (λ l. fold lesser least l) ranks place all

pub least-whole : (ranks behind : List Ranked) (first least : Ranked) → ranks ≡ first ∷ behind → fold lesser first behind ≡ least → least_of ranks ≡ Some least
least-whole ranks behind first least is end = ap (λ l. least_of l) is ∙ ap Some end

-- ---- the prefixes, as the table has them

abbrev pub key_eq : ℕ × ℕ → ℕ × ℕ → Bool
key_eq a b = (a.0 == b.0) && (a.1 == b.1)

abbrev pub standing_with : ℕ → ℕ → List Ranked → Standing
standing_with addr len ranks = record { block = record { addr = addr; len = len }; ranks = ranks }

module _ {Z : Type 0} where
  abbrev pub standing_of : (ℕ × ℕ) × Vec Ranked Z → Standing
  standing_of e = record { block = record { addr = e.0.0; len = e.0.1 }; ranks = e.1.items }

  abbrev pub items_of : Option (Vec Ranked Z) → List Ranked
  items_of found = option_map_or (λ (v : Vec Ranked Z). v.items) found []

  pub ranks-looked : (block : AddressBlock) (entries : List ((ℕ × ℕ) × Vec Ranked Z)) (addr len : ℕ) → addr ≡ block.addr → len ≡ block.len
      → items_of (lookup (key_eq (addr, len)) entries) ≡ ranks_of block (map standing_of entries)
  ranks-looked block [] addr len addr_is len_is = refl
  ranks-looked block (e ∷ entries) addr len addr_is len_is =
      by ((addr == e.0.0) && (len == e.0.1)) (ranks-looked block entries addr len addr_is len_is)
      ∙ ap (λ b. cond b e.1.items (ranks_of block (map standing_of entries))) (ap (λ a. (a == e.0.0) && (len == e.0.1)) addr_is ∙ ap (λ l. (block.addr == e.0.0) && (l == e.0.1)) len_is)
    where
      by : (b : Bool) → items_of (lookup (key_eq (addr, len)) entries) ≡ ranks_of block (map standing_of entries)
          → items_of (cond b (Some e.1) (lookup (key_eq (addr, len)) entries)) ≡ cond b e.1.items (ranks_of block (map standing_of entries))
      by true behind = refl
      by false behind = behind

  pub ranks-set : (block : AddressBlock) (ranks : Vec Ranked Z) (entries : List ((ℕ × ℕ) × Vec Ranked Z)) (addr len : ℕ) → addr ≡ block.addr → len ≡ block.len
      → map standing_of (insert_entry key_eq entries (addr, len) ranks) ≡ with_ranks block ranks.items (map standing_of entries)
  ranks-set block ranks [] addr len addr_is len_is =
      ap (λ a. standing_with a len ranks.items ∷ []) addr_is ∙ ap (λ l. standing_with block.addr l ranks.items ∷ []) len_is
  ranks-set block ranks (e ∷ entries) addr len addr_is len_is =
      by ((addr == e.0.0) && (len == e.0.1)) (ranks-set block ranks entries addr len addr_is len_is)
      ∙ ap (λ b. cond b (record (standing_of e) { ranks = ranks.items } ∷ map standing_of entries) (standing_of e ∷ with_ranks block ranks.items (map standing_of entries)))
      (ap (λ a. (a == e.0.0) && (len == e.0.1)) addr_is ∙ ap (λ l. (block.addr == e.0.0) && (l == e.0.1)) len_is)
    where
      by : (b : Bool) → map standing_of (insert_entry key_eq entries (addr, len) ranks) ≡ with_ranks block ranks.items (map standing_of entries)
          → map standing_of (cond b ((e.0, ranks) ∷ entries) (e ∷ insert_entry key_eq entries (addr, len) ranks))
          ≡ cond b (record (standing_of e) { ranks = ranks.items } ∷ map standing_of entries) (standing_of e ∷ with_ranks block ranks.items (map standing_of entries))
      by true behind = refl
      by false behind = ap (λ l. standing_of e ∷ l) behind
