-- Each prefix is answered its route of least metric.
use Rattle.std.proofs.Common.{◌≡◌, ◌≤◌, ℕ, Bool, true, false, cond, ◌==◌, ◌&&◌, inl, inr, List, [], ◌∷◌, Contains, refl, sym, ap, ◌∙◌, arith}
use Rattle.std.specs.Prelude.{fold, nat_lt}
use Rattle.std.specs.List.{AllByRecursion}
use Rattle.std.proofs.lemmas.Bool.{and_from, and_parts, eq-eqb, eqb-true, ltb-true, ltb-false}
use Rattle.std.proofs.lemmas.List.Elements.{All-from_recursion, Contains-append_cases, Contains-append_left, Contains-append_right, Contains-push}
use Rattle.rule_model.specs.AddressBlock.{AddressBlock, same_block}
use Rattle.ip_monitor.specs.declared.ranks.Ranked.{Ranked}
use Rattle.ip_monitor.specs.Ranks.{least_of, lesser}
use Rattle.ip_monitor.specs.Standings.{Standing, ranks_of, with_ranks}
use Rattle.ip_monitor.specs.Telling.{ranks_after}
use Rattle.ip_monitor.specs.Laws.{IsLeast, LeastCounts}

-- ---- the least of several

-- one that stands among all but the second
skip-second : (first second : Ranked) (ranks : List Ranked) (x : Ranked) → Contains (first ∷ ranks) x → Contains (first ∷ second ∷ ranks) x
skip-second first second ranks x among = elim (Contains-append_cases (first ∷ []) ranks x among) [
  | inl here ↦ Contains-append_left (first ∷ []) (second ∷ ranks) x here
  | inr behind ↦ Contains-append_right (first ∷ second ∷ []) ranks x behind
]

least-among : (first : Ranked) (ranks : List Ranked) → Contains (first ∷ ranks) (fold lesser first ranks)
least-among first [] = Contains-push [] first
least-among first (second ∷ ranks) = by (nat_lt second.metric first.metric) (λ r. least-among r ranks)
  where
    by : (b : Bool) → ((r : Ranked) → Contains (r ∷ ranks) (fold lesser r ranks)) → Contains (first ∷ second ∷ ranks) (fold lesser (cond b second first) ranks)
    by true behind = Contains-append_right (first ∷ []) (second ∷ ranks) (fold lesser second ranks) (behind second)
    by false behind = skip-second first second ranks (fold lesser first ranks) (behind first)

-- it is no greater than either
lesser-first : (first second : Ranked) → (lesser first second).metric ≤ first.metric
lesser-first first second = by (nat_lt second.metric first.metric) refl
  where
    by : (b : Bool) → nat_lt second.metric first.metric ≡ b → (cond b second first).metric ≤ first.metric
    by true h = let less = ltb-true second.metric first.metric h in omega (arith, less)
    by false h = omega arith

lesser-second : (first second : Ranked) → (lesser first second).metric ≤ second.metric
lesser-second first second = by (nat_lt second.metric first.metric) refl
  where
    by : (b : Bool) → nat_lt second.metric first.metric ≡ b → (cond b second first).metric ≤ second.metric
    by true h = omega arith
    by false h = ltb-false second.metric first.metric h

through : (a b c : ℕ) → a ≤ b → b ≤ c → a ≤ c
through a b c first second = omega (arith, first, second)

-- nor the least than any
least-below : (first : Ranked) (ranks : List Ranked) → AllByRecursion (λ (rank : Ranked). (fold lesser first ranks).metric ≤ rank.metric) (first ∷ ranks)
least-below first [] = (omega arith, tt)
least-below first (second ∷ ranks) =
    let behind = least-below (lesser first second) ranks in
    (through _ _ _ behind.0 (lesser-first first second), (through _ _ _ behind.0 (lesser-second first second), behind.1))

is-least : (ranks : List Ranked) → IsLeast ranks (least_of ranks)
is-least [] = refl
is-least (rank ∷ ranks) = (
  least-among rank ranks,
  All-from_recursion (λ (r : Ranked). (fold lesser rank ranks).metric ≤ r.metric) (rank ∷ ranks) (least-below rank ranks),
)

-- ---- the routes of a prefix

same-itself : (block : AddressBlock) → same_block block block ≡ true
same-itself block = and_from (block.addr == block.addr) (block.len == block.len) (eq-eqb block.addr block.addr refl) (eq-eqb block.len block.len refl)

-- a block that is the same as another stands for it
same-shift : (other block x : AddressBlock) → same_block block x ≡ true → same_block other x ≡ same_block other block
same-shift other block x same =
    let parts = and_parts (block.addr == x.addr) (block.len == x.len) same in
    ap (λ a. (other.addr == a) && (other.len == x.len)) (sym (eqb-true block.addr x.addr parts.0))
    ∙ ap (λ l. (other.addr == block.addr) && (other.len == l)) (sym (eqb-true block.len x.len parts.1))

set-own : (block : AddressBlock) (ranks : List Ranked) (standings : List Standing) → ranks_of block (with_ranks block ranks standings) ≡ ranks
set-own block ranks [] = ap (λ b. cond b ranks []) (same-itself block)
set-own block ranks (standing ∷ standings) = by (same_block block standing.block) refl (set-own block ranks standings)
  where
    by : (b : Bool) → same_block block standing.block ≡ b → ranks_of block (with_ranks block ranks standings) ≡ ranks
        → ranks_of block (cond b (record standing { ranks = ranks } ∷ standings) (standing ∷ with_ranks block ranks standings)) ≡ ranks
    by true h behind = ap (λ b. cond b ranks (ranks_of block standings)) h
    by false h behind = ap (λ b. cond b standing.ranks (ranks_of block (with_ranks block ranks standings))) h ∙ behind

set-other : (block other : AddressBlock) (ranks : List Ranked) (standings : List Standing) → same_block other block ≡ false → ranks_of other (with_ranks block ranks standings) ≡ ranks_of other standings
set-other block other ranks [] differs = ap (λ b. cond b ranks []) differs
set-other block other ranks (standing ∷ standings) differs = by (same_block block standing.block) refl (set-other block other ranks standings differs)
  where
    by : (b : Bool) → same_block block standing.block ≡ b → ranks_of other (with_ranks block ranks standings) ≡ ranks_of other standings
        → ranks_of other (cond b (record standing { ranks = ranks } ∷ standings) (standing ∷ with_ranks block ranks standings)) ≡ ranks_of other (standing ∷ standings)
    by true h behind =
        let apart : same_block other standing.block ≡ false = same-shift other block standing.block h ∙ differs in
        ap (λ b. cond b ranks (ranks_of other standings)) apart ∙ sym (ap (λ b. cond b standing.ranks (ranks_of other standings)) apart)
    by false h behind = ap (λ l. cond (same_block other standing.block) standing.ranks l) behind

pub least-counts : LeastCounts
least-counts = record {
  least = λ known block. is-least (ranks_of block known.standings);
  written = λ known gone route. ap least_of (set-own route.block (ranks_after known gone route) known.standings);
  kept = λ known gone route other differs. ap least_of (set-other route.block other (ranks_after known gone route) known.standings differs);
}
