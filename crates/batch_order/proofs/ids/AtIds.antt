-- The entries of live ids, by what is kept at each id.
use Rattle.std.proofs.Common.{◌≡◌, ◌≢◌, ℕ, zero, suc, ◌+◌, ◌-◌, ◌<◌, IsFalse, Bool, true, false, cond, List, [], ◌∷◌, ◌++◌, length, Option, Some, None, get_or, set, replicate, not, arith, inl, inr, refl, sym, ◌∙◌, subst, ap, ne_eqb, get_or-set_same, get_or-set_other}
use Rattle.std.specs.Prelude.{◌==◌, ◌||◌}
use Rattle.std.specs.List.{AllByRecursion}
use Rattle.std.proofs.lemmas.Bool.{cases_Bool, cases_eq, cases_lt, cond-true, cond-false}
use Rattle.std.proofs.lemmas.List.{ext_get_or, get_or_past, length-set}
use Rattle.std.proofs.lemmas.List.Folds.{list_any-append}
use Rattle.rule_model.specs.declared.words.Entry.{Entry}
use Rattle.placement.specs.declared.LivePiece.{LivePiece}
use Rattle.placement.specs.Live.{is_live, without_id}
use Rattle.slot_order.proofs.Lists.{AllByRecursion-member, any_is, any_from, filter_in}
use Rattle.std.proofs.lemmas.Bool.{eqb-true}
use Rattle.batch_order.specs.Entries.{AreKept, entries_from, live_entries}
use Rattle.batch_order.proofs.ids.Ids.{gone, absent_without}

-- there are as many as are kept
pub size_from : (live : List LivePiece) (id : ℕ) (kept : List Entry) → length (entries_from live id kept) ≡ length kept
size_from live id [] = refl
size_from live id (entry ∷ kept) = ap suc (size_from live (id + 1) kept)

pub size_is : (live : List LivePiece) (kept : List Entry) → length (live_entries live kept) ≡ length kept
size_is live kept = size_from live 0 kept

at_from : (live : List LivePiece) (start : ℕ) (kept : List Entry) (k : ℕ) (d : Entry) → k < length kept → get_or (entries_from live start kept) k None ≡ cond (is_live live (start + k)) (Some (get_or kept k d)) None
at_from live start [] k d inside = absurd (omega arith)
at_from live start (entry ∷ kept) zero d inside = let same : start ≡ start + 0 = omega arith in ap (λ n. cond (is_live live n) (Some entry) None) same
at_from live start (entry ∷ kept) (suc k) d inside =
    let same : start + 1 + k ≡ start + suc k = omega arith in
    at_from live (start + 1) kept k d (omega arith) ∙ ap (λ n. cond (is_live live n) (Some (get_or kept k d)) None) same

-- what is read at an id
pub at_id : (live : List LivePiece) (kept : List Entry) (id : ℕ) (d : Entry) → id < length kept → get_or (live_entries live kept) id None ≡ cond (is_live live id) (Some (get_or kept id d)) None
at_id live kept id d inside =
    let same : 0 + id ≡ id = omega arith in
    at_from live 0 kept id d inside ∙ ap (λ n. cond (is_live live n) (Some (get_or kept id d)) None) same

-- an id that isn't live has none
pub at_dead : (live : List LivePiece) (kept : List Entry) (id : ℕ) → is_live live id ≡ false → get_or (live_entries live kept) id None ≡ None
at_dead live [] id dead = get_or_past [] id None (omega arith)
at_dead live (first ∷ more) id dead =
    let size = size_is live (first ∷ more) in
    elim (cases_lt id (length (first ∷ more))) [
      | inl inside ↦ at_id live (first ∷ more) id first inside ∙ cond-false _ _ _ dead
      | inr past ↦ get_or_past (live_entries live (first ∷ more)) id None (omega arith)
    ]

-- nothing is live
pub none_live : (id : ℕ) (kept : List Entry) → entries_from [] id kept ≡ replicate (length kept) None
none_live id [] = refl
none_live id (entry ∷ kept) = ap (λ entries. None ∷ entries) (none_live (id + 1) kept)

-- an entry is kept at an id that is live now, where the others are live that were
pub kept_at : (live live' : List LivePiece) (kept : List Entry) (id : ℕ) (entry : Entry) → id < length kept → is_live live' id ≡ true → ((other : ℕ) → other ≢ id → is_live live' other ≡ is_live live other)
    → live_entries live' (set kept id entry) ≡ set (live_entries live kept) id (Some entry)
kept_at live live' kept id entry inside now others =
    let longer = length-set kept id entry in
    let new = size_is live' (set kept id entry) in
    let old = size_is live kept in
    ext_get_or None (live_entries live' (set kept id entry)) (set (live_entries live kept) id (Some entry)) (new ∙ longer ∙ sym old ∙ sym (length-set (live_entries live kept) id (Some entry)))
    (λ k low.
    let within : k < length kept = subst (λ n. k < n) (new ∙ longer) low in
    let read = at_id live' (set kept id entry) k entry (subst (λ n. k < n) new low) in
    elim (cases_eq k id) [
      | inl same ↦
          read ∙ subst (λ n. cond (is_live live' n) (Some (get_or (set kept id entry) n entry)) None ≡ get_or (set (live_entries live kept) id (Some entry)) n None) (sym same)
          (cond-true _ _ _ now ∙ ap Some (get_or-set_same kept id entry entry inside) ∙ sym (get_or-set_same (live_entries live kept) id (Some entry) None (subst (λ n. id < n) (sym old) inside)))
      | inr other ↦
          read ∙ ap (λ e. cond (is_live live' k) (Some e) None) (get_or-set_other kept id k entry entry other) ∙ ap (λ b. cond b (Some (get_or kept k entry)) None) (others k other)
          ∙ sym (at_id live kept k entry within) ∙ sym (get_or-set_other (live_entries live kept) id k (Some entry) None other)
    ])

-- another id is live as before, where one comes and where one goes
pub live_still : (live : List LivePiece) (one : LivePiece) (other : ℕ) → other ≢ one.id → is_live (live ++ one ∷ []) other ≡ is_live live other
live_still live one other apart =
    let here : (one.id == other) ≡ false = ne_eqb one.id other (λ e. apart (sym e)) in
    list_any-append (λ x. x.id == other) live (one ∷ []) ∙ ap (λ b. is_live live other || (b || false)) here ∙ or_none (is_live live other)
  where
    or_none : (b : Bool) → (b || (false || false)) ≡ b
    or_none true = refl
    or_none false = refl

pub live_without : (live : List LivePiece) (id other : ℕ) → other ≢ id → is_live (without_id live id) other ≡ is_live live other
live_without live id other apart = elim (cases_Bool (is_live live other)) [
  | inl stands ↦
      let w = any_is (λ (x : LivePiece). x.id == other) live stands in
      let named : w.0.id ≡ other = eqb-true w.0.id other w.2 in
      any_from (λ (x : LivePiece). x.id == other) (without_id live id) w.0
      (filter_in (λ (x : LivePiece). not (x.id == id)) live w.0 w.1 (ap not (ne_eqb w.0.id id (λ e. apart (sym named ∙ e))))) w.2
      ∙ sym stands
  | inr dead ↦ absent_without live id other dead ∙ sym dead
]

-- an id goes, and its entry
pub without_at : (live : List LivePiece) (kept : List Entry) (id : ℕ) → id < length kept → live_entries (without_id live id) kept ≡ set (live_entries live kept) id None
without_at live [] id inside = absurd (omega arith)
without_at live (first ∷ more) id inside =
    let kept : List Entry = first ∷ more in
    let new = size_is (without_id live id) kept in
    let old = size_is live kept in
    ext_get_or None (live_entries (without_id live id) kept) (set (live_entries live kept) id None) (new ∙ sym old ∙ sym (length-set (live_entries live kept) id None))
    (λ k low.
    let within : k < length kept = subst (λ n. k < n) new low in
    let read = at_id (without_id live id) kept k first within in
    elim (cases_eq k id) [
      | inl same ↦
          read ∙ cond-false _ _ _ (subst (λ n. is_live (without_id live id) n ≡ false) (sym same) (gone live id))
          ∙ subst (λ n. None ≡ get_or (set (live_entries live kept) id None) n None) (sym same) (sym (get_or-set_same (live_entries live kept) id None None (subst (λ n. id < n) (sym old) inside)))
      | inr other ↦
          read ∙ ap (λ b. cond b (Some (get_or kept k first)) None) (live_without live id k other)
          ∙ sym (at_id live kept k first within) ∙ sym (get_or-set_other (live_entries live kept) id k None None other)
    ])

-- what is kept has other entries
pub kept_as : (slots : ℕ) (live : List LivePiece) (entries entries' : List (Option Entry)) (spare : List ℕ) → AreKept slots live entries spare → length entries' ≡ length entries → AreKept slots live entries' spare
kept_as slots live entries entries' spare kept same =
    record { places = same ∙ kept.places; few = kept.few; count = kept.count; small = kept.small; absent = kept.absent; once = kept.once; apart = kept.apart }

-- the last spare id is small, and where nothing is live each is spare
pub last_small : (slots : ℕ) (spare : List ℕ) (id : ℕ) → AllByRecursion (λ other. other < slots) spare → 0 < length spare → id ≡ get_or spare (length spare - 1) id → id < slots
last_small slots spare id small some last = AllByRecursion-member (λ other. other < slots) spare id small (length spare - 1, omega arith, sym last)

pub all_absent : (ids : List ℕ) → AllByRecursion (λ id. IsFalse (is_live [] id)) ids
all_absent [] = tt
all_absent (id ∷ ids) = (refl, all_absent ids)
