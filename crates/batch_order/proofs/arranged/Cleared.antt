-- Entries that stand once and in order still do once some of them are erased.
use Rattle.std.proofs.Common.{◌≡◌, ◌≢◌, ℕ, ◌+◌, ◌<◌, true, false, not, Some, None, IsTrue, List, [], ◌∷◌, length, set, length-set, inl, inr, sym, ap, subst, ◌∙◌, arith}
use Rattle.std.specs.Prelude.{◌==◌, nat_eq}
use Rattle.std.specs.List.{AllByRecursion, IsDistinct}
use Rattle.std.proofs.lemmas.Bool.{cases_eq, false_from_ne_true, eq-eqb, and_from, lt-ltb}
use Rattle.slot_order.specs.Order.{slot}
use Rattle.slot_order.proofs.Lists.{contains_cases, contains_none, in_filter}
use Rattle.slot_order.proofs.Writes.{slot_same, slot_other, slot_inside}
use Rattle.slot_pool.specs.Arrangement.{Slots}
use Rattle.placement.specs.declared.LivePiece.{LivePiece}
use Rattle.placement.specs.Live.{is_live, is_above, without_id}
use Rattle.placement.proofs.Above.{above_is, is_above_from}
use Rattle.placement.proofs.Live.{apart_filter}
use Rattle.placement.specs.Insertion.{free_slots}
use Rattle.move_planner.proofs.Shifted.{free_erase}
use Rattle.commit_writes.specs.PlannedBatch.{home_slot, erased_live, erased_slots}
use Rattle.batch_order.specs.Entries.{Entries}
use Rattle.batch_order.specs.Planning.{IsSettled, IsStanding}
use Rattle.commit_writes.proofs.Rewrites.{home_is}
use Rattle.batch_order.proofs.ids.Ids.{gone, length_without}
use Rattle.batch_order.proofs.ids.Standing.{stands_at}
use Rattle.batch_order.proofs.arranged.Erased.{lives_still, was_live}

-- a live id stands
pub live_stands : (kept : Entries) (slots : Slots) (id : ℕ) → IsSettled kept slots → IsTrue (is_live kept.live id) → IsStanding slots id
live_stands kept slots id settled now = let w = settled.standing.placed id now in stands_at slots id w.0 w.1

-- another live id is live without this one
live_without : (live : List LivePiece) (id other : ℕ) → id ≢ other → is_live live other ≡ true → is_live (without_id live id) other ≡ true
live_without live id other apart now =
    lives_still live (id ∷ []) other (λ member. elim (contains_cases id other [] member) [ inl same ↦ apart same | inr none ↦ contains_none other none ]) now

-- who is above another without an id was so with it
above_with : (live : List LivePiece) (id a b : ℕ) → is_above (without_id live id) a b ≡ true → is_above live a b ≡ true
above_with live id a b now =
    let w = above_is (without_id live id) a b now in
    let upper = (in_filter (λ one. not (one.id == id)) live w.upper w.has_upper).0 in
    let lower = (in_filter (λ one. not (one.id == id)) live w.lower w.has_lower).0 in
    let there : is_above live w.upper.id w.lower.id ≡ true = is_above_from live w.upper w.lower upper lower (and_from _ _ w.meet (lt-ltb w.lower.rank w.upper.rank w.less)) in
    subst (λ z. is_above live z b ≡ true) w.upper_id (subst (λ z. is_above live w.upper.id z ≡ true) w.lower_id there)

-- a live id is erased where it stands
settled_without : (kept : Entries) (slots : Slots) (id : ℕ) → IsSettled kept slots → is_live kept.live id ≡ true
    → IsSettled (record kept { live = without_id kept.live id }) (set slots (home_slot slots id) None)
settled_without kept slots id settled now = record {
  size = length-set slots at None ∙ settled.size;
  few = settled.few;
  apart = apart_filter kept.slots (λ one. not (one.id == id)) kept.live settled.apart;
  standing = record {
    within = λ place other is.
        let was = still place other is in
        live_without kept.live id other (λ same.
        was.1 (settled.standing.once place at id (subst (λ n. slot slots place ≡ Some n) (sym same) was.0) there)) (settled.standing.within place other was.0);
    placed = λ other is.
        let stands = settled.standing.placed other (was_live kept.live id other is) in (
          stands.0,
          slot_other slots at None stands.0 (λ same.
              let both : Some other ≡ Some id = sym stands.1 ∙ (ap (slot slots) same ∙ there) in
              let one : other ≡ id = cc in
              let bad : true ≡ false = sym (subst (λ n. is_live (without_id kept.live id) n ≡ true) one is) ∙ gone kept.live id in cc) ∙ stands.1,
        );
    once = λ i j other a b. settled.standing.once i j other (still i other a).0 (still j other b).0;
  };
  order = λ i j first second less a b. false_from_ne_true _ (λ above.
      let bad : true ≡ false = sym (above_with kept.live id second first above) ∙ settled.order i j first second less (still i first a).0 (still j second b).0 in cc);
  count = (
      let freed : free_slots (set slots at None) ≡ free_slots slots + 1 = free_erase slots at id inside there in
      let fewer : length (without_id kept.live id) + 1 ≡ length kept.live = length_without kept.live id settled.apart.once now in
      let was : free_slots slots + length kept.live ≡ kept.slots = settled.count in
      omega arith
      );
}
  where
    at : ℕ
    at = home_slot slots id

    there : slot slots at ≡ Some id
    there = let stands = settled.standing.placed id now in ap (slot slots) (home_is slots id stands.0 settled.standing.once stands.1) ∙ stands.1

    inside : at < length slots
    inside = slot_inside slots at id there

    still : (place other : ℕ) → slot (set slots at None) place ≡ Some other → (slot slots place ≡ Some other) × (place ≢ at)
    still place other is = elim (cases_eq place at) [
      | inl same ↦ absurd (let none : None ≡ Some other = sym (slot_same slots at None inside) ∙ (ap (slot (set slots at None)) (sym same) ∙ is) in cc)
      | inr apart ↦ (sym (slot_other slots at None place apart) ∙ is, apart)
    ]

-- ids that are live, each once, are live without the first of them
others_live : (live : List LivePiece) (id : ℕ) (ids : List ℕ) → AllByRecursion (λ other. nat_eq id other ≡ false) ids → AllByRecursion (λ other. IsTrue (is_live live other)) ids
    → AllByRecursion (λ other. IsTrue (is_live (without_id live id) other)) ids
others_live live id [] apart all = tt
others_live live id (other ∷ ids) apart all = (
  live_without live id other (λ same. let e : nat_eq id other ≡ true = eq-eqb id other same in let bad : true ≡ false = sym e ∙ apart.0 in cc) all.0,
  others_live live id ids apart.1 all.1,
)

-- some live ids are erased, one after the other
pub settled_erased : (kept : Entries) (slots : Slots) (ids : List ℕ) → IsSettled kept slots → IsDistinct nat_eq ids → AllByRecursion (λ id. IsTrue (is_live kept.live id)) ids
    → IsSettled (record kept { live = erased_live kept.live ids }) (erased_slots slots ids)
unfolding IsDistinct
settled_erased kept slots [] settled once all = settled
settled_erased kept slots (id ∷ ids) settled once all =
    settled_erased (record kept { live = without_id kept.live id }) (set slots (home_slot slots id) None) ids (settled_without kept slots id settled all.0) once.1 (others_live kept.live id ids once.0 all.1)

-- each of some live ids stands
pub all_stand : (kept : Entries) (slots : Slots) (ids : List ℕ) → IsSettled kept slots → AllByRecursion (λ id. IsTrue (is_live kept.live id)) ids → AllByRecursion (IsStanding slots) ids
all_stand kept slots [] settled all = tt
all_stand kept slots (id ∷ ids) settled all = (live_stands kept slots id settled all.0, all_stand kept slots ids settled all.1)
