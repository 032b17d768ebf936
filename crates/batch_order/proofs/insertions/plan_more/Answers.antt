use Rattle.std.proofs.Common.{rules, ◌≡◌, ◌≤◌, ◌+◌, ◌-◌, ◌++◌, [], ◌∷◌, length, take, drop, suc, subst, sym, ap, ◌∙◌, arith, List, ℕ, IsTrue, ap₂, append_assoc}
use Rattle.std.specs.Prelude.{vec_capacity}
use Rattle.std.proofs.lemmas.Grind.{common_steps}
use Rattle.std.proofs.lemmas.List.{map-append, take_all}
use Rattle.rule_model.specs.Entry.{RankedPiece}
use Rattle.placement.specs.declared.LivePiece.{LivePiece}
use Rattle.batch_order.specs.Entries.{Entries, AddsIds, KeepEntries}
use Rattle.placement.specs.declared.Aim.{Aim}
use Rattle.placement.specs.Live.{is_live}
use Rattle.placement.specs.Placement.{Aiming}
use Rattle.batch_order.specs.Placing.{aim_of, aims_from}
use Rattle.batch_order.specs.Planning.{ArePlannedSince, IsPlannable}
use Rattle.batch_order.proofs.back.Gained.{notes_none, notes_then}
use Rattle.batch_order.proofs.planning.Aimed.{aims_next, length-aims}
use Rattle.batch_order.proofs.planning.Refused.{adds_first, kept_back}
use Rattle.batch_order.proofs.planning.Since.{live_more, planned_then}
use Rattle.commit_writes.proofs.Walked.{take_next}
use Rattle.batch_order.proofs.insertions.plan_more.Goals as goal

-- some ids became live after others
adds_then : (old mid new : Entries) (first second : List ℕ) → AddsIds old mid first → AddsIds mid new second → AddsIds old new (first ++ second)
adds_then old mid new first second one two = record {
  made = one.made ++ two.made;
  live = two.live ∙ (ap (λ (l : List LivePiece). l ++ two.made) one.live ∙ append_assoc old.live one.made two.made);
  ids_are = map-append (λ (x : LivePiece). x.id) one.made two.made ∙ ap₂ (λ (a b : List ℕ). a ++ b) one.ids_are two.ids_are;
  slots = two.slots ∙ one.slots;
}

pub loop-ranked-preserved : goal.loop-ranked-preserved
loop-ranked-preserved c =
    let was = c.loop-ranked.invariant in
    let pieces = c.args.pieces.now in
    let some = take c.loop-ranked.ranked-index pieces in
    let one = c.ranked-item.result in
    let more : take (c.loop-ranked.ranked-index + 1) pieces ≡ some ++ one ∷ [] = take_next pieces c.loop-ranked.ranked-index one (omega arith) (sym c.ranked-item.is) in
    let set = c.args.rules.now.rules in
    let slots = c.slots-slots.result in
    let all = slots - c.free_count.result + length pieces in
    let size : c.len-place.result ≡ length c.loop-ranked.ids.items = first_of (search rules, grind (arith, common_steps)) in
    let place : c.args.made + c.len-place.result ≡ c.args.made + c.loop-ranked.ranked-index = (let number = was.2 in omega arith) in
    let later : c.len-place.result + 1 ≡ suc c.loop-ranked.ranked-index = (let number = was.2 in omega arith) in
    let all_aims = aims_from c.args.placement c.args.mode slots set all c.args.made pieces in
    let aiming : Aiming = record { aim = c.aim_of-aim.result; coming = c.behind-coming.result.now } in
    let aims : take c.loop-ranked.ranked-index all_aims ++ aiming ∷ [] ≡ take (c.loop-ranked.ranked-index + 1) all_aims =
    ap₂ (λ (aim : Aim) (later : List ℕ). take c.loop-ranked.ranked-index all_aims ++ record { aim = aim; coming = later } ∷ [])
    (c.aim_of-aim.ensures ∙ ap (λ (n : ℕ). aim_of c.args.placement c.args.mode slots set all n one) place)
    (c.behind-coming.ensures ∙ ap₂ (λ (n : ℕ) (ranks : List ℕ). drop n ranks) later (c.deref.ensures.value ∙ c.in_ok-ranks.ensures))
    ∙ (sym (aims_next c.args.placement c.args.mode slots set all c.args.made pieces c.loop-ranked.ranked-index one (omega arith) (sym c.ranked-item.is))
    ∙ ap (λ (n : ℕ). take n all_aims) (let k : suc c.loop-ranked.ranked-index ≡ c.loop-ranked.ranked-index + 1 = omega arith in k)) in
    let planned = planned_then c.args.live.now c.loop-ranked.live c.plan_piece.new.live c.args.arrangement.now c.loop-ranked.arrangement c.plan_piece.new.arrangement
    c.args.plan.now c.loop-ranked.plan c.plan_piece.new.plan some (one ∷ []) (take c.loop-ranked.ranked-index all_aims) (aiming ∷ []) was.4 c.in-Ok.ensures.planned in
    let plannable : IsPlannable c.plan_piece.new.live c.plan_piece.new.arrangement c.plan_piece.new.plan.writes = c.in-Ok.ensures.plannable in
    let items : c.push_reserved.new.self.items ≡ c.loop-ranked.ids.items ++ c.in-Ok.id ∷ [] = search rules in
    let adds : AddsIds c.args.live.now c.plan_piece.new.live c.push_reserved.new.self.items =
    subst (AddsIds c.args.live.now c.plan_piece.new.live) (sym items) (adds_then c.args.live.now c.loop-ranked.live c.plan_piece.new.live c.loop-ranked.ids.items (c.in-Ok.id ∷ []) was.1 c.in-Ok.ensures.adds) in
    let number : length c.push_reserved.new.self.items ≡ c.loop-ranked.ranked-index + 1 = first_of (search rules, grind (arith, common_steps)) in
    let room : length pieces ≤ vec_capacity c.push_reserved.new.self = first_of (search rules, grind (arith, common_steps)) in (
      plannable,
      adds,
      number,
      room,
      subst (λ (pieces : List RankedPiece). ArePlannedSince c.args.live.now c.plan_piece.new.live c.args.arrangement.now c.plan_piece.new.arrangement c.args.plan.now c.plan_piece.new.plan pieces (take (c.loop-ranked.ranked-index + 1) all_aims)) (sym more)
          (subst (ArePlannedSince c.args.live.now c.plan_piece.new.live c.args.arrangement.now c.plan_piece.new.arrangement c.args.plan.now c.plan_piece.new.plan (some ++ one ∷ [])) aims planned),
      notes_then c.args.arrangement.now c.loop-ranked.arrangement c.plan_piece.new.arrangement c.args.plan.now c.loop-ranked.plan c.plan_piece.new.plan was.5 c.plan_piece.ensures.noted,
    )

pub returns-clause-planned : goal.returns-clause-planned
returns-clause-planned c =
    let was = c.loop-ranked.invariant in
    let pieces = c.args.pieces.now in
    let set = c.args.rules.now.rules in
    let past = c.loop-ranked-test.false in
    let slots = c.slots-slots.result in
    let all = slots - c.free_count.result + length pieces in
    let size = c.slots-slots.ensures.number in
    let number : all ≡ length c.args.live.now.live + length pieces =
    (let count = c.requires.plannable.settled.count in let same = c.requires.plannable.settled.size in let free = c.free_count.ensures in omega arith) in
    let each = length-aims c.args.placement c.args.mode slots set all c.args.made pieces in
    let aims : take c.loop-ranked.ranked-index (aims_from c.args.placement c.args.mode slots set all c.args.made pieces)
    ≡ aims_from c.args.placement c.args.mode (length c.args.arrangement.now) set (length c.args.live.now.live + length pieces) c.args.made pieces =
    take_all c.loop-ranked.ranked-index (aims_from c.args.placement c.args.mode slots set all c.args.made pieces) (omega arith)
    ∙ (ap (λ (n : ℕ). aims_from c.args.placement c.args.mode n set all c.args.made pieces) size
    ∙ ap (λ (n : ℕ). aims_from c.args.placement c.args.mode (length c.args.arrangement.now) set n c.args.made pieces) number) in
    subst (λ (some : List RankedPiece). ArePlannedSince c.args.live.now c.loop-ranked.live c.args.arrangement.now c.loop-ranked.arrangement c.args.plan.now c.loop-ranked.plan some
    (aims_from c.args.placement c.args.mode (length c.args.arrangement.now) set (length c.args.live.now.live + length pieces) c.args.made pieces))
    (take_all c.loop-ranked.ranked-index pieces past)
    (subst (ArePlannedSince c.args.live.now c.loop-ranked.live c.args.arrangement.now c.loop-ranked.arrangement c.args.plan.now c.loop-ranked.plan (take c.loop-ranked.ranked-index pieces)) aims was.4)

pub returns-in_err-ranks-clause-noted : goal.returns-in_err-ranks-clause-noted
returns-in_err-ranks-clause-noted c = notes_none c.args.arrangement.now c.args.plan.now

pub returns-in_err-ids-clause-noted : goal.returns-in_err-ids-clause-noted
returns-in_err-ids-clause-noted c = notes_none c.args.arrangement.now c.args.plan.now

pub returns-in-Err-clause-noted : goal.returns-in-Err-clause-noted
returns-in-Err-clause-noted c =
    notes_then c.args.arrangement.now c.loop-ranked.arrangement c.plan_piece.new.arrangement c.args.plan.now c.loop-ranked.plan c.plan_piece.new.plan c.loop-ranked.invariant.5 c.plan_piece.ensures.noted

-- what was live before keeps its entry where the new ids are forgotten
kept_then : (old mid new end : Entries) (ids : List ℕ) → AddsIds old mid ids → KeepEntries old.live old.entries mid.entries → new.live ≡ mid.live → KeepEntries mid.live mid.entries new.entries
    → end.live ≡ take (length new.live - length ids) new.live → KeepEntries end.live new.entries end.entries → KeepEntries old.live old.entries end.entries
kept_then old mid new end ids adds first same second back third =
    kept_back old new end (λ id now. second id (subst (λ (l : List LivePiece). IsTrue (is_live l id)) (sym adds.live) (live_more old.live adds.made id now)) ∙ first id now) third
    (back ∙ (ap (λ (l : List LivePiece). take (length l - length ids) l) same ∙ adds_first old mid ids adds))

-- on either outcome it is told where the ids stand
pub returns-in_err-ranks-clause-told : goal.returns-in_err-ranks-clause-told
returns-in_err-ranks-clause-told c = c.requires.plannable.told

pub returns-in_err-ids-clause-told : goal.returns-in_err-ids-clause-told
returns-in_err-ids-clause-told c = c.requires.plannable.told

pub returns-in-Err-clause-told : goal.returns-in-Err-clause-told
returns-in-Err-clause-told c = c.forget_all.ensures.told c.plan_piece.new.arrangement c.plan_piece.ensures.told

pub returns-clause-told : goal.returns-clause-told
returns-clause-told c = c.loop-ranked.invariant.0.told

pub returns-in-Err-clause-kept : goal.returns-in-Err-clause-kept
returns-in-Err-clause-kept c =
    let was = c.loop-ranked.invariant in
    kept_then c.args.live.now c.loop-ranked.live c.plan_piece.new.live c.forget_all.new.live c.loop-ranked.ids.items was.1 was.4.kept c.in-Err.ensures.refused c.plan_piece.ensures.kept
    c.forget_all.ensures.live c.forget_all.ensures.kept
