-- `and` makes the struct, with the item behind the history's own. Assumes `Logic`.
use Rattle.std.proofs.Common.{◌≡◌, [], ◌∷◌, ◌++◌, refl}
use Rattle.std.proofs.raw_atomic.Walks.{proved}
use base.Logic.{emp}
use base.Fml.{ftrue, fsep}
use mir.Syntax.{named}
use mir.MapTy.{inst_fn}
use contract.Monad.{fact_i}
use types.Kit.{‵, raw, ◌⊛◌, ◌$◌, ◌∵◌, !, qed, by, keep, split}
use types.Part.{agg}
use types.Run.{enter, returns, and_then, no_more}
use types.ByLocal.{alloc_all, pass_all, free_all, look_at, get, sets}
use denote.Builtin.{RefOf}
use denote.Exit.{yes}
use denote.RattleType.{owns}
use denote.Param.{param}
use denote.Ref.{shr_vals, shr_Tells}
use denote.Shadow.{makes_shadow}
use denote.Signature.{Slot, plain, types_at}
use denote.Triple.Entry.{alive}
use denote.Triple.Walked.{Stays, walk_of, stay_dropped, Goes-dropped}
use Rattle.call_history.proofs.Histories.{of_type, stored, holding, held_for_nothing, gives}
use Rattle.call_history.specs.contracts.history.History as History
use Rattle.call_history.specs.contracts.history.History.and as and
use Rattle.call_history.proofs.history.History.and.Statement.{statement}
use Rattle.call_history.proofs.history.History.and.Code as code

pub and_spec : {M : Type 1} → statement M
and_spec 𝓤 𝓛 𝓜 𝓡 wired T LT =
    let E = and.ended T in let c = and.clauses T 𝓛 𝓜.mem 𝓡.returns in
    let self : Slot 3 = RefOf (0 ∷ []) tt (plain (λ κs. History.the_row (param 0 T))) (λ κs. tt) in
    let item : Slot 3 = RefOf (1 ∷ []) tt (plain (λ κs. param 0 T)) (λ κs. tt) in
    let hs : Stays E.signature.params E.kept = (stay_dropped self yes, (stay_dropped item yes, tt)) in
    proved 𝓛 E hs c 𝓜 𝓡 (Goes-dropped 𝓛 3 self yes (λ κs x w. refl), (Goes-dropped 𝓛 3 item yes (λ κs x w. refl), tt))
    (and.Key.name (of_type T)) (inst_fn (of_type T) code.function) (code.unfolded 𝓤 𝓛.H 𝓜 𝓡 wired (T, tt))
    (λ κs. (shr_vals, (shr_vals, tt)))
    (λ κs. (shr_Tells (named 0) κs.0 (History.the_row (param 0 T)), (shr_Tells (named 1) κs.1.0 (param 0 T), tt)))
    (λ κs qs bounds a n are.
    let y : (walk_of 𝓛 E hs c).Ghost = ((κs, qs, bounds, a, (shr_vals a.0, (shr_vals a.1.0, tt))), n) in
    let both = a.0.now.items ++ a.1.0.now ∷ [] in
    qed 𝓛 ((raw (alive 𝓛 E.signature κs qs) ⊛ ‵ (owns (types_at E.signature.params κs) a y.0.4)) ∷ raw ((c κs a).requires n) ∷ []) ∵
    split ! $ keep ! (0 ∷ []) $
    enter ! _ _ _ _ _ $ alloc_all ! (λ l. pass_all ! refl ((tt, tt), ((tt, tt), tt)) $
    sets ! (agg ! (no_more !)) refl (tt, tt) $
    sets ! (agg ! (and_then ! (get ! refl) (no_more !))) refl (tt, (tt, tt)) $
    returns ! (look_at ! 0 refl) $ free_all ! refl $
    by ! (gives 𝓛 E hs c y stored (holding (param 0 T) both) (tt, (tt, tt)) (tt, (tt, tt))
    (makes_shadow 𝓛 (fsep ftrue (fsep ftrue ftrue)) (tt, (tt, tt)) (tt, (tt, tt)))
    (held_for_nothing 𝓛 (param 0 T) both) (fact_i 𝓤 (both ≡ a.0.now.items ++ a.1.0.now ∷ []) (emp 𝓤) refl))))
