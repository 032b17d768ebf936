-- `new` makes the struct, with no items. Assumes `Logic`.
use Rattle.std.proofs.Common.{◌≡◌, [], ◌∷◌, refl}
use Rattle.std.proofs.raw_atomic.Walks.{proved}
use base.Logic.{emp, id⊢}
use mir.MapTy.{inst_fn}
use contract.Monad.{fact_i}
use types.Kit.{‵, raw, ◌⊛◌, ◌$◌, ◌∵◌, !, qed, by, keep, split}
use types.Part.{agg}
use types.Run.{enter, returns, and_then, no_more}
use types.ByLocal.{alloc_all, pass_all, free_all, look_at, get, sets}
use denote.RattleType.{owns}
use denote.Param.{param}
use denote.Signature.{types_at}
use denote.Triple.Entry.{alive}
use denote.Triple.Walked.{walk_of}
use Rattle.call_history.proofs.Histories.{of_type, stored, holding, held_for_nothing, gives}
use Rattle.call_history.specs.contracts.history.History.new as new
use Rattle.call_history.proofs.history.History.new.Statement.{statement}
use Rattle.call_history.proofs.history.History.new.Code as code

pub new_spec : {M : Type 1} → statement M
new_spec 𝓤 𝓛 𝓜 𝓡 wired T LT =
    let E = new.ended T in let c = new.clauses T 𝓛 𝓜.mem 𝓡.returns in
    proved 𝓛 E tt c 𝓜 𝓡 tt (new.Key.name (of_type T)) (inst_fn (of_type T) code.function)
    (code.unfolded 𝓤 𝓛.H 𝓜 𝓡 wired (T, tt)) (λ κs. tt) (λ κs. tt) (λ κs qs bounds a n are.
    let y : (walk_of 𝓛 E tt c).Ghost = ((κs, qs, bounds, a, tt), n) in
    qed 𝓛 ((raw (alive 𝓛 E.signature κs qs) ⊛ ‵ (owns (types_at E.signature.params κs) a y.0.4)) ∷ raw ((c κs a).requires n) ∷ []) ∵
    split ! $ keep ! (0 ∷ []) $
    enter ! _ _ _ _ _ $ alloc_all ! (λ l. pass_all ! refl tt $
    sets ! (agg ! (no_more !)) refl (tt, tt) $
    sets ! (agg ! (and_then ! (get ! refl) (no_more !))) refl (tt, (tt, tt)) $
    returns ! (look_at ! 0 refl) $ free_all ! refl $
    by ! (gives 𝓛 E tt c y stored (holding (param 0 T) []) tt tt (id⊢ 𝓤 (emp 𝓤))
    (held_for_nothing 𝓛 (param 0 T) []) (fact_i 𝓤 ((holding (param 0 T) []).items ≡ []) (emp 𝓤) refl))))
