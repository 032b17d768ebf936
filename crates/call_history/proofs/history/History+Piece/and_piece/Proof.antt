-- `and_piece` makes the struct, with the piece's bytes behind the history's items. Assumes `Logic`.
use Rattle.std.proofs.Common.{◌≡◌, [], ◌∷◌, ◌++◌, refl}
use Rattle.std.proofs.raw_atomic.Walks.{proved}
use base.Logic.{emp}
use base.Fml.{ftrue, fsep}
use mir.Syntax.{named}
use contract.Monad.{fact_i}
use types.Kit.{‵, raw, ◌⊛◌, ◌$◌, ◌∵◌, !, qed, by, keep, split}
use types.Part.{agg}
use types.Run.{enter, returns, and_then, no_more}
use types.ByLocal.{alloc_all, pass_all, free_all, look_at, get, sets}
use denote.Builtin.{RefOf}
use denote.Exit.{yes}
use denote.RattleType.{RattleType, owns}
use denote.Ref.{shr_vals, shr_Tells}
use denote.Shadow.{makes_shadow}
use denote.Signature.{Slot, plain, types_at, named_lft, static_lft}
use denote.Triple.Entry.{alive}
use denote.Triple.Walked.{Stays, walk_of, stay_dropped, Goes-dropped}
use Rattle.call_history.proofs.Histories.{stored, holding, held_for_nothing, gives}
use Rattle.call_history.specs.contracts.history.History as History
use Rattle.call_history.specs.contracts.history.Piece as Piece
use Rattle.call_history.specs.contracts.history.History+Piece.and_piece as and_piece
use Rattle.call_history.proofs.history.History+Piece.and_piece.Statement.{statement}
use Rattle.call_history.proofs.history.History+Piece.and_piece.Code as code

-- no byte of a piece is kept, so its items are those of any lifetime
abbrev kept : RattleType
kept = Piece.the_row static_lft

pub and_piece_spec : {M : Type 1} → statement M
and_piece_spec 𝓤 𝓛 𝓜 𝓡 wired =
    let E = and_piece.ended in let c = and_piece.clauses 𝓛 𝓜.mem 𝓡.returns in
    let self : Slot 3 = RefOf (0 ∷ []) tt (plain (λ κs. History.the_row kept)) (λ κs. tt) in
    let piece : Slot 3 = RefOf (1 ∷ []) tt (plain (λ κs. Piece.the_row (named_lft 3 2 tt κs))) (λ κs. tt) in
    let hs : Stays E.signature.params E.kept = (stay_dropped self yes, (stay_dropped piece yes, tt)) in
    proved 𝓛 E hs c 𝓜 𝓡 (Goes-dropped 𝓛 3 self yes (λ κs x w. refl), (Goes-dropped 𝓛 3 piece yes (λ κs x w. refl), tt))
    and_piece.Key.name code.function (code.unfolded 𝓤 𝓛.H 𝓜 𝓡 wired)
    (λ κs. (shr_vals, (shr_vals, tt)))
    (λ κs. (shr_Tells (named 0) κs.0 (History.the_row kept), (shr_Tells (named 1) κs.1.0 (Piece.the_row (named_lft 3 2 tt κs)), tt)))
    (λ κs qs bounds a n are.
    let y : (walk_of 𝓛 E hs c).Ghost = ((κs, qs, bounds, a, (shr_vals a.0, (shr_vals a.1.0, tt))), n) in
    let both = a.0.now.items ++ a.1.0.now ∷ [] in
    qed 𝓛 ((raw (alive 𝓛 E.signature κs qs) ⊛ ‵ (owns (types_at E.signature.params κs) a y.0.4)) ∷ raw ((c κs a).requires n) ∷ []) ∵
    split ! $ keep ! (0 ∷ []) $
    enter ! _ _ _ _ _ $ alloc_all ! (λ l. pass_all ! refl ((tt, tt), ((tt, tt), tt)) $
    sets ! (agg ! (no_more !)) refl (tt, tt) $
    sets ! (agg ! (and_then ! (get ! refl) (no_more !))) refl (tt, (tt, tt)) $
    returns ! (look_at ! 0 refl) $ free_all ! refl $
    by ! (gives 𝓛 E hs c y stored (holding kept both) (tt, (tt, tt)) (tt, (tt, tt))
    (makes_shadow 𝓛 (fsep ftrue (fsep ftrue ftrue)) (tt, (tt, tt)) (tt, (tt, tt)))
    (held_for_nothing 𝓛 kept both) (fact_i 𝓤 (both ≡ a.0.now.items ++ a.1.0.now ∷ []) (emp 𝓤) refl))))
