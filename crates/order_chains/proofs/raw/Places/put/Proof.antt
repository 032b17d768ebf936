-- `put` empties a place of the row and fills it again. Assumes `Logic`.
use Rattle.std.proofs.Common.{◌*◌, ◌^◌, ◌<◌, List, [], ◌∷◌, length, set, length-set, refl, ap, ◌∙◌, arith, w64, Some}
use Rattle.std.proofs.raw_atomic.Walks.{proved}
use Rattle.std.proofs.VecSteps.Shapes.{after}
use base.Fraction.{full_share}
use base.Fml.{ftrue, fsep, flft, froom}
use mir.Syntax.{named}
use mir.Val.{Val, vunit}
use contract.Monad.{fact}
use contract.Running.{tables}
use types.Kit.{‵, raw, ◌⊛◌, at_ret, ◌$◌, ◌∵◌, !, qed, move, keep, drop, use0, use1, use3, split, join, frame, suffices, fsplit, fsplit3, fjoin, fjoin3, feq_i, rewrite, done}
use types.Part.{whole, sub, look_in}
use types.Run.{enter, of_opd, lit, unit_lit, bin, load, init, stop, fld, assigns_last, first, blocks, exec, returns}
use types.ByLocal.{alloc_all, pass_all, free_all, look_at, get, through, sets, env}
use denote.Builtin.{usize}
use denote.Exit.{yes}
use denote.Laws.{shows}
use denote.Memory.{cell_at}
use denote.Plain.{uint_vals, uint_Tells}
use denote.RawPtr.{Ptr, block_of, count_of, at_block}
use denote.Ref.{MutRef, mut_vals, mut_Tells}
use denote.Shadow.{makes_shadow}
use denote.Signature.{Slot, plain}
use denote.Steps.{nothing, opens, closes, peeks, heard}
use denote.Triple.Walked.{Stays, walk_of, stay_dropped, stay_ref, Goes-ref, Goes-dropped, says, ends_at}
use Rattle.order_chains.specs.contracts.node.Node.{the_row as N}
use Rattle.order_chains.proofs.node.Node.TheLaws.{lowers as node_is, the_row_laws as node_laws}
use Rattle.order_chains.specs.contracts.raw.Places.{the_row as P}
use Rattle.order_chains.specs.contracts.raw.Places.put as promise
use Rattle.order_chains.proofs.raw.Places.put.Statement.{statement}
use Rattle.order_chains.proofs.raw.Places.put.Code as code
use Rattle.order_chains.proofs.raw.Places.TheLaws.{lowers as owner_is}
use Rattle.order_chains.specs.Ownership.{node_size, node_layout, from, owned, all_places}
use Rattle.order_chains.proofs.Rows.{refill, emptied, written}
use Rattle.order_chains.proofs.Words.{stored, owner_of, lies}

pub put_spec : {M : Type 1} → statement M
put_spec 𝓤 𝓛 𝓜 𝓡 wired =
    let E = promise.ended in let c = promise.clauses 𝓛 𝓜.mem 𝓡.returns in let 𝓣 = tables 𝓤 𝓛.H 𝓜 𝓡 𝓡.env in
    let index : Slot 1 = plain (λ κs. usize) in let new : Slot 1 = plain (λ κs. N) in
    let hs : Stays E.signature.params E.kept = (stay_ref (0 ∷ []) tt (plain (λ κs. P)), (stay_dropped index yes, (stay_dropped new yes, tt))) in
    proved 𝓛 E hs c 𝓜 𝓡 (Goes-ref 𝓛 1 0 tt (plain (λ κs. P)), (Goes-dropped 𝓛 1 index yes (λ κs x w. refl), (Goes-dropped 𝓛 1 new yes (λ κs x w. refl), tt)))
    promise.Key.name code.function (code.unfolded 𝓤 𝓛.H 𝓜 𝓡 wired)
    (λ κs. (mut_vals, (uint_vals w64, ((λ x. node_is.lowered x ∷ []), tt)))) (λ κs. (mut_Tells (named 0) κs.0 P, (uint_Tells w64, (node_is.val_is, tt))))
    (λ κs qs bounds a g are.
    let κ = κs.0 in let i = a.1.0 in let node = a.1.1.0 in let v = node_is.lowered node in let vs = mut_vals a.0 in
    let y : (walk_of 𝓛 E hs c).Ghost = ((κs, qs, bounds, a, (vs, (uint_vals w64 i, (v ∷ [], tt)))), g) in
    let row = a.0.now in let block = block_of row.at in let at = from (count_of row.at) in let rb = a.0.ref_ptr.0 in let ro = a.0.ref_ptr.1 in
    let Asked : Type 0 = i < length row.nodes in
    let nodes = set row.nodes i (Some node) in
    qed 𝓛 (((‵ (flft κ qs.0) ⊛ ‵ ftrue) ⊛ ‵ (fsep ((MutRef (named 0) κ P).own_val a.0 vs) (fsep (usize.own_val i (uint_vals w64 i)) (fsep (N.own_val node (v ∷ [])) ftrue)))) ∷ raw (fact 𝓤 Asked) ∷ []) ∵
    move ! (1 ∷ []) $ heard ! Asked (λ inside. split ! $ split ! $ move ! (2 ∷ []) $ fsplit3 ! $ move ! (2 ∷ []) $ fsplit ! $ keep ! (2 ∷ 4 ∷ 0 ∷ []) $
    let good = (node_laws.lawful 𝓛).typed node (v ∷ []) are.1.1.0 in
    enter ! _ _ _ _ _ $ alloc_all ! (λ l. pass_all ! refl ((tt, tt), ((tt, record { fits = are.1.0.1 }), (good.0, tt))) $
    fsplit3 ! $ move ! (1 ∷ 2 ∷ 3 ∷ []) $ opens ! tt P rb ro (λ us. move ! (1 ∷ []) $ peeks ! P _ (shows 𝓛 P) row us (λ is. fsplit ! $ drop ! $
    lies ! owned row.at row.nodes (λ there small.
    let far : i * node_size < 2 ^ 64 = omega arith in
    let kept : length nodes * node_size < 2 ^ 63 = omega (arith, length-set row.nodes i (Some node)) in
    rewrite ! 1 (λ (ws : List Val). ‵ (cell_at full_share P.mir ws rb ro)) (owner_is.val_is row us is ∙ ap (λ (p : Ptr). owner_is.lowered (record row { at = p }) ∷ []) (at_block row.at there)) refl $
    -- [the row; its owner, as it is stored; the open borrow, in three entries; .. ; the node]
    first ! $ blocks ! $ sets ! (of_opd ! (load ! (through ! refl (fld ! refl (stop !))) (look_in ! 1 (sub ! 0 refl (whole !))))) refl (tt, tt) $
    sets ! (bin ! (get ! refl) (lit ! tt) (record { fits = far })) refl (tt, record { fits = far }) $ sets ! (bin ! (get ! refl) (get ! refl) tt) refl (tt, tt) $
    use1 𝓛 (‵ (froom node_layout block (at i)) ⊛ ‵ (refill (owned block at) row.nodes i)) (emptied 𝓛 block at row.nodes i inside) $ split ! $
    assigns_last ! (of_opd ! (get ! refl)) (through ! refl (stop !)) (init ! 0 refl good.0) $
    exec ! 𝓣.C 𝓣.Λ (env code.Mir.locals l) (after 1 (code.function).body) (at_ret _ ((walk_of 𝓛 E hs c).post y)) $ sets ! (of_opd ! (unit_lit !)) refl (tt, tt) $
    move ! (0 ∷ 7 ∷ 1 ∷ []) $ use3 𝓛 (‵ (all_places (owned block at) nodes)) (written 𝓛 block at row.nodes i node v) $
    use1 𝓛 (‵ (P.own_val (record row { nodes = nodes }) (stored row.at ∷ []))) (owner_of 𝓛 row.at there nodes kept) $
    move ! (1 ∷ 0 ∷ []) $ closes ! tt P (record row { nodes = nodes }) (stored row.at ∷ []) rb ro $
    returns ! (look_at ! 0 refl) $ free_all ! refl $
    -- [two parts of the reference; the token; where it points]
    suffices ! _ (ends_at 𝓛 E hs c y vunit tt (record row { nodes = nodes }, (tt, (tt, tt))) (tt, (tt, (tt, tt)))) $ says ! (refl, refl) $
    move ! (3 ∷ []) $ fjoin3 ! $ use0 𝓛 (‵ (fsep ftrue (fsep ftrue ftrue))) (makes_shadow 𝓛 (fsep ftrue (fsep ftrue ftrue)) (tt, (tt, tt)) (tt, (tt, tt))) $ move ! (1 ∷ 0 ∷ []) $ fjoin ! $
    nothing ! $ move ! (2 ∷ 0 ∷ []) $ join ! $ frame ! $ frame ! $ feq_i ! _ (vunit ∷ []) _ refl $ done !))))))
