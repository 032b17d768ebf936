-- `get` goes from a `&` to the row to a `&` to one node of it. Assumes `Logic`.
use Rattle.std.proofs.Common.{◌≡◌, ◌+◌, ◌*◌, ◌^◌, ◌<◌, [], ◌∷◌, get_or, refl, arith, w64, Option, Some, None}
use Rattle.std.proofs.raw_atomic.Walks.{proved}
use Rattle.std.proofs.VecSteps.Shapes.{after}
use Rattle.std_alloc.proofs.Words.{pointer_in, pointer_out}
use base.Logic.{emp, id⊢}
use base.Fml.{ftrue, fsep, flft}
use mir.Syntax.{named}
use mir.Val.{vptr}
use contract.Monad.{fact, fact_i}
use contract.Running.{tables}
use types.Kit.{‵, raw, ◌⊛◌, at_ret, ◌$◌, ◌∵◌, !, qed, by, move, keep, drop, use1, use2, split, fsplit, fjoin, feq_i, rewrite}
use types.Run.{enter, of_opd, lit, bin, addr, load, look, stop, fld, first, blocks, exec, returns}
use types.ByLocal.{alloc_all, pass_all, free_all, look_at, get, through, sets, sets_last, env}
use denote.Builtin.{usize, RefOf}
use denote.Exit.{yes}
use denote.Memory.{hidden_shr, shared_of}
use denote.Opens.{hide, unhide}
use denote.Plain.{uint_vals, uint_Tells}
use denote.RawPtr.{RawPtr, block_of, count_of, ptr_row_laws}
use denote.Ref.{ShrRef, shr_vals, shr_Tells}
use denote.Shadow.{makes_shadow}
use denote.SharingLaws.{contraction}
use denote.Signature.{Slot, plain}
use denote.Steps.{nothing, heard}
use denote.Triple.Entry.{alive}
use denote.Triple.Walked.{Stays, walk_of, stay_dropped, Goes-dropped}
use Rattle.order_chains.specs.declared.node.Node.{Node}
use Rattle.order_chains.specs.contracts.raw.Places.{the_row as P}
use Rattle.order_chains.specs.contracts.raw.Places.get as promise
use Rattle.order_chains.proofs.raw.Places.get.Statement.{statement}
use Rattle.order_chains.proofs.raw.Places.get.Code as code
use Rattle.order_chains.specs.Ownership.{node_size, from, lent}
use Rattle.order_chains.proofs.Rows.{refill, focus, is_place}
use Rattle.order_chains.proofs.Words.{ends, lies}

pub get_spec : {M : Type 1} → statement M
get_spec 𝓤 𝓛 𝓜 𝓡 wired =
    let E = promise.ended in let c = promise.clauses 𝓛 𝓜.mem 𝓡.returns in let 𝓣 = tables 𝓤 𝓛.H 𝓜 𝓡 𝓡.env in
    let self : Slot 1 = RefOf (0 ∷ []) tt (plain (λ κs. P)) (λ κs. tt) in let index : Slot 1 = plain (λ κs. usize) in
    let hs : Stays E.signature.params E.kept = (stay_dropped self yes, (stay_dropped index yes, tt)) in
    proved 𝓛 E hs c 𝓜 𝓡 (Goes-dropped 𝓛 1 self yes (λ κs x w. refl), (Goes-dropped 𝓛 1 index yes (λ κs x w. refl), tt))
    promise.Key.name code.function (code.unfolded 𝓤 𝓛.H 𝓜 𝓡 wired)
    (λ κs. (shr_vals, (uint_vals w64, tt))) (λ κs. (shr_Tells (named 0) κs.0 P, (uint_Tells w64, tt)))
    (λ κs qs bounds a g are.
    let y : (walk_of 𝓛 E hs c).Ghost = ((κs, qs, bounds, a, (shr_vals a.0, (uint_vals w64 a.1.0, tt))), g) in
    let row = a.0.now in let i = a.1.0 in let κ = κs.0 in
    let block = block_of row.at in let at = from (count_of row.at) in let rb = a.0.ref_ptr.0 in let ro = a.0.ref_ptr.1 + 0 in
    let Asked : Type 0 = (x : Node) × (get_or row.nodes i None ≡ Some x) in
    let Self = ‵ ((ShrRef (named 0) κ P).own_val a.0 (shr_vals a.0)) in
    qed 𝓛 (((‵ (flft κ qs.0) ⊛ ‵ ftrue) ⊛ Self ⊛ ‵ (fsep (usize.own_val i (uint_vals w64 i)) ftrue)) ∷ raw (fact 𝓤 Asked) ∷ []) ∵
    move ! (1 ∷ []) $ heard ! Asked (λ asked. split ! $ split ! $ move ! (2 ∷ []) $ split ! $ keep ! (0 ∷ 2 ∷ []) $
    fsplit ! $ drop ! $ use1 𝓛 (‵ (hidden_shr P κ row rb a.0.ref_ptr.1)) (id⊢ 𝓤 _) $
    enter ! _ _ _ _ _ $ alloc_all ! (λ l. pass_all ! refl ((tt, tt), ((tt, record { fits = are.1.0.1 }), tt)) $
    -- the row, apart from the pointer to it
    unhide ! $ fsplit ! $ move ! (1 ∷ []) $ lies ! (lent κ) row.at row.nodes (λ there small.
    let inside = is_place row.nodes i asked.0 asked.1 in
    let far : i * node_size < 2 ^ 64 = omega arith in
    use1 𝓛 (‵ (lent κ block at i (get_or row.nodes i None)) ⊛ ‵ (refill (lent κ block at) row.nodes i)) (focus 𝓛 (lent κ block at) row.nodes i inside) $ split ! $
    rewrite ! 0 (λ (held : Option Node). ‵ (lent κ block at i held)) asked.1 refl $ hide ! $ move ! (2 ∷ []) $ fsplit ! $ fsplit ! $ hide ! $ move ! (0 ∷ 5 ∷ []) $
    -- [the pointer; the token; .. ; the node]
    pointer_in ! tt row.at there rb ro (contraction 𝓛 (shared_of RawPtr row.at rb ro) (ptr_row_laws row.at rb ro) κ) (λ q. drop ! $ first ! $ blocks ! $
    sets ! (of_opd ! (load ! (through ! refl (fld ! refl (stop !))) (look ! 0 refl))) refl (tt, tt) $ nothing ! $ pointer_out ! tt row.at there rb ro $
    sets ! (bin ! (get ! refl) (lit ! tt) (record { fits = far })) refl (tt, record { fits = far }) $ sets ! (bin ! (get ! refl) (get ! refl) tt) refl (tt, tt) $
    sets_last ! (addr ! (through ! refl (stop !))) refl (tt, tt) $
    exec ! 𝓣.C 𝓣.Λ (env code.Mir.locals l) (after 1 (code.function).body) (at_ret _ ((walk_of 𝓛 E hs c).post y)) $ sets ! (of_opd ! (get ! refl)) refl (tt, tt) $
    returns ! (look_at ! 0 refl) $ free_all ! refl $ keep ! (0 ∷ 4 ∷ []) $ nothing ! $ move ! (1 ∷ 0 ∷ []) $ use2 𝓛 (raw (alive 𝓛 E.signature κs qs)) (id⊢ 𝓤 _) $
    move ! (1 ∷ []) $ feq_i ! _ (vptr block (at i) ∷ []) _ refl $ fjoin ! $ move ! (1 ∷ 0 ∷ []) $
    by ! (ends 𝓛 E hs c y (vptr block (at i)) (record { ref_ptr = (block, at i); now = asked.0 }) (tt, (tt, tt)) (tt, (tt, tt))
    (makes_shadow 𝓛 (fsep ftrue (fsep ftrue ftrue)) (tt, (tt, tt)) (tt, (tt, tt))) (fact_i 𝓤 (get_or row.nodes i None ≡ Some asked.0) (emp 𝓤) asked.1)))))))
