-- `give_back` makes room of its row, and hands it back with the right to do so. Assumes `Logic`.
use Rattle.std.proofs.Common.{◌≡◌, ℕ, ◌*◌, ◌^◌, ◌<◌, [], ◌∷◌, length, refl, sym, ◌∙◌, subst, arith, lit<, w64}
use Rattle.std.proofs.raw_atomic.Walks.{proved}
use lib.Dec.{T}
use mir.Syntax.{Fn, Args, a_type, dcons, dnil, named, ty_unit}
use mir.Val.{Val, vptr, vint, vunit, has_ty, WT}
use mir.MapTy.{inst_fn}
use base.Logic.{emp, id⊢}
use base.Fml.{ftrue, fsep, froom, flft}
use prog.Wp.{WpFn}
use contract.BorrowLft.{◌⊑◌, ⊑_trans}
use contract.Monad.{fact}
use contract.Running.{tables}
use types.Kit.{‵, raw, ◌⊛◌, given, later, prop, at_ret, ◌$◌, ◌∵◌, !, qed, by, move, keep, drop, use1, split, join, group, learn, rewrite, regoal, fsplit, feq_i, await}
use types.Part.{whole, sub}
use types.Run.{stop, fld, lit, unit_lit, of_opd, bin, no_more, and_then, first, blocks, exec, returns, enter}
use types.ByLocal.{alloc_all, pass_all, free_all, look_at, get, get_in, sets, lands_last, env}
use denote.Builtin.{usize, RefOf}
use denote.Exit.{yes}
use denote.Param.{param, bounded}
use denote.Param.Laws.{param_laws}
use denote.Plain.{uint_vals, uint_Tells}
use denote.RawPtr.{Ptr, block_of, count_of, at_block}
use denote.Ref.{ShrRef, shr_vals, shr_Tells}
use denote.Shadow.{makes_shadow}
use denote.Signature.{Slot, plain}
use denote.Steps.{heard}
use denote.Triple.Entry.{alive}
use denote.Triple.Call.{calls_at_last}
use denote.Triple.Walked.{Stays, stay_dropped, walk_of, Goes-dropped}
use Rattle.core.proofs.alloc.Calls.{Al, seen, Goes-blank, Gives, at_gives, Gives-goes, Gives-Gives}
use Rattle.core.proofs.alloc.Shapes.{after}
use Rattle.core.proofs.atomic.Steps.{fm}
use Rattle.order_chains.specs.contracts.raw.Places.{the_row as P}
use Rattle.order_chains.specs.contracts.raw.Deed as Deed
use Rattle.order_chains.specs.contracts.raw.give_back as promise
use Rattle.order_chains.proofs.raw.Places.TheLaws.{lowers as owner_is}
use Rattle.order_chains.proofs.raw.Deed.TheLaws.{lowers as deed_is}
use Rattle.order_chains.proofs.raw.give_back.Statement.{statement}
use Rattle.order_chains.proofs.raw.give_back.Code as code
use Rattle.order_chains.specs.Ownership.{node_size, row_of, owned}
use Rattle.order_chains.proofs.Words.{sealed, returned, ends, lies, row_size, row_align}

pub give_back_spec : {M : Type 1} → statement M
give_back_spec 𝓤 𝓛 𝓜 𝓡 wired A laws g table drops met met_drops =
    let E = promise.ended A g table drops in let c = promise.clauses A g table drops 𝓛 𝓜.mem 𝓡.returns in let 𝓣 = tables 𝓤 𝓛.H 𝓜 𝓡 𝓡.env in
    let chosen : Args = bounded (a_type ∷ []) (A, tt) (dcons table (dcons drops dnil)) in let fn : Fn = inst_fn chosen code.function in
    let D = Deed.the_row (param 0 A) g in let right = deed_is (param 0 A) g (param_laws 0 A laws) in
    let places : Slot 2 = plain (λ κs. P) in let deed : Slot 2 = plain (λ κs. D) in
    let handle : Slot 2 = RefOf (0 ∷ []) tt (plain (λ κs. param 0 A)) (λ κs. tt) in let count : Slot 2 = plain (λ κs. usize) in
    let hs : Stays E.signature.params E.kept = (stay_dropped places E.kept.0, (stay_dropped deed E.kept.1.0, (stay_dropped handle yes, (stay_dropped count yes, tt)))) in
    let allocator : Al = record { row = A; laws = laws; g = g; d = table; drops = drops } in let Asks = Gives allocator 𝓛 𝓜.mem 𝓡.returns in
    proved 𝓛 E hs c 𝓜 𝓡
    (Goes-blank 𝓛 2 places E.kept.0 (λ κs x w. tt), (Goes-blank 𝓛 2 deed E.kept.1.0 (λ κs x w. tt), (Goes-dropped 𝓛 2 handle yes (λ κs x w. refl), (Goes-dropped 𝓛 2 count yes (λ κs x w. refl), tt))))
    (promise.Key.name chosen) fn (code.unfolded 𝓤 𝓛.H 𝓜 𝓡 wired (A, tt) table drops)
    (λ κs. ((λ x. owner_is.lowered x ∷ []), ((λ x. right.lowered x ∷ []), (shr_vals, (uint_vals w64, tt)))))
    (λ κs. (owner_is.val_is, (right.val_is, (shr_Tells (named 0) κs.0 (param 0 A), (uint_Tells w64, tt)))))
    (λ κs qs bounds a ghost are.
    let κ = κs.0 in let q = qs.0 in let row = a.0 in let mine = a.1.0 in let borrowed = a.1.1.0 in let alloc = borrowed.now in let len = a.1.1.1.0 in let bytes = len * node_size in
    let y : (walk_of 𝓛 E hs c).Ghost = ((κs, qs, bounds, a, (owner_is.lowered row ∷ [], (right.lowered mine ∷ [], (shr_vals borrowed, (uint_vals w64 len, tt))))), ghost) in
    let End = (walk_of 𝓛 E hs c).post y in let block = block_of row.at in let start = count_of row.at in
    let Tokens = ‵ (flft κ q) ⊛ ‵ (flft κs.1.0 qs.1.0) ⊛ ‵ ftrue in
    let Handle = ‵ ((ShrRef (named 0) κ (param 0 A)).own_val borrowed (shr_vals borrowed)) in
    let Asked : Type 0 = (mine.alloc ≡ alloc) × (mine.start ≡ row.at) × (mine.len ≡ len) × (length row.nodes ≡ len) in
    let asks : Asks.Ghost = at_gives allocator 𝓛 𝓜.mem 𝓡.returns κ q borrowed.ref_ptr alloc block start bytes 4 (row_of len) in
    qed 𝓛 ((Tokens ⊛ ‵ (P.own_val row (owner_is.lowered row ∷ [])) ⊛ ‵ (D.own_val mine (right.lowered mine ∷ [])) ⊛ Handle ⊛ ‵ (fsep (usize.own_val len (uint_vals w64 len)) ftrue))
    ∷ (raw (fact 𝓤 (κs.1.0 ⊑ A.lives)) ⊛ raw (fact 𝓤 Asked)) ∷ []) ∵
    move ! (1 ∷ []) $ split ! $ heard ! (κs.1.0 ⊑ A.lives) (λ long. heard ! Asked (λ same.
    -- the row, and the room that it is
    split ! $ move ! (1 ∷ []) $ split ! $ fsplit ! $ drop ! $ lies ! owned row.at row.nodes (λ there small.
    let fits : bytes < 2 ^ 64 = (let within : bytes < 2 ^ 63 = subst (λ n. n * node_size < 2 ^ 63) same.3 small in omega arith) in
    use1 𝓛 (‵ (froom (row_of (length row.nodes)) block start)) (returned 𝓛 block start row.nodes) $ rewrite ! 0 (λ (n : ℕ). ‵ (froom (row_of n) block start)) same.3 refl $
    -- the right to give that room back, and the handle to do it by
    move ! (1 ∷ []) $ split ! $ fsplit ! $ drop ! $
    rewrite ! 0 (λ (d : A.Denot × ℕ × Ptr). ‵ (g.dealloc_token d.0 (row_of d.1) d.2)) (λ j. (same.0 j, same.2 j, (same.1 ∙ at_block row.at there) j)) refl $
    move ! (1 ∷ []) $ split ! $ fsplit ! $ drop ! $ use1 𝓛 (‵ (seen allocator κ borrowed.ref_ptr alloc)) (id⊢ 𝓤 _) $ move ! (4 ∷ []) $ split ! $ keep ! (5 ∷ 4 ∷ 2 ∷ 0 ∷ 1 ∷ []) $
    regoal ! (λ (p : Ptr). prop (WpFn 𝓤 𝓛.H 𝓣.C 𝓣.Λ fn (owner_is.lowered (record row { at = p }) ∷ sealed ∷ vptr borrowed.ref_ptr.0 borrowed.ref_ptr.1 ∷ vint w64 len ∷ []) End)) (at_block row.at there) refl $
    enter ! _ _ _ _ _ $ alloc_all ! (λ l. pass_all ! refl ((tt, (tt, tt)), ((tt, (tt, tt)), ((tt, tt), ((tt, record { fits = are.1.1.1.0.1 }), tt)))) $
    sets ! (of_opd ! (get_in ! (fld ! refl (stop !)) (sub ! 0 refl (whole !)))) refl (tt, tt) $ first ! $ blocks ! $ sets ! (of_opd ! (get ! refl)) refl (tt, tt) $
    sets ! (bin ! (get ! refl) (lit ! tt) (record { fits = fits })) refl (tt, record { fits = fits }) $
    group ! 4 $ use1 𝓛 (raw (Asks.pre asks)) (Gives-goes allocator 𝓛 𝓜.mem 𝓡.returns κ q borrowed.ref_ptr alloc (⊑_trans κ κs.1.0 A.lives bounds.0 long) block start bytes 4 (row_of len) (row_size len fits) (row_align len) fits (lit< tt)) $
    calls_at_last ! (fm 𝓛 𝓜 𝓡) Asks (met.deallocate drops) asks (and_then ! (get ! refl) (and_then ! (get ! refl) (and_then ! (get ! refl) (and_then ! (lit ! tt) (no_more !))))) (λ v.
    use1 𝓛 (later (given (v ≡ vunit) (‵ (flft κ q)))) (Gives-Gives allocator 𝓛 𝓜.mem 𝓡.returns κ q borrowed.ref_ptr alloc block start bytes 4 (row_of len) v) $ await ! tt $ learn ! (λ is_unit.
    join ! $ use1 𝓛 (raw (alive 𝓛 E.signature κs qs)) (id⊢ 𝓤 _) $ lands_last ! refl (subst (λ (u : Val). T (has_ty ty_unit u) × WT u) (sym is_unit) (tt, tt)) $
    exec ! 𝓣.C 𝓣.Λ (env fn.locals l) (after 2 fn.body) (at_ret (env fn.locals l) End) $ sets ! (of_opd ! (unit_lit !)) refl (tt, tt) $ returns ! (look_at ! 0 refl) $ free_all ! refl $
    feq_i ! _ (vunit ∷ []) (vunit ∷ []) refl $ move ! (1 ∷ 0 ∷ []) $ by ! (ends 𝓛 E hs c y vunit tt (tt, (tt, (tt, (tt, tt)))) (tt, (tt, (tt, (tt, tt))))
    (makes_shadow 𝓛 (fsep ftrue (fsep ftrue (fsep ftrue (fsep ftrue ftrue)))) (tt, (tt, (tt, (tt, tt)))) (tt, (tt, (tt, (tt, tt))))) (id⊢ 𝓤 (emp 𝓤))))))))))
