-- `take` asks for room and makes a row of empty places of it. Assumes `Logic`.
use Rattle.std.proofs.Common.{◌*◌, ◌^◌, ◌<◌, true, false, [], ◌∷◌, refl, arith, lit<, w64, Ok, Err}
use Rattle.std.proofs.raw_atomic.Walks.{proved}
use mir.Syntax.{Fn, Args, a_type, dcons, dnil, named}
use mir.Val.{Val, vstruct, vcons, vnil}
use mir.MapTy.{inst_fn}
use base.Logic.{emp, id⊢}
use base.Fml.{ftrue, fsep, flft}
use prog.Wp.{Env, Wp, after_seq, at_return}
use contract.BorrowLft.{◌⊑◌, ⊑_trans}
use contract.Monad.{fact, fact_i}
use contract.Running.{tables}
use types.Kit.{‵, raw, ◌⊛◌, later, any_q, Post, at_ret, ◌$◌, ◌∵◌, !, qed, by, move, keep, drop, use0, use1, use2, split, fsplit, await}
use types.Part.{whole, agg}
use types.Match.{live, vrt, in_variant}
use types.Run.{stop, fld, lit, of_opd, bin, no_more, and_then, first, switches_on, exec, returns, enter}
use types.ByLocal.{alloc_all, pass_all, free_all, look_at, get, get_in, get_tag, sets, sets_last, lands_as, env}
use denote.Builtin.{usize, RefOf}
use denote.Exit.{yes}
use denote.Param.{param, bounded}
use denote.Plain.{uint_vals, uint_Tells}
use denote.Ref.{ShrRef, shr_vals, shr_Tells}
use denote.Shadow.{makes_shadow}
use denote.Signature.{Slot, plain, type_at}
use denote.Steps.{heard}
use denote.Struct.Tuple.{Tuple}
use denote.Triple.Entry.{alive}
use denote.Triple.Call.{calls_at}
use denote.Triple.Walked.{Stays, stay_dropped, walk_of, Goes-dropped}
use Rattle.core.specs.contracts.alloc.AllocError as AllocError
use Rattle.core.proofs.alloc.Calls.{Al, seen, Takes, at_takes, Answered, Answer-typed, Takes-goes, Takes-gives, answers}
use Rattle.core.proofs.alloc.Shapes.{after, head, arm_body}
use Rattle.core.proofs.atomic.Steps.{fm}
use Rattle.std_alloc.proofs.Pairs.{pair_val}
use Rattle.std_alloc.proofs.ResultValues.{ok_of, err_of}
use Rattle.order_chains.specs.contracts.raw.Places.{the_row as P}
use Rattle.order_chains.specs.contracts.raw.Deed as Deed
use Rattle.order_chains.specs.contracts.raw.take as promise
use Rattle.order_chains.proofs.raw.take.Statement.{statement}
use Rattle.order_chains.proofs.raw.take.Code as code
use Rattle.order_chains.specs.Ownership.{node_size, row_of}
use Rattle.order_chains.proofs.Words.{stored, sealed, new_places, new_deed, taken, ends, row_size, row_align}

pub take_spec : {M : Type 1} → statement M
take_spec 𝓤 𝓛 𝓜 𝓡 wired A laws g table drops met met_drops =
    let E = promise.ended A g table drops in let c = promise.clauses A g table drops 𝓛 𝓜.mem 𝓡.returns in let 𝓣 = tables 𝓤 𝓛.H 𝓜 𝓡 𝓡.env in
    let chosen : Args = bounded (a_type ∷ []) (A, tt) (dcons table (dcons drops dnil)) in let fn : Fn = inst_fn chosen code.function in
    let handle : Slot 2 = RefOf (0 ∷ []) tt (plain (λ κs. param 0 A)) (λ κs. tt) in let count : Slot 2 = plain (λ κs. usize) in
    let hs : Stays E.signature.params E.kept = (stay_dropped handle yes, (stay_dropped count yes, tt)) in
    let Pair = Tuple (P ∷ Deed.the_row (param 0 A) g ∷ []) in
    let allocator : Al = record { row = A; laws = laws; g = g; d = table; drops = drops } in let Asks = Takes allocator 𝓛 𝓜.mem 𝓡.returns in
    proved 𝓛 E hs c 𝓜 𝓡 (Goes-dropped 𝓛 2 handle yes (λ κs x w. refl), (Goes-dropped 𝓛 2 count yes (λ κs x w. refl), tt))
    (promise.Key.name chosen) fn (code.unfolded 𝓤 𝓛.H 𝓜 𝓡 wired (A, tt) table drops)
    (λ κs. (shr_vals, (uint_vals w64, tt))) (λ κs. (shr_Tells (named 0) κs.0 (param 0 A), (uint_Tells w64, tt)))
    (λ κs qs bounds a ghost are.
    let y : (walk_of 𝓛 E hs c).Ghost = ((κs, qs, bounds, a, (shr_vals a.0, (uint_vals w64 a.1.0, tt))), ghost) in
    let κ = κs.0 in let q = qs.0 in let alloc = a.0.now in let len = a.1.0 in let bytes = len * node_size in
    let Tokens = ‵ (flft κ q) ⊛ ‵ (flft κs.1.0 qs.1.0) ⊛ ‵ ftrue in
    let Handle = ‵ ((ShrRef (named 0) κ (param 0 A)).own_val a.0 (shr_vals a.0)) in
    let asked : Asks.Ghost = at_takes allocator 𝓛 𝓜.mem 𝓡.returns κ q a.0.ref_ptr alloc bytes 4 (row_of len) in
    qed 𝓛 ((Tokens ⊛ Handle ⊛ ‵ (fsep (usize.own_val len (uint_vals w64 len)) ftrue)) ∷ (raw (fact 𝓤 (κs.1.0 ⊑ A.lives)) ⊛ raw (fact 𝓤 (bytes < 2 ^ 63))) ∷ []) ∵
    move ! (1 ∷ []) $ split ! $ heard ! (κs.1.0 ⊑ A.lives) (λ long. heard ! (bytes < 2 ^ 63) (λ small.
    let fits : bytes < 2 ^ 64 = omega arith in
    split ! $ move ! (1 ∷ []) $ split ! $ keep ! (0 ∷ 2 ∷ []) $ fsplit ! $ drop ! $ use1 𝓛 (‵ (seen allocator κ a.0.ref_ptr alloc)) (id⊢ 𝓤 _) $
    move ! (1 ∷ []) $ split ! $ move ! (2 ∷ 0 ∷ []) $
    enter ! _ _ _ _ _ $ alloc_all ! (λ l. pass_all ! refl ((tt, tt), ((tt, record { fits = are.1.0.1 }), tt)) $
    let En : Env 𝓤 𝓛.H = env fn.locals l in let End = (walk_of 𝓛 E hs c).post y in
    let out = λ (v : Val) (r : (type_at E.signature.result κs).Denot). ends 𝓛 E hs c y v r (tt, (tt, tt)) (tt, (tt, tt)) (makes_shadow 𝓛 (fsep ftrue (fsep ftrue ftrue)) (tt, (tt, tt)) (tt, (tt, tt))) in
    let Rest : Post 𝓤 𝓛.H = any_q (after_seq 𝓤 𝓛.H (Wp 𝓤 𝓛.H 𝓣.C 𝓣.Λ En (after 3 fn.body) (at_return 𝓤 𝓛.H En End)) (at_return 𝓤 𝓛.H En End)) in
    sets ! (bin ! (get ! refl) (lit ! tt) (record { fits = fits })) refl (tt, record { fits = fits }) $
    use2 𝓛 (raw (Asks.pre asked)) (Takes-goes allocator 𝓛 𝓜.mem 𝓡.returns κ q a.0.ref_ptr alloc (⊑_trans κ κs.1.0 A.lives bounds.0 long) bytes 4 (row_of len) (row_size len fits) (row_align len) fits (lit< tt)) $
    calls_at ! (fm 𝓛 𝓜 𝓡) Asks (met.allocate drops) asked (and_then ! (get ! refl) (and_then ! (get ! refl) (and_then ! (lit ! tt) (no_more !)))) (λ v.
    use1 𝓛 (later (raw (Answered allocator 𝓛 𝓜.mem 𝓡.returns alloc (row_of len) v) ⊛ ‵ (flft κ q))) (Takes-gives allocator 𝓛 𝓜.mem 𝓡.returns κ q a.0.ref_ptr alloc bytes 4 (row_of len) v) $ await ! tt $ split ! $
    move ! (1 ∷ 2 ∷ []) $ use2 𝓛 (raw (alive 𝓛 E.signature κs qs)) (id⊢ 𝓤 _) $ move ! (1 ∷ []) $
    answers allocator ! 𝓜.mem 𝓡.returns alloc (row_of len) v
    (λ block start is.
    let pair : Val = pair_val (stored (new_places block start len).at) sealed in
    lands_as ! is refl (Answer-typed true block start) $ first ! $ switches_on ! (get_tag ! (vrt ! refl (fld ! refl (stop !))) (whole !)) $ exec ! 𝓣.C 𝓣.Λ En (arm_body 0 (head (after 2 fn.body))) Rest $
    sets ! (of_opd ! (get_in ! (vrt ! refl (fld ! refl (stop !))) (in_variant ! 0 0 refl refl (whole !)))) refl (tt, tt) $ sets ! (of_opd ! (get ! refl)) refl (tt, tt) $
    sets ! (agg ! (no_more !)) refl (tt, tt) $ sets ! (agg ! (and_then ! (get ! refl) (no_more !))) refl (tt, (tt, tt)) $ sets ! (agg ! (and_then ! (get ! refl) (no_more !))) refl (tt, (tt, tt)) $
    sets ! (agg ! (and_then ! (get ! refl) (and_then ! (get ! refl) (no_more !)))) refl (tt, ((tt, tt), ((tt, tt), tt))) $ sets_last ! (agg ! (and_then ! (lit ! tt) (and_then ! (get ! refl) (no_more !)))) refl (tt, (record { fits = lit< tt }, (((tt, tt), ((tt, tt), tt)), tt))) $
    exec ! 𝓣.C 𝓣.Λ En (after 3 fn.body) (at_ret En End) $ sets ! (of_opd ! (get ! refl)) refl (tt, (record { fits = lit< tt }, (((tt, tt), ((tt, tt), tt)), tt))) $ returns ! (look_at ! 0 refl) $ free_all ! refl $
    use2 𝓛 (‵ (Pair.own_val (new_places block start len, new_deed alloc block start len) (pair ∷ []))) (taken 𝓛 (param 0 A) g alloc block start len small) $
    use1 𝓛 (‵ ((type_at E.signature.result κs).own_val (Ok (new_places block start len, new_deed alloc block start len)) (live 0 (vcons pair vnil) ∷ [])))
    (ok_of 𝓛 Pair AllocError.the_row (new_places block start len, new_deed alloc block start len) pair) $ move ! (1 ∷ 0 ∷ []) $
    by ! (out (live 0 (vcons pair vnil)) (Ok (new_places block start len, new_deed alloc block start len)) (fact_i 𝓤 _ (emp 𝓤) (refl, refl, refl, refl))))
    (λ is.
    let error : Val = vstruct vnil in
    lands_as ! is refl (Answer-typed false 0 0) $ first ! $ switches_on ! (get_tag ! (vrt ! refl (fld ! refl (stop !))) (whole !)) $ exec ! 𝓣.C 𝓣.Λ En (arm_body 1 (head (after 2 fn.body))) Rest $
    sets ! (of_opd ! (get_in ! (vrt ! refl (fld ! refl (stop !))) (in_variant ! 1 0 refl refl (whole !)))) refl (tt, tt) $ sets_last ! (agg ! (and_then ! (lit ! tt) (and_then ! (get ! refl) (no_more !)))) refl (tt, (record { fits = lit< tt }, (tt, tt))) $
    exec ! 𝓣.C 𝓣.Λ En (after 3 fn.body) (at_ret En End) $ sets ! (of_opd ! (get ! refl)) refl (tt, (record { fits = lit< tt }, (tt, tt))) $ returns ! (look_at ! 0 refl) $ free_all ! refl $
    use0 𝓛 (‵ (AllocError.the_row.own_val (record {}) (error ∷ []))) (makes_shadow 𝓛 (AllocError.the_row.own_val (record {}) (error ∷ [])) (λ us. (tt, tt)) (tt, (refl, tt))) $
    use1 𝓛 (‵ ((type_at E.signature.result κs).own_val (Err (record {})) (live 1 (vcons error vnil) ∷ []))) (err_of 𝓛 Pair AllocError.the_row (record {}) error) $ move ! (1 ∷ 0 ∷ []) $
    by ! (out (live 1 (vcons error vnil)) (Err (record {})) (fact_i 𝓤 (Unit {0}) (emp 𝓤) tt))))))))
