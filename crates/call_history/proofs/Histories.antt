-- A history is stored as a struct of a mark, and owns no memory. So one with any items is there for the asking, and
-- a function that returns one gives what its contract says of it. Assumes `Logic`.
use Rattle.std.proofs.Common.{List, [], ◌∷◌, refl}
use Rattle.std.proofs.raw_atomic.Walks.{leaves}
use seplogic.Ra.Ura.{Ura}
use base.Logic.{ent, emp}
use mir.Syntax.{Args, a_type}
use mir.Val.{Val, vstruct, vcons, vnil}
use types.Logic.{Logic, sem}
use types.Kit.{‵, raw, ◌$◌, ◌∵◌, !, qed, by, move, use0}
use denote.RattleType.{RattleType}
use denote.Param.{layouts}
use denote.Shadow.{makes_shadow}
use denote.Signature.{type_at}
use denote.Triple.Clauses.{Clauses, Ended, Lasts, at_exit}
use denote.Triple.Entry.{Res, alive}
use denote.Triple.Walked.{Fit, Stays, has_of, walk_of}
use Rattle.call_history.specs.contracts.history.History as History

-- the one type argument of `History`
abbrev pub of_type : RattleType → Args
of_type T = layouts (a_type ∷ []) (T, tt)

-- the mark has no field, and the history none but the mark
abbrev mark : Val
mark = vstruct vnil

abbrev pub stored : Val
stored = vstruct (vcons mark vnil)

abbrev pub holding : (T : RattleType) → List T.Denot → (History.the_row T).Denot
holding T held = record { of = record {}; items = held }

module _ {M : Type 1} {𝓤 : Ura M} (𝓛 : Logic 𝓤) where
  pub held_for_nothing : (T : RattleType) (held : List T.Denot)
      → ent 𝓤 (emp 𝓤) (sem 𝓛 ((History.the_row T).own_val (holding T held) (stored ∷ [])))
  held_for_nothing T held = makes_shadow 𝓛 ((History.the_row T).own_val (holding T held) (stored ∷ []))
      ((λ vss. (tt, ((λ us. (tt, tt)), tt))), tt)
      (((mark ∷ [], tt), (refl, ((tt, (refl, tt)), tt))), tt)

  module _ (E : Ended) (hs : Stays E.signature.params E.kept) (c : Clauses 𝓤 E) (y : (walk_of 𝓛 E hs c).Ghost) where
    -- what is left of the parameters, the result and the clause are each had for nothing
    pub gives : (v : Val) (r : Res E.signature y.0.0) (ws : Lasts E y.0.0 y.0.3) → Fit E hs y.0.0 y.0.3 ws
        → ent 𝓤 (emp 𝓤) (sem 𝓛 (has_of y.0.0 E.signature.params E.kept hs y.0.3 ws y.0.4))
        → ent 𝓤 (emp 𝓤) (sem 𝓛 ((type_at E.signature.result y.0.0).own_val r (v ∷ [])))
        → ent 𝓤 (emp 𝓤) ((c y.0.0 y.0.3).ensures y.1 r (at_exit E y.0.0 y.0.3 ws))
        → ent 𝓤 (alive 𝓛 E.signature y.0.0 y.0.1) ((walk_of 𝓛 E hs c).post y v)
    gives v r ws fit left result clause =
        qed 𝓛 (raw (alive 𝓛 E.signature y.0.0 y.0.1) ∷ []) ∵
        use0 𝓛 (raw ((c y.0.0 y.0.3).ensures y.1 r (at_exit E y.0.0 y.0.3 ws))) clause $
        use0 𝓛 (‵ ((type_at E.signature.result y.0.0).own_val r (v ∷ []))) result $
        use0 𝓛 (‵ (has_of y.0.0 E.signature.params E.kept hs y.0.3 ws y.0.4)) left $
        move ! (3 ∷ 0 ∷ 1 ∷ 2 ∷ []) $ by ! (leaves 𝓛 E hs c y v r ws fit)
