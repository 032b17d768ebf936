-- A line, and the lines behind it.
use Rattle.std.proofs.Common.{◌≡◌, ℕ, List, [], ◌∷◌, ◌++◌, Option, Result, Ok, Err, IsErr, OnErr, sym, ap, ◌∙◌, subst, append_assoc, append-nil}
use Rattle.std.specs.Io.KnownBytes.{Appends}
use Rattle.std.proofs.KnownBytes.{Appends-trans}
use Rattle.script_lines.specs.Given.{counted}
use Rattle.report_lines.specs.declared.Family.{Family}
use Rattle.replay.specs.Effects.{Effect, Prints, printed}
use Rattle.report_lines.specs.Outside.{WritesLine}
use Rattle.replay.specs.Outside.{WritesLines, CutsLines}
use Rattle.replay.proofs.lines.Effects.{printed-append}

-- the line is cut
pub line-cut : {S E F : Type 0} (taken : S → Option (List ℕ)) (accepted : S → List ℕ) (faults : S → ℕ) (line : List ℕ) (more : List Effect) (result : Result (Unit {0}) E) (old new : S) (fault : F)
    → IsErr result → WritesLine {T = Unit {0}} {E = F} taken accepted faults old new line (Err fault) → WritesLines taken accepted faults old new (Prints line ∷ more) result
line-cut taken accepted faults line more (Ok done) old new fault failed front = absurd (cc)
line-cut taken accepted faults line more (Err other) old new fault failed front = record {
  whole = λ which. tt;
  part = λ which.
      let part = front.part which in
      record { front = []; partial = part.0; rest = part.1; back = more; cut = ap (λ text. Prints text ∷ more) part.2; grown = part.3 };
  told = front.told;
  cause = record { later = front.cause.later; once = front.cause.once; failed = front.cause.failed; stayed = tt };
}

-- a line alone, or a part of it
pub line-alone : {S E : Type 0} (taken : S → Option (List ℕ)) (accepted : S → List ℕ) (faults : S → ℕ) (old new : S) (line : List ℕ) (result : Result (Unit {0}) E)
    → WritesLine taken accepted faults old new line result → WritesLines taken accepted faults old new (Prints line ∷ []) result
line-alone taken accepted faults old new line (Ok done) writes =
    record { whole = λ which. subst (Appends (counted which (taken old) (accepted old)) (counted which (taken new) (accepted new))) (sym (append-nil line)) (writes.whole which); part = λ which. tt; told = writes.told; cause = writes.cause }
line-alone taken accepted faults old new line (Err fault) writes = record {
  whole = λ which. tt;
  part = λ which.
      let part = writes.part which in
      record { front = []; partial = part.0; rest = part.1; back = []; cut = ap (λ text. Prints text ∷ []) part.2; grown = part.3 };
  told = writes.told;
  cause = writes.cause;
}

-- a line names its rule by the family that is told
pub line-named : {S T E : Type 0} (taken : S → Option (List ℕ)) (accepted : S → List ℕ) (faults : S → ℕ) (old new : S) (result : Result T E) (line : Family → List ℕ) (family told : Family)
    → told ≡ family → WritesLine taken accepted faults old new (line told) result → WritesLine taken accepted faults old new (line family) result
line-named taken accepted faults old new result line family told same writes =
    subst (λ (named : Family). WritesLine taken accepted faults old new (line named) result) same writes

-- some lines are told, and of those behind them one is cut
pub cuts-within : (all front lines back : List Effect) (old mid new : Option (List ℕ)) → all ≡ front ++ (lines ++ back) → Appends old mid (printed front) → CutsLines lines mid new → CutsLines all old new
cuts-within all front lines back old mid new whole told cuts = record {
  front = front ++ cuts.front;
  partial = cuts.partial;
  rest = cuts.rest;
  back = cuts.back ++ back;
  cut = whole
      ∙ ap (λ effects. front ++ (effects ++ back)) cuts.cut
      ∙ ap (λ effects. front ++ effects) (append_assoc cuts.front (Prints (cuts.partial ++ cuts.rest) ∷ cuts.back) back)
      ∙ sym (append_assoc front cuts.front (Prints (cuts.partial ++ cuts.rest) ∷ (cuts.back ++ back)));
  grown = subst (Appends old new)
      (sym (ap (λ text. text ++ cuts.partial) (printed-append front cuts.front) ∙ append_assoc (printed front) (printed cuts.front) cuts.partial))
      (Appends-trans old mid new (printed front) (printed cuts.front ++ cuts.partial) told cuts.grown);
}

-- and none behind these
pub cuts-behind : {E : Type 0} (result : Result (Unit {0}) E) (front lines : List Effect) (old mid new : Option (List ℕ)) → Appends old mid (printed front) → CutsLines lines mid new
    → OnErr result (CutsLines (front ++ lines) old new)
cuts-behind (Ok done) front lines old mid new told cuts = tt
cuts-behind (Err fault) front lines old mid new told cuts = cuts-within (front ++ lines) front lines [] old mid new (ap (λ effects. front ++ effects) (sym (append-nil lines))) told cuts
