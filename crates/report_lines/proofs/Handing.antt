-- What a call hands to a sink, by what its callee does.
use Rattle.std.proofs.Common.{Bool, true, ◌≡◌, ℕ, ◌≤◌, List, ◌++◌, Option, Some, None, IsSome, Result, Ok, Err, IsErr, OnOk, OnErr, length, take, drop, refl, sym, ap, ◌∙◌, subst, append_assoc, take-append-drop}
use Rattle.std.specs.Io.KnownBytes.{Appends}
use Rattle.std.proofs.KnownBytes.{Appends-trans}
use Rattle.script_lines.specs.Given.{counted}
use Rattle.call_history.specs.Cause.{HasCause}
use Rattle.report_lines.specs.Outside.{HandsOver, WritesLine, AppendsPart}

-- a text that was handed over in part
part-written : {E : Type 0} (result : Result (Unit {0}) E) (old new : Option (List ℕ)) (bytes : List ℕ)
    → OnErr result ((n : ℕ) × (n ≤ length bytes) × Appends old new (take n bytes)) → OnErr result (AppendsPart old new bytes)
part-written (Ok done) old new bytes part = tt
part-written (Err fault) old new bytes part = (take part.0 bytes, drop part.0 bytes, sym (take-append-drop part.0 bytes), part.2)

-- what was told stays told
told-of : {E : Type 0} (result : Result (Unit {0}) E) (old new : Option (List ℕ)) (bytes : List ℕ) → OnOk result (Appends old new bytes)
    → OnErr result ((n : ℕ) × (n ≤ length bytes) × Appends old new (take n bytes)) → IsSome old → IsSome new
told-of result None new bytes whole part some = absurd (cc)
told-of (Ok done) (Some x) None bytes whole part some = absurd whole
told-of (Err fault) (Some x) None bytes whole part some = absurd part.2
told-of result (Some x) (Some y) bytes whole part some = refl

-- bytes that were written, whole or in part, as the line that they are
pub writes-line : {S E : Type 0} (taken : S → Option (List ℕ)) (accepted : S → List ℕ) (faults : S → ℕ) (old new : S) (result : Result (Unit {0}) E) (bytes line : List ℕ) → bytes ≡ line
    → ((which : Bool) → OnOk result (Appends (counted which (taken old) (accepted old)) (counted which (taken new) (accepted new)) bytes))
    → ((which : Bool) → OnErr result ((n : ℕ) × (n ≤ length bytes) × Appends (counted which (taken old) (accepted old)) (counted which (taken new) (accepted new)) (take n bytes)))
    → HasCause (faults old) (faults new) result → WritesLine taken accepted faults old new line result
writes-line taken accepted faults old new result bytes line same whole part cause = subst (λ text. WritesLine taken accepted faults old new text result) same (record {
  whole = whole;
  part = λ which. part-written result _ _ bytes (part which);
  told = told-of result (taken old) (taken new) bytes (whole true) (part true);
  cause = cause;
})

-- of two texts the first is written in part
pub first-part : {S E F : Type 0} (taken : S → Option (List ℕ)) (accepted : S → List ℕ) (faults : S → ℕ) (old new : S) (first second : List ℕ) (result : Result (Unit {0}) E) (fault : F)
    → IsErr result → WritesLine {T = Unit {0}} {E = F} taken accepted faults old new first (Err fault) → WritesLine taken accepted faults old new (first ++ second) result
first-part taken accepted faults old new first second (Ok done) fault failed writes = absurd (cc)
first-part taken accepted faults old new first second (Err other) fault failed writes = record {
  whole = λ which. tt;
  part = λ which.
      let part = writes.part which in (
        part.0,
        part.1 ++ second,
        ap (λ text. text ++ second) part.2 ∙ append_assoc part.0 part.1 second,
        part.3,
      );
  told = writes.told;
  cause = record { later = writes.cause.later; once = writes.cause.once; failed = writes.cause.failed; stayed = tt };
}

-- or it is written, and then the second, or a part of that
pub both-texts : {S E F : Type 0} (taken : S → Option (List ℕ)) (accepted : S → List ℕ) (faults : S → ℕ) (old mid new : S) (first second : List ℕ) (done : Unit {0}) (result : Result (Unit {0}) E)
    → WritesLine {T = Unit {0}} {E = F} taken accepted faults old mid first (Ok done) → WritesLine taken accepted faults mid new second result → WritesLine taken accepted faults old new (first ++ second) result
both-texts {S} {E} taken accepted faults old mid new first second done (Ok end) writes more = record {
  whole = λ which.
      Appends-trans (counted which (taken old) (accepted old)) (counted which (taken mid) (accepted mid)) (counted which (taken new) (accepted new)) first second (writes.whole which) (more.whole which);
  part = λ which. tt;
  told = λ some. more.told (writes.told some);
  cause = subst (λ count. HasCause {T = Unit {0}} {E = E} count (faults new) (Ok end)) writes.cause.stayed more.cause;
}
both-texts {S} {E} taken accepted faults old mid new first second done (Err fault) writes more = record {
  whole = λ which. tt;
  part = λ which.
      let part = more.part which in (
        first ++ part.0,
        part.1,
        ap (λ text. first ++ text) part.2 ∙ sym (append_assoc first part.0 part.1),
        Appends-trans (counted which (taken old) (accepted old)) (counted which (taken mid) (accepted mid)) (counted which (taken new) (accepted new)) first part.0 (writes.whole which) part.3,
      );
  told = λ some. more.told (writes.told some);
  cause = subst (λ count. HasCause {T = Unit {0}} {E = E} count (faults new) (Err fault)) writes.cause.stayed more.cause;
}

module _ {S T U E F : Type 0} (taken : S → Option (List ℕ)) (accepted : S → List ℕ) (faults : S → ℕ) (old new : S) (Whole Part : Option (List ℕ) → Option (List ℕ) → Type 0) where
  -- the same handed by a call that answers something else
  pub hands-ok : (value : T) (other : U) → HandsOver {T = T} {E = E} taken accepted faults old new Whole Part (Ok value) → HandsOver {T = U} {E = F} taken accepted faults old new Whole Part (Ok other)
  hands-ok value other h =
      record { whole = h.whole; part = λ which. tt; told = h.told; cause = record { later = h.cause.later; once = h.cause.once; failed = tt; stayed = h.cause.stayed } }

  pub hands-err : (value : E) (other : F) → HandsOver {T = T} {E = E} taken accepted faults old new Whole Part (Err value) → HandsOver {T = U} {E = F} taken accepted faults old new Whole Part (Err other)
  hands-err value other h =
      record { whole = λ which. tt; part = h.part; told = h.told; cause = record { later = h.cause.later; once = h.cause.once; failed = h.cause.failed; stayed = tt } }
