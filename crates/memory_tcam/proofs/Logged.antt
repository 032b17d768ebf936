-- The events of a journal whose drains are kept by their gaps: a write and a drain each come behind all others.
use Rattle.std.proofs.Common.{◌≡◌, ℕ, ◌+◌, ◌≤◌, List, [], ◌∷◌, ◌++◌, length, map, take, drop, sum, sym, ◌∙◌, ap, refl, arith, append_assoc, length-drop}
use Rattle.std.proofs.lemmas.List.{take-append-drop, take-append-le, map-append, take_all, drop_all}
use Rattle.std.proofs.lemmas.List.Sums.{sum_by-cons}
use Rattle.std.proofs.Math.Seq.{drop-append-le}
use Rattle.tcam_device.specs.declared.Write.{Write}
use Rattle.tcam_device.specs.declared.Action.{Action}
use Rattle.tcam_device.specs.declared.Action.TheVariants.{Written, Drained}
use Rattle.tcam_device.specs.Flight.{writes_in}
use Rattle.memory_tcam.specs.Tcam.{events_of}

writes_in-map : (writes : List Write) (events : List Action) → writes_in (map Written writes ++ events) ≡ writes ++ writes_in events
writes_in-map [] events = refl
writes_in-map (write ∷ writes) events = ap (λ rest. write ∷ rest) (writes_in-map writes events)

writes_in-all : (writes : List Write) → writes_in (map Written writes) ≡ writes
writes_in-all [] = refl
writes_in-all (write ∷ writes) = ap (λ rest. write ∷ rest) (writes_in-all writes)

pub writes_in-events_of : (journal : List Write) (gaps : List ℕ) → writes_in (events_of journal gaps) ≡ journal
writes_in-events_of journal [] = writes_in-all journal
writes_in-events_of journal (gap ∷ gaps) =
    writes_in-map (take gap journal) (Drained ∷ events_of (drop gap journal) gaps)
    ∙ ap (λ ws. take gap journal ++ ws) (writes_in-events_of (drop gap journal) gaps) ∙ take-append-drop gap journal

sum-cons : (gap : ℕ) (gaps : List ℕ) → sum (gap ∷ gaps) ≡ gap + sum gaps
sum-cons gap gaps = sum_by-cons (λ x. x) gap gaps

pub events_of-write : (journal : List Write) (gaps : List ℕ) (write : Write) → sum gaps ≤ length journal
    → events_of (journal ++ write ∷ []) gaps ≡ events_of journal gaps ++ Written write ∷ []
events_of-write journal [] write inside = map-append {A = Write} Written journal (write ∷ [])
events_of-write journal (gap ∷ gaps) write inside =
    let total = sum-cons gap gaps in
    let size = length-drop gap journal in
    let front : take gap (journal ++ write ∷ []) ≡ take gap journal = take-append-le gap journal (write ∷ []) (omega arith) in
    let back : drop gap (journal ++ write ∷ []) ≡ drop gap journal ++ write ∷ [] = drop-append-le gap journal (write ∷ []) (omega arith) in
    ap (λ ws. map Written ws ++ (Drained ∷ events_of (drop gap (journal ++ write ∷ [])) gaps)) front
    ∙ ap (λ ws. map Written (take gap journal) ++ (Drained ∷ events_of ws gaps)) back
    ∙ ap (λ xs. map Written (take gap journal) ++ (Drained ∷ xs)) (events_of-write (drop gap journal) gaps write (omega arith))
    ∙ sym (append_assoc (map Written (take gap journal)) (Drained ∷ events_of (drop gap journal) gaps) (Written write ∷ []))

pub events_of-drain : (journal : List Write) (gaps : List ℕ) (gap : ℕ) → sum gaps + gap ≡ length journal
    → events_of journal (gaps ++ gap ∷ []) ≡ events_of journal gaps ++ Drained ∷ []
events_of-drain journal [] gap whole =
    ap (λ ws. map Written ws ++ (Drained ∷ map Written (drop gap journal))) (take_all gap journal (omega arith))
    ∙ ap (λ ws. map Written journal ++ (Drained ∷ map Written ws)) (drop_all gap journal (omega arith))
events_of-drain journal (first ∷ gaps) gap whole =
    let total = sum-cons first gaps in
    let size = length-drop first journal in
    ap (λ xs. map Written (take first journal) ++ (Drained ∷ xs)) (events_of-drain (drop first journal) gaps gap (omega arith))
    ∙ sym (append_assoc (map Written (take first journal)) (Drained ∷ events_of (drop first journal) gaps) (Drained ∷ []))
