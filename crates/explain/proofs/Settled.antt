-- What is pending is settled, and judged as it was.
use Rattle.std.proofs.Common.{◌≡◌, ℕ, Bool, true, false, not, ◌&&◌, ◌==◌, length, Option, Some, None, List, [], ◌∷◌, Result, OnOk, refl, ap, sym, ◌∙◌, subst}
use Rattle.rule_store.specs.declared.BatchFault.{BatchFault}
use Rattle.rule_store.specs.declared.Command.{Command as Change}
use Rattle.rule_store.specs.Batch.{IsSound, batch_fault}
use Rattle.rule_store.specs.Verdict.{Verdict, Accepted, Unsound, OutOfBits, OutOfSlots, room_verdict, verdict, verdict_by}
use Rattle.settled_changes.specs.declared.SettleFault.TheVariants.{Unsound as Unsettled}
use Rattle.settled_changes.specs.declared.requested.Requested.{Requested}
use Rattle.settled_changes.specs.declared.requested.Requested.TheVariants.{Nothing}
use Rattle.settled_changes.specs.Requested.{IsAsked, IsWhyNone, TakesAsked, settled_batch}
use Rattle.settled_changes.proofs.AskedFor.{none-asked, verdict-fault, verdict-taken}
use Rattle.std.proofs.lemmas.Bool.{and_parts}
use Rattle.removals_first.specs.Early.{early_batch, early_verdict, late_batch, spared_rules}
use Rattle.replay.specs.Early.{goes_in_two, is_accepted, is_sound}
use Rattle.explain.specs.Rounds.{Explained}
use Rattle.explain.specs.Steps.{changes_of, commit_verdict_in, committed, refused, settled_to, tried, verdict_in}

-- what is asked for came to a batch
abbrev pub IsSettled : Explained → Explained → Type 0
IsSettled now next = (next ≡ settled_to now) × (verdict_in next ≡ verdict_in now)

-- strict commands alone are as they were
plain-settled : (now : Explained) → now.asked ≡ Nothing → now ≡ settled_to now
plain-settled now strict =
    ap (λ (a : Requested). record now { asked = a }) strict
    ∙ sym (ap (λ (a : Requested). record now { batch = settled_batch now.rules now.batch a; asked = Nothing }) strict)

pub none-settled : (inside now : Explained) → inside ≡ now → (IsAsked inside.asked → ⊥) → IsSettled now now
none-settled inside now is none =
    (plain-settled now (none-asked now.asked (subst (λ (n : Explained). IsAsked n.asked → ⊥) is none)), refl)

-- and others come to a sound batch with the same verdict,
settled-inside : (inside : Explained) (batch : List Change) → ((commands : List Change) → batch ≡ settled_batch inside.rules commands inside.asked)
    → TakesAsked inside.rules inside.asked → IsSound inside.rules batch → IsSettled inside (record inside { batch = batch; asked = Nothing })
settled-inside inside batch is takes sound =
    let same = is inside.batch in (
      ap (λ (b : List Change). record inside { batch = b; asked = Nothing }) same,
      ap (λ (b : List Change). verdict inside.wanted.slots inside.wanted.mode inside.rules b) same
          ∙ sym (verdict-taken inside.wanted.slots inside.wanted.mode inside.rules inside.batch inside.asked takes (subst (λ (b : List Change). IsSound inside.rules b) same sound)),
    )

pub asked-settled : (inside now next : Explained) (batch : List Change) → inside ≡ now → ((commands : List Change) → batch ≡ settled_batch inside.rules commands inside.asked)
    → TakesAsked inside.rules inside.asked → IsSound inside.rules batch → next ≡ record inside { batch = batch; asked = Nothing } → IsSettled now next
asked-settled inside now next batch same is takes sound comes =
    subst (λ (n : Explained). IsSettled n next) same
    (subst (λ (n : Explained). IsSettled inside n) (sym comes) (settled-inside inside batch is takes sound))

-- or to none, for the fault of one
pub fault-found : (inside now : Explained) (why : BatchFault) → inside ≡ now → IsWhyNone inside.rules inside.asked (Unsettled why) → verdict_in now ≡ Unsound why
fault-found inside now why is fault =
    subst (λ (n : Explained). verdict_in n ≡ Unsound why) is
    (verdict-fault inside.wanted.slots inside.wanted.mode inside.rules inside.batch inside.asked why fault)

-- ---- what becomes of it

-- a change is at fault
fault-tried : (number : ℕ) (changes : List Change) (why : BatchFault) (now : Explained) → refused now ≡ tried number changes (Unsound why) now
fault-tried number [] why now = refl
fault-tried number (change ∷ changes) why now = refl

pub fault-commit : {T E : Type 0} (result : Result T E) (why : BatchFault) (next now after : Explained) → next ≡ now → verdict_in now ≡ Unsound why
    → OnOk result (after ≡ refused next) → OnOk result (after ≡ committed (verdict_in now) now)
fault-commit result why next now after same is follows =
    subst (λ (v : Verdict). OnOk result (after ≡ committed v now)) (sym is) (subst (λ (n : Explained). OnOk result (after ≡ refused n)) same follows)

pub fault-trial : {T E : Type 0} (result : Result T E) (number : ℕ) (why : BatchFault) (next now after : Explained) → next ≡ now → verdict_in now ≡ Unsound why
    → OnOk result (after ≡ refused next) → OnOk result (after ≡ tried number (changes_of now) (verdict_in now) now)
fault-trial result number why next now after same is follows =
    subst (λ (v : Verdict). OnOk result (after ≡ tried number (changes_of now) v now)) (sym is)
    (subst (λ (e : Explained). OnOk result (after ≡ e)) (ap refused same ∙ fault-tried number (changes_of now) why now) follows)

-- none is
settled-committed : (v : Verdict) (now : Explained) → committed v (settled_to now) ≡ committed v now
settled-committed Accepted now = refl
settled-committed (Unsound fault) now = refl
settled-committed (OutOfBits field needed free) now = refl
settled-committed (OutOfSlots needed free) now = refl

settled-tried : (number : ℕ) (changes : List Change) (v : Verdict) (now : Explained) → tried number changes v (settled_to now) ≡ tried number changes v now
settled-tried number [] v now = settled-committed v now
settled-tried number (change ∷ changes) Accepted now = refl
settled-tried number (change ∷ changes) (Unsound fault) now = refl
settled-tried number (change ∷ changes) (OutOfBits field needed free) now = refl
settled-tried number (change ∷ changes) (OutOfSlots needed free) now = refl

pub next-commit : {T E : Type 0} (result : Result T E) (next now after : Explained) → IsSettled now next → OnOk result (after ≡ committed (verdict_in next) next)
    → OnOk result (after ≡ committed (verdict_in now) now)
next-commit result next now after settled follows =
    subst (λ (e : Explained). OnOk result (after ≡ e))
    (ap (λ (v : Verdict). committed v next) settled.1 ∙ ap (λ (n : Explained). committed (verdict_in now) n) settled.0 ∙ settled-committed (verdict_in now) now) follows

pub next-trial : {T E : Type 0} (result : Result T E) (number : ℕ) (next now after : Explained) → IsSettled now next → OnOk result (after ≡ tried number next.batch (verdict_in next) next)
    → OnOk result (after ≡ tried number (changes_of now) (verdict_in now) now)
next-trial result number next now after settled follows =
    subst (λ (e : Explained). OnOk result (after ≡ e))
    (ap (λ (v : Verdict). tried number next.batch v next) settled.1
    ∙ ap (λ (n : Explained). tried number n.batch (verdict_in now) n) settled.0
    ∙ settled-tried number (changes_of now) (verdict_in now) now) follows

-- strict commands alone wait then
pub next-strict : (next now : Explained) → IsSettled now next → next.asked ≡ Nothing
next-strict next now settled = ap (λ (n : Explained). n.asked) settled.0

-- ---- in two parts

and-false : (one : Bool) → (one && false) ≡ false
and-false true = refl
and-false false = refl

-- what is judged of the two parts beside the verdict on the whole
abbrev parts_fit : Explained → Bool
parts_fit now =
    let batch = changes_of now in
    let early = spared_rules now.rules batch in
    let slots = now.wanted.slots in
    let mode = now.wanted.mode in
    not (length early == 0)
    && (not (length (late_batch early batch) == 0)
    && (is_accepted (verdict slots mode now.rules (early_batch early)) && is_accepted (early_verdict slots mode now.rules early batch)))

-- the verdict on a commit, by that on the whole
abbrev picks : Explained → Verdict → Verdict
picks now v = elim (now.wanted.parts && (is_sound v && parts_fit now)) [ true ↦ Accepted | false ↦ v ]

-- a change is at fault: nothing is parted
pub fault-commit-verdict : (now : Explained) (why : BatchFault) → verdict_in now ≡ Unsound why → commit_verdict_in now ≡ Unsound why
fault-commit-verdict now why is =
    ap (picks now) is ∙ ap (λ in_two. elim in_two [ true ↦ Accepted | false ↦ Unsound why ]) (and-false now.wanted.parts)

-- what is settled is parted as it was
pub settled-commit-verdict : (now next : Explained) → IsSettled now next → commit_verdict_in next ≡ commit_verdict_in now
settled-commit-verdict now next settled = ap commit_verdict_in settled.0 ∙ ap (picks now) (sym (ap verdict_in settled.0) ∙ settled.1)

pub next-parted : {T E : Type 0} (result : Result T E) (next now after : Explained) → IsSettled now next → OnOk result (after ≡ committed (commit_verdict_in next) next)
    → OnOk result (after ≡ committed (commit_verdict_in now) now)
next-parted result next now after settled follows =
    subst (λ (e : Explained). OnOk result (after ≡ e))
    (ap (λ (v : Verdict). committed v next) (settled-commit-verdict now next settled) ∙ ap (λ (n : Explained). committed (commit_verdict_in now) n) settled.0
    ∙ settled-committed (commit_verdict_in now) now) follows

pub fault-parted : {T E : Type 0} (result : Result T E) (why : BatchFault) (next now after : Explained) → next ≡ now → verdict_in now ≡ Unsound why
    → OnOk result (after ≡ refused next) → OnOk result (after ≡ committed (commit_verdict_in now) now)
fault-parted result why next now after same is follows =
    subst (λ (v : Verdict). OnOk result (after ≡ committed v now)) (sym (fault-commit-verdict now why is)) (subst (λ (n : Explained). OnOk result (after ≡ refused n)) same follows)

-- whether strict commands are parted
abbrev pub is_parted : Explained → Bool
is_parted now = now.wanted.parts && goes_in_two now.wanted.slots now.wanted.mode now.rules now.batch Nothing

parted-is : (now : Explained) → now.asked ≡ Nothing → is_parted now ≡ now.wanted.parts && goes_in_two now.wanted.slots now.wanted.mode now.rules now.batch now.asked
parted-is now strict = ap (λ (asked : Requested). now.wanted.parts && goes_in_two now.wanted.slots now.wanted.mode now.rules now.batch asked) (sym strict)

-- they are: the commit is accepted, and the set takes them
pub parted-accepted : (now : Explained) → now.asked ≡ Nothing → is_parted now ≡ true → commit_verdict_in now ≡ Accepted
parted-accepted now strict is = ap (λ in_two. elim in_two [ true ↦ Accepted | false ↦ verdict_in now ]) (sym (parted-is now strict) ∙ is)

sound-none : (fault : Option BatchFault) (room : Verdict) → is_sound (verdict_by fault room) ≡ true → fault ≡ None
sound-none None room is = refl
sound-none (Some fault) room is = absurd (let clash : false ≡ true = is in cc)

pub parted-sound : (now : Explained) → is_parted now ≡ true → IsSound now.rules now.batch
parted-sound now is =
    let both = and_parts now.wanted.parts (goes_in_two now.wanted.slots now.wanted.mode now.rules now.batch Nothing) is in
    sound-none (batch_fault now.rules now.batch) (room_verdict now.wanted.slots now.wanted.mode now.rules now.batch)
    (and_parts (is_sound (verdict now.wanted.slots now.wanted.mode now.rules now.batch)) (parts_fit (record now { asked = Nothing })) both.1).0

-- they aren't: the commit is judged as any
pub parted-plainly : (now : Explained) → now.asked ≡ Nothing → is_parted now ≡ false → commit_verdict_in now ≡ verdict_in now
parted-plainly now strict is = ap (λ in_two. elim in_two [ true ↦ Accepted | false ↦ verdict_in now ]) (sym (parted-is now strict) ∙ is)
