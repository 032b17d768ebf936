-- The actions of a commit under way up to its turn.
use Rattle.std.proofs.Common.{◌≡◌, ℕ, zero, suc, ◌+◌, ◌-◌, ◌<◌, ◌≤◌, ◌⊎◌, inl, inr, Bool, true, false, List, [], ◌∷◌, ◌++◌, length, length-append, Option, Some, None, IfSome, refl, sym, ap, ◌∙◌, subst, append_assoc, arith}
use Rattle.std.specs.Prelude.{nat_lt, nat_le, ◌&&◌}
use Rattle.std.proofs.lemmas.Bool.{ltb-true, ltb-false, leb-true, leb-false}
use Rattle.tcam_device.specs.declared.Write.{Write}
use Rattle.tcam_device.specs.declared.Action.{Action}
use Rattle.tcam_device.specs.declared.Action.TheVariants.{Written, Drained}
use Rattle.tcam_device.specs.Flight.{Flight, writes_in}
use Rattle.commit_writes.specs.Actions.{up_to_writes}
use Rattle.commit_writes.proofs.WritesIn.{writes_in-append}
use Rattle.batch_order.specs.Managed.{Managed}
use Rattle.replay.specs.declared.watch.Count.{Count}
use Rattle.replay.specs.Fates.{IsBefore, IsUpTo, IsWithinTurn, turn_due}
use Rattle.replay.specs.Pausing.{Pauses}
use Rattle.replay.specs.Running.{Watching}
use Rattle.replay.specs.Making.{Snapshot, TellsActions, snapshot}
use Rattle.replay.specs.Outside.{outside}
use Rattle.replay.proofs.making.Acting.{some-held}
use Rattle.replay.proofs.making.Making.{IsMaking}

-- what the loop comes to where it stops
abbrev pub StopsThere : Type 0 → Option ℕ → Watching → ℕ → Snapshot → Snapshot → Type 0
StopsThere Seen stop watch slots begun now = elim stop [ None ↦ ⊥ | Some after ↦ Pauses Seen after watch slots begun now ]

-- fewer writes were made than come before the turn, or none is left
abbrev pub IsEarly : ℕ → List Action → List Action → Type 0
IsEarly more made left = (length (writes_in made) < more) ⊎ (length (writes_in left) ≡ 0)

abbrev pub AreEarly : Option ℕ → ℕ → List Action → List Action → Type 0
AreEarly stop told made left = IfSome stop (λ after. IsEarly (after - told) made left)

-- the next action comes before it, too
pub next-up_to : (more : ℕ) (one : Action) (left : List Action) → 0 < more
    → up_to_writes more (one ∷ left) ≡ one ∷ up_to_writes (more - length (writes_in (one ∷ []))) left
next-up_to zero one left some = absurd (omega arith)
next-up_to (suc more) (Written write) left some = let same : more ≡ suc more - 1 = omega arith in ap (λ n. Written write ∷ up_to_writes n left) same
next-up_to (suc more) Drained left some = let same : suc more ≡ suc more - 0 = omega arith in ap (λ n. Drained ∷ up_to_writes n left) same

up_to-one : (more : ℕ) (made left rest : List Action) (one : Action) → left ≡ one ∷ rest → length (writes_in made) < more → IsUpTo more made left → IsUpTo more (made ++ one ∷ []) rest
up_to-one more made left rest one is early before more_left =
    let whole : (made ++ one ∷ []) ++ rest ≡ made ++ left = append_assoc made (one ∷ []) rest ∙ ap (λ actions. made ++ actions) (sym is) in
    let ahead = more - length (writes_in made) in
    let some : 0 < ahead = omega arith in
    let sizes : length (writes_in (made ++ one ∷ [])) ≡ length (writes_in made) + length (writes_in (one ∷ [])) =
    ap length (writes_in-append made (one ∷ [])) ∙ length-append (writes_in made) (writes_in (one ∷ [])) in
    let same : ahead - length (writes_in (one ∷ [])) ≡ more - length (writes_in (made ++ one ∷ [])) = omega arith in
    ap (up_to_writes more) whole
    ∙ before (subst (λ actions. more < length (writes_in actions)) whole more_left)
    ∙ ap (λ actions. made ++ up_to_writes ahead actions) is
    ∙ ap (λ actions. made ++ actions) (next-up_to ahead one rest some)
    ∙ ap (λ n. made ++ one ∷ up_to_writes n rest) same
    ∙ sym (append_assoc made (one ∷ []) (up_to_writes (more - length (writes_in (made ++ one ∷ []))) rest))

none-left : (more : ℕ) (made left rest : List Action) (one : Action) → left ≡ one ∷ rest → length (writes_in left) ≡ 0 → length (writes_in made) ≤ more → IsUpTo more (made ++ one ∷ []) rest
none-left more made left rest one is none few more_left =
    let whole : (made ++ one ∷ []) ++ rest ≡ made ++ left = append_assoc made (one ∷ []) rest ∙ ap (λ actions. made ++ actions) (sym is) in
    let sizes : length (writes_in ((made ++ one ∷ []) ++ rest)) ≡ length (writes_in made) + length (writes_in left) =
    ap (λ actions. length (writes_in actions)) whole ∙ ap length (writes_in-append made left) ∙ length-append (writes_in made) (writes_in left) in
    absurd (omega arith)

-- what was made before still comes before it with one action more
pub before-one : (stop : Option ℕ) (told told_now : ℕ) (made left rest : List Action) (one : Action) → told_now ≡ told + length (writes_in made) → IsWithinTurn stop told_now
    → left ≡ one ∷ rest → AreEarly stop told made left → IsBefore stop told made left → IsBefore stop told (made ++ one ∷ []) rest
before-one None told told_now made left rest one come within is early before = tt
before-one (Some after) told told_now made left rest one come within is (inl few) before = up_to-one (after - told) made left rest one is few before
before-one (Some after) told told_now made left rest one come within is (inr none) before = none-left (after - told) made left rest one is none (omega arith)

-- and no more is told than that
pub within-written : (stop : Option ℕ) (told told_now told_new : ℕ) (made left rest : List Action) (write : Write) → told_now ≡ told + length (writes_in made) → IsWithinTurn stop told_now
    → left ≡ Written write ∷ rest → AreEarly stop told made left → told_new ≡ told_now + 1 → IsWithinTurn stop told_new
within-written None told told_now told_new made left rest write come within is early new = tt
within-written (Some after) told told_now told_new made left rest write come within is (inl few) new = omega arith
within-written (Some after) told told_now told_new made left rest write come within is (inr none) new =
    let size : length (writes_in left) ≡ length (write ∷ writes_in rest) = ap (λ actions. length (writes_in actions)) is in
    absurd (omega arith)

-- so there is one write more before it
pub below-written : (stop : Option ℕ) (told told_now : ℕ) (made left rest : List Action) (write : Write) → told_now ≡ told + length (writes_in made) → IsWithinTurn stop told_now
    → left ≡ Written write ∷ rest → AreEarly stop told made left → IfSome stop (λ after. told_now < after)
below-written None told told_now made left rest write come within is early = tt
below-written (Some after) told told_now made left rest write come within is (inl few) = omega arith
below-written (Some after) told told_now made left rest write come within is (inr none) =
    let size : length (writes_in left) ≡ length (write ∷ writes_in rest) = ap (λ actions. length (writes_in actions)) is in
    absurd (omega arith)

pub within-same : (stop : Option ℕ) (told_now told_new : ℕ) → IsWithinTurn stop told_now → told_new ≡ told_now → IsWithinTurn stop told_new
within-same stop told_now told_new within same = subst (IsWithinTurn stop) (sym same) within

-- what holds at each turn holds where there is one
pub all-some : (stop : Option ℕ) (P : ℕ → Type 0) → ((after : ℕ) → P after) → IfSome stop P
all-some None P holds = tt
all-some (Some after) P holds = holds after

pub with-some : (stop : Option ℕ) (P Q : ℕ → Type 0) → IfSome stop P → ((after : ℕ) → P after → Q after) → IfSome stop Q
with-some None P Q is holds = tt
with-some (Some after) P Q is holds = holds after is

-- with no more made than comes before it
pub early-within : (stop : Option ℕ) (told told_now : ℕ) (made left : List Action) → told_now ≡ told + length (writes_in made) → IsWithinTurn stop told_now → AreEarly stop told made left
    → IfSome stop (λ after. IsEarly (after - told) made left × (length (writes_in made) ≤ after - told))
early-within None told told_now made left come within early = tt
early-within (Some after) told told_now made left come within early = (early, omega arith)

-- a drain that is next comes before it
pub drain-next : (after told : ℕ) (made left rest : List Action) → left ≡ Drained ∷ rest → IsEarly (after - told) made left → length (writes_in made) ≤ after - told → after - told < length (writes_in (made ++ left))
    → up_to_writes (after - told - length (writes_in made)) left ≡ Drained ∷ up_to_writes (after - told - length (writes_in made)) rest
drain-next after told made left rest is early few enough =
    let n = after - told - length (writes_in made) in
    let sizes : length (writes_in (made ++ left)) ≡ length (writes_in made) + length (writes_in left) = ap length (writes_in-append made left) ∙ length-append (writes_in made) (writes_in left) in
    let some : 0 < n = elim early [ inl below ↦ omega arith | inr none ↦ absurd (omega arith) ] in
    let same : n - 0 ≡ n = omega arith in
    ap (up_to_writes n) is ∙ next-up_to n Drained rest some ∙ ap (λ k. Drained ∷ up_to_writes k rest) same

-- before the first action
pub before-none : (stop : Option ℕ) (told : ℕ) (left : List Action) → IsBefore stop told [] left
before-none None told left = tt
before-none (Some after) told left = λ more. let same : after - told ≡ after - told - 0 = omega arith in ap (λ n. up_to_writes n left) same

both-parts : (a b : Bool) → (a && b) ≡ true → (a ≡ true) × (b ≡ true)
both-parts true true both = (refl, refl)
both-parts true false both = absurd (cc)
both-parts false b both = absurd (cc)

module _ (begun now : Managed) (watch : Watching) (count count_now : Count) (events_begun events_now : List Action) (flight : Flight) (spare : ℕ)
    (making : IsMaking begun now watch count count_now events_begun events_now flight spare) where
  due-at : (after : ℕ) → turn_due (Some after) count_now.told now.held ≡ (nat_le after count_now.told && nat_lt 0 (length (writes_in making.some.left)))
  due-at after = ap (turn_due (Some after) count_now.told) (some-held begun now making.some)

  pub early-due : (stop : Option ℕ) → turn_due stop count_now.told now.held ≡ false → AreEarly stop count.told making.some.made making.some.left
  early-due None due = tt
  early-due (Some after) due = go (nat_le after count_now.told) (nat_lt 0 (length (writes_in making.some.left))) refl refl (sym (due-at after) ∙ due)
    where
      go : (a b : Bool) → nat_le after count_now.told ≡ a → nat_lt 0 (length (writes_in making.some.left)) ≡ b
          → (nat_le after count_now.told && nat_lt 0 (length (writes_in making.some.left))) ≡ false → IsEarly (after - count.told) making.some.made making.some.left
      go false b a-is b-is none = inl (let below = leb-false after count_now.told a-is in let told = making.come.told in omega arith)
      go true false a-is b-is none = inr (let few = ltb-false 0 (length (writes_in making.some.left)) b-is in omega arith)
      go true true a-is b-is none =
          absurd (let both : (true && true) ≡ false = ap (λ one. one && true) (sym a-is) ∙ ap (λ one. nat_le after count_now.told && one) (sym b-is) ∙ none in cc)

  -- at the turn
  pub making-pauses : (Seen : Type 0) (slots : ℕ) (taken taken_now : Option (List ℕ)) (stop : Option ℕ) → turn_due stop count_now.told now.held ≡ true → IsWithinTurn stop count_now.told
      → IsBefore stop count.told making.some.made making.some.left → (Seen → TellsActions begun watch slots count events_begun making.some.made taken taken_now)
      → StopsThere Seen stop watch slots (snapshot begun count (outside events_begun taken)) (snapshot now count_now (outside events_now taken_now))
  making-pauses Seen slots taken taken_now None due within before told = absurd (cc)
  making-pauses Seen slots taken taken_now (Some after) due within before told =
      let parts = both-parts (nat_le after count_now.told) (nat_lt 0 (length (writes_in making.some.left))) (sym (due-at after) ∙ due) in
      let late = leb-true after count_now.told parts.0 in
      let some = ltb-true 0 (length (writes_in making.some.left)) parts.1 in
      let number = making.come.told in
      let sizes : length (writes_in (making.some.made ++ making.some.left)) ≡ length (writes_in making.some.made) + length (writes_in making.some.left) =
      ap length (writes_in-append making.some.made making.some.left) ∙ length-append (writes_in making.some.made) (writes_in making.some.left) in record {
        some = making.some;
        before = before;
        more = omega arith;
        reached = omega arith;
        come = making.come;
        events = making.events;
        report = told;
      }
