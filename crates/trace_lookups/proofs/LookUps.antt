-- So look-ups of two events over an orderly trace answer as undivided ones.
use Rattle.std.proofs.Common.{◌≡◌, ◌≢◌, ℕ, Bool, Some, List, [], ◌∷◌, ◌++◌, inl, inr, refl, sym, ◌∙◌, ap, subst}
use Rattle.std.specs.Prelude.{if◌then◌else◌}
use Rattle.std.specs.List.{AllByRecursion}
use Rattle.rule_model.specs.declared.IpVersion.{IpVersion}
use Rattle.rule_model.specs.declared.Key.{Key}
use Rattle.rule_model.specs.Key.{IsKey}
use Rattle.rule_store.specs.declared.Mode.{Mode}
use Rattle.rule_store.specs.declared.Mode.TheVariants.{Cover, Bits}
use Rattle.tcam_device.specs.Flight.{word_answer}
use Rattle.tcam_device.specs.State.{blank, lookup, search_word}
use Rattle.tcam_device.proofs.States.{IsState-blank}
use Rattle.tcam_device.proofs.Wider.{blank_shows}
use Rattle.commit_writes.specs.Bits.{FieldBits, no_bits}
use Rattle.commit_writes.specs.InFlight.{ArePartOf, IsCurrent, ServingTo}
use Rattle.commit_writes.proofs.Current.{translated_current, current_part, current_answers}
use Rattle.commit_writes.proofs.Led.{same_part, part_of_part}
use Rattle.commit_writes.proofs.Searches.{serves_now}
use Rattle.trace_file.specs.declared.TraceLine.{TraceLine}
use Rattle.trace_file.specs.declared.TraceLine.TheVariants.{Head, Commit, Add, Set, Del, Put, Erase, Table, Drain, Done, Refused, End, Fault}
use Rattle.trace_file.specs.Forms.{IsTraceLine}
use Rattle.trace_check.specs.declared.places.Place.{Place}
use Rattle.trace_check.specs.declared.places.Place.TheVariants.{AtStart, Between}
use Rattle.trace_check.specs.Orderly.{Tracing, untraced, first_tracing, traced_on, Follow, AllKeepOrder, Keeps, IsOrderly}
use Rattle.trace_check.proofs.SlotsBegun.{blank_rests}
use Rattle.trace_check.specs.Checked.{Checked, nothing_checked, without_made, TakesAll}
use Rattle.trace_check.proofs.Taken.{keeps_on, same_on}
use Rattle.trace_check.specs.Places.{place_after}
use Rattle.trace_lookups.specs.LookUps.{known_behind, HasNoDrain, AnswersAsNow, trace_actions, OrderlyTracesServe, OrderlyTracesServeLookUps, TakenTracesServeLookUps}
use Rattle.trace_lookups.proofs.UnderWay.{Known, known_on, no_head, shown_at}
use Rattle.trace_lookups.proofs.Serves.{serves_in}

-- what is served behind one line more, which are ranges among those before it unless the line is a drain
record ServesOne (now : Tracing) (bits last : FieldBits) (line : TraceLine) (lines : List TraceLine) : Type 0 where
  ranges : FieldBits
  part : line ≢ Drain → ArePartOf ranges bits
  on : ServingTo ranges (traced_on now line).state (trace_actions lines) last

serves_one : (now : Tracing) (place next : Place) (bits last : FieldBits) (line : TraceLine) (lines : List TraceLine) → place_after now.slots place line ≡ Some next → Known place now
    → ServingTo bits now.state (trace_actions (line ∷ lines)) last → ServesOne now bits last line lines
serves_one now place next bits last (Head version acl by_bits slots) lines there known serving = absurd (no_head now place next there known)
serves_one now place next bits last (Commit n) lines there known serving = record { ranges = bits; part = λ other. same_part bits; on = serving }
serves_one now place next bits last (Add rule) lines there known serving = record { ranges = bits; part = λ other. same_part bits; on = serving }
serves_one now place next bits last (Set priority answer) lines there known serving = record { ranges = bits; part = λ other. same_part bits; on = serving }
serves_one now place next bits last (Del priority) lines there known serving = record { ranges = bits; part = λ other. same_part bits; on = serving }
serves_one now place next bits last (Put at entry) lines there known serving = record { ranges = serving.1.0; part = λ other. serving.1.1; on = serving.1.2 }
serves_one now place next bits last (Erase at) lines there known serving = record { ranges = serving.1.0; part = λ other. serving.1.1; on = serving.1.2 }
serves_one now place next bits last (Table field port word) lines there known serving = record { ranges = serving.1.0; part = λ other. serving.1.1; on = serving.1.2 }
serves_one now place next bits last Drain lines there known serving = record { ranges = serving.1.0; part = λ other. absurd (other refl); on = serving.1.1 }
serves_one now place next bits last (Done n) lines there known serving = record { ranges = bits; part = λ other. same_part bits; on = serving }
serves_one now place next bits last (Refused n) lines there known serving = record { ranges = bits; part = λ other. same_part bits; on = serving }
serves_one now place next bits last (End writes) lines there known serving = record { ranges = bits; part = λ other. same_part bits; on = serving }
serves_one now place next bits last (Fault line) lines there known serving = record { ranges = bits; part = λ other. same_part bits; on = serving }

-- what is served, and known, behind some lines of a trace, where the others still keep the order
pub record ServesOver (after : Tracing) (bits last : FieldBits) (first rest : List TraceLine) (end : Place) : Type 0 where
  pub place : Place
  pub known : Known place after
  pub are : AllByRecursion IsTraceLine rest
  pub follow : Follow after place rest end
  pub keeps : AllKeepOrder after rest
  pub ranges : FieldBits
  pub part : HasNoDrain first → ArePartOf ranges bits
  pub on : ServingTo ranges after.state (trace_actions rest) last

pub serves_over : (first rest : List TraceLine) (now : Tracing) (place end : Place) (bits last : FieldBits) → Known place now → AllByRecursion IsTraceLine (first ++ rest) → Follow now place (first ++ rest) end
    → AllKeepOrder now (first ++ rest) → ServingTo bits now.state (trace_actions (first ++ rest)) last → ServesOver (known_behind now first) bits last first rest end
serves_over [] rest now place end bits last known are follow keeps serving = record {
  place = place;
  known = known;
  are = are;
  follow = follow;
  keeps = keeps;
  ranges = bits;
  part = λ none. same_part bits;
  on = serving;
}
serves_over (line ∷ first) rest now place end bits last known are follow keeps serving =
    let one = serves_one now place follow.0 bits last line (first ++ rest) follow.1 known serving in
    let more = serves_over first rest (traced_on now line) follow.0 end one.ranges last (known_on now line place follow.0 are.0 follow.1 keeps.0 known) are.1 follow.2 keeps.1 one.on in
    record {
      place = more.place;
      known = more.known;
      are = more.are;
      follow = more.follow;
      keeps = more.keeps;
      ranges = more.ranges;
      part = λ none. part_of_part more.ranges one.ranges bits (more.part none.1) (one.part none.0);
      on = more.on;
    }

pub known_behind-append : (now : Tracing) (first between : List TraceLine) → known_behind now (first ++ between) ≡ known_behind (known_behind now first) between
known_behind-append now [] between = refl
known_behind-append now (line ∷ first) between = known_behind-append (traced_on now line) first between

-- a word that is made behind some lines is current behind those that follow, if no drain is among these
later_served : (made now : Tracing) (before between later : List TraceLine) (end : Place) (bits last : FieldBits) (key : Key) (then_serves : ServesOver made bits last before (between ++ later) end)
    → ServesOver now then_serves.ranges last between later end → HasNoDrain between → IsKey key → AnswersAsNow made now key
later_served made now before between later end bits last key first more none valid = record {
  as_look_up = look;
  old_or_new = elim (shown_at now more.place more.known key valid) [ inl old ↦ inl (look ∙ old) | inr new ↦ inr (look ∙ new) ];
}
  where
    current : IsCurrent first.ranges key (search_word made.state key)
    current = translated_current first.ranges made.state key (serves_now first.ranges last made.state (trace_actions (between ++ later)) first.on) valid

    look : word_answer now.state (search_word made.state key) ≡ lookup now.state key
    look = current_answers more.ranges now.state key (search_word made.state key) (serves_now more.ranges last now.state (trace_actions later) more.on)
        (current_part more.ranges first.ranges key (search_word made.state key) (more.part none) current)

-- behind a head the device is blank
module _ (version : IpVersion) (acl by_bits : Bool) (slots : ℕ) where
  abbrev mode : Mode
  mode = if by_bits then Bits else Cover

  abbrev begun : Tracing
  begun = first_tracing version slots (if by_bits then Bits else Cover)

  pub blank_known : Known (Between 0) begun
  blank_known = record { rest = blank_rests mode slots; sized = IsState-blank slots; shows = blank_shows slots }

  pub behind_head : (lines : List TraceLine) (end : Place) → Follow untraced AtStart (Head version acl by_bits slots ∷ lines) end → Follow begun (Between 0) lines end
  behind_head lines end follow = subst (λ p. Follow begun p lines end) (let same : follow.0 ≡ Between 0 = cc in same) follow.2

  pub head_serves : (lines : List TraceLine) (end : Place) → AllByRecursion IsTraceLine lines → Follow untraced AtStart (Head version acl by_bits slots ∷ lines) end
      → IsOrderly (Head version acl by_bits slots ∷ lines) → ServingTo no_bits (blank slots) (trace_actions lines) (known_behind begun lines).bits
  head_serves lines end are follow keeps = serves_in lines begun (Between 0) end blank_known are (behind_head lines end follow) keeps.1

  head_looks : (first between later : List TraceLine) (end : Place) (key : Key) → AllByRecursion IsTraceLine (first ++ (between ++ later))
      → Follow untraced AtStart (Head version acl by_bits slots ∷ (first ++ (between ++ later))) end → IsOrderly (Head version acl by_bits slots ∷ (first ++ (between ++ later)))
      → HasNoDrain between → IsKey key → AnswersAsNow (known_behind begun first) (known_behind begun (first ++ between)) key
  head_looks first between later end key are follow keeps none valid =
      let last : FieldBits = (known_behind begun (first ++ (between ++ later))).bits in
      let then_serves = serves_over first (between ++ later) begun (Between 0) end no_bits last blank_known are (behind_head (first ++ (between ++ later)) end follow) keeps.1
      (head_serves (first ++ (between ++ later)) end are follow keeps) in
      let now_serves = serves_over between later (known_behind begun first) then_serves.place end then_serves.ranges last then_serves.known then_serves.are then_serves.follow then_serves.keeps then_serves.on in
      subst (λ (now : Tracing). AnswersAsNow (known_behind begun first) now key) (sym (known_behind-append begun first between))
      (later_served (known_behind begun first) (known_behind (known_behind begun first) between) first between later end no_bits last key then_serves now_serves none valid)

-- a trace begins with a head
for_heads : (P : TraceLine → Type 0) → ((version : IpVersion) (acl bits : Bool) (slots : ℕ) → P (Head version acl bits slots)) → (line : TraceLine) (lines : List TraceLine) (end : Place) → Follow untraced AtStart (line ∷ lines) end → P line
for_heads P holds (Head version acl bits slots) lines end follow = holds version acl bits slots
for_heads P holds (Commit n) lines end follow = absurd (let there = follow.1 in cc)
for_heads P holds (Add rule) lines end follow = absurd (let there = follow.1 in cc)
for_heads P holds (Set priority answer) lines end follow = absurd (let there = follow.1 in cc)
for_heads P holds (Del priority) lines end follow = absurd (let there = follow.1 in cc)
for_heads P holds (Put slot entry) lines end follow = absurd (let there = follow.1 in cc)
for_heads P holds (Erase slot) lines end follow = absurd (let there = follow.1 in cc)
for_heads P holds (Table field port word) lines end follow = absurd (let there = follow.1 in cc)
for_heads P holds Drain lines end follow = absurd (let there = follow.1 in cc)
for_heads P holds (Done n) lines end follow = absurd (let there = follow.1 in cc)
for_heads P holds (Refused n) lines end follow = absurd (let there = follow.1 in cc)
for_heads P holds (End writes) lines end follow = absurd (let there = follow.1 in cc)
for_heads P holds (Fault line) lines end follow = absurd (let there = follow.1 in cc)

-- what is said of a look-up over lines that begin so
abbrev LooksFrom : List TraceLine → List TraceLine → List TraceLine → Place → Key → Type 0
LooksFrom first between later end key =
    AllByRecursion IsTraceLine (first ++ (between ++ later)) → Follow untraced AtStart (first ++ (between ++ later)) end → IsOrderly (first ++ (between ++ later))
    → HasNoDrain between → AnswersAsNow (known_behind untraced first) (known_behind untraced (first ++ between)) key

looks_from : (first between later : List TraceLine) (end : Place) (key : Key) → IsKey key → LooksFrom first between later end key
looks_from (line ∷ first) between later end key valid are follow keeps none =
    for_heads (λ head. LooksFrom (head ∷ first) between later end key)
    (λ version acl bits slots within trace orderly free. head_looks version acl bits slots first between later end key within.1 trace orderly free valid)
    line (first ++ (between ++ later)) end follow are follow keeps none
looks_from [] (line ∷ between) later end key valid are follow keeps none =
    for_heads (λ head. LooksFrom [] (head ∷ between) later end key)
    (λ version acl bits slots within trace orderly free.
    let served = head_looks version acl bits slots [] between later end key within.1 trace orderly free.1 valid in
    record { as_look_up = served.as_look_up; old_or_new = served.old_or_new })
    line (between ++ later) end follow are follow keeps none
looks_from [] [] later end key valid are follow keeps none = record { as_look_up = refl; old_or_new = inl refl }

pub orderly_serve_look_ups : OrderlyTracesServeLookUps
orderly_serve_look_ups lines are trace orderly first between later key parts none valid =
    looks_from first between later trace.0 key valid (subst (AllByRecursion IsTraceLine) parts are) (subst (λ ls. Follow untraced AtStart ls trace.0) parts trace.1) (subst IsOrderly parts orderly) none

-- lines that a checker took keep the order
record WereTaken (place : Place) (now : Tracing) (lines : List TraceLine) (end : Checked) : Type 0 where
  follow : Follow now place lines end.place
  keeps : AllKeepOrder now lines

taken : (lines : List TraceLine) (check : Checked) (now : Tracing) (end : Checked) → check.now ≡ without_made now → TakesAll check lines end → WereTaken check.place now lines end
taken [] check now end same all = record { follow = ap (λ (c : Checked). c.place) all; keeps = tt }
taken (line ∷ lines) check now end same (next, takes, all) =
    let there : place_after now.slots check.place line ≡ Some next.place = subst (λ (t : Tracing). place_after t.slots check.place line ≡ Some next.place) same takes.may_stand in
    let kept : Keeps now line = keeps_on now line (subst (λ (t : Tracing). Keeps t line) same takes.keeps) in
    let later : next.now ≡ without_made (traced_on now line) = takes.knows ∙ (ap (λ (t : Tracing). without_made (traced_on t line)) same ∙ same_on now line) in
    let rest = taken lines next (traced_on now line) end later all in
    record { follow = (next.place, there, rest.follow); keeps = (kept, rest.keeps) }

pub taken_serve_look_ups : TakenTracesServeLookUps
taken_serve_look_ups lines end are all =
    let were = taken lines nothing_checked untraced end refl all in
    orderly_serve_look_ups lines are (end.place, were.follow) were.keeps

pub orderly_serve : OrderlyTracesServe
orderly_serve version acl bits slots lines are trace orderly = head_serves version acl bits slots lines trace.0 are.1 trace.1 orderly
