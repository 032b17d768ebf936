-- What a judge says of a line, by what it keeps.
use Rattle.std.proofs.Common.{◌≡◌, true, false, Option, Some, None, refl, sym, ◌∙◌, subst, ap, ap₂}
use Rattle.std.specs.Prelude.{IsSome}
use Rattle.std.proofs.lemmas.Bool.{cases_Bool, cond-true, cond-false}
use Rattle.std.proofs.Common.{inl, inr}
use Rattle.trace_check.specs.declared.places.Place.{Place}
use Rattle.trace_check.specs.declared.places.Place.TheVariants.{AtStart}
use Rattle.trace_check.specs.Places.{place_by}
use Rattle.driver_trace.specs.declared.Compared.{Compared}
use Rattle.driver_trace.specs.declared.DriverLine.{DriverLine}
use Rattle.driver_trace.specs.DriverLines.{driver_kind}
use Rattle.driver_trace.specs.Known.{Known, agrees, driver_place, unknown}
use Rattle.line_judge.specs.declared.LineFault.{LineFault}
use Rattle.line_judge.specs.declared.LineFault.TheVariants.{Misplaced, Leaks, NotJudged, Memory}
use Rattle.line_judge.specs.declared.track.Track.{Track}
use Rattle.line_judge.specs.Followed.{Followed, RefusesLine, Takes, nothing_followed}
use Rattle.line_judge.specs.Tracked.{StopsAt, TakesLine, known_of}

abbrev pub followed : Compared → Place → Known → Followed
followed by place now = record { by = by; place = place; now = now }

pub first_followed : (by : Compared) (track : Track) → track.by ≡ by → track.place ≡ AtStart → known_of track ≡ unknown → followed track.by track.place (known_of track) ≡ nothing_followed by
first_followed by track is_by is_place is_known =
    ap (λ (b : Compared). followed b track.place (known_of track)) is_by ∙ ap₂ (followed by) is_place is_known

module _ (track : Track) (line : DriverLine) where
  abbrev at : Option Place
  at = place_by track.slots track.place (driver_kind line)

  -- where it agrees with what is known it stands by its place alone
  stands : agrees (known_of track) line ≡ true → driver_place (known_of track) track.place line ≡ at
  stands agreed = cond-true _ _ _ agreed

  fails : agrees (known_of track) line ≡ false → driver_place (known_of track) track.place line ≡ None
  fails other = cond-false _ _ _ other

module _ (track after : Track) (line : DriverLine) (next : Place) where
  pub takes : (judge : Followed) → followed track.by track.place (known_of track) ≡ judge → place_by track.slots track.place (driver_kind line) ≡ Some next → TakesLine track line after
      → Takes judge line (followed after.by next (known_of after))
  takes judge is there taken = subst (λ (j : Followed). Takes j line (followed after.by next (known_of after))) is (record {
    may_stand = stands track line taken.agreed ∙ there;
    hitless = taken.hitless;
    knows = taken.knows;
    same = taken.same;
  })

is_some_at : (found : Option Place) (next : Place) → found ≡ Some next → IsSome found
is_some_at found next is = subst IsSome (sym is) refl

refused : (track : Track) (line : DriverLine) (next : Place) (fault : LineFault) → place_by track.slots track.place (driver_kind line) ≡ Some next → StopsAt track line fault
    → RefusesLine (followed track.by track.place (known_of track)) line fault
refused track line next Misplaced there stopped = fails track line stopped
refused track line next (Leaks leak) there stopped = (is_some_at _ next (stands track line stopped.0 ∙ there), stopped.1)
refused track line next NotJudged there stopped = (is_some_at _ next (stands track line stopped.0 ∙ there), stopped.1)
refused track line next Memory there stopped = tt

pub refuses : (track : Track) (line : DriverLine) (next : Place) (fault : LineFault) (judge : Followed) → followed track.by track.place (known_of track) ≡ judge
    → place_by track.slots track.place (driver_kind line) ≡ Some next → StopsAt track line fault → RefusesLine judge line fault
refuses track line next fault judge is there stopped = subst (λ (j : Followed). RefusesLine j line fault) is (refused track line next fault there stopped)

pub refuses_place : (track : Track) (line : DriverLine) (judge : Followed) → followed track.by track.place (known_of track) ≡ judge → place_by track.slots track.place (driver_kind line) ≡ None
    → RefusesLine judge line Misplaced
refuses_place track line judge is none = subst (λ (j : Followed). RefusesLine j line Misplaced) is (elim (cases_Bool (agrees (known_of track) line)) [
  | inl same ↦ stands track line same ∙ none
  | inr other ↦ fails track line other
])
