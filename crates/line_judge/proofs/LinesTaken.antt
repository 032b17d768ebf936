-- A line that was judged, by what is known before it and what it changed.
use Rattle.std.proofs.Common.{◌≡◌, ℕ, zero, suc, ◌+◌, ◌<◌, true, Option, Some, None, List, [], ◌∷◌, ◌++◌, length, replicate, refl, sym, ◌∙◌, subst, ap}
use Rattle.std.specs.Prelude.{Bool, IfSome}
use Rattle.std.proofs.lemmas.Bool.{eq-eqb, ne_eqb}
use Rattle.std.proofs.lemmas.List.{length-replicate}
use Rattle.slot_order.specs.Order.{first_hit}
use Rattle.rule_model.specs.declared.IpVersion.{IpVersion}
use Rattle.rule_model.specs.declared.IpVersion.TheVariants.{V4}
use Rattle.rule_model.specs.declared.Rule.{Rule}
use Rattle.rule_model.specs.declared.words.Entry.{Entry}
use Rattle.rule_store.specs.declared.Command.{Command}
use Rattle.rule_store.specs.declared.Command.TheVariants as change
use Rattle.rule_store.specs.Batch.{IsSound, set_after}
use Rattle.tcam_device.specs.State.{State, blank, hits_key, told}
use Rattle.trace_file.specs.declared.TraceLine.TheVariants as lines
use Rattle.trace_check.specs.declared.places.Place.{Place}
use Rattle.trace_check.specs.declared.places.Place.TheVariants.{AtStart}
use Rattle.trace_check.specs.Places.{Changes, Finishes, Happens, place_by}
use Rattle.driver_trace.specs.declared.Asked.{Asked}
use Rattle.driver_trace.specs.declared.Asked.TheVariants.{OldOrNew, New, Old, Nothing}
use Rattle.driver_trace.specs.declared.Compared.{Compared}
use Rattle.driver_trace.specs.declared.DriverLine.{DriverLine}
use Rattle.driver_trace.specs.declared.Leak.{Leak}
use Rattle.driver_trace.specs.declared.DriverLine.TheVariants as driver
use Rattle.driver_trace.specs.Compared.{ShowsBy, ShowsOldOrNewBy, as_compared}
use Rattle.driver_trace.specs.DriverLines.{driver_kind}
use Rattle.driver_trace.specs.Judged.{IsLeak, ShowsAsked, asked_by}
use Rattle.driver_trace.specs.Known.{Known, agrees, first_known, known_on, state_behind, unknown}
use Rattle.line_judge.specs.declared.LineFault.{LineFault}
use Rattle.line_judge.specs.declared.LineFault.TheVariants.{Misplaced, Leaks, NotJudged, Memory}
use Rattle.line_judge.specs.declared.track.Track.{Track}
use Rattle.line_judge.specs.Tracked.{IsEndedWith, IsEventFault, IsFaultOf, IsJudgedEvent, IsOpen, IsPushFault, IsRightTrack, IsShownAt, MayBeTaken, StopsAt, TakesLine, between, known_of}
use Rattle.line_judge.proofs.Meant.{meant, not_meant}
use Rattle.line_judge.proofs.PlacesBehind.{command_at, commit_shown, drain_shown, end_shown, event_next, event_open, event_used, finish_next, finish_open, head_next, refused_shown, some_place}

-- where the judge says that it stands, nothing asks
pub placed_at : (place told : Place) (track : Track) → IsRightTrack place track → IsRightTrack place (record track { place = told })
placed_at place told track right = record { sized = right.sized; shown = right.shown; ahead = right.ahead }

-- want of memory says nothing of a line
pub memory_stops : (before : Track) (line : DriverLine) (fault : LineFault) → fault ≡ Memory → StopsAt before line fault
memory_stops before line fault is = subst (StopsAt before line) (sym is) tt

pub commit_takes : (before : Track) (n : ℕ) → MayBeTaken before (driver.Common (lines.Commit n)) → TakesLine before (driver.Common (lines.Commit n)) before
commit_takes before n may = record {
  agreed = refl;
  hitless = tt;
  knows = refl;
  same = refl;
  right = λ next there. record { sized = may.right.sized; shown = commit_shown before.by before.slots n before.place next (known_of before) there may.right.shown; ahead = may.right.ahead };
}

pub refused_takes : (before : Track) (n : ℕ) → MayBeTaken before (driver.Common (lines.Refused n)) → TakesLine before (driver.Common (lines.Refused n)) before
refused_takes before n may = record {
  agreed = refl;
  hitless = tt;
  knows = refl;
  same = refl;
  right = λ next there. record { sized = may.right.sized; shown = refused_shown before.by before.slots n before.place next (known_of before) there may.right.shown; ahead = may.right.ahead };
}

pub drain_takes : (before : Track) → MayBeTaken before (driver.Common lines.Drain) → TakesLine before (driver.Common lines.Drain) before
drain_takes before may = record {
  agreed = refl;
  hitless = tt;
  knows = refl;
  same = refl;
  right = λ next there. record { sized = may.right.sized; shown = drain_shown before.by before.slots before.place next (known_of before) there may.right.shown; ahead = may.right.ahead };
}

pub fault_takes : (before : Track) (n : ℕ) → MayBeTaken before (driver.Common (lines.Fault n)) → TakesLine before (driver.Common (lines.Fault n)) before
fault_takes before n may = record {
  agreed = refl;
  hitless = tt;
  knows = refl;
  same = refl;
  right = λ next there. record { sized = may.right.sized; shown = end_shown before.by before.slots before.place next (known_of before) there; ahead = may.right.ahead };
}

-- the last line tells the number of writes, or another one
pub end_takes : (before : Track) (writes : ℕ) → writes ≡ before.writes → MayBeTaken before (driver.Common (lines.End writes)) → TakesLine before (driver.Common (lines.End writes)) before
end_takes before writes is may = record {
  agreed = eq-eqb writes before.writes is;
  hitless = tt;
  knows = refl;
  same = refl;
  right = λ next there. record { sized = may.right.sized; shown = end_shown before.by before.slots before.place next (known_of before) there; ahead = may.right.ahead };
}

pub end_stops : (before : Track) (writes : ℕ) → (writes ≡ before.writes → ⊥) → StopsAt before (driver.Common (lines.End writes)) Misplaced
end_stops before writes other = ne_eqb writes before.writes other

-- a blank device shows the set without rules
none_found : {K : Type 0} (test : Entry → K → Bool) (n : ℕ) (key : K) → first_hit test (replicate n None) key ≡ None
none_found test zero key = refl
none_found test (suc n) key = none_found test n key

blank_shows : (by : Compared) (slots : ℕ) → ShowsBy by (blank slots) []
blank_shows by slots key valid = ap (λ (found : Option Entry). as_compared by (told found)) (none_found (hits_key (blank slots)) slots key)

abbrev pub made_known : IpVersion → ℕ → List Rule → List Command → State → Known
made_known version slots rules batch state = record { version = version; slots = slots; rules = rules; batch = batch; state = state; writes = 0; commits = 0 }

known_blank : (version : IpVersion) (slots : ℕ) (rules : List Rule) (batch : List Command) (state : State) → rules ≡ [] → batch ≡ [] → state ≡ blank slots
    → made_known version slots rules batch state ≡ first_known version slots
known_blank version slots rules batch state no_rules no_batch is =
    ap (λ (r : List Rule). made_known version slots r batch state) no_rules ∙ ap (λ (b : List Command). made_known version slots [] b state) no_batch
    ∙ ap (made_known version slots [] []) is

blank_shown : (by : Compared) (slots : ℕ) (rules : List Rule) (state : State) → rules ≡ [] → state ≡ blank slots → ShowsBy by state rules
blank_shown by slots rules state none is = subst (λ (r : List Rule). ShowsBy by state r) (sym none) (subst (λ (s : State). ShowsBy by s []) (sym is) (blank_shows by slots))

blank_sized : (slots : ℕ) (state : State) → state ≡ blank slots → length state.slots ≡ slots
blank_sized slots state is = ap (λ (s : State). length s.slots) is ∙ length-replicate slots (let none : Option Entry = None in none)

-- the head
pub head_takes : (before : Track) (version : IpVersion) (acl bits : Bool) (slots : ℕ) (rules : List Rule) (batch : List Command) (state : State) → rules ≡ [] → batch ≡ [] → state ≡ blank slots
    → MayBeTaken before (driver.Common (lines.Head version acl bits slots))
    → TakesLine before (driver.Common (lines.Head version acl bits slots))
    (record before { version = version; slots = slots; rules = rules; batch = batch; ahead = None; device = state; writes = 0; commits = 0 })
head_takes before version acl bits slots rules batch state no_rules no_batch is may = record {
  agreed = refl;
  hitless = tt;
  knows = known_blank version slots rules batch state no_rules no_batch is;
  same = refl;
  right = λ next there. record {
    sized = blank_sized slots state is;
    shown = subst (λ p. IsShownAt before.by p (made_known version slots rules batch state)) (sym (head_next before.slots before.place next there)) (no_batch, blank_shown before.by slots rules state no_rules is);
    ahead = tt;
  };
}

-- before the first line
pub start_known : (rules : List Rule) (batch : List Command) (state : State) → rules ≡ [] → batch ≡ [] → state ≡ blank 0 → made_known V4 0 rules batch state ≡ unknown
start_known rules batch state no_rules no_batch is = known_blank V4 0 rules batch state no_rules no_batch is

pub start_right : (track : Track) → track.batch ≡ [] → track.slots ≡ 0 → track.rules ≡ [] → track.device ≡ blank 0 → track.ahead ≡ None → IsRightTrack AtStart track
start_right track no_batch no_slots no_rules is none = record {
  sized = blank_sized 0 track.device is ∙ sym no_slots;
  shown = (no_batch, blank_shown track.by 0 track.rules track.device no_rules is);
  ahead = subst (λ ahead. IfSome ahead (λ set. set ≡ set_after track.rules track.batch)) (sym none) tt;
}

-- a command
command_right : (before : Track) (command : Command) (next : Place) → place_by before.slots before.place Changes ≡ Some next → IsRightTrack before.place before
    → IsSound before.rules (before.batch ++ command ∷ []) → IsRightTrack next (record before { batch = before.batch ++ command ∷ []; ahead = None })
command_right before command next there right sound =
    let at = command_at before.by before.slots before.place next (known_of before) there right.shown in
    record {
      sized = right.sized;
      shown = subst (λ p. IsShownAt before.by p (record (known_of before) { batch = before.batch ++ command ∷ [] })) (sym at.2) (sound, at.3.1);
      ahead = tt;
    }

pub sound_before : (before : Track) (line : DriverLine) → driver_kind line ≡ Changes → MayBeTaken before line → IsSound before.rules before.batch
sound_before before line kind may =
    let n = some_place (place_by before.slots before.place (driver_kind line)) may.stands in
    let at = command_at before.by before.slots before.place n.0 (known_of before) (subst (λ k. place_by before.slots before.place k ≡ Some n.0) kind n.1) may.right.shown in
    at.3.0

pub add_takes : (before after : Track) (rule : Rule) → MayBeTaken before (driver.Common (lines.Add rule)) → IsSound before.rules (before.batch ++ change.Add rule ∷ [])
    → after ≡ record before { batch = before.batch ++ change.Add rule ∷ []; ahead = None } → TakesLine before (driver.Common (lines.Add rule)) after
add_takes before after rule may sound is = subst (TakesLine before (driver.Common (lines.Add rule))) (sym is) (record {
  agreed = meant before.rules (change.Add rule) before.batch (sound_before before (driver.Common (lines.Add rule)) refl may) sound;
  hitless = tt;
  knows = refl;
  same = refl;
  right = λ next there. command_right before (change.Add rule) next there may.right sound;
})

pub set_takes : (before after : Track) (priority answer : ℕ) → MayBeTaken before (driver.Common (lines.Set priority answer)) → IsSound before.rules (before.batch ++ change.Set priority answer ∷ [])
    → after ≡ record before { batch = before.batch ++ change.Set priority answer ∷ []; ahead = None } → TakesLine before (driver.Common (lines.Set priority answer)) after
set_takes before after priority answer may sound is = subst (TakesLine before (driver.Common (lines.Set priority answer))) (sym is) (record {
  agreed = meant before.rules (change.Set priority answer) before.batch (sound_before before (driver.Common (lines.Set priority answer)) refl may) sound;
  hitless = tt;
  knows = refl;
  same = refl;
  right = λ next there. command_right before (change.Set priority answer) next there may.right sound;
})

pub del_takes : (before after : Track) (priority : ℕ) → MayBeTaken before (driver.Common (lines.Del priority)) → IsSound before.rules (before.batch ++ change.Del priority ∷ [])
    → after ≡ record before { batch = before.batch ++ change.Del priority ∷ []; ahead = None } → TakesLine before (driver.Common (lines.Del priority)) after
del_takes before after priority may sound is = subst (TakesLine before (driver.Common (lines.Del priority))) (sym is) (record {
  agreed = meant before.rules (change.Del priority) before.batch (sound_before before (driver.Common (lines.Del priority)) refl may) sound;
  hitless = tt;
  knows = refl;
  same = refl;
  right = λ next there. command_right before (change.Del priority) next there may.right sound;
})

pub add_stops : (before : Track) (rule : Rule) (fault : LineFault) → MayBeTaken before (driver.Common (lines.Add rule)) → IsPushFault before (change.Add rule) fault
    → StopsAt before (driver.Common (lines.Add rule)) fault
add_stops before rule Misplaced may is = not_meant before.rules (change.Add rule) before.batch (sound_before before (driver.Common (lines.Add rule)) refl may) is
add_stops before rule (Leaks leak) may is = absurd is
add_stops before rule NotJudged may is = absurd is
add_stops before rule Memory may is = tt

pub set_stops : (before : Track) (priority answer : ℕ) (fault : LineFault) → MayBeTaken before (driver.Common (lines.Set priority answer)) → IsPushFault before (change.Set priority answer) fault
    → StopsAt before (driver.Common (lines.Set priority answer)) fault
set_stops before priority answer Misplaced may is =
    not_meant before.rules (change.Set priority answer) before.batch (sound_before before (driver.Common (lines.Set priority answer)) refl may) is
set_stops before priority answer (Leaks leak) may is = absurd is
set_stops before priority answer NotJudged may is = absurd is
set_stops before priority answer Memory may is = tt

pub del_stops : (before : Track) (priority : ℕ) (fault : LineFault) → MayBeTaken before (driver.Common (lines.Del priority)) → IsPushFault before (change.Del priority) fault
    → StopsAt before (driver.Common (lines.Del priority)) fault
del_stops before priority Misplaced may is = not_meant before.rules (change.Del priority) before.batch (sound_before before (driver.Common (lines.Del priority)) refl may) is
del_stops before priority (Leaks leak) may is = absurd is
del_stops before priority NotJudged may is = absurd is
del_stops before priority Memory may is = tt

-- An event: before it the commit is open,
pub opens : (track : Track) (line : DriverLine) (named : Option ℕ) → driver_kind line ≡ Happens named → MayBeTaken track line → IsOpen track
opens track line named kind may =
    let n = some_place (place_by track.slots track.place (driver_kind line)) may.stands in
    let at = event_open track.by track.slots named track.place n.0 (known_of track) (subst (λ k. place_by track.slots track.place k ≡ Some n.0) kind n.1) may.right.shown in
    record { sized = may.right.sized; sound = at.0; shown = at.1; ahead = may.right.ahead }

pub uses : (track : Track) (line : DriverLine) (at : ℕ) → driver_kind line ≡ Happens (Some at) → MayBeTaken track line → at < track.slots
uses track line at kind may =
    let n = some_place (place_by track.slots track.place (driver_kind line)) may.stands in
    event_used track.slots at track.place n.0 (subst (λ k. place_by track.slots track.place k ≡ Some n.0) kind n.1)

-- nothing of it is the set that was handed out,
pub opens_without : (track mid : Track) → mid ≡ record track { ahead = None } → IsOpen track → IsOpen mid
opens_without track mid is open_now = subst IsOpen (sym is) (record { sized = open_now.sized; sound = open_now.sound; shown = open_now.shown; ahead = tt })

pub judged_back : (before after : Track) (state : State) → IsJudgedEvent (record before { ahead = None }) state after → IsJudgedEvent before state after
judged_back before after state at = record { open_again = at.open_again; by_is = at.by_is; known = at.known; slots_are = at.slots_are; shows = at.shows }

-- and where it was judged the line is taken;
pub event_takes : (before after : Track) (line : DriverLine) (named : Option ℕ) (state : State) → driver_kind line ≡ Happens named → agrees (known_of before) line ≡ true → asked_by line ≡ OldOrNew
    → state_behind before.device line ≡ state → known_on (known_of before) line ≡ record (known_of before) { state = state; writes = before.writes + 1 }
    → IsJudgedEvent before state after → TakesLine before line after
event_takes before after line named state kind agreed asked behind knows judged = record {
  agreed = agreed;
  hitless = subst (λ (a : Asked). ShowsAsked before.by (state_behind before.device line) before.rules (set_after before.rules before.batch) a) (sym asked)
      (subst (λ (s : State). ShowsOldOrNewBy before.by s before.rules (set_after before.rules before.batch)) (sym behind) judged.shows);
  knows = judged.known ∙ sym knows;
  same = judged.by_is;
  right = λ next there.
      let at = event_next before.slots named before.place next (subst (λ k. place_by before.slots before.place k ≡ Some next) kind there) in
      record {
        sized = judged.open_again.sized;
        shown = subst (λ p. IsShownAt after.by p (known_of after)) (sym at.1) (judged.open_again.sound, judged.open_again.shown);
        ahead = judged.open_again.ahead;
      };
}

leak_moved : (by : Compared) (a b : State) (old new : List Rule) (asked other : Asked) (leak : Leak) → a ≡ b → asked ≡ other
    → IsLeak by a old new asked leak → IsLeak by b old new other leak
leak_moved by a b old new asked other leak e f is = subst (λ (q : Asked). IsLeak by b old new q leak) f (subst (λ (s : State). IsLeak by s old new asked leak) e is)

pub event_stops : (before : Track) (line : DriverLine) (state : State) (fault : LineFault) → agrees (known_of before) line ≡ true → asked_by line ≡ OldOrNew → state_behind before.device line ≡ state
    → IsEventFault before state fault → StopsAt before line fault
event_stops before line state Misplaced agreed asked behind is = absurd is
event_stops before line state (Leaks leak) agreed asked behind is =
    (agreed, leak_moved before.by state (state_behind before.device line) before.rules (set_after before.rules before.batch) OldOrNew (asked_by line) leak (sym behind) (sym asked) is)
event_stops before line state NotJudged agreed asked behind is = (agreed, λ none. let e : OldOrNew ≡ Nothing = sym asked ∙ none in cc)
event_stops before line state Memory agreed asked behind is = tt

-- The end of a commit: before it the commit is open,
pub ends_open : (track : Track) (line : DriverLine) (n : ℕ) → driver_kind line ≡ Finishes n → MayBeTaken track line → IsOpen track
ends_open track line n kind may =
    let p = some_place (place_by track.slots track.place (driver_kind line)) may.stands in
    let at = finish_open track.by track.slots n track.place p.0 (known_of track) (subst (λ k. place_by track.slots track.place k ≡ Some p.0) kind p.1) may.right.shown in
    record { sized = may.right.sized; sound = at.0; shown = at.1; ahead = may.right.ahead }

pub ended_back : (before after : Track) (rules : List Rule) → IsEndedWith (record before { ahead = None }) rules after → IsEndedWith before rules after
ended_back before after rules at = record { shows = at.shows; by_is = at.by_is; known = at.known; ahead = at.ahead }

-- and behind it the set is shown
pub ended_right : (before after : Track) (n : ℕ) (rules : List Rule) → length before.device.slots ≡ before.slots → IsEndedWith before rules after → (next : Place)
    → place_by before.slots before.place (Finishes n) ≡ Some next → IsRightTrack next after
ended_right before after n rules sized ended next there =
    let at = finish_next before.slots n before.place next there in
    let state : after.device ≡ before.device = ap (λ (k : Known). k.state) ended.known in
    let slots : after.slots ≡ before.slots = ap (λ (k : Known). k.slots) ended.known in
    let set : after.rules ≡ rules = ap (λ (k : Known). k.rules) ended.known in
    let batch : after.batch ≡ [] = ap (λ (k : Known). k.batch) ended.known in
    record {
      sized = ap (λ (s : State). length s.slots) state ∙ sized ∙ sym slots;
      shown = subst (λ p. IsShownAt after.by p (known_of after)) (sym at.1)
          (batch, subst (λ by. ShowsBy by after.device after.rules) (sym ended.by_is) (subst (λ (s : State). ShowsBy before.by s after.rules) (sym state) (subst (λ (r : List Rule). ShowsBy before.by before.device r) (sym set) ended.shows)));
      ahead = subst (λ ahead. IfSome ahead (λ set. set ≡ set_after after.rules after.batch)) (sym ended.ahead) tt;
    }

pub done_takes : (before after : Track) (n : ℕ) → MayBeTaken before (driver.Common (lines.Done n)) → IsEndedWith before (set_after before.rules before.batch) after
    → TakesLine before (driver.Common (lines.Done n)) after
done_takes before after n may ended = record {
  agreed = refl;
  hitless = ended.shows;
  knows = ended.known;
  same = ended.by_is;
  right = λ next there. ended_right before after n (set_after before.rules before.batch) may.right.sized ended next there;
}

pub back_takes : (before after : Track) (n : ℕ) → MayBeTaken before (driver.Back n) → IsEndedWith before before.rules after → TakesLine before (driver.Back n) after
back_takes before after n may ended = record {
  agreed = refl;
  hitless = ended.shows;
  knows = ended.known;
  same = ended.by_is;
  right = λ next there. ended_right before after n before.rules may.right.sized ended next there;
}

pub done_stops : (before : Track) (n : ℕ) (fault : LineFault) → IsFaultOf before.by New (between before) fault → StopsAt before (driver.Common (lines.Done n)) fault
done_stops before n Misplaced is = absurd is
done_stops before n (Leaks leak) is = (refl, is)
done_stops before n NotJudged is = (refl, λ none. cc)
done_stops before n Memory is = tt

pub back_stops : (before : Track) (n : ℕ) (fault : LineFault) → IsFaultOf before.by Old (between before) fault → StopsAt before (driver.Back n) fault
back_stops before n Misplaced is = absurd is
back_stops before n (Leaks leak) is = (refl, is)
back_stops before n NotJudged is = (refl, λ none. cc)
back_stops before n Memory is = tt
