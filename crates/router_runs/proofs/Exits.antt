-- What a round comes to, by what its act answers.
use Rattle.std.proofs.Common.{◌≡◌, inl, inr, ℕ, Option, Some, None, Ok, List, [], ◌++◌, refl, sym, subst, append-nil}
use Rattle.std.proofs.KnownBytes.{Appends-nil}
use Rattle.script_lines.specs.declared.Line.{Line}
use Rattle.script_lines.specs.declared.Over.TheVariants as over
use Rattle.script_lines.specs.Lines.{numbered}
use Rattle.script_lines.specs.Reader.{HeldBytes, Again}
use Rattle.script_runs.specs.declared.Status.{Status}
use Rattle.script_runs.specs.declared.Status.TheVariants.{DeviceFault, Memory, WriteFault}
use Rattle.script_runs.specs.Script.{Reading, script_of, script_so_far}
use Rattle.script_runs.specs.Outcomes.{RunKind}
use Rattle.script_runs.specs.Rounds as rounds
use Rattle.script_runs.specs.Rounds.{acts_only, Closes, EndsRun, Grows, RunsOn, SoFar, WantsNext}
use Rattle.script_runs.proofs.Endings.{line-outcome, memory-outcome, write-outcome}
use Rattle.script_runs.proofs.Exits as exits
use Rattle.script_runs.proofs.Joined.{closes-grows, does-events}
use Rattle.script_runs.proofs.NextLines.{HandsOne}
use Rattle.split_device.specs.declared.SplitWrite.{SplitWrite}
use Rattle.router.specs.declared.Side.{Side}
use Rattle.router.specs.declared.RouterAct.{RouterAct}
use Rattle.router.specs.Script.{Pending, limit_fault}
use Rattle.router.specs.Run.{DeviceSlots, Effect, Progress, Setting, TakesMemory}
use Rattle.router.specs.Acting.{Carries, CutsAtLine, CutsAtPart, Does, Outside}
use Rattle.router.specs.Taken.{MadeOfBoth, made_on}
use Rattle.report_lines.specs.Sizes.{sizes_by}
use Rattle.router_runs.specs.Scripts.{router_scripts}
use Rattle.router_runs.specs.Runs.{made_then, pending_at, router_kind}
use Rattle.router_runs.specs.Promise.{IsPartDue}
use Rattle.router_runs.proofs.Kind.{does-of, joins}
use Rattle.router_runs.proofs.OneMore.{step-pending}

-- what was made of both devices
abbrev pub made_in : Outside → MadeOfBoth
made_in out = made_on out.list out.routes

-- nothing was done
pub does-nothing : (before after : Outside) → after ≡ before → Does [] [] before after
does-nothing before after same =
    subst (λ (now : Outside). Does [] [] before now) (sym same)
    (record { list = sym (append-nil before.list); routes = sym (append-nil before.routes); report = Appends-nil before.taken })

-- nor then, but that a last line was written
pub closes-same : (before after : Outside) (line : List ℕ) (last status : Status) (end : Option (List ℕ)) → after ≡ before → Closes line last status after.taken end → Closes line last status before.taken end
closes-same before after line last status end same closes = subst (λ (now : Outside). Closes line last status now.taken end) same closes

pub grows-same : (before after : Outside) (line : List ℕ) (last status : Status) (end : Option (List ℕ)) → after ≡ before → Closes line last status after.taken end
    → Grows made_then (made_in before) (made_in after) before.taken end
grows-same before after line last status end same closes =
    subst (λ (now : Outside). Grows made_then (made_in before) (made_in now) before.taken end) (sym same)
    (closes-grows joins (made_in before) line last status before.taken end (closes-same before after line last status end same closes))

pub ends-same : (reading : Reading RouterAct) (setting : Setting) (slots : DeviceSlots) (bytes taken now : List ℕ) (status : Status) (before after : Outside) (start end : Option (List ℕ)) → after ≡ before
    → EndsRun (router_kind reading setting slots) bytes taken now status (made_in before) start end → EndsRun (router_kind reading setting slots) bytes taken now status (made_in after) start end
ends-same reading setting slots bytes taken now status before after start end same ends =
    subst (λ (one : Outside). EndsRun (router_kind reading setting slots) bytes taken now status (made_in one) start end) (sym same) ends

-- a line came, of an act for which there is room
module _ (reading : Reading RouterAct) (setting : Setting) (slots : DeviceSlots) (bytes : List ℕ) (old : HeldBytes) (left : List ℕ) (last : Progress) (before after : Outside) (start : Option (List ℕ))
    (s : SoFar (router_kind reading setting slots) bytes old left last (made_in before) start before.taken)
    (line : Line) (new : HeldBytes) (now : List ℕ) (again : Again old.over (Ok (Some line))) (hands : old.over ≡ over.Going → HandsOne old left (numbered line) new now)
    (act : RouterAct) (is : reading (numbered line).text ≡ Ok (Some act)) (room : limit_fault (sizes_by setting.large).commands act (pending_at last) ≡ None) where
  abbrev kind : RunKind RouterAct Pending Progress Effect (Side × SplitWrite) MadeOfBoth
  kind = router_kind reading setting slots

  as-kind : (effects : List Effect) (partial : List ℕ) → Does effects partial before after → rounds.Does kind effects partial (made_in before) (made_in after) before.taken after.taken
  as-kind effects partial does = does-of reading setting slots effects partial before after does

  -- it is carried out
  pub goes-on : (next : Progress) → Carries setting slots last act next before after → RunsOn kind s.acts bytes new now next (made_in after) start after.taken
  goes-on next made =
      exits.goes-on kind joins bytes old left last (made_in before) start before.taken s line new now again hands act is room (made_in after) after.taken next made.effects made.step
      (step-pending setting slots last act made.effects next made.step) (as-kind made.effects [] made.does)

  -- or cut at a line,
  pub exit-line : (taken : List ℕ) → CutsAtLine setting slots last act before after → EndsRun kind bytes taken now WriteFault (made_in after) start after.taken
  exit-line taken cuts =
      exits.exit-stopped kind joins bytes old left last (made_in before) start before.taken s line new now again hands act is room (made_in after) after.taken taken WriteFault
      (λ later acts.
      line-outcome kind joins (script_of (router_scripts (sizes_by setting.large) reading) bytes) (script_so_far (router_scripts (sizes_by setting.large) reading) taken) (acts_only s.acts) s.effects last (made_in before) start before.taken s.run s.events_is s.report
      act later acts (made_in after) after.taken cuts.front cuts.partial (as-kind cuts.front cuts.partial cuts.does) cuts.rest cuts.cut)
      (λ e. elim e [ inl d ↦ absurd (cc) | inr r ↦ absurd (cc) ])

  -- at a part,
  pub exit-part : (taken : List ℕ) (which : Side) (parts : Option ℕ) → CutsAtPart setting slots last act which parts before after → EndsRun kind bytes taken now DeviceFault (made_in after) start after.taken
  exit-part taken which parts cuts =
      exits.exit-stopped kind joins bytes old left last (made_in before) start before.taken s line new now again hands act is room (made_in after) after.taken taken DeviceFault
      (λ later acts.
      write-outcome kind joins (script_of (router_scripts (sizes_by setting.large) reading) bytes) (script_so_far (router_scripts (sizes_by setting.large) reading) taken) (acts_only s.acts) s.effects last (made_in before) start before.taken s.run s.events_is s.report
      act later acts (made_in after) after.taken cuts.front [] (as-kind cuts.front [] cuts.does) (which, cuts.part) refl cuts.cut)
      (λ e. elim e [ inl d ↦ absurd (cc) | inr r ↦ absurd (cc) ])

  -- which is due then,
  pub due-part : (which : Side) (parts : Option ℕ) → CutsAtPart setting slots last act which parts before after → IsPartDue kind which bytes (made_in after)
  due-part which parts cuts =
      let next = exits.next-act kind joins bytes old left last (made_in before) start before.taken s line new now again hands act is room (made_in after) after.taken in (
        s.effects ++ cuts.front,
        cuts.part,
        inl (record { done = acts_only s.acts; act = act; later = next.0; acts = next.1; body = s.effects; before = last; run = s.run; front = cuts.front; cut = cuts.cut; effects_are = refl }),
        does-events kind joins s.effects cuts.front [] (made_in before) (made_in after) before.taken after.taken (as-kind cuts.front [] cuts.does) s.events_is,
      )

  -- or for want of memory
  pub exit-memory : (taken : List ℕ) → TakesMemory setting last act → after ≡ before → EndsRun kind bytes taken now Memory (made_in after) start after.taken
  exit-memory taken needs same =
      exits.exit-stopped kind joins bytes old left last (made_in before) start before.taken s line new now again hands act is room (made_in after) after.taken taken Memory
      (λ later acts.
      memory-outcome kind joins (script_of (router_scripts (sizes_by setting.large) reading) bytes) (script_so_far (router_scripts (sizes_by setting.large) reading) taken) (acts_only s.acts) s.effects last (made_in before) start before.taken s.run s.events_is s.report
      act later acts (made_in after) after.taken [] [] (as-kind [] [] (does-nothing before after same)) refl (needs, refl))
      (λ e. elim e [ inl d ↦ absurd (cc) | inr r ↦ absurd (cc) ])

  pub wants-next : TakesMemory setting last act → after ≡ before → WantsNext kind s.acts bytes last (made_in before) (made_in after) before.taken after.taken
  wants-next needs same =
      exits.wants-next kind joins bytes old left last (made_in before) start before.taken s line new now again hands act is room (made_in after) after.taken [] (needs, refl) (as-kind [] [] (does-nothing before after same))
