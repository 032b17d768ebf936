-- A line more of a router's script that is explained, and how an explanation ends.
use Rattle.std.proofs.Common.{◌≡◌, ◌≢◌, ◌⊎◌, inl, inr, ℕ, Bool, true, false, Option, Some, None, Result, Ok, Err, List, [], ◌∷◌, ◌++◌, refl, ap, sym, ◌∙◌, subst}
use Rattle.std.specs.Prelude.{if◌then◌else◌}
use Rattle.script_lines.specs.declared.Line.{Line}
use Rattle.script_lines.specs.declared.LineFault.{LineFault}
use Rattle.script_lines.specs.declared.Over.{Over}
use Rattle.script_lines.specs.declared.Over.TheVariants as over
use Rattle.script_lines.specs.Given.{MayGive}
use Rattle.script_lines.specs.Lines.{Faulty, NumberedLine, ends_at}
use Rattle.script_lines.specs.Reader.{HeldBytes, HandsByGiven, Again, lines_held}
use Rattle.script_runs.specs.declared.Status.{Status}
use Rattle.script_runs.specs.declared.Status.TheVariants as status
use Rattle.script_runs.specs.Script.{NumberedAct, Script, ScriptKind, Whole, FaultAt, byte_end, stops_at}
use Rattle.script_runs.specs.Rounds.{IsGoing, IsReadSoFar, acts_next, onto_all}
use Rattle.script_runs.proofs.Rounds.{fresh}
use Rattle.script_runs.proofs.NextLines.{HandsOne, line-none, line-fault, line-full, line-act, next-line, line-here, onto-more, bytes-end, bytes-fault}
use Rattle.router.specs.declared.Side.TheVariants as side
use Rattle.router.specs.declared.RouterAct.{RouterAct}
use Rattle.router.specs.declared.RouterAct.TheVariants.{Change, Packet, Commit}
use Rattle.router.specs.Script.{Pending, limit_fault}
use Rattle.router_reader.specs.Readings.{router_reading}
use Rattle.router_runs.specs.Scripts.{both_pending_after, router_scripts}
use Rattle.report_lines.specs.Sizes.{sizes_by}
use Rattle.explain_router.specs.declared.Counts.{Counts}
use Rattle.explain_router.specs.declared.RouterWanted.{RouterWanted}
use Rattle.explain_router.specs.Explained.{IsFaultless, IsRightOf, RoundsBy, IsStandingBy, IsStanding, behind_act, behind_line_by, pending_in, script_for}

-- the kind of scripts that is explained
abbrev kind_for : RouterWanted → ScriptKind RouterAct Pending
kind_for wanted = router_scripts (sizes_by wanted.large) (router_reading wanted.version)

still-going : {A C : Type 0} (o : Over) (kind : ScriptKind A C) (bytes : List ℕ) (old : HeldBytes) (left : List ℕ) (acts : List (NumberedAct A)) (c : C) (r : Result (Option Line) LineFault)
    → r ≢ Ok None → Again o r → IsReadSoFar o kind bytes old left acts c → (o ≡ over.Going) × IsGoing kind bytes old left acts c
still-going over.Going kind bytes old left acts c r other again read = (refl, read)
still-going over.Ended kind bytes old left acts c r other again read = absurd (other again)
still-going (over.Stopped stopped) kind bytes old left acts c r other again read = absurd read

-- what is counted behind an act
acted-pending : (counts : Counts) (act : RouterAct) → both_pending_after act (pending_in counts) ≡ pending_in (behind_act counts act None)
acted-pending counts (Change side.List command) = refl
acted-pending counts (Change side.Routes command) = refl
acted-pending counts (Packet key) = refl
acted-pending counts Commit = refl

-- ---- one line more

module _ (wanted : RouterWanted) (bytes : List ℕ) (old : HeldBytes) (left : List ℕ) (line : NumberedLine) (new : HeldBytes) (after : List ℕ) (counts : Counts)
    (hands : old.over ≡ over.Going → HandsOne old left line new after) where
  stopped : (acts : List (NumberedAct RouterAct)) (text : List ℕ) → script_for wanted bytes ≡ onto_all acts (stops_at line.number text) → (script_for wanted bytes).last ≢ Whole
  stopped acts text is = λ whole.
      let bad : FaultAt line.number text ≡ Whole = sym (ap (λ (s : Script RouterAct). s.last) is) ∙ whole in
      cc

  act-stands : (acts : List (NumberedAct RouterAct)) → counts.wrong ≡ false → IsGoing (kind_for wanted) bytes old left acts (pending_in counts) → HandsOne old left line new after
      → (act : RouterAct) (limit : Option (List ℕ)) → router_reading wanted.version line.text ≡ Ok (Some act) → limit_fault (sizes_by wanted.large).commands act (pending_in counts) ≡ limit → IsStanding wanted bytes new after (behind_act counts act limit)
  act-stands acts is going one act (Some text) read full =
      let (rest, e) = line-here (kind_for wanted) bytes old left line new after acts (pending_in counts) going one in
      stopped acts text (e ∙ ap (onto_all acts) (line-full (kind_for wanted) (pending_in counts) line rest act text read full))
  act-stands acts is going one act None read room =
      let kind = kind_for wanted in
      let more = acts ++ record { line = line.number; act = act } ∷ [] in
      let next = both_pending_after act (pending_in counts) in
      let so_far =
      next-line kind bytes old left line new after acts more (pending_in counts) next going one
      (λ rest. ap (onto_all acts) (line-act kind (pending_in counts) line rest act read room) ∙ onto-more acts line.number act (acts_next kind next rest)) in
      let at : IsFaultless wanted bytes new after (behind_act counts act None) = record {
        acts = more;
        read = subst (λ (c : Pending). IsReadSoFar new.over kind bytes new after more c) (acted-pending counts act) so_far;
      } in
      subst (λ (w : Bool). IsStandingBy w wanted bytes new after (behind_act counts act None)) (sym is) at

  -- where an explanation stands behind the line
  pub stands-by : (wrong : Bool) (found : Line) (r : Result (Option RouterAct) (List ℕ)) → counts.wrong ≡ wrong → IsStandingBy wrong wanted bytes old left counts → Again old.over (Ok (Some found))
      → router_reading wanted.version line.text ≡ r → IsStanding wanted bytes new after (behind_line_by (sizes_by wanted.large).commands wrong r counts)
  stands-by false found (Err text) is s again read =
      let going = still-going old.over (kind_for wanted) bytes old left s.acts (pending_in counts) (Ok (Some found)) (λ e. cc) again s.read in
      let (rest, e) = line-here (kind_for wanted) bytes old left line new after s.acts (pending_in counts) going.1 (hands going.0) in
      stopped s.acts text (e ∙ ap (onto_all s.acts) (line-fault (kind_for wanted) (pending_in counts) line rest text read))
  stands-by false found (Ok None) is s again read =
      let going = still-going old.over (kind_for wanted) bytes old left s.acts (pending_in counts) (Ok (Some found)) (λ e. cc) again s.read in
      let so_far =
      next-line (kind_for wanted) bytes old left line new after s.acts s.acts (pending_in counts) (pending_in counts) going.1 (hands going.0)
      (λ rest. ap (onto_all s.acts) (line-none (kind_for wanted) (pending_in counts) line rest read)) in
      let at : IsFaultless wanted bytes new after counts = record { acts = s.acts; read = so_far } in
      subst (λ (w : Bool). IsStandingBy w wanted bytes new after counts) (sym is) at
  stands-by false found (Ok (Some act)) is s again read =
      let going = still-going old.over (kind_for wanted) bytes old left s.acts (pending_in counts) (Ok (Some found)) (λ e. cc) again s.read in
      act-stands s.acts is going.1 (hands going.0) act (limit_fault (sizes_by wanted.large).commands act (pending_in counts)) read refl
  stands-by true found (Err text) is s again read = s
  stands-by true found (Ok None) is s again read = subst (λ (w : Bool). IsStandingBy w wanted bytes new after counts) (sym is) s
  stands-by true found (Ok (Some act)) is s again read = subst (λ (w : Bool). IsStandingBy w wanted bytes new after counts) (sym is) s

-- ---- how an explanation ends

-- a byte at fault
pub byte-wrong : (wrong : Bool) (wanted : RouterWanted) (bytes : List ℕ) (old : HeldBytes) (left : List ℕ) (counts : Counts) (fault : LineFault) (line : ℕ) (text : List ℕ) → byte_end (Faulty fault) ≡ FaultAt line text
    → IsStandingBy wrong wanted bytes old left counts → Again old.over (Err fault) → (old.over ≡ over.Going → lines_held old left ≡ ends_at (Faulty fault)) → (script_for wanted bytes).last ≢ Whole
byte-wrong false wanted bytes old left counts fault line text ends s again held =
    let going = still-going old.over (kind_for wanted) bytes old left s.acts (pending_in counts) (Err fault) (λ e. cc) again s.read in
    let is = bytes-fault (kind_for wanted) bytes old left s.acts (pending_in counts) fault going.1 (held going.0) in
    λ whole.
    let bad : FaultAt line text ≡ Whole = sym ends ∙ sym (ap (λ (s : Script RouterAct). s.last) is) ∙ whole in
    cc
byte-wrong true wanted bytes old left counts fault line text ends s again held = s

-- all of the script is read, and all of the input
all-read : (o : Over) (wanted : RouterWanted) (bytes : List ℕ) (old : HeldBytes) (left now_left : List ℕ) (counts : Counts) (acts : List (NumberedAct RouterAct)) → IsReadSoFar o (kind_for wanted) bytes old left acts (pending_in counts)
    → (o ≡ over.Going → (old.pending ++ left ≡ []) × (now_left ≡ [])) → (o ≢ over.Going → left ≡ now_left)
    → (script_for wanted bytes ≡ record { acts = acts; last = Whole }) × (now_left ≡ [])
all-read over.Going wanted bytes old left now_left counts acts going hands same = (
  bytes-end (kind_for wanted) bytes old left acts (pending_in counts) going (hands refl).0,
  (hands refl).1,
)
all-read over.Ended wanted bytes old left now_left counts acts read hands same = (read.0, sym (same (λ e. let bad : over.Ended ≡ over.Going = e in cc)) ∙ read.1)
all-read (over.Stopped fault) wanted bytes old left now_left counts acts read hands same = absurd read

-- the end of the input
pub end-right : (wrong : Bool) (wanted : RouterWanted) (bytes : List ℕ) (old : HeldBytes) (left now_left : List ℕ) (counts : Counts) → IsStandingBy wrong wanted bytes old left counts
    → (old.over ≡ over.Going → (old.pending ++ left ≡ []) × (now_left ≡ [])) → (old.over ≢ over.Going → left ≡ now_left) → IsRightOf wanted bytes now_left (if wrong then status.Script else status.Done)
end-right false wanted bytes old left now_left counts s hands same =
    let all = all-read old.over wanted bytes old left now_left counts s.acts s.read hands same in
    (all.1, ap (λ (s : Script RouterAct). s.last) all.0)
end-right true wanted bytes old left now_left counts s hands same = s

-- a byte at fault was told, or the sink failed, or memory was wanting
pub stop-right : (wanted : RouterWanted) (bytes after : List ℕ) (told : Status) → (told ≡ status.Script) ⊎ ((told ≡ status.WriteFault) ⊎ (told ≡ status.Memory)) → (script_for wanted bytes).last ≢ Whole → IsRightOf wanted bytes after told
stop-right wanted bytes after told (inl is) wrong = rw is wrong
stop-right wanted bytes after told (inr (inl is)) wrong = rw is tt
stop-right wanted bytes after told (inr (inr is)) wrong = rw is tt

-- and so at the end of the input
pub finish-right : (wanted : RouterWanted) (bytes after : List ℕ) (told last : Status) → (told ≡ last) ⊎ (told ≡ status.WriteFault) → IsRightOf wanted bytes after last → IsRightOf wanted bytes after told
finish-right wanted bytes after told last (inl is) right = rw is right
finish-right wanted bytes after told last (inr is) right = rw is tt

-- ---- rounds

pub rounds-ends : (wanted : RouterWanted) (old : HeldBytes) (before : Counts) (pieces : List (List ℕ)) (answer : Result (Option Line) LineFault) (held : HeldBytes) (told : Status) (new : HeldBytes) (after : Counts)
    → HandsByGiven old pieces answer held
    → ((bytes left now : List ℕ) → MayGive left pieces now → IsStanding wanted bytes old left before → IsRightOf wanted bytes now told)
    → RoundsBy wanted old before pieces (Some told) new after
rounds-ends wanted old before pieces answer held told new after by ends = record { goes = tt; ends = ends; ended = λ e. tt; rests = by.rests }

pub rounds-goes : (wanted : RouterWanted) (old : HeldBytes) (before : Counts) (pieces : List (List ℕ)) (answer : Result (Option Line) LineFault) (new : HeldBytes) (after : Counts)
    → HandsByGiven old pieces answer new
    → ((bytes left now : List ℕ) → MayGive left pieces now → IsStanding wanted bytes old left before → IsStanding wanted bytes new now after)
    → RoundsBy wanted old before pieces None new after
rounds-goes wanted old before pieces answer new after by goes = record { goes = goes; ends = tt; ended = by.ended; rests = by.rests }

-- ---- before the first line

pub stands-first : (wanted : RouterWanted) (held : HeldBytes) (bytes left : List ℕ) → held ≡ fresh (sizes_by wanted.large).bytes → MayGive bytes [] left → IsStanding wanted bytes held left (record { listed = 0; routed = 0; wrong = false })
stands-first wanted held bytes left new may =
    let none : Counts = record { listed = 0; routed = 0; wrong = false } in
    let read : IsGoing (kind_for wanted) bytes (fresh (sizes_by wanted.large).bytes) left [] (record { listed = 0; routed = 0 }) = record {
      done = [];
      parts = may.bytes;
      script = λ rest. refl;
      last = λ rest. refl;
      whole = λ rest. refl;
    } in
    let at : IsFaultless wanted bytes (fresh (sizes_by wanted.large).bytes) left none = record { acts = []; read = read } in
    let first : IsStanding wanted bytes (fresh (sizes_by wanted.large).bytes) left none = at in
    subst (λ (h : HeldBytes). IsStanding wanted bytes h left none) (sym new) first
