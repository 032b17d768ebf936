-- How an explanation ends, and what a round comes to.
use Rattle.std.proofs.Common.{◌≡◌, ◌≢◌, ◌⊎◌, inl, inr, ℕ, Bool, true, false, ◌||◌, Option, Some, None, Result, Err, List, [], ◌++◌, refl, ap, sym, ◌∙◌, subst, append-nil}
use Rattle.std.specs.Prelude.{if◌then◌else◌}
use Rattle.script_lines.specs.declared.Line.{Line}
use Rattle.script_lines.specs.declared.LineFault.{LineFault}
use Rattle.script_lines.specs.declared.Over.{Over}
use Rattle.script_lines.specs.declared.Over.TheVariants as over
use Rattle.script_lines.specs.Given.{MayGive}
use Rattle.script_lines.specs.Lines.{Faulty, ends_at}
use Rattle.script_lines.specs.Reader.{HeldBytes, HandsByGiven, Again, lines_held}
use Rattle.script_runs.specs.declared.Status.{Status}
use Rattle.script_runs.specs.declared.Status.TheVariants as status
use Rattle.script_runs.specs.Script.{NumberedAct, Whole, FaultAt, acts_of, byte_end}
use Rattle.report_lines.specs.Sizes.{sizes_by}
use Rattle.script_runs.specs.Rounds.{IsGoing, IsReadSoFar, acts_only}
use Rattle.script_runs.proofs.Rounds.{fresh}
use Rattle.script_runs.proofs.NextLines.{bytes-end, bytes-fault}
use Rattle.settled_changes.specs.declared.requested.Requested.TheVariants.{Nothing}
use Rattle.settled_changes.specs.Requested.{changes_in}
use Rattle.replay.specs.declared.Act.{Act}
use Rattle.replay.specs.Script.{Script}
use Rattle.explain.specs.declared.explainer.Wanted.{Wanted}
use Rattle.explain.specs.declared.explainer.Foretold.{Foretold}
use Rattle.explain.specs.declared.explainer.Foretold.TheVariants as foretold
use Rattle.explain.specs.Explained.{IsRightOf, IsRightScript, IsWrongScript, is_refusal_foretold, script_for, setting_for}
use Rattle.explain.specs.Rounds.{Explained, IsFaultless, RoundsBy, IsStandingBy, IsStanding}
use Rattle.explain.proofs.Foretold.{right-decided, wrong-by-fault, wrong-by-refusal}
use Rattle.explain.proofs.Steps.{kind_for, still-going}

-- ---- a script in which something is wrong

pub fault-wrong : (bytes : List ℕ) (now : Explained) → (script_for now.wanted bytes).last ≢ Whole → IsWrongScript now.wanted bytes
fault-wrong bytes now fault = λ backs. wrong-by-fault (setting_for now.wanted) backs (script_for now.wanted bytes) fault

refusal-wrong : (bytes : List ℕ) (now : Explained) → is_refusal_foretold now.wanted (acts_of (script_for now.wanted bytes)) ≡ true → IsWrongScript now.wanted bytes
refusal-wrong bytes now told = λ backs. wrong-by-refusal (setting_for now.wanted) backs (script_for now.wanted bytes) told

-- ---- a byte at fault

-- a fault that a byte has
abbrev IsByteFault : LineFault → Type 0
IsByteFault fault = (line : ℕ) × (text : List ℕ) × (byte_end (Faulty fault) ≡ FaultAt line text)

byte-faultless : (by : Foretold) (bytes : List ℕ) (old : HeldBytes) (left : List ℕ) (now : Explained) (fault : LineFault) → IsByteFault fault → IsFaultless by bytes old left now
    → Again old.over (Err fault) → (old.over ≡ over.Going → lines_held old left ≡ ends_at (Faulty fault)) → IsWrongScript now.wanted bytes
byte-faultless by bytes old left now fault (line, text, ends) s again held =
    let going = still-going old.over (kind_for now.wanted) bytes old left s.acts (changes_in now.batch now.asked, now.probes) (Err fault) (λ e. cc) again s.read in
    let is = bytes-fault (kind_for now.wanted) bytes old left s.acts (changes_in now.batch now.asked, now.probes) fault going.1 (held going.0) in
    fault-wrong bytes now
    (λ whole.
    let bad : FaultAt line text ≡ Whole = sym ends ∙ sym (ap (λ (s : Script). s.last) is) ∙ whole in
    cc)

pub byte-wrong : (by : Foretold) (bytes : List ℕ) (old : HeldBytes) (left : List ℕ) (now : Explained) (fault : LineFault) → IsByteFault fault → IsStandingBy by bytes old left now
    → Again old.over (Err fault) → (old.over ≡ over.Going → lines_held old left ≡ ends_at (Faulty fault)) → IsWrongScript now.wanted bytes
byte-wrong foretold.Known bytes old left now fault is s again held = byte-faultless foretold.Known bytes old left now fault is s again held
byte-wrong (foretold.BehindTrial line) bytes old left now fault is s again held = byte-faultless (foretold.BehindTrial line) bytes old left now fault is s again held
byte-wrong (foretold.BehindFault line) bytes old left now fault is s again held = fault-wrong bytes now s.fault

-- ---- the end of the input

or-nothing : (b : Bool) → (b || false) ≡ b
or-nothing true = refl
or-nothing false = refl

-- all of the script is read, and all of the input
all-read : (o : Over) (bytes : List ℕ) (old : HeldBytes) (left now_left : List ℕ) (now : Explained) (acts : List (NumberedAct Act)) → IsReadSoFar o (kind_for now.wanted) bytes old left acts (changes_in now.batch now.asked, now.probes)
    → (o ≡ over.Going → (old.pending ++ left ≡ []) × (now_left ≡ [])) → (o ≢ over.Going → left ≡ now_left)
    → (script_for now.wanted bytes ≡ record { acts = acts; last = Whole }) × (now_left ≡ [])
all-read over.Going bytes old left now_left now acts going hands same = (
  bytes-end (kind_for now.wanted) bytes old left acts (changes_in now.batch now.asked, now.probes) going (hands refl).0,
  (hands refl).1,
)
all-read over.Ended bytes old left now_left now acts read hands same = (read.0, sym (same (λ e. let bad : over.Ended ≡ over.Going = e in cc)) ∙ read.1)
all-read (over.Stopped fault) bytes old left now_left now acts read hands same = absurd read

-- what is right of a script whose acts these are, by whether a refusal is foretold
right-by : (bytes now_left : List ℕ) (now : Explained) (acts : List (NumberedAct Act)) (wrong : Bool) → script_for now.wanted bytes ≡ record { acts = acts; last = Whole }
    → is_refusal_foretold now.wanted (acts_only acts) ≡ wrong → now_left ≡ [] → IsRightOf now.wanted bytes now_left (if wrong then status.Script else status.Done)
right-by bytes now_left now acts true is told none =
    refusal-wrong bytes now (ap (λ (s : Script). is_refusal_foretold now.wanted (acts_of s)) is ∙ told)
right-by bytes now_left now acts false is told none =
    let whole = ap (λ (s : Script). s.last) is in
    let none_told = ap (λ (s : Script). is_refusal_foretold now.wanted (acts_of s)) is ∙ told in
    let right : IsRightScript now.wanted bytes = record {
      whole = whole;
      accepted = none_told;
      runs = λ trials backs. right-decided (setting_for now.wanted) backs (script_for now.wanted bytes) whole none_told trials;
    } in
    (none, right)

pub end-right : (by : Foretold) (bytes : List ℕ) (old : HeldBytes) (left now_left : List ℕ) (now : Explained) → IsStandingBy by bytes old left now
    → (old.over ≡ over.Going → (old.pending ++ left ≡ []) × (now_left ≡ [])) → (old.over ≢ over.Going → left ≡ now_left) → IsRightOf now.wanted bytes now_left (if now.wrong then status.Script else status.Done)
end-right foretold.Known bytes old left now_left now s hands same =
    let told : is_refusal_foretold now.wanted (acts_only s.acts) ≡ now.wrong =
    ap (is_refusal_foretold now.wanted) (sym (append-nil (acts_only s.acts))) ∙ s.tells [] ∙ or-nothing now.wrong in
    let all = all-read old.over bytes old left now_left now s.acts s.read hands same in
    right-by bytes now_left now s.acts now.wrong all.0 told all.1
end-right (foretold.BehindTrial line) bytes old left now_left now s hands same =
    let told : is_refusal_foretold now.wanted (acts_only s.acts) ≡ now.wrong =
    ap (is_refusal_foretold now.wanted) (sym (append-nil (acts_only s.acts))) ∙ s.tells [] in
    let all = all-read old.over bytes old left now_left now s.acts s.read hands same in
    right-by bytes now_left now s.acts now.wrong all.0 told all.1
end-right (foretold.BehindFault line) bytes old left now_left now s hands same = rw s.wrong (fault-wrong bytes now s.fault)

-- ---- rounds

-- a status that says nothing of a script
abbrev pub SaysNothing : Status → Type 0
SaysNothing told = (told ≡ status.ReadFault) ⊎ ((told ≡ status.WriteFault) ⊎ (told ≡ status.Memory))

pub right-of-nothing : (now : Explained) (bytes after : List ℕ) (told : Status) → SaysNothing told → IsRightOf now.wanted bytes after told
right-of-nothing now bytes after told (inl is) = rw is tt
right-of-nothing now bytes after told (inr (inl is)) = rw is tt
right-of-nothing now bytes after told (inr (inr is)) = rw is tt

-- one that ends an explanation
pub rounds-ends : (old : HeldBytes) (before : Explained) (pieces : List (List ℕ)) (answer : Result (Option Line) LineFault) (held : HeldBytes) (told : Status) (new : HeldBytes) (after : Explained)
    → HandsByGiven old pieces answer held
    → ((bytes left now : List ℕ) → MayGive left pieces now → IsStanding bytes old left before → IsRightOf before.wanted bytes now told)
    → RoundsBy old before pieces (Some told) new after
rounds-ends old before pieces answer held told new after by ends = record { goes = tt; ends = ends; ended = λ e. tt; rests = by.rests }

-- one that goes on
pub rounds-goes : (old : HeldBytes) (before : Explained) (pieces : List (List ℕ)) (answer : Result (Option Line) LineFault) (new : HeldBytes) (after : Explained)
    → HandsByGiven old pieces answer new
    → ((bytes left now : List ℕ) → MayGive left pieces now → IsStanding bytes old left before → IsStanding bytes new now after)
    → RoundsBy old before pieces None new after
rounds-goes old before pieces answer new after by goes = record { goes = goes; ends = tt; ended = by.ended; rests = by.rests }

-- a byte at fault was told, or the sink failed, or memory was wanting
pub stop-right : (now : Explained) (bytes after : List ℕ) (told : Status) → (told ≡ status.Script) ⊎ ((told ≡ status.WriteFault) ⊎ (told ≡ status.Memory)) → IsWrongScript now.wanted bytes → IsRightOf now.wanted bytes after told
stop-right now bytes after told (inl is) wrong = rw is wrong
stop-right now bytes after told (inr (inl is)) wrong = rw is tt
stop-right now bytes after told (inr (inr is)) wrong = rw is tt

-- and so at the end of the input
pub finish-right : (now : Explained) (bytes after : List ℕ) (told last : Status) → (told ≡ last) ⊎ ((told ≡ status.WriteFault) ⊎ (told ≡ status.Memory)) → IsRightOf now.wanted bytes after last → IsRightOf now.wanted bytes after told
finish-right now bytes after told last (inl is) right = rw is right
finish-right now bytes after told last (inr (inl is)) right = rw is tt
finish-right now bytes after told last (inr (inr is)) right = rw is tt

-- ---- before the first line

abbrev pub begun : Wanted → Explained
begun wanted = record { wanted = wanted; rules = []; batch = []; asked = Nothing; probes = 0; foretold = foretold.Known; wrong = false }

pub stands-first : (wanted : Wanted) (held : HeldBytes) (now : Explained) (bytes left : List ℕ) → held ≡ fresh (sizes_by wanted.large).bytes → now ≡ begun wanted → MayGive bytes [] left → IsStanding bytes held left now
stands-first wanted held now bytes left new is may =
    let read : IsGoing (kind_for wanted) bytes (fresh (sizes_by wanted.large).bytes) left [] (0, 0) = record {
      done = [];
      parts = may.bytes;
      script = λ rest. refl;
      last = λ rest. refl;
      whole = λ rest. refl;
    } in
    let at : IsFaultless foretold.Known bytes (fresh (sizes_by wanted.large).bytes) left (begun wanted) = record { acts = []; read = read; tells = λ more. refl } in
    let first : IsStanding bytes (fresh (sizes_by wanted.large).bytes) left (begun wanted) = at in
    let there : IsStanding bytes (fresh (sizes_by wanted.large).bytes) left now = subst (λ (n : Explained). IsStanding bytes (fresh (sizes_by wanted.large).bytes) left n) (sym is) first in
    subst (λ (h : HeldBytes). IsStanding bytes h left now) (sym new) there
