-- One line more, and what it does to the script.
use Rattle.std.proofs.Common.{◌≡◌, ◌⊎◌, inl, inr, ℕ, ◌+◌, Option, Some, None, Result, Ok, Err, List, [], ◌∷◌, ◌++◌, length, refl, ap, sym, ◌∙◌, subst, append_assoc, append-nil}
use Rattle.std.proofs.lemmas.List.{append_cancel_right}
use Rattle.script_lines.specs.declared.LineFault.{LineFault}
use Rattle.script_lines.specs.Lines.{limits, NumberedLine, ScriptLines, LinesEnd, EndOfInput, Faulty, ends_at, onto_lines, lines_from, lines_of}
use Rattle.script_lines.specs.Reader.{HeldBytes, HandsWhole, HandsLast, KeepsAll}
use Rattle.script_lines.proofs.FirstLines.{lines-whole, lines-pending, lines-last}
use Rattle.script_runs.specs.Script.{Script, ScriptKind, ScriptEnd, Whole, NumberedAct, stops_at, onto_acts, byte_end, acts_of, acts_from, script_of, whole_lines, script_so_far}
use Rattle.script_runs.specs.Rounds.{onto_all, acts_next, IsGoing, IsAllRead, IsReadSoFar, acts_only}
use Rattle.script_runs.proofs.WholeLines.{whole-line, whole-none}

-- ---- what a line does to the script

abbrev read_as : {A C : Type 0} → ScriptKind A C → C → ℕ → List NumberedLine → LinesEnd → Result (Option A) (List ℕ) → Script A
read_as kind c number lines last r =
    elim r [
      | Err text ↦ stops_at number text
      | Ok found ↦ elim found [
        | None ↦ acts_from kind c lines last
        | Some act ↦ elim (kind.limit_fault act c) [
          | Some text ↦ stops_at number text
          | None ↦ onto_acts number act (acts_from kind (kind.counted_after act c) lines last)
        ]
      ]
    ]

abbrev limited : {A : Type 0} → ℕ → Script A → Option (List ℕ) → Script A
limited number rest found = elim found [ Some text ↦ stops_at number text | None ↦ rest ]

pub line-none : {A C : Type 0} (kind : ScriptKind A C) (c : C) (line : NumberedLine) (rest : ScriptLines) → kind.reading line.text ≡ Ok None
    → acts_from kind c (line ∷ rest.lines) rest.last ≡ acts_next kind c rest
line-none kind c line rest e = ap (read_as kind c line.number rest.lines rest.last) e

pub line-fault : {A C : Type 0} (kind : ScriptKind A C) (c : C) (line : NumberedLine) (rest : ScriptLines) (text : List ℕ) → kind.reading line.text ≡ Err text
    → acts_from kind c (line ∷ rest.lines) rest.last ≡ stops_at line.number text
line-fault kind c line rest text e = ap (read_as kind c line.number rest.lines rest.last) e

pub line-full : {A C : Type 0} (kind : ScriptKind A C) (c : C) (line : NumberedLine) (rest : ScriptLines) (act : A) (text : List ℕ) → kind.reading line.text ≡ Ok (Some act) → kind.limit_fault act c ≡ Some text
    → acts_from kind c (line ∷ rest.lines) rest.last ≡ stops_at line.number text
line-full kind c line rest act text e l =
    ap (read_as kind c line.number rest.lines rest.last) e
    ∙ ap (limited line.number (onto_acts line.number act (acts_next kind (kind.counted_after act c) rest))) l

pub line-act : {A C : Type 0} (kind : ScriptKind A C) (c : C) (line : NumberedLine) (rest : ScriptLines) (act : A) → kind.reading line.text ≡ Ok (Some act) → kind.limit_fault act c ≡ None
    → acts_from kind c (line ∷ rest.lines) rest.last ≡ onto_acts line.number act (acts_next kind (kind.counted_after act c) rest)
line-act kind c line rest act e l =
    ap (read_as kind c line.number rest.lines rest.last) e
    ∙ ap (limited line.number (onto_acts line.number act (acts_next kind (kind.counted_after act c) rest))) l

-- ---- one line more

abbrev pub HandsOne : HeldBytes → List ℕ → NumberedLine → HeldBytes → List ℕ → Type 0
HandsOne old left line new after = HandsWhole old left line new after ⊎ HandsLast old left line new after

whole-at : (old : HeldBytes) (left : List ℕ) (line : NumberedLine) (new : HeldBytes) (after rest : List ℕ) → HandsWhole old left line new after
    → lines_from limits old.before old.number [] (line.text ++ 10 ∷ rest) ≡ onto_lines line (lines_from limits new.before new.number [] rest)
whole-at old left line new after rest h =
    lines-whole old.before old.number line.text rest h.one_line h.room
    ∙ ap (λ n. onto_lines (record { number = n; text = line.text }) (lines_from limits (old.before + length line.text + 1) (old.number + 1) [] rest)) (sym h.number)
    ∙ ap (λ b. onto_lines line (lines_from limits b (old.number + 1) [] rest)) (sym h.before_new)
    ∙ ap (λ n. onto_lines line (lines_from limits new.before n [] rest)) (sym h.number_new)

last-at : (old : HeldBytes) (left : List ℕ) (line : NumberedLine) (new : HeldBytes) (after : List ℕ) → HandsLast old left line new after
    → lines_from limits old.before old.number [] line.text ≡ onto_lines line (ends_at EndOfInput)
last-at old left line new after h =
    lines-last old.before old.number line.text h.one_line h.some
    ∙ ap (λ n. onto_lines (record { number = n; text = line.text }) (ends_at EndOfInput)) (sym h.number)

shift : (done text rest : List ℕ) → (done ++ (text ++ 10 ∷ [])) ++ rest ≡ done ++ (text ++ 10 ∷ rest)
shift done text rest = append_assoc done (text ++ 10 ∷ []) rest ∙ ap (λ x. done ++ x) (append_assoc text (10 ∷ []) rest)

pub onto-nil : {A : Type 0} (acts : List (NumberedAct A)) (last : ScriptEnd) → onto_all acts (record { acts = []; last = last }) ≡ record { acts = acts; last = last }
onto-nil {A} acts last = let f : List (NumberedAct A) → Script A = λ a. record { acts = a; last = last } in ap f (append-nil acts)

pub next-line : {A C : Type 0} (kind : ScriptKind A C) (bytes : List ℕ) (old : HeldBytes) (left : List ℕ) (line : NumberedLine) (new : HeldBytes) (after : List ℕ) (acts acts2 : List (NumberedAct A)) (c c2 : C)
    → IsGoing kind bytes old left acts c → HandsOne old left line new after
    → ((rest : ScriptLines) → onto_all acts (acts_from kind c (line ∷ rest.lines) rest.last) ≡ onto_all acts2 (acts_next kind c2 rest))
    → IsReadSoFar new.over kind bytes new after acts2 c2
next-line kind bytes old left line new after acts acts2 c c2 going (inl h) effect =
    let is : IsGoing kind bytes new after acts2 c2 = record {
      done = going.done ++ (line.text ++ 10 ∷ []);
      parts = going.parts ∙ ap (λ x. going.done ++ x) h.bytes ∙ sym (shift going.done line.text (new.pending ++ after));
      script = λ rest.
          ap (script_of kind) (shift going.done line.text rest) ∙ going.script (line.text ++ 10 ∷ rest)
          ∙ ap (λ l. onto_all acts (acts_next kind c l)) (whole-at old left line new after rest h) ∙ effect (lines_from limits new.before new.number [] rest);
      last = λ rest.
          ap (λ b. (lines_of kind.bytes b).last) (shift going.done line.text rest) ∙ going.last (line.text ++ 10 ∷ rest)
          ∙ ap (λ l. l.last) (whole-at old left line new after rest h);
      whole = λ rest.
          ap whole_lines (shift going.done line.text rest) ∙ going.whole (line.text ++ 10 ∷ rest)
          ∙ ap (λ x. going.done ++ x) (whole-line old.before line.text rest h.one_line) ∙ sym (shift going.done line.text (whole_lines rest));
    } in
    subst (λ o. IsReadSoFar o kind bytes new after acts2 c2) (sym h.going) is
next-line kind bytes old left line new after acts acts2 c c2 going (inr h) effect =
    let is : IsAllRead kind bytes after acts2 = (
      ap (script_of kind) (going.parts ∙ ap (λ x. going.done ++ x) h.bytes) ∙ going.script line.text
          ∙ ap (λ l. onto_all acts (acts_next kind c l)) (last-at old left line new after h) ∙ effect (ends_at EndOfInput) ∙ onto-nil acts2 Whole,
      h.none,
    ) in
    subst (λ o. IsReadSoFar o kind bytes new after acts2 c2) (sym h.ended) is

pub line-here : {A C : Type 0} (kind : ScriptKind A C) (bytes : List ℕ) (old : HeldBytes) (left : List ℕ) (line : NumberedLine) (new : HeldBytes) (after : List ℕ) (acts : List (NumberedAct A)) (c : C)
    → IsGoing kind bytes old left acts c → HandsOne old left line new after
    → (rest : ScriptLines) × (script_of kind bytes ≡ onto_all acts (acts_from kind c (line ∷ rest.lines) rest.last))
line-here kind bytes old left line new after acts c going (inl h) = (
  lines_from limits new.before new.number [] (new.pending ++ after),
  ap (script_of kind) (going.parts ∙ ap (λ x. going.done ++ x) h.bytes) ∙ going.script (line.text ++ 10 ∷ (new.pending ++ after))
      ∙ ap (λ l. onto_all acts (acts_next kind c l)) (whole-at old left line new after (new.pending ++ after) h),
)
line-here kind bytes old left line new after acts c going (inr h) = (
  ends_at EndOfInput,
  ap (script_of kind) (going.parts ∙ ap (λ x. going.done ++ x) h.bytes) ∙ going.script line.text
      ∙ ap (λ l. onto_all acts (acts_next kind c l)) (last-at old left line new after h),
)

-- the fault of a byte
pub bytes-fault : {A C : Type 0} (kind : ScriptKind A C) (bytes : List ℕ) (old : HeldBytes) (left : List ℕ) (acts : List (NumberedAct A)) (c : C) (fault : LineFault)
    → IsGoing kind bytes old left acts c → lines_from limits old.before old.number [] (old.pending ++ left) ≡ ends_at (Faulty fault)
    → script_of kind bytes ≡ record { acts = acts; last = byte_end (Faulty fault) }
bytes-fault kind bytes old left acts c fault going e =
    ap (script_of kind) going.parts ∙ going.script (old.pending ++ left) ∙ ap (λ l. onto_all acts (acts_next kind c l)) e
    ∙ onto-nil acts (byte_end (Faulty fault))

-- the end of the input
pub bytes-end : {A C : Type 0} (kind : ScriptKind A C) (bytes : List ℕ) (old : HeldBytes) (left : List ℕ) (acts : List (NumberedAct A)) (c : C)
    → IsGoing kind bytes old left acts c → old.pending ++ left ≡ [] → script_of kind bytes ≡ record { acts = acts; last = Whole }
bytes-end kind bytes old left acts c going e =
    ap (script_of kind) (going.parts ∙ ap (λ x. going.done ++ x) e) ∙ going.script [] ∙ onto-nil acts Whole

-- a failed read: what was taken is the whole lines and a part of one
pub so-far : {A C : Type 0} (kind : ScriptKind A C) (bytes taken : List ℕ) (old : HeldBytes) (left : List ℕ) (new : HeldBytes) (after : List ℕ) (acts : List (NumberedAct A)) (c : C)
    → IsGoing kind bytes old left acts c → KeepsAll old left new after → bytes ≡ taken ++ after
    → script_so_far kind taken ≡ record { acts = acts; last = Whole }
so-far kind bytes taken old left new after acts c going kept parts =
    let is : taken ≡ going.done ++ new.pending =
    append_cancel_right taken (going.done ++ new.pending) after
    (sym parts ∙ going.parts ∙ ap (λ x. going.done ++ x) kept.bytes ∙ sym (append_assoc going.done new.pending after)) in
    let whole : whole_lines taken ≡ going.done ++ [] =
    ap whole_lines is ∙ going.whole new.pending ∙ ap (λ x. going.done ++ x) (whole-none old.before new.pending kept.one_line) in
    let last : (lines_of kind.bytes taken).last ≡ (lines_of kind.bytes (going.done ++ [])).last =
    ap (λ b. (lines_of kind.bytes b).last) is ∙ going.last new.pending ∙ lines-pending old.before old.number new.pending kept.one_line ∙ sym (going.last []) in
    ap (λ b. acts_from kind kind.none_counted (lines_of kind.bytes b).lines (lines_of kind.bytes taken).last) whole
    ∙ ap (λ l. acts_from kind kind.none_counted (lines_of kind.bytes (going.done ++ [])).lines l) last
    ∙ going.script [] ∙ onto-nil acts Whole

-- ---- one act more

acts-more : {A : Type 0} (acts : List (NumberedAct A)) (number : ℕ) (act : A) (rest : Script A) → acts_of (onto_all acts (onto_acts number act rest)) ≡ acts_only acts ++ act ∷ acts_of rest
acts-more [] number act rest = refl
acts-more (first ∷ acts) number act rest = ap (λ l. first.act ∷ l) (acts-more acts number act rest)

pub onto-more : {A : Type 0} (acts : List (NumberedAct A)) (number : ℕ) (act : A) (rest : Script A) → onto_all acts (onto_acts number act rest) ≡ onto_all (acts ++ record { line = number; act = act } ∷ []) rest
onto-more {A} acts number act rest =
    let f : List (NumberedAct A) → Script A = λ a. record { acts = a; last = rest.last } in
    ap f (sym (append_assoc acts (record { line = number; act = act } ∷ []) rest.acts))

pub only-more : {A : Type 0} (acts : List (NumberedAct A)) (number : ℕ) (act : A) → acts_only acts ++ act ∷ [] ≡ acts_only (acts ++ record { line = number; act = act } ∷ [])
only-more [] number act = refl
only-more (first ∷ acts) number act = ap (λ l. first.act ∷ l) (only-more acts number act)

-- the acts of the script around this one
pub act-here : {A C : Type 0} (kind : ScriptKind A C) (bytes : List ℕ) (old : HeldBytes) (left : List ℕ) (line : NumberedLine) (new : HeldBytes) (after : List ℕ) (act : A) (acts : List (NumberedAct A)) (c : C)
    → IsGoing kind bytes old left acts c → HandsOne old left line new after → kind.reading line.text ≡ Ok (Some act) → kind.limit_fault act c ≡ None
    → (later : List A) × (acts_of (script_of kind bytes) ≡ acts_only acts ++ act ∷ later)
act-here kind bytes old left line new after act acts c going hands is room =
    let (rest, e) = line-here kind bytes old left line new after acts c going hands in
    let next = acts_next kind (kind.counted_after act c) rest in
    (acts_of next, ap acts_of (e ∙ ap (onto_all acts) (line-act kind c line rest act is room)) ∙ acts-more acts line.number act next)
