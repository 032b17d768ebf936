-- The places of a trace's lines and its grammar in words are one.
use Rattle.std.proofs.Common.{◌≡◌, ℕ, suc, ◌+◌, ◌≤◌, ◌<◌, Bool, true, false, List, [], ◌∷◌, ◌++◌, length, Option, None, Some, refl, sym, ap, ap₂, ◌∙◌, subst, arith, append_assoc, append-nil, length-append, eq-eqb, eqb-true, lt-ltb}
use Rattle.std.specs.Prelude.{nat_eq, nat_lt}
use Rattle.std.specs.List.{AllByRecursion}
use Rattle.std.proofs.lemmas.Bool.{ltb-true}
use Rattle.slot_order.proofs.Lists.{all_append}
use Rattle.rule_model.specs.declared.IpVersion.{IpVersion}
use Rattle.trace_file.specs.declared.TraceLine.{TraceLine}
use Rattle.trace_file.specs.declared.TraceLine.TheVariants.{Head, Commit, Add, Set, Del, Put, Erase, Table, Drain, Done, Refused, End, Fault}
use Rattle.trace_check.specs.declared.places.Place.{Place}
use Rattle.trace_check.specs.declared.places.Place.TheVariants.{AtStart, Between, InBatch, InEvents, AtEnd}
use Rattle.trace_check.specs.Places.{LineKind, Heads, Begins, Changes, Happens, Finishes, Refuses, Ends, kind_of, is_slot_in_use, only_if, place_by, place_after, LinesLead, Part, Refusal, Work, part_lines, parts_lines, IsEvent, IsPart, IsWholeTrace, MayStand, IsHeadOf, HasHeadOf, PlacesAreExact, trace_commands}

-- what a test allows
record Allows (test : Bool) (place next : Place) : Type 0 where
  passes : test ≡ true
  is : next ≡ place

allows : (test : Bool) (place next : Place) → only_if test place ≡ Some next → Allows test place next
allows true place next same = record { passes = refl; is = cc }
allows false place next same = absurd (cc)

-- lines one after the other
leads_append : (slots : ℕ) (xs ys : List TraceLine) (a b c : Place) → LinesLead slots a xs b → LinesLead slots b ys c → LinesLead slots a (xs ++ ys) c
leads_append slots [] ys a b c first second = subst (λ p. LinesLead slots p ys c) (sym first) second
leads_append slots (x ∷ xs) ys a b c first second = (first.0, first.1, leads_append slots xs ys first.0 b c first.2 second)

leads_split : (slots : ℕ) (xs ys : List TraceLine) (a c : Place) → LinesLead slots a (xs ++ ys) c → (b : Place) × LinesLead slots a xs b × LinesLead slots b ys c
leads_split slots [] ys a c leads = (a, refl, leads)
leads_split slots (x ∷ xs) ys a c leads = let w = leads_split slots xs ys leads.0 c leads.2 in (w.0, (leads.0, leads.1, w.1), w.2)

-- from one place to one place
leads_one : (slots : ℕ) (xs : List TraceLine) (a b c : Place) → LinesLead slots a xs b → LinesLead slots a xs c → b ≡ c
leads_one slots [] a b c first second = sym first ∙ second
leads_one slots (x ∷ xs) a b c first second =
    let same : first.0 ≡ second.0 = (let e = first.1 in let d = second.1 in cc) in
    leads_one slots xs second.0 b c (subst (λ p. LinesLead slots p xs b) same first.2) second.2

-- whole traces lead from the start to the end
leads_commands : (slots n k : ℕ) (commands : List TraceLine) → AllByRecursion (λ line. kind_of line ≡ Changes) commands → k + length commands ≤ trace_commands
    → LinesLead slots (InBatch n k) commands (InBatch n (k + length commands))
leads_commands slots n k [] are few = ap (InBatch n) (let e : k ≡ k + 0 = omega arith in e)
leads_commands slots n k (line ∷ commands) are few =
    let more : k + 1 + length commands ≡ k + suc (length commands) = omega arith in (
      InBatch n (k + 1),
      rw are.0 (rw (lt-ltb k trace_commands (omega arith)) refl),
      subst (λ m. LinesLead slots (InBatch n (k + 1)) commands (InBatch n m)) more (leads_commands slots n (k + 1) commands are.1 (omega arith)),
    )

leads_events : (slots n : ℕ) (events : List TraceLine) → AllByRecursion (IsEvent slots) events → LinesLead slots (InEvents n) events (InEvents n)
leads_events slots n [] are = refl
leads_events slots n (line ∷ events) are = (InEvents n, rw are.0.1 (rw are.0.2 refl), leads_events slots n events are.1)

-- the last lines of a commit
leads_done : (slots n k : ℕ) (events : List TraceLine) → AllByRecursion (IsEvent slots) events → LinesLead slots (InBatch n k) (events ++ Done n ∷ []) (Between n)
leads_done slots n k [] are = (Between n, rw (eq-eqb n n refl) refl, refl)
leads_done slots n k (line ∷ events) are =
    (InEvents n, rw are.0.1 (rw are.0.2 refl), leads_append slots events (Done n ∷ []) (InEvents n) (InEvents n) (Between n) (leads_events slots n events are.1) (Between n, rw (eq-eqb n n refl) refl, refl))

leads_part : (slots n : ℕ) (part : Part) → IsPart slots part → LinesLead slots (Between n) (part_lines (n + 1) part) (Between (n + 1))
leads_part slots n Refusal is = (Between (n + 1), rw (eq-eqb (n + 1) (n + 1) refl) refl, refl)
leads_part slots n (Work commands events) is = (
  InBatch (n + 1) 0,
  rw (eq-eqb (n + 1) (n + 1) refl) refl,
  leads_append slots commands (events ++ Done (n + 1) ∷ []) (InBatch (n + 1) 0) (InBatch (n + 1) (0 + length commands)) (Between (n + 1))
      (leads_commands slots (n + 1) 0 commands is.1 (let few = is.0 in omega arith)) (leads_done slots (n + 1) (0 + length commands) events is.2),
)

leads_parts : (slots n : ℕ) (parts : List Part) → AllByRecursion (IsPart slots) parts → LinesLead slots (Between n) (parts_lines (n + 1) parts) (Between (n + length parts))
leads_parts slots n [] are = ap Between (let e : n ≡ n + 0 = omega arith in e)
leads_parts slots n (part ∷ parts) are =
    let more : n + 1 + length parts ≡ n + suc (length parts) = omega arith in
    leads_append slots (part_lines (n + 1) part) (parts_lines (n + 1 + 1) parts) (Between n) (Between (n + 1)) (Between (n + suc (length parts))) (leads_part slots n part are.0)
    (subst (λ m. LinesLead slots (Between (n + 1)) (parts_lines (n + 1 + 1) parts) (Between m)) more (leads_parts slots (n + 1) parts are.1))

pub leads_whole : (slots : ℕ) (lines : List TraceLine) → IsWholeTrace slots lines → LinesLead slots AtStart lines AtEnd
leads_whole slots lines whole =
    subst (λ some. LinesLead slots AtStart some AtEnd) (sym whole.lines_are) (
      Between 0,
      refl,
      leads_append slots (parts_lines 1 whole.parts) (whole.last ∷ []) (Between 0) (Between (0 + length whole.parts)) AtEnd
          (leads_parts slots 0 whole.parts whole.are_parts) (AtEnd, rw whole.is_last refl, refl),
    )

-- so a line that may stand in words may stand at its place
to_place : (slots : ℕ) (before : List TraceLine) (place : Place) (line : TraceLine) → LinesLead slots AtStart before place → MayStand slots before line → (next : Place) × (place_after slots place line ≡ Some next)
to_place slots before place line leads may =
    let w = leads_split slots before (line ∷ may.0) AtStart AtEnd (leads_whole slots (before ++ line ∷ may.0) may.1) in
    let same = leads_one slots before AtStart w.0 place w.1 leads in
    (w.2.0, subst (λ p. place_after slots p line ≡ Some w.2.0) same w.2.1)

-- what stands before a place, in words
record AreParts (slots n : ℕ) (before : List TraceLine) : Type 0 where
  version : IpVersion
  acl : Bool
  bits : Bool
  parts : List Part
  are : AllByRecursion (IsPart slots) parts
  count : length parts ≡ n
  lines_are : before ≡ Head version acl bits slots ∷ parts_lines 1 parts

record IsOpen (slots n k : ℕ) (before : List TraceLine) : Type 0 where
  version : IpVersion
  acl : Bool
  bits : Bool
  parts : List Part
  commands : List TraceLine
  events : List TraceLine
  are : AllByRecursion (IsPart slots) parts
  count : length parts + 1 ≡ n
  changes : AllByRecursion (λ line. kind_of line ≡ Changes) commands
  many : length commands ≡ k
  few : k ≤ trace_commands
  happen : AllByRecursion (IsEvent slots) events
  lines_are : before ≡ Head version acl bits slots ∷ (parts_lines 1 parts ++ Commit n ∷ (commands ++ events))

abbrev Shape : ℕ → Place → List TraceLine → Type 0
Shape slots AtStart before = before ≡ []
Shape slots (Between n) before = AreParts slots n before
Shape slots (InBatch n k) before = (open_part : IsOpen slots n k before) × (open_part.events ≡ [])
Shape slots (InEvents n) before = (k : ℕ) × IsOpen slots n k before
Shape slots AtEnd before = IsWholeTrace slots before

-- one part more
parts_more : (n : ℕ) (parts : List Part) (part : Part) → parts_lines n (parts ++ part ∷ []) ≡ parts_lines n parts ++ part_lines (n + length parts) part
parts_more n [] part = append-nil (part_lines n part) ∙ ap (λ m. part_lines m part) (let e : n ≡ n + 0 = omega arith in e)
parts_more n (first ∷ parts) part =
    let more : n + 1 + length parts ≡ n + suc (length parts) = omega arith in
    ap (λ rest. part_lines n first ++ rest) (parts_more (n + 1) parts part ∙ ap (λ m. parts_lines (n + 1) parts ++ part_lines m part) more)
    ∙ sym (append_assoc (part_lines n first) (parts_lines (n + 1) parts) (part_lines (n + suc (length parts)) part))

with_part : (slots n : ℕ) (before more : List TraceLine) (part : Part) → AreParts slots n before → IsPart slots part → more ≡ part_lines (n + 1) part → AreParts slots (n + 1) (before ++ more)
with_part slots n before more part is right are = record {
  version = is.version;
  acl = is.acl;
  bits = is.bits;
  parts = is.parts ++ part ∷ [];
  are = all_append (IsPart slots) is.parts (part ∷ []) is.are (right, tt);
  count = length-append is.parts (part ∷ []) ∙ ap (λ m. m + 1) is.count;
  lines_are = ap₂ (λ a b. a ++ b) is.lines_are are ∙ ap (λ rest. Head is.version is.acl is.bits slots ∷ rest)
      (ap (λ m. parts_lines 1 is.parts ++ part_lines m part) (let c = is.count in let e : n + 1 ≡ 1 + length is.parts = omega arith in e) ∙ sym (parts_more 1 is.parts part));
}

-- an open commit is one more when it is done
closed : (slots n k : ℕ) (before : List TraceLine) → IsOpen slots n k before → AreParts slots n (before ++ Done n ∷ [])
closed slots n k before is = record {
  version = is.version;
  acl = is.acl;
  bits = is.bits;
  parts = is.parts ++ Work is.commands is.events ∷ [];
  are = all_append (IsPart slots) is.parts (Work is.commands is.events ∷ []) is.are ((let few = is.few in let many = is.many in omega arith, is.changes, is.happen), tt);
  count = length-append is.parts (Work is.commands is.events ∷ []) ∙ is.count;
  lines_are = ap (λ some. some ++ Done n ∷ []) is.lines_are ∙ ap (λ rest. Head is.version is.acl is.bits slots ∷ rest)
      (append_assoc (parts_lines 1 is.parts) (Commit n ∷ (is.commands ++ is.events)) (Done n ∷ [])
      ∙ (ap (λ rest. parts_lines 1 is.parts ++ Commit n ∷ rest) (append_assoc is.commands is.events (Done n ∷ []))
      ∙ (ap (λ m. parts_lines 1 is.parts ++ part_lines m (Work is.commands is.events)) (let c = is.count in let e : n ≡ 1 + length is.parts = omega arith in e)
      ∙ sym (parts_more 1 is.parts (Work is.commands is.events)))));
}

opened : (slots n : ℕ) (before : List TraceLine) → AreParts slots n before → IsOpen slots (n + 1) 0 (before ++ Commit (n + 1) ∷ [])
opened slots n before is = record {
  version = is.version;
  acl = is.acl;
  bits = is.bits;
  parts = is.parts;
  commands = [];
  events = [];
  are = is.are;
  count = ap (λ m. m + 1) is.count;
  changes = tt;
  many = refl;
  few = omega arith;
  happen = tt;
  lines_are = ap (λ some. some ++ Commit (n + 1) ∷ []) is.lines_are;
}

with_command : (slots n k : ℕ) (before : List TraceLine) (line : TraceLine) → (open_part : IsOpen slots n k before) × (open_part.events ≡ []) → kind_of line ≡ Changes → nat_lt k trace_commands ≡ true
    → (open_part : IsOpen slots n (k + 1) (before ++ line ∷ [])) × (open_part.events ≡ [])
with_command slots n k before line (is, none) kind room = (
  record {
    version = is.version;
    acl = is.acl;
    bits = is.bits;
    parts = is.parts;
    commands = is.commands ++ line ∷ [];
    events = [];
    are = is.are;
    count = is.count;
    changes = all_append (λ l. kind_of l ≡ Changes) is.commands (line ∷ []) is.changes (kind, tt);
    many = length-append is.commands (line ∷ []) ∙ ap (λ m. m + 1) is.many;
    few = let less : k < trace_commands = ltb-true k trace_commands room in omega arith;
    happen = tt;
    lines_are = ap (λ some. some ++ line ∷ []) is.lines_are ∙ ap (λ rest. Head is.version is.acl is.bits slots ∷ rest)
        (append_assoc (parts_lines 1 is.parts) (Commit n ∷ (is.commands ++ is.events)) (line ∷ [])
        ∙ ap (λ rest. parts_lines 1 is.parts ++ Commit n ∷ rest)
        (ap (λ events. (is.commands ++ events) ++ line ∷ []) none ∙ (ap (λ some. some ++ line ∷ []) (append-nil is.commands) ∙ sym (append-nil (is.commands ++ line ∷ [])))));
  },
  refl,
)

with_event : (slots n k : ℕ) (before : List TraceLine) (line : TraceLine) (slot : Option ℕ) → IsOpen slots n k before → kind_of line ≡ Happens slot → is_slot_in_use slots slot ≡ true
    → (k : ℕ) × IsOpen slots n k (before ++ line ∷ [])
with_event slots n k before line slot is kind used = (
  k,
  record {
    version = is.version;
    acl = is.acl;
    bits = is.bits;
    parts = is.parts;
    commands = is.commands;
    events = is.events ++ line ∷ [];
    are = is.are;
    count = is.count;
    changes = is.changes;
    many = is.many;
    few = is.few;
    happen = all_append (IsEvent slots) is.events (line ∷ []) is.happen ((slot, kind, used), tt);
    lines_are = ap (λ some. some ++ line ∷ []) is.lines_are ∙ ap (λ rest. Head is.version is.acl is.bits slots ∷ rest)
        (append_assoc (parts_lines 1 is.parts) (Commit n ∷ (is.commands ++ is.events)) (line ∷ [])
        ∙ ap (λ rest. parts_lines 1 is.parts ++ Commit n ∷ rest) (append_assoc is.commands is.events (line ∷ [])));
  },
)

ended : (slots n : ℕ) (before : List TraceLine) (line : TraceLine) → AreParts slots n before → kind_of line ≡ Ends → IsWholeTrace slots (before ++ line ∷ [])
ended slots n before line is kind = record { version = is.version; acl = is.acl; bits = is.bits; parts = is.parts; last = line; are_parts = is.are; is_last = kind; lines_are = ap (λ some. some ++ line ∷ []) is.lines_are }

-- one line more of each kind
command_step : (slots : ℕ) (place next : Place) (before : List TraceLine) (line : TraceLine) → kind_of line ≡ Changes → Shape slots place before → place_by slots place Changes ≡ Some next → Shape slots next (before ++ line ∷ [])
command_step slots (InBatch n k) next before line kind shape there =
    let a = allows (nat_lt k trace_commands) (InBatch n (k + 1)) next there in subst (λ p. Shape slots p (before ++ line ∷ [])) (sym a.is) (with_command slots n k before line shape kind a.passes)
command_step slots place next before line kind shape there = absurd (cc)

event_step : (slots : ℕ) (place next : Place) (before : List TraceLine) (line : TraceLine) (slot : Option ℕ) → kind_of line ≡ Happens slot → Shape slots place before → place_by slots place (Happens slot) ≡ Some next
    → Shape slots next (before ++ line ∷ [])
event_step slots (InBatch n k) next before line slot kind shape there =
    let a = allows (is_slot_in_use slots slot) (InEvents n) next there in subst (λ p. Shape slots p (before ++ line ∷ [])) (sym a.is) (with_event slots n k before line slot shape.0 kind a.passes)
event_step slots (InEvents n) next before line slot kind shape there =
    let a = allows (is_slot_in_use slots slot) (InEvents n) next there in subst (λ p. Shape slots p (before ++ line ∷ [])) (sym a.is) (with_event slots n shape.0 before line slot shape.1 kind a.passes)
event_step slots place next before line slot kind shape there = absurd (cc)

end_step : (slots : ℕ) (place next : Place) (before : List TraceLine) (line : TraceLine) → kind_of line ≡ Ends → Shape slots place before → place_by slots place Ends ≡ Some next → Shape slots next (before ++ line ∷ [])
end_step slots (Between n) next before line kind shape there = subst (λ p. Shape slots p (before ++ line ∷ [])) (let e : AtEnd ≡ next = cc in e) (ended slots n before line shape kind)
end_step slots place next before line kind shape there = absurd (cc)

done_step : (slots : ℕ) (place next : Place) (before : List TraceLine) (n : ℕ) → Shape slots place before → place_by slots place (Finishes n) ≡ Some next → Shape slots next (before ++ Done n ∷ [])
done_step slots (InBatch m k) next before n shape there =
    let a = allows (nat_eq n m) (Between m) next there in let same : n ≡ m = eqb-true n m a.passes in
    subst (λ p. Shape slots p (before ++ Done n ∷ [])) (sym a.is) (subst (λ i. AreParts slots m (before ++ Done i ∷ [])) (sym same) (closed slots m k before shape.0))
done_step slots (InEvents m) next before n shape there =
    let a = allows (nat_eq n m) (Between m) next there in let same : n ≡ m = eqb-true n m a.passes in
    subst (λ p. Shape slots p (before ++ Done n ∷ [])) (sym a.is) (subst (λ i. AreParts slots m (before ++ Done i ∷ [])) (sym same) (closed slots m shape.0 before shape.1))
done_step slots place next before n shape there = absurd (cc)

begin_step : (slots : ℕ) (place next : Place) (before : List TraceLine) (n : ℕ) → Shape slots place before → place_by slots place (Begins n) ≡ Some next → Shape slots next (before ++ Commit n ∷ [])
unfolding opened
begin_step slots (Between m) next before n shape there =
    let a = allows (nat_eq n (m + 1)) (InBatch n 0) next there in let same : n ≡ m + 1 = eqb-true n (m + 1) a.passes in
    subst (λ p. Shape slots p (before ++ Commit n ∷ [])) (sym a.is) (subst (λ i. Shape slots (InBatch i 0) (before ++ Commit i ∷ [])) (sym same) (opened slots m before shape, refl))
begin_step slots place next before n shape there = absurd (cc)

refuse_step : (slots : ℕ) (place next : Place) (before : List TraceLine) (n : ℕ) → Shape slots place before → place_by slots place (Refuses n) ≡ Some next → Shape slots next (before ++ Refused n ∷ [])
refuse_step slots (Between m) next before n shape there =
    let a = allows (nat_eq n (m + 1)) (Between n) next there in let same : n ≡ m + 1 = eqb-true n (m + 1) a.passes in
    subst (λ p. Shape slots p (before ++ Refused n ∷ [])) (sym a.is) (subst (λ i. Shape slots (Between i) (before ++ Refused i ∷ [])) (sym same)
    (with_part slots m before (Refused (m + 1) ∷ []) Refusal shape tt refl))
refuse_step slots place next before n shape there = absurd (cc)

head_step : (slots : ℕ) (place next : Place) (before : List TraceLine) (version : IpVersion) (acl bits : Bool) (n : ℕ) → Shape slots place before → place_by slots place Heads ≡ Some next → n ≡ slots → Shape slots next (before ++ Head version acl bits n ∷ [])
head_step slots AtStart next before version acl bits n shape there same =
    subst (λ p. Shape slots p (before ++ Head version acl bits n ∷ [])) (let e : Between 0 ≡ next = cc in e)
    (record { version = version; acl = acl; bits = bits; parts = []; are = tt; count = refl; lines_are = ap₂ (λ some m. some ++ Head version acl bits m ∷ []) shape same })
head_step slots place next before version acl bits n shape there same = absurd (cc)

step : (slots : ℕ) (place next : Place) (before : List TraceLine) (line : TraceLine) → IsHeadOf slots line → Shape slots place before → place_after slots place line ≡ Some next → Shape slots next (before ++ line ∷ [])
step slots place next before (Head version acl bits n) head shape there = head_step slots place next before version acl bits n shape there head
step slots place next before (Commit n) head shape there = begin_step slots place next before n shape there
step slots place next before (Add rule) head shape there = command_step slots place next before (Add rule) refl shape there
step slots place next before (Set priority answer) head shape there = command_step slots place next before (Set priority answer) refl shape there
step slots place next before (Del priority) head shape there = command_step slots place next before (Del priority) refl shape there
step slots place next before (Put slot entry) head shape there = event_step slots place next before (Put slot entry) (Some slot) refl shape there
step slots place next before (Erase slot) head shape there = event_step slots place next before (Erase slot) (Some slot) refl shape there
step slots place next before (Table field port word) head shape there = event_step slots place next before (Table field port word) None refl shape there
step slots place next before Drain head shape there = event_step slots place next before Drain None refl shape there
step slots place next before (Done n) head shape there = done_step slots place next before n shape there
step slots place next before (Refused n) head shape there = refuse_step slots place next before n shape there
step slots place next before (End writes) head shape there = end_step slots place next before (End writes) refl shape there
step slots place next before (Fault line) head shape there = end_step slots place next before (Fault line) refl shape there

-- no line leads to the start
pub past_start : (slots : ℕ) (place next : Place) (kind : LineKind) → place_by slots place kind ≡ Some next → next ≡ AtStart → ⊥
past_start slots AtStart next Heads there at = let e : Some (Between 0) ≡ Some AtStart = there ∙ ap Some at in cc
past_start slots (Between m) next (Begins n) there at = let a = allows _ (InBatch n 0) next there in let e : AtStart ≡ InBatch n 0 = sym at ∙ a.is in cc
past_start slots (Between m) next (Refuses n) there at = let a = allows _ (Between n) next there in let e : AtStart ≡ Between n = sym at ∙ a.is in cc
past_start slots (Between m) next Ends there at = let e : Some AtEnd ≡ Some AtStart = there ∙ ap Some at in cc
past_start slots (InBatch n k) next Changes there at = let a = allows _ (InBatch n (k + 1)) next there in let e : AtStart ≡ InBatch n (k + 1) = sym at ∙ a.is in cc
past_start slots (InBatch n k) next (Happens slot) there at = let a = allows _ (InEvents n) next there in let e : AtStart ≡ InEvents n = sym at ∙ a.is in cc
past_start slots (InBatch n k) next (Finishes m) there at = let a = allows _ (Between n) next there in let e : AtStart ≡ Between n = sym at ∙ a.is in cc
past_start slots (InEvents n) next (Happens slot) there at = let a = allows _ (InEvents n) next there in let e : AtStart ≡ InEvents n = sym at ∙ a.is in cc
past_start slots (InEvents n) next (Finishes m) there at = let a = allows _ (Between n) next there in let e : AtStart ≡ Between n = sym at ∙ a.is in cc
past_start slots place next kind there at = cc

-- a head stands at the start alone
first_head : (slots : ℕ) (place next : Place) (line : TraceLine) → (place ≡ AtStart → IsHeadOf slots line) → place_after slots place line ≡ Some next → IsHeadOf slots line
first_head slots place next (Head version acl bits n) head there = head (at_start place there)
  where
    at_start : (p : Place) → place_by slots p Heads ≡ Some next → p ≡ AtStart
    at_start AtStart there = refl
    at_start (Between m) there = absurd (cc)
    at_start (InBatch m k) there = absurd (cc)
    at_start (InEvents m) there = absurd (cc)
    at_start AtEnd there = absurd (cc)
first_head slots place next (Commit n) head there = tt
first_head slots place next (Add rule) head there = tt
first_head slots place next (Set priority answer) head there = tt
first_head slots place next (Del priority) head there = tt
first_head slots place next (Put slot entry) head there = tt
first_head slots place next (Erase slot) head there = tt
first_head slots place next (Table field port word) head there = tt
first_head slots place next Drain head there = tt
first_head slots place next (Done n) head there = tt
first_head slots place next (Refused n) head there = tt
first_head slots place next (End writes) head there = tt
first_head slots place next (Fault line) head there = tt

-- what stands before a place has its shape
shaped : (slots : ℕ) (lines behind : List TraceLine) (place end : Place) → Shape slots place behind → ((line : TraceLine) (rest : List TraceLine) → lines ≡ line ∷ rest → place ≡ AtStart → IsHeadOf slots line)
    → LinesLead slots place lines end → Shape slots end (behind ++ lines)
shaped slots [] behind place end shape heads leads = subst (λ p. Shape slots p (behind ++ [])) leads (subst (Shape slots place) (sym (append-nil behind)) shape)
shaped slots (line ∷ lines) behind place end shape heads leads =
    subst (Shape slots end) (append_assoc behind (line ∷ []) lines)
    (shaped slots lines (behind ++ line ∷ []) leads.0 end
    (step slots place leads.0 behind line (first_head slots place leads.0 line (λ at. heads line lines refl at) leads.1) shape leads.1)
    (λ other rest same at. absurd (past_start slots place leads.0 (kind_of line) leads.1 at)) leads.2)

-- a trace may go on to its end from each place but the start
finished : (slots : ℕ) (place : Place) (before : List TraceLine) → Shape slots place before → (place ≡ AtStart → ⊥) → (later : List TraceLine) × IsWholeTrace slots (before ++ later)
finished slots AtStart before shape some = absurd (some refl)
finished slots (Between n) before shape some = (End 0 ∷ [], ended slots n before (End 0) shape refl)
finished slots (InBatch n k) before shape some =
    (Done n ∷ End 0 ∷ [], subst (IsWholeTrace slots) (append_assoc before (Done n ∷ []) (End 0 ∷ [])) (ended slots n (before ++ Done n ∷ []) (End 0) (closed slots n k before shape.0) refl))
finished slots (InEvents n) before shape some =
    (Done n ∷ End 0 ∷ [], subst (IsWholeTrace slots) (append_assoc before (Done n ∷ []) (End 0 ∷ [])) (ended slots n (before ++ Done n ∷ []) (End 0) (closed slots n shape.0 before shape.1) refl))
finished slots AtEnd before shape some = ([], subst (IsWholeTrace slots) (sym (append-nil before)) shape)

pub places_are_exact : PlacesAreExact
places_are_exact slots before place line leads head = (to, to_place slots before place line leads)
  where
    to : (next : Place) × (place_after slots place line ≡ Some next) → MayStand slots before line
    to there =
        let all : LinesLead slots AtStart (before ++ line ∷ []) there.0 = leads_append slots before (line ∷ []) AtStart place there.0 leads (there.0, there.1, refl) in
        let shape = shaped slots (before ++ line ∷ []) [] AtStart there.0 refl (heads before head) all in
        let whole = finished slots there.0 (before ++ line ∷ []) shape (past_start slots place there.0 (kind_of line) there.1) in
        (whole.0, subst (IsWholeTrace slots) (append_assoc before (line ∷ []) whole.0) whole.1)
      where
        heads : (some : List TraceLine) → HasHeadOf slots some line → (first : TraceLine) (rest : List TraceLine) → some ++ line ∷ [] ≡ first ∷ rest → AtStart ≡ AtStart → IsHeadOf slots first
        heads [] is first rest same at = subst (IsHeadOf slots) (let e : line ≡ first = cc in e) is
        heads (other ∷ some) is first rest same at = subst (IsHeadOf slots) (let e : other ≡ first = cc in e) is
