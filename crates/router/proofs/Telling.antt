-- What the loop tells that carries one table's part of a commit out: a line of each part and drain that it makes.
use Rattle.std.proofs.Common.{◌≡◌, ℕ, ◌+◌, Bool, true, false, Option, List, [], ◌∷◌, ◌++◌, length, refl, sym, ap, subst, ◌∙◌, append-nil, append_assoc, length-append, if◌then◌else◌}
use Rattle.std.specs.Io.KnownBytes.{Appends}
use Rattle.std.proofs.KnownBytes.{Appends-nil, Appends-trans}
use Rattle.rule_model.specs.declared.IpVersion.{IpVersion}
use Rattle.split_device.specs.declared.SplitAction.{SplitAction}
use Rattle.split_device.specs.declared.SplitAction.TheVariants.{Written, Drained}
use Rattle.split_device.specs.Flight.{written}
use Rattle.split_writes.proofs.Made.{written_append}
use Rattle.report_lines.specs.Outside.{AppendsPart}
use Rattle.router.specs.declared.Side.{Side}
use Rattle.router.specs.Text.{action_line, parts_behind}
use Rattle.router.specs.Run.{Effect, printed, told_parts}
use Rattle.router.specs.Carried.{AreTold, AreToldButOne}
use Rattle.router.proofs.Effects.{printed_append, told_append}

-- So far the loop has told what was made behind these events, with so many parts among it.
pub record TellsOn (trace : Bool) (version : IpVersion) (which : Side) (parts : ℕ) (events events_new : List SplitAction) (before after : Bool → Option (List ℕ)) : Type 0 where
  pub made : List SplitAction
  pub grown : events_new ≡ events ++ made
  pub number : parts ≡ length (written made)
  pub report : (one : Bool) → Appends (before one) (after one) (printed (told_parts trace version which 0 made))

pub tells_start : (trace : Bool) (version : IpVersion) (which : Side) (events : List SplitAction) (taken : Bool → Option (List ℕ)) → TellsOn trace version which 0 events events taken taken
tells_start trace version which events taken = record { made = []; grown = sym (append-nil events); number = refl; report = λ one. Appends-nil (taken one) }

-- what is told of one action
one_text : (trace : Bool) (version : IpVersion) (which : Side) (parts : ℕ) (action : SplitAction)
    → printed (told_parts trace version which parts (action ∷ [])) ≡ (if trace then action_line version which (parts_behind parts action) action else [])
one_text true version which parts action = append-nil (action_line version which (parts_behind parts action) action)
one_text false version which parts action = refl

number_on : (parts : ℕ) (made : List SplitAction) (action : SplitAction) → parts ≡ length (written made) → parts_behind parts action ≡ length (written (made ++ action ∷ []))
number_on parts made (Written part) is = ap (λ (n : ℕ). n + 1) is ∙ sym (ap length (written_append made (Written part ∷ [])) ∙ length-append (written made) (part ∷ []))
number_on parts made Drained is = is ∙ sym (ap length (written_append made (Drained ∷ [])) ∙ ap length (append-nil (written made)))

-- one more was made, and its line told
pub tells_more : (trace : Bool) (version : IpVersion) (which : Side) (parts : ℕ) (events events' logged : List SplitAction) (before mid after : Bool → Option (List ℕ)) (action : SplitAction)
    → TellsOn trace version which parts events events' before mid → logged ≡ events' ++ action ∷ []
    → ((one : Bool) → Appends (mid one) (after one) (if trace then action_line version which (parts_behind parts action) action else []))
    → TellsOn trace version which (parts_behind parts action) events logged before after
tells_more trace version which parts events events' logged before mid after action tells more line = record {
  made = tells.made ++ action ∷ [];
  grown = more ∙ (ap (λ (some : List SplitAction). some ++ action ∷ []) tells.grown ∙ append_assoc events tells.made (action ∷ []));
  number = number_on parts tells.made action tells.number;
  report = λ one.
      let last : List Effect = told_parts trace version which (length (written tells.made)) (action ∷ []) in
      let text : printed last ≡ (if trace then action_line version which (parts_behind parts action) action else []) =
      ap (λ (n : ℕ). printed (told_parts trace version which n (action ∷ []))) (sym tells.number) ∙ one_text trace version which parts action in
      subst (Appends (before one) (after one)) (sym (ap printed (told_append trace version which tells.made (action ∷ [])) ∙ printed_append (told_parts trace version which 0 tells.made) last))
      (Appends-trans (before one) (mid one) (after one) (printed (told_parts trace version which 0 tells.made)) (printed last) (tells.report one) (subst (Appends (mid one) (after one)) (sym text) (line one)));
}

-- no line was told of what the last step did
pub tells_same : (trace : Bool) (version : IpVersion) (which : Side) (parts : ℕ) (events events' logged : List SplitAction) (before after : Bool → Option (List ℕ)) → TellsOn trace version which parts events events' before after
    → logged ≡ events' → TellsOn trace version which parts events logged before after
tells_same trace version which parts events events' logged before after tells same = record { made = tells.made; grown = same ∙ tells.grown; number = tells.number; report = tells.report }

-- all of it was told
pub all_told : (trace : Bool) (version : IpVersion) (which : Side) (parts : ℕ) (events events' : List SplitAction) (before after : Bool → Option (List ℕ)) → TellsOn trace version which parts events events' before after
    → (one : Bool) → AreTold trace version which events events' (before one) (after one)
all_told trace version which parts events events' before after tells one = record { made = tells.made; grown = tells.grown; report = tells.report one }

-- or a part of the last line
pub told_but_one : (trace : Bool) (version : IpVersion) (which : Side) (parts : ℕ) (events events' logged : List SplitAction) (before mid after : Bool → Option (List ℕ)) (action : SplitAction)
    → TellsOn trace version which parts events events' before mid → logged ≡ events' ++ action ∷ [] → trace ≡ true
    → ((one : Bool) → AppendsPart (mid one) (after one) (if trace then action_line version which (parts_behind parts action) action else []))
    → (one : Bool) → AreToldButOne trace version which events logged (before one) (after one)
told_but_one trace version which parts events events' logged before mid after action tells more wanted line one =
    let part = line one in
    record {
      made = tells.made;
      last = action;
      grown = more ∙ (ap (λ (some : List SplitAction). some ++ action ∷ []) tells.grown ∙ append_assoc events tells.made (action ∷ []));
      wanted = wanted;
      partial = part.0;
      rest = part.1;
      line_is = ap (λ (n : ℕ). action_line version which (parts_behind n action) action) (sym tells.number)
          ∙ (sym (ap (λ (t : Bool). if t then action_line version which (parts_behind parts action) action else []) wanted) ∙ part.2);
      report = Appends-trans (before one) (mid one) (after one) (printed (told_parts trace version which 0 tells.made)) part.0 (tells.report one) part.3;
    }
