-- The lines of an entry one after the other.
use Rattle.std.proofs.Common.{◌≡◌, ◌+◌, ◌<◌, ◌≤◌, ℕ, Bool, List, ◌++◌, length, drop, get_or, sym, ap, ◌∙◌, append_assoc, append-nil}
use Rattle.std.specs.Prelude.{codes, decimal}
use Rattle.std.proofs.lemmas.List.{at_drop_more, at_drop_all}
use Rattle.import_lines.proofs.Tells.{puts-then}
use Rattle.cisco_lists.specs.declared.ports.Span.{Span}
use Rattle.cisco_lists.specs.Entries.{EntryRead}
use Rattle.cisco_lists.specs.Telling.{action_text, dport_lines, entry_text, log_text, protocol_text, rule_line, side_text, span_text, sport_lines}

-- a range of destination ports more
pub dport-on : (entry : EntryRead) (sport : Span) (number place : ℕ) (dports : List Span) (dport unused : Span) (old new : List ℕ) → place < length dports → dport ≡ get_or dports place unused
    → new ≡ old ++ rule_line entry sport dport number → old ++ dport_lines entry sport number (drop place dports) ≡ new ++ dport_lines entry sport (number + 1) (drop (place + 1) dports)
dport-on entry sport number place dports dport unused old new below is put =
    at_drop_more (λ l. old ++ dport_lines entry sport number l) dports place unused below
    ∙ ap (λ d. old ++ (rule_line entry sport d number ++ dport_lines entry sport (number + 1) (drop (place + 1) dports))) (sym is)
    ∙ sym (append_assoc old (rule_line entry sport dport number) (dport_lines entry sport (number + 1) (drop (place + 1) dports)))
    ∙ ap (λ t. t ++ dport_lines entry sport (number + 1) (drop (place + 1) dports)) (sym put)

pub dport-end : (entry : EntryRead) (sport : Span) (number place : ℕ) (dports : List Span) (old : List ℕ) → length dports ≤ place
    → old ++ dport_lines entry sport number (drop place dports) ≡ old
dport-end entry sport number place dports old all = at_drop_all (λ l. old ++ dport_lines entry sport number l) dports place all ∙ append-nil old

-- a range of source ports more
pub sport-on : (entry : EntryRead) (number next place : ℕ) (sports dports : List Span) (sport unused : Span) (old new : List ℕ) → place < length sports → sport ≡ get_or sports place unused → dports ≡ entry.dports
    → new ≡ old ++ dport_lines entry sport number dports → next ≡ number + length dports → old ++ sport_lines entry number (drop place sports) ≡ new ++ sport_lines entry next (drop (place + 1) sports)
sport-on entry number next place sports dports sport unused old new below is same put next_is =
    at_drop_more (λ l. old ++ sport_lines entry number l) sports place unused below
    ∙ ap (λ s. old ++ (dport_lines entry s number entry.dports ++ sport_lines entry (number + length entry.dports) (drop (place + 1) sports))) (sym is)
    ∙ ap (λ d. old ++ (dport_lines entry sport number d ++ sport_lines entry (number + length d) (drop (place + 1) sports))) (sym same)
    ∙ sym (append_assoc old (dport_lines entry sport number dports) (sport_lines entry (number + length dports) (drop (place + 1) sports)))
    ∙ ap (λ t. t ++ sport_lines entry (number + length dports) (drop (place + 1) sports)) (sym put)
    ∙ ap (λ n. new ++ sport_lines entry n (drop (place + 1) sports)) (sym next_is)

pub sport-end : (entry : EntryRead) (number place : ℕ) (sports : List Span) (old : List ℕ) → length sports ≤ place
    → old ++ sport_lines entry number (drop place sports) ≡ old
sport-end entry number place sports old all = at_drop_all (λ l. old ++ sport_lines entry number l) sports place all ∙ append-nil old

-- the lines of an entry
pub entry-put : (entry : EntryRead) (number : ℕ) (sports : List Span) (logs : Bool) (old mid new : List ℕ) → logs ≡ entry.logs → sports ≡ entry.sports → mid ≡ old ++ log_text logs → new ≡ mid ++ sport_lines entry number sports
    → new ≡ old ++ entry_text number entry
entry-put entry number sports logs old mid new logs_is sports_is first more =
    puts-then old mid new (log_text logs) (sport_lines entry number sports) first more
    ∙ ap (λ l. old ++ (log_text l ++ sport_lines entry number sports)) logs_is ∙ ap (λ s. old ++ (log_text entry.logs ++ sport_lines entry number s)) sports_is

-- a line
pub rule-put : (view entry : EntryRead) (sport dport : Span) (number : ℕ) (word old a b c d e f g h new : List ℕ) → view ≡ entry → word ≡ action_text view.permits → a ≡ old ++ codes "acl add " → b ≡ a ++ decimal number → c ≡ b ++ word
    → d ≡ c ++ side_text view.src → e ≡ d ++ side_text view.dst → f ≡ e ++ protocol_text view.protocol → g ≡ f ++ span_text sport → h ≡ g ++ span_text dport → new ≡ h ++ codes "\n"
    → new ≡ old ++ rule_line entry sport dport number
rule-put view entry sport dport number word old a b c d e f g h new view_is word_is to_a to_b to_c to_d to_e to_f to_g to_h to_new =
    let ports = span_text sport ++ (span_text dport ++ codes "\n") in
    let protocol = protocol_text view.protocol ++ ports in
    let sides = side_text view.src ++ (side_text view.dst ++ protocol) in
    let from_f = puts-then f g new (span_text sport) (span_text dport ++ codes "\n") to_g (puts-then g h new (span_text dport) (codes "\n") to_h to_new) in
    let from_c = puts-then c d new (side_text view.src) (side_text view.dst ++ protocol) to_d (puts-then d e new (side_text view.dst) protocol to_e (puts-then e f new (protocol_text view.protocol) ports to_f from_f)) in
    puts-then old a new (codes "acl add ") (decimal number ++ (word ++ sides)) to_a (puts-then a b new (decimal number) (word ++ sides) to_b (puts-then b c new word sides to_c from_c))
    ∙ ap (λ w. old ++ (codes "acl add " ++ (decimal number ++ (w ++ sides)))) word_is
    ∙ ap (λ v. old ++ rule_line v sport dport number) view_is

-- no port
abbrev pub no_span : Span
no_span = record { first = 0; last = 0 }
