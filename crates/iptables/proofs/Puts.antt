-- What is written, part by part.
use Rattle.std.proofs.Common.{◌≡◌, ◌+◌, ◌<◌, ◌≤◌, ◌/◌, ◌%◌, ◌^◌, ℕ, Bool, Option, Some, None, List, [], ◌∷◌, ◌++◌, length, drop, get_or, refl, sym, ap, ◌∙◌, append-nil, append_assoc}
use Rattle.std.specs.Prelude.{codes, decimal}
use Rattle.std.specs.Option.{unwrap_or}
use Rattle.std.proofs.lemmas.List.{at_drop_more, at_drop_all}
use Rattle.import_lines.proofs.Tells.{puts-then}
use Rattle.rule_model.specs.declared.IpVersion.{IpVersion}
use Rattle.written_chains.specs.declared.meets.Tests.{Tests}
use Rattle.written_chains.specs.declared.writing.Line.{Line}
use Rattle.written_chains.specs.Walks.{or_policy}
use Rattle.kept_numbers.specs.declared.words.OlderLine.{OlderLine}
use Rattle.kept_numbers.specs.Numbered.{numbers_for}
use Rattle.kept_numbers.specs.Written.{numbered_line, numbered_text}
use Rattle.iptables.specs.Telling.{action_text, anew_note, dotted, line_words, list_words, ports_text, proto_text, side_text, text_by}

-- ---- an address

pub dotted-put : (address : ℕ) (old a b c d e f new : List ℕ) → a ≡ old ++ decimal (address / 2 ^ 120 % 256) → b ≡ a ++ codes "." → c ≡ b ++ decimal (address / 2 ^ 112 % 256) → d ≡ c ++ codes "."
    → e ≡ d ++ decimal (address / 2 ^ 104 % 256) → f ≡ e ++ codes "." → new ≡ f ++ decimal (address / 2 ^ 96 % 256) → new ≡ old ++ dotted address
dotted-put address old a b c d e f new to_a to_b to_c to_d to_e to_f to_new =
    let first = decimal (address / 2 ^ 120 % 256) in
    let second = decimal (address / 2 ^ 112 % 256) in
    let third = decimal (address / 2 ^ 104 % 256) in
    let last = decimal (address / 2 ^ 96 % 256) in
    let from_third = third ++ (codes "." ++ last) in
    let from_second = second ++ (codes "." ++ from_third) in
    puts-then old a new first (codes "." ++ from_second) to_a
    (puts-then a b new (codes ".") from_second to_b
    (puts-then b c new second (codes "." ++ from_third) to_c
    (puts-then c d new (codes ".") from_third to_d
    (puts-then d e new third (codes "." ++ last) to_e (puts-then e f new (codes ".") last to_f to_new)))))

-- ---- a line

-- from the protocol on
tail-put : (tests : Tests) (h i j k l new : List ℕ) → i ≡ h ++ proto_text tests.proto → j ≡ i ++ codes " " → k ≡ j ++ ports_text tests.sport → l ≡ k ++ codes " " → new ≡ l ++ ports_text tests.dport
    → new ≡ h ++ (proto_text tests.proto ++ (codes " " ++ (ports_text tests.sport ++ (codes " " ++ ports_text tests.dport))))
tail-put tests h i j k l new to_i to_j to_k to_l to_new =
    let from_k = ports_text tests.sport ++ (codes " " ++ ports_text tests.dport) in
    puts-then h i new (proto_text tests.proto) (codes " " ++ from_k) to_i
    (puts-then i j new (codes " ") from_k to_j
    (puts-then j k new (ports_text tests.sport) (codes " " ++ ports_text tests.dport) to_k
    (puts-then k l new (codes " ") (ports_text tests.dport) to_l to_new)))

pub words-put : (version : IpVersion) (permits : Bool) (tests : Tests) (word old c d e f g h i j k new : List ℕ) → word ≡ action_text permits → c ≡ old ++ word
    → d ≡ c ++ side_text version tests.src → e ≡ d ++ codes " " → f ≡ e ++ side_text version tests.dst → g ≡ f ++ codes " "
    → h ≡ g ++ proto_text tests.proto → i ≡ h ++ codes " " → j ≡ i ++ ports_text tests.sport → k ≡ j ++ codes " " → new ≡ k ++ ports_text tests.dport
    → new ≡ old ++ line_words version permits tests
words-put version permits tests word old c d e f g h i j k new word_is to_c to_d to_e to_f to_g to_h to_i to_j to_k to_new =
    let tail = proto_text tests.proto ++ (codes " " ++ (ports_text tests.sport ++ (codes " " ++ ports_text tests.dport))) in
    let from_e = side_text version tests.dst ++ (codes " " ++ tail) in
    let from_c = side_text version tests.src ++ (codes " " ++ from_e) in
    let sides = puts-then c d new (side_text version tests.src) (codes " " ++ from_e) to_d
    (puts-then d e new (codes " ") from_e to_e
    (puts-then e f new (side_text version tests.dst) (codes " " ++ tail) to_f (puts-then f g new (codes " ") tail to_g (tail-put tests g h i j k new to_h to_i to_j to_k to_new)))) in
    puts-then old c new word from_c to_c sides ∙ ap (λ w. old ++ (w ++ from_c)) word_is

pub line-put : (number : ℕ) (words old a b c new : List ℕ) → a ≡ old ++ codes "acl add " → b ≡ a ++ decimal number → c ≡ b ++ words → new ≡ c ++ codes "\n" → new ≡ old ++ numbered_line number words
line-put number words old a b c new to_a to_b to_c to_new =
    puts-then old a new (codes "acl add ") (decimal number ++ (words ++ codes "\n")) to_a
    (puts-then a b new (decimal number) (words ++ codes "\n") to_b (puts-then b c new words (codes "\n") to_c to_new))

-- ---- a list

policy-is : (action : Option Bool) (policy : Bool) → unwrap_or action policy ≡ or_policy policy action
policy-is None policy = refl
policy-is (Some permits) policy = refl

-- a line more
pub words-on : (version : IpVersion) (policy : Bool) (last : Tests) (place : ℕ) (lines : List Line) (line unused : Line) (permits : Bool) (words : List ℕ) (old new : List (List ℕ)) → place < length lines
    → line ≡ get_or lines place unused → permits ≡ unwrap_or line.action policy → words ≡ line_words version permits line.tests → new ≡ old ++ words ∷ []
    → new ++ list_words version policy last (drop (place + 1) lines) ≡ old ++ list_words version policy last (drop place lines)
words-on version policy last place lines line unused permits words old new below is permits_is words_is put =
    let rest = list_words version policy last (drop (place + 1) lines) in
    ap (λ t. t ++ rest) put ∙ append_assoc old (words ∷ []) rest
    ∙ ap (λ w. old ++ (w ∷ rest)) words_is
    ∙ ap (λ p. old ++ (line_words version p line.tests ∷ rest)) (permits_is ∙ policy-is line.action policy)
    ∙ ap (λ (l : Line). old ++ (line_words version (or_policy policy l.action) l.tests ∷ rest)) is
    ∙ sym (at_drop_more (λ l. old ++ list_words version policy last l) lines place unused below)

pub words-end : (version : IpVersion) (policy : Bool) (last : Tests) (place : ℕ) (lines : List Line) (words : List ℕ) (old new : List (List ℕ)) → length lines ≤ place → words ≡ line_words version policy last
    → new ≡ old ++ words ∷ [] → old ++ list_words version policy last (drop place lines) ≡ new
words-end version policy last place lines words old new all words_is put =
    at_drop_all (λ l. old ++ list_words version policy last l) lines place all ∙ ap (λ w. old ++ w ∷ []) (sym words_is) ∙ sym put

-- a command more
pub numbered-on : (place number unused : ℕ) (numbers : List ℕ) (lines : List (List ℕ)) (words none old new : List ℕ) → place < length numbers → place < length lines → number ≡ get_or numbers place unused
    → words ≡ get_or lines place none → new ≡ old ++ numbered_line number words
    → new ++ numbered_text (drop (place + 1) numbers) (drop (place + 1) lines) ≡ old ++ numbered_text (drop place numbers) (drop place lines)
numbered-on place number unused numbers lines words none old new below within is words_are put =
    let rest = numbered_text (drop (place + 1) numbers) (drop (place + 1) lines) in
    ap (λ t. t ++ rest) put ∙ append_assoc old (numbered_line number words) rest
    ∙ ap (λ n. old ++ (numbered_line n words ++ rest)) is
    ∙ ap (λ w. old ++ (numbered_line (get_or numbers place unused) w ++ rest)) words_are
    ∙ sym (at_drop_more (λ l. old ++ numbered_text (get_or numbers place unused ∷ drop (place + 1) numbers) l) lines place none within)
    ∙ sym (at_drop_more (λ l. old ++ numbered_text l (drop place lines)) numbers place unused below)

no-lines : (numbers : List ℕ) → numbered_text numbers [] ≡ []
no-lines [] = refl
no-lines (number ∷ numbers) = refl

pub numbered-short : (place : ℕ) (numbers : List ℕ) (lines : List (List ℕ)) (old : List ℕ) → length lines ≤ place → old ++ numbered_text (drop place numbers) (drop place lines) ≡ old
numbered-short place numbers lines old all =
    at_drop_all (λ l. old ++ numbered_text (drop place numbers) l) lines place all ∙ ap (λ t. old ++ t) (no-lines (drop place numbers)) ∙ append-nil old

pub numbered-end : (place : ℕ) (numbers : List ℕ) (lines : List (List ℕ)) (old : List ℕ) → length numbers ≤ place → old ++ numbered_text (drop place numbers) (drop place lines) ≡ old
numbered-end place numbers lines old all = at_drop_all (λ l. old ++ numbered_text l (drop place lines)) numbers place all ∙ append-nil old

-- all of it
pub text-put : (older : List OlderLine) (lines words : List (List ℕ)) (anew : Bool) (numbers old mid new : List ℕ) → words ≡ lines → numbers_for older words ≡ (anew, numbers) → mid ≡ old ++ anew_note anew
    → new ≡ mid ++ numbered_text numbers words → new ≡ old ++ text_by lines (numbers_for older lines)
text-put older lines words anew numbers old mid new words_are all to_mid to_new =
    puts-then old mid new (anew_note anew) (numbered_text numbers words) to_mid to_new
    ∙ ap (λ a. old ++ text_by words a) (sym all) ∙ ap (λ l. old ++ text_by l (numbers_for older l)) words_are
