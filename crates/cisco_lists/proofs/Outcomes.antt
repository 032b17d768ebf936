-- What a line comes to, by what its callees answer.
use Rattle.std.proofs.Common.{◌≡◌, ◌≤◌, ◌<◌, ◌↔◌, ◌+◌, ◌-◌, ℕ, Bool, true, false, cond, nat_le, ◌==◌, Some, None, Result, Ok, Err, IfOk, OnOk, List, [], ◌++◌, length, refl, sym, ap, ◌∙◌, subst, append-nil, arith}
use Rattle.std.specs.Prelude.{codes}
use Rattle.std.specs.Str.{bytes_eq}
use Rattle.std.proofs.lemmas.Bool.{le-leb, leb-true}
use Rattle.std.proofs.lemmas.Bool.Decides.{same_from_decides}
use Rattle.import_lines.specs.declared.Told.{Told}
use Rattle.import_lines.specs.declared.Told.TheVariants as told
use Rattle.import_lines.specs.Import.{IsTold, SaidBy, UnsaidBy}
use Rattle.cisco_lists.specs.declared.why.Why.{Why}
use Rattle.cisco_lists.specs.declared.why.Why.TheVariants as why
use Rattle.cisco_lists.specs.declared.format.Place.TheVariants as place
use Rattle.cisco_lists.specs.declared.format.Choice.{Choice}
use Rattle.cisco_lists.specs.declared.format.Choice.TheVariants as choice
use Rattle.cisco_lists.specs.Walk.{WordsAt, taken, at_text, first_of, behind_word}
use Rattle.cisco_lists.specs.Entries.{EntryRead, entry_at}
use Rattle.cisco_lists.specs.Telling.{count_of, entry_text, unsaid_text, remark_text}
use Rattle.cisco_lists.proofs.Tests.{pick, skip}
use Rattle.cisco_lists.specs.Lines.{Known, Outcome, IsOutcome, said, unsaid, entered, starts_number, number_of, placed, rule_outcome, read_outcome, numbered_entry, entry_outcome, choice_of, header_outcome, other_kind, kind_by, kind_outcome, ip_outcome, numbered_as, numbered_by, numbered_outcome, other_outcome, place_outcome, is_passed, is_entry, is_other, line_by, line_outcome, cisco_told, cisco_after}

-- ---- an outcome

-- by another name
pub as-outcome : {E : Type 0} → (r : Result Told E) (a b : Outcome) (old : Known) (bytes : List ℕ) (new : Known) → a ≡ b → IfOk r (λ answer. IsOutcome a old answer bytes new) → IfOk r (λ answer. IsOutcome b old answer bytes new)
as-outcome r a b old bytes new same is = subst (λ o. IfOk r (λ answer. IsOutcome o old answer bytes new)) same is

-- of a line that is said, into room that was empty
pub said-outcome : (o : Outcome) (text : List ℕ) (after new : Known) (into bytes : List ℕ) → said text after ≡ o → into ≡ [] → bytes ≡ into ++ text → new ≡ after
    → IsOutcome o new told.Said bytes new
said-outcome o text after new into bytes is none put new_is =
    (ap (λ (x : Outcome). x.told) (sym is) ∙ ap SaidBy (sym (put ∙ ap (λ l. l ++ text) none)), new_is ∙ ap (λ (x : Outcome). x.after) is)

-- and that has nothing in the script
pub passed-outcome : (o : Outcome) (known : Known) (into : List ℕ) → said [] known ≡ o → into ≡ [] → IsOutcome o known told.Said into known
passed-outcome o known into is none = said-outcome o [] known known into into is none (sym (append-nil into)) refl

-- of one that isn't
pub unsaid-outcome : {E : Type 0} → (r : Result Told E) (o : Outcome) (reason : Why) (word : List ℕ) (known : Known) (bytes : List ℕ) → IfOk r (λ answer. answer ≡ told.Unsaid) → OnOk r (bytes ≡ unsaid_text reason word)
    → unsaid reason word known ≡ o → IfOk r (λ answer. IsOutcome o known answer bytes known)
unsaid-outcome (Ok told.Said) o reason word known bytes answer text is = let bad : told.Said ≡ told.Unsaid = answer in absurd (cc)
unsaid-outcome (Ok told.Unsaid) o reason word known bytes answer text is =
    (ap (λ (x : Outcome). x.told) (sym is) ∙ ap UnsaidBy (sym text), refl)
unsaid-outcome (Err e) o reason word known bytes answer text is = tt

-- ---- a word

-- the next word, and what stands behind it
pub by-next : {A : Type 0} → (f : List ℕ → WordsAt → A) (at behind : WordsAt) (word : List ℕ) (o : A) → word ≡ first_of at.words → behind ≡ behind_word at → o ≡ f word behind → o ≡ f (first_of at.words) (behind_word at)
by-next f at behind word o word_is behind_is is = is ∙ ap (f word) behind_is ∙ ap (λ w. f w (behind_word at)) word_is

-- ---- a line, by its first word

abbrev from-entry : Known → List ℕ → List ℕ → WordsAt → Outcome
from-entry known text word at = cond (is_entry word) (place_outcome known text known.place) (unsaid why.Word word known)

abbrev from-other : Known → List ℕ → List ℕ → WordsAt → Outcome
from-other known text word at = cond (is_other word) (other_outcome known word at) (from-entry known text word at)

abbrev from-list : Known → List ℕ → List ℕ → WordsAt → Outcome
from-list known text word at = cond (bytes_eq word (codes "access-list")) (numbered_outcome known text at) (from-other known text word at)

abbrev from-ip : Known → List ℕ → List ℕ → WordsAt → Outcome
from-ip known text word at = cond (bytes_eq word (codes "ip")) (ip_outcome known at) (from-list known text word at)

pub line-passed : (known : Known) (text word : List ℕ) (at : WordsAt) → is_passed word ≡ true → said [] known ≡ line_by known text word at
line-passed known text word at so = pick (is_passed word) (said [] known) (from-ip known text word at) so

past-passed : (known : Known) (text word : List ℕ) (at : WordsAt) (o : Outcome) → is_passed word ≡ false → o ≡ from-ip known text word at → o ≡ line_by known text word at
past-passed known text word at o unlike is = skip (is_passed word) (said [] known) (from-ip known text word at) o unlike is

pub line-ip : (known : Known) (text word : List ℕ) (at : WordsAt) → is_passed word ≡ false → bytes_eq word (codes "ip") ≡ true → ip_outcome known at ≡ line_by known text word at
line-ip known text word at passed so = past-passed known text word at _ passed (pick (bytes_eq word (codes "ip")) (ip_outcome known at) (from-list known text word at) so)

past-ip : (known : Known) (text word : List ℕ) (at : WordsAt) (o : Outcome) → is_passed word ≡ false → bytes_eq word (codes "ip") ≡ false → o ≡ from-list known text word at → o ≡ line_by known text word at
past-ip known text word at o passed unlike is = past-passed known text word at o passed (skip (bytes_eq word (codes "ip")) (ip_outcome known at) (from-list known text word at) o unlike is)

pub line-list : (known : Known) (text word : List ℕ) (at : WordsAt) → is_passed word ≡ false → bytes_eq word (codes "ip") ≡ false → bytes_eq word (codes "access-list") ≡ true → numbered_outcome known text at ≡ line_by known text word at
line-list known text word at passed ip so = past-ip known text word at _ passed ip (pick (bytes_eq word (codes "access-list")) (numbered_outcome known text at) (from-other known text word at) so)

past-list : (known : Known) (text word : List ℕ) (at : WordsAt) (o : Outcome) → is_passed word ≡ false → bytes_eq word (codes "ip") ≡ false → bytes_eq word (codes "access-list") ≡ false → o ≡ from-other known text word at → o ≡ line_by known text word at
past-list known text word at o passed ip unlike is =
    past-ip known text word at o passed ip (skip (bytes_eq word (codes "access-list")) (numbered_outcome known text at) (from-other known text word at) o unlike is)

pub line-other : (known : Known) (text word : List ℕ) (at : WordsAt) → is_passed word ≡ false → bytes_eq word (codes "ip") ≡ false → bytes_eq word (codes "access-list") ≡ false → is_other word ≡ true → other_outcome known word at ≡ line_by known text word at
line-other known text word at passed ip list so = past-list known text word at _ passed ip list (pick (is_other word) (other_outcome known word at) (from-entry known text word at) so)

past-other : (known : Known) (text word : List ℕ) (at : WordsAt) (o : Outcome) → is_passed word ≡ false → bytes_eq word (codes "ip") ≡ false → bytes_eq word (codes "access-list") ≡ false → is_other word ≡ false → o ≡ from-entry known text word at
    → o ≡ line_by known text word at
past-other known text word at o passed ip list unlike is = past-list known text word at o passed ip list (skip (is_other word) (other_outcome known word at) (from-entry known text word at) o unlike is)

pub line-entry : (known : Known) (text word : List ℕ) (at : WordsAt) → is_passed word ≡ false → bytes_eq word (codes "ip") ≡ false → bytes_eq word (codes "access-list") ≡ false → is_other word ≡ false → is_entry word ≡ true
    → place_outcome known text known.place ≡ line_by known text word at
line-entry known text word at passed ip list other so = past-other known text word at _ passed ip list other (pick (is_entry word) (place_outcome known text known.place) (unsaid why.Word word known) so)

pub line-unknown : (known : Known) (text word : List ℕ) (at : WordsAt) → is_passed word ≡ false → bytes_eq word (codes "ip") ≡ false → bytes_eq word (codes "access-list") ≡ false → is_other word ≡ false → is_entry word ≡ false
    → unsaid why.Word word known ≡ line_by known text word at
line-unknown known text word at passed ip list other unlike =
    past-other known text word at _ passed ip list other (skip (is_entry word) (place_outcome known text known.place) (unsaid why.Word word known) _ unlike refl)

pub line-from : (known : Known) (text word : List ℕ) (at behind : WordsAt) (o : Outcome) → at ≡ at_text text → word ≡ first_of at.words → behind ≡ behind_word at → o ≡ line_by known text word behind → o ≡ line_outcome known text
line-from known text word at behind o at_is word_is behind_is is =
    by-next (line_by known text) at behind word o word_is behind_is is ∙ ap (λ (a : WordsAt). line_by known text (first_of a.words) (behind_word a)) at_is

-- ---- behind `ip`

abbrev pub ip-by : Known → List ℕ → WordsAt → Outcome
ip-by known word at = cond (bytes_eq word (codes "access-list")) (kind_outcome known at) (unsaid why.Word (codes "ip") known)

pub ip-list : (known : Known) (word : List ℕ) (at : WordsAt) → bytes_eq word (codes "access-list") ≡ true → kind_outcome known at ≡ ip-by known word at
ip-list known word at so = pick (bytes_eq word (codes "access-list")) (kind_outcome known at) (unsaid why.Word (codes "ip") known) so

pub ip-unknown : (known : Known) (word : List ℕ) (at : WordsAt) → bytes_eq word (codes "access-list") ≡ false → unsaid why.Word (codes "ip") known ≡ ip-by known word at
ip-unknown known word at unlike = skip (bytes_eq word (codes "access-list")) (kind_outcome known at) (unsaid why.Word (codes "ip") known) _ unlike refl

-- ---- behind `ip access-list`

pub kind-from : (known : Known) (at a b : WordsAt) (kind name more : List ℕ) (o : Outcome) → kind ≡ first_of at.words → a ≡ behind_word at → name ≡ first_of a.words → b ≡ behind_word a → more ≡ first_of b.words
    → o ≡ kind_by known kind name more → o ≡ kind_outcome known at
kind-from known at a b kind name more o kind_is a_is name_is b_is more_is is =
    is ∙ ap (λ m. kind_by known kind name m) more_is ∙ ap (λ (x : WordsAt). kind_by known kind name (first_of x.words)) b_is
    ∙ ap (λ n. kind_by known kind n (first_of (behind_word a).words)) name_is
    ∙ ap (λ (x : WordsAt). kind_by known kind (first_of x.words) (first_of (behind_word x).words)) a_is
    ∙ ap (λ k. kind_by known k (first_of (behind_word at).words) (first_of (behind_word (behind_word at)).words)) kind_is

abbrev of-kind : Known → List ℕ → List ℕ → Outcome
of-kind known kind name = cond (bytes_eq kind (codes "extended")) (header_outcome known name) (other_kind known name)

abbrev with-kind : Known → List ℕ → List ℕ → List ℕ → Outcome
with-kind known kind name more = cond (length more == 0) (of-kind known kind name) (unsaid why.Word more known)

abbrev with-name : Known → List ℕ → List ℕ → List ℕ → Outcome
with-name known kind name more = cond (length name == 0) (header_outcome known kind) (with-kind known kind name more)

pub kind-none : (known : Known) (kind name more : List ℕ) → (length kind == 0) ≡ true → unsaid why.Value (codes "access-list") known ≡ kind_by known kind name more
kind-none known kind name more so = pick (length kind == 0) (unsaid why.Value (codes "access-list") known) (with-name known kind name more) so

past-kind : (known : Known) (kind name more : List ℕ) (o : Outcome) → (length kind == 0) ≡ false → o ≡ with-name known kind name more → o ≡ kind_by known kind name more
past-kind known kind name more o unlike is = skip (length kind == 0) (unsaid why.Value (codes "access-list") known) (with-name known kind name more) o unlike is

pub kind-name : (known : Known) (kind name more : List ℕ) → (length kind == 0) ≡ false → (length name == 0) ≡ true → header_outcome known kind ≡ kind_by known kind name more
kind-name known kind name more some so = past-kind known kind name more _ some (pick (length name == 0) (header_outcome known kind) (with-kind known kind name more) so)

past-name : (known : Known) (kind name more : List ℕ) (o : Outcome) → (length kind == 0) ≡ false → (length name == 0) ≡ false → o ≡ with-kind known kind name more → o ≡ kind_by known kind name more
past-name known kind name more o some unlike is = past-kind known kind name more o some (skip (length name == 0) (header_outcome known kind) (with-kind known kind name more) o unlike is)

pub kind-more : (known : Known) (kind name more : List ℕ) → (length kind == 0) ≡ false → (length name == 0) ≡ false → (length more == 0) ≡ false → unsaid why.Word more known ≡ kind_by known kind name more
kind-more known kind name more some named unlike = past-name known kind name more _ some named (skip (length more == 0) (of-kind known kind name) (unsaid why.Word more known) _ unlike refl)

pub kind-extended : (known : Known) (kind name more : List ℕ) → (length kind == 0) ≡ false → (length name == 0) ≡ false → (length more == 0) ≡ true → bytes_eq kind (codes "extended") ≡ true → header_outcome known name ≡ kind_by known kind name more
kind-extended known kind name more some named none so =
    past-name known kind name more _ some named
    (pick (bytes_eq kind (codes "extended")) (header_outcome known name) (other_kind known name) so ∙ pick (length more == 0) (of-kind known kind name) (unsaid why.Word more known) none)

pub kind-other : (known : Known) (kind name more : List ℕ) → (length kind == 0) ≡ false → (length name == 0) ≡ false → (length more == 0) ≡ true → bytes_eq kind (codes "extended") ≡ false → other_kind known name ≡ kind_by known kind name more
kind-other known kind name more some named none unlike =
    past-name known kind name more _ some named
    (skip (bytes_eq kind (codes "extended")) (header_outcome known name) (other_kind known name) _ unlike refl ∙ pick (length more == 0) (of-kind known kind name) (unsaid why.Word more known) none)

-- ---- behind `ipv6` or `mac`

abbrev pub other-by : Known → List ℕ → List ℕ → WordsAt → Outcome
other-by known word next at = cond (bytes_eq next (codes "access-list")) (other_kind known word) (unsaid why.Word word known)

pub other-list : (known : Known) (word next : List ℕ) (at : WordsAt) → bytes_eq next (codes "access-list") ≡ true → other_kind known word ≡ other-by known word next at
other-list known word next at so = pick (bytes_eq next (codes "access-list")) (other_kind known word) (unsaid why.Word word known) so

pub other-unknown : (known : Known) (word next : List ℕ) (at : WordsAt) → bytes_eq next (codes "access-list") ≡ false → unsaid why.Word word known ≡ other-by known word next at
other-unknown known word next at unlike = skip (bytes_eq next (codes "access-list")) (other_kind known word) (unsaid why.Word word known) _ unlike refl

-- ---- behind `access-list`

pub numbered-none : (known : Known) (text name : List ℕ) (at : WordsAt) → (length name == 0) ≡ true → unsaid why.Value (codes "access-list") known ≡ numbered_by known text name at
numbered-none known text name at so = pick (length name == 0) (unsaid why.Value (codes "access-list") known) (numbered_as known text name at (choice_of known name)) so

pub numbered-of : (known : Known) (text name : List ℕ) (at : WordsAt) (which : Choice) → (length name == 0) ≡ false → which ≡ choice_of known name → numbered_as known text name at which ≡ numbered_by known text name at
numbered-of known text name at which unlike is =
    skip (length name == 0) (unsaid why.Value (codes "access-list") known) (numbered_as known text name at (choice_of known name)) _ unlike (ap (numbered_as known text name at) is)

-- an entry of the list whose name stands in its line
pub named-said : (known : Known) (text name : List ℕ) (at : WordsAt) (answer : Told) (bytes : List ℕ) (mid new : Known) → answer ≡ told.Said → IsOutcome (entry_outcome known text at) known answer bytes mid → new ≡ entered name mid
    → IsOutcome (numbered_as known text name at choice.Chosen) known told.Said bytes new
named-said known text name at told.Said bytes mid new is (told_is, mid_is) new_is = (told_is, new_is ∙ ap (entered name) mid_is)
named-said known text name at told.Unsaid bytes mid new is by new_is = absurd (cc)

pub named-unsaid : (known : Known) (text name : List ℕ) (at : WordsAt) (answer : Told) (bytes : List ℕ) (new : Known) → answer ≡ told.Unsaid → IsOutcome (entry_outcome known text at) known answer bytes new
    → IsOutcome (numbered_as known text name at choice.Chosen) known told.Unsaid bytes new
named-unsaid known text name at told.Unsaid bytes new is by = by
named-unsaid known text name at told.Said bytes new is by = absurd (cc)

-- ---- an entry

-- by where it stands
pub place-inside : (known : Known) (text : List ℕ) (at : WordsAt) → at ≡ at_text text → place.Inside ≡ known.place → entry_outcome known text at ≡ place_outcome known text known.place
place-inside known text at at_is is = ap (entry_outcome known text) at_is ∙ ap (place_outcome known text) is

pub place-outside : (known : Known) (text word : List ℕ) (at : WordsAt) → at ≡ at_text text → word ≡ first_of at.words → place.Outside ≡ known.place → unsaid why.NoList word known ≡ place_outcome known text known.place
place-outside known text word at at_is word_is is =
    ap (λ w. unsaid why.NoList w known) (word_is ∙ ap (λ (a : WordsAt). first_of a.words) at_is) ∙ ap (place_outcome known text) is

-- by its number, which may be missing
pub entry-number : (known : Known) (text seen word : List ℕ) (at behind : WordsAt) → seen ≡ first_of at.words → starts_number seen ≡ true → word ≡ first_of at.words → behind ≡ behind_word at
    → numbered_entry known text word behind ≡ entry_outcome known text at
entry-number known text seen word at behind seen_is so word_is behind_is =
    by-next (numbered_entry known text) at behind word (numbered_entry known text word behind) word_is behind_is refl
    ∙ pick (starts_number (first_of at.words)) (numbered_entry known text (first_of at.words) (behind_word at)) (numbered_entry known text [] at) (ap starts_number (sym seen_is) ∙ so)

pub entry-plain : (known : Known) (text seen : List ℕ) (at : WordsAt) → seen ≡ first_of at.words → starts_number seen ≡ false → numbered_entry known text [] at ≡ entry_outcome known text at
entry-plain known text seen at seen_is unlike =
    skip (starts_number (first_of at.words)) (numbered_entry known text (first_of at.words) (behind_word at)) (numbered_entry known text [] at) _ (ap starts_number (sym seen_is) ∙ unlike) refl

-- a remark
pub entry-remark : (known : Known) (text word seen : List ℕ) (at : WordsAt) → seen ≡ first_of at.words → bytes_eq seen (codes "remark") ≡ true → said (remark_text text) known ≡ numbered_entry known text word at
entry-remark known text word seen at seen_is so =
    pick (bytes_eq (first_of at.words) (codes "remark")) (said (remark_text text) known) (read_outcome known word (entry_at at)) (ap (λ w. bytes_eq w (codes "remark")) (sym seen_is) ∙ so)

-- or an entry that was read
entry-read-by : (known : Known) (text word seen : List ℕ) (at behind : WordsAt) (entry : EntryRead) (o : Outcome) → seen ≡ first_of at.words → bytes_eq seen (codes "remark") ≡ false → taken entry behind ≡ entry_at at
    → o ≡ rule_outcome known word entry behind behind.fault → o ≡ numbered_entry known text word at
entry-read-by known text word seen at behind entry o seen_is unlike read is =
    skip (bytes_eq (first_of at.words) (codes "remark")) (said (remark_text text) known) (read_outcome known word (entry_at at)) o (ap (λ w. bytes_eq w (codes "remark")) (sym seen_is) ∙ unlike)
    (is ∙ ap (read_outcome known word) read)

pub entry-whole : (known : Known) (text word seen : List ℕ) (at behind : WordsAt) (entry : EntryRead) → seen ≡ first_of at.words → bytes_eq seen (codes "remark") ≡ false → taken entry behind ≡ entry_at at → None ≡ behind.fault
    → placed known word entry (number_of known.counted known.last word) ≡ numbered_entry known text word at
entry-whole known text word seen at behind entry seen_is unlike read none =
    entry-read-by known text word seen at behind entry _ seen_is unlike read (ap (rule_outcome known word entry behind) none)

pub entry-fault : (known : Known) (text word seen bad : List ℕ) (at behind : WordsAt) (entry : EntryRead) (reason : Why) → seen ≡ first_of at.words → bytes_eq seen (codes "remark") ≡ false → taken entry behind ≡ entry_at at
    → Some reason ≡ behind.fault → bad ≡ behind.word → unsaid reason bad known ≡ numbered_entry known text word at
entry-fault known text word seen bad at behind entry reason seen_is unlike read some bad_is =
    entry-read-by known text word seen at behind entry _ seen_is unlike read (ap (λ w. unsaid reason w known) bad_is ∙ ap (rule_outcome known word entry behind) some)

-- its number
pub placed-by : (known : Known) (word : List ℕ) (entry : EntryRead) (counted : Bool) (last : ℕ) (number : Result ℕ Why) → counted ≡ known.counted → last ≡ known.last → number ≡ number_of counted last word
    → placed known word entry number ≡ placed known word entry (number_of known.counted known.last word)
placed-by known word entry counted last number counted_is last_is is =
    ap (placed known word entry) (is ∙ ap (λ c. number_of c last word) counted_is ∙ ap (λ n. number_of known.counted n word) last_is)

-- as many numbers as it takes
pub placed-fits : (known : Known) (word : List ℕ) (entry : EntryRead) (counted : Bool) (number count : ℕ) → counted ≡ (length word == 0) → count ≡ count_of entry → number + count ≤ 4294967295
    → said (entry_text number entry) (record known { counted = counted; last = number + count - 1 }) ≡ placed known word entry (Ok number)
placed-fits known word entry counted number count counted_is count_is fits =
    ap (λ c. said (entry_text number entry) (record known { counted = c; last = number + count - 1 })) counted_is
    ∙ ap (λ n. said (entry_text number entry) (record known { counted = length word == 0; last = number + n - 1 })) count_is
    ∙ pick (nat_le (number + count_of entry) 4294967295) (said (entry_text number entry) (record known { counted = length word == 0; last = number + count_of entry - 1 })) (unsaid why.Number word known)
    (ap (λ n. nat_le (number + n) 4294967295) (sym count_is) ∙ le-leb (number + count) 4294967295 fits)

fits-is : (r : Bool) (a b : ℕ) → (r ≡ true) ↔ (a ≤ b) → r ≡ nat_le a b
fits-is r a b exact = same_from_decides r (nat_le a b) exact (leb-true a b, le-leb a b)

none-over : (n bound : ℕ) → bound < n → nat_le n bound ≡ false
none-over n bound over = sym (fits-is false n bound ((λ e. absurd (cc)), (λ fits. absurd (omega (arith, over, fits)))))

pub placed-over : (known : Known) (word : List ℕ) (entry : EntryRead) (number count : ℕ) → count ≡ count_of entry → 4294967295 < number + count → unsaid why.Number word known ≡ placed known word entry (Ok number)
placed-over known word entry number count count_is over =
    skip (nat_le (number + count_of entry) 4294967295) (said (entry_text number entry) (record known { counted = length word == 0; last = number + count_of entry - 1 })) (unsaid why.Number word known) _
    (ap (λ n. nat_le (number + n) 4294967295) (sym count_is) ∙ none-over (number + count) 4294967295 over) refl

-- ---- what the format says of it

pub outcome-told : {E : Type 0} → (r : Result Told E) (known : Known) (text bytes : List ℕ) (new : Known) → IfOk r (λ answer. IsOutcome (line_outcome known text) known answer bytes new) → IfOk r (λ answer. IsTold answer bytes (cisco_told known text))
outcome-told (Ok told.Said) known text bytes new by = by.0
outcome-told (Ok told.Unsaid) known text bytes new by = by.0
outcome-told (Err e) known text bytes new by = tt

pub outcome-said : {E : Type 0} → (r : Result Told E) (known : Known) (text bytes : List ℕ) (new : Known) → IfOk r (λ answer. IsOutcome (line_outcome known text) known answer bytes new)
    → IfOk r (λ answer. answer ≡ told.Said → new ≡ cisco_after known text)
outcome-said (Ok told.Said) known text bytes new by = λ is. by.1
outcome-said (Ok told.Unsaid) known text bytes new by = λ is. absurd (cc)
outcome-said (Err e) known text bytes new by = tt

pub outcome-unsaid : {E : Type 0} → (r : Result Told E) (known : Known) (text bytes : List ℕ) (new : Known) → IfOk r (λ answer. IsOutcome (line_outcome known text) known answer bytes new)
    → IfOk r (λ answer. answer ≡ told.Unsaid → new ≡ known)
outcome-unsaid (Ok told.Said) known text bytes new by = λ is. absurd (cc)
outcome-unsaid (Ok told.Unsaid) known text bytes new by = λ is. by.1
outcome-unsaid (Err e) known text bytes new by = tt
