-- A line of a trace, as its JSON text, is no longer than a line of the input may be, and has no byte that is at fault there.
use Rattle.std.proofs.Common.{◌≡◌, ℕ, suc, ◌+◌, ◌*◌, ◌%◌, ◌^◌, ◌<◌, ◌≤◌, Bool, true, false, ◌&&◌, IsTrue, List, [], ◌∷◌, ◌++◌, length, refl, sym, subst, arith, cond, length-append, leb-true}
use Rattle.std.specs.Prelude.{codes, decimal, nat_le}
use Rattle.std.specs.List.{AllByRecursion}
use Rattle.std.proofs.lemmas.Bool.Decides.{nat_tests}
use Rattle.std.proofs.lemmas.Fmt.{decimal_by_steps, length-decimal-le}
use Rattle.json.specs.Print.{quoted as json_quoted}
use Rattle.json.proofs.OnLiterals.{json_on_literals}
use Rattle.serde_json.specs.Data.{Data, null, boolean, number, string, array, object, unsigned, negative, float, Items, no_items, item, Members, no_members, member}
use Rattle.serde_json.specs.Written.{compact_text, comma_if, items_text, members_text}
use Rattle.slot_order.proofs.Lists.{all_append}
use Rattle.script_lines.specs.Reader.{is_of_line}
use Rattle.rule_model.specs.declared.IpVersion.{IpVersion}
use Rattle.rule_model.specs.declared.IpVersion.TheVariants.{V4, V6}
use Rattle.rule_model.specs.declared.Rule.{Rule}
use Rattle.rule_model.specs.declared.words.Entry.{Entry}
use Rattle.rule_model.specs.declared.Field.{Field}
use Rattle.rule_model.specs.declared.Field.TheVariants.{Src, Dst}
use Rattle.trace_file.specs.declared.TraceLine.{TraceLine}
use Rattle.trace_file.specs.declared.TraceLine.TheVariants.{Head, Commit, Add, Set, Del, Put, Erase, Table, Drain, Done, Refused, End, Fault}
use Rattle.trace_file.specs.Forms.{numeral, field_form, family_name, rank_number, items_form, rank_form, rule_form, entry_form, removed_form, one, two, three, form_of, IsTraceRank, IsTraceRule, IsTraceEntry, IsTraceLineOf}
use Rattle.trace_file.proofs.Written.{IsNumeral, AreNumerals}
use Rattle.trace_file.proofs.TraceText.{numerals_append, rank_small, removed_small, rule_small, entry_small}
use Rattle.json_text.specs.JsonText.{quoted}
use Rattle.json_text.proofs.PlainTexts.{plain_texts}
use Rattle.json_traces.specs.Reported.{IsPlainFault}

-- a byte of a line
abbrev OfLine : ℕ → Type 0
OfLine byte = IsTrue (is_of_line byte)

-- bytes of a line, at most so many
pub record Fits (most : ℕ) (text : List ℕ) : Type 0 where
  pub plain : AllByRecursion OfLine text
  pub short : length text ≤ most

fits_append : (m n : ℕ) (a b : List ℕ) → Fits m a → Fits n b → Fits (m + n) (a ++ b)
fits_append m n a b first second = record {
  plain = all_append OfLine a b first.plain second.plain;
  short = (let size = length-append a b in let x = first.short in let y = second.short in omega arith);
}

fits_byte : (n byte : ℕ) (text : List ℕ) → is_of_line byte ≡ true → Fits n text → Fits (n + 1) (byte ∷ text)
fits_byte n byte text of_line rest = record { plain = (of_line, rest.plain); short = (let x = rest.short in omega arith) }

fits_wider : (m n : ℕ) (text : List ℕ) → m ≤ n → Fits m text → Fits n text
fits_wider m n text less is = record { plain = is.plain; short = (let x = is.short in omega arith) }

-- ---- texts that are known

abbrev pub are_of_line : List ℕ → Bool
are_of_line [] = true
are_of_line (byte ∷ text) = is_of_line byte && are_of_line text

both_true : (a b : Bool) → (a && b) ≡ true → (a ≡ true) × (b ≡ true)
both_true true b is = (refl, is)
both_true false b is = absurd (let wrong : false ≡ true = is in cc)

pub all_of_line : (text : List ℕ) → are_of_line text ≡ true → AllByRecursion OfLine text
all_of_line [] is = tt
all_of_line (byte ∷ text) is = let w = both_true (is_of_line byte) (are_of_line text) is in (w.0, all_of_line text w.1)

tested : (most : ℕ) (text : List ℕ) → are_of_line text ≡ true → nat_le (length text) most ≡ true → Fits most text
tested most text plain short = record { plain = all_of_line text plain; short = leb-true (length text) most short }

-- a text in quotation marks that stands in them as it is
quoted_fits : (most : ℕ) (text : List ℕ) → json_quoted text ≡ quoted text → Fits most text → Fits (most + 2) (json_quoted text)
quoted_fits most text same is =
    subst (Fits (most + 2)) (sym same)
    (fits_wider (most + 1 + 1) (most + 2) (quoted text) (omega arith) (fits_byte (most + 1) 34 (text ++ 34 ∷ []) refl (fits_append most 1 text (34 ∷ []) is (tested 1 (34 ∷ []) refl refl))))

-- ---- numbers

digit_of_line : (k : ℕ) → k < 10 → is_of_line (48 + k) ≡ true
digit_of_line k small = grind (arith, nat_tests)

decimal_plain : (n : ℕ) → n < 2 ^ 64 → AllByRecursion OfLine (decimal n)
decimal_plain = decimal_by_steps (λ n digits. AllByRecursion OfLine digits) (λ n small. (digit_of_line n small, tt))
    (λ n digits more before. all_append OfLine digits ((48 + n % 10) ∷ []) before (digit_of_line (n % 10) (omega arith), tt))

decimal_fits : (n : ℕ) → n < 2 ^ 64 → Fits 20 (decimal n)
decimal_fits n small = record { plain = decimal_plain n small; short = length-decimal-le 20 n (omega arith) (omega arith) small }

-- a number of 40 bits has thirteen digits at most
numeral_fits : (d : Data) → IsNumeral d → Fits 13 (compact_text d)
numeral_fits null is = tested 13 (compact_text null) refl refl
numeral_fits (number (unsigned n)) is = record { plain = decimal_plain n (omega arith); short = length-decimal-le 13 n (omega arith) (omega arith) (omega arith) }
numeral_fits (number (negative z)) is = absurd is
numeral_fits (number (float x)) is = absurd is
numeral_fits (boolean b) is = absurd is
numeral_fits (string s) is = absurd is
numeral_fits (array ds) is = absurd is
numeral_fits (object ms) is = absurd is

-- ---- arrays

comma_fits : (later : Bool) → Fits 1 (comma_if later)
comma_fits true = tested 1 (44 ∷ []) refl refl
comma_fits false = tested 1 [] refl refl

abbrev item_count : Items → ℕ
item_count no_items = 0
item_count (item d ds) = suc (item_count ds)

items_fit : (later : Bool) (ds : Items) → AreNumerals ds → Fits (14 * item_count ds + 1) (items_text later ds)
items_fit later no_items are = tested 1 (93 ∷ []) refl refl
items_fit later (item d ds) are =
    fits_wider (1 + (13 + (14 * item_count ds + 1))) (14 * item_count (item d ds) + 1) (items_text later (item d ds)) (omega arith)
    (fits_append 1 (13 + (14 * item_count ds + 1)) (comma_if later) (compact_text d ++ items_text true ds) (comma_fits later)
    (fits_append 13 (14 * item_count ds + 1) (compact_text d) (items_text true ds) (numeral_fits d are.0) (items_fit true ds are.1)))

array_fits : (most : ℕ) (ds : Items) → AreNumerals ds → 14 * item_count ds + 2 ≤ most → Fits most (compact_text (array ds))
array_fits most ds are room =
    fits_wider (14 * item_count ds + 1 + 1) most (compact_text (array ds)) (omega arith) (fits_byte (14 * item_count ds + 1) 91 (items_text false ds) refl (items_fit false ds are))

-- ---- lines of one member, of two and of three

-- a name as it stands in a line
abbrev IsName : List ℕ → Type 0
IsName key = Fits 10 (json_quoted key)

member_fits : (later : Bool) (value_most rest_most : ℕ) (key : List ℕ) (value : Data) (ms : Members) → IsName key → Fits value_most (compact_text value) → Fits rest_most (members_text true ms)
    → Fits (12 + value_most + rest_most) (members_text later (member key value ms))
member_fits later value_most rest_most key value ms named is rest =
    fits_wider (1 + (10 + (value_most + rest_most + 1))) (12 + value_most + rest_most) (members_text later (member key value ms)) (omega arith)
    (fits_append 1 (10 + (value_most + rest_most + 1)) (comma_if later) (json_quoted key ++ 58 ∷ (compact_text value ++ members_text true ms)) (comma_fits later)
    (fits_append 10 (value_most + rest_most + 1) (json_quoted key) (58 ∷ (compact_text value ++ members_text true ms)) named
    (fits_byte (value_most + rest_most) 58 (compact_text value ++ members_text true ms) refl (fits_append value_most rest_most (compact_text value) (members_text true ms) is rest))))

no_more : Fits 1 (members_text true no_members)
no_more = tested 1 (125 ∷ []) refl refl

object_fits : (most : ℕ) (ms : Members) → Fits most (members_text false ms) → most < 512 → Fits 512 (compact_text (object ms))
object_fits most ms is room = fits_wider (most + 1) 512 (compact_text (object ms)) (omega arith) (fits_byte most 123 (members_text false ms) refl is)

one_fits : (key : List ℕ) (value : Data) → IsName key → Fits 300 (compact_text value) → Fits 512 (compact_text (one key value))
one_fits key value named is =
    object_fits 313 (member key value no_members)
    (fits_wider (12 + 300 + 1) 313 (members_text false (member key value no_members)) (omega arith) (member_fits false 300 1 key value no_members named is no_more)) (omega arith)

two_fit : (first : List ℕ) (value : Data) (second : List ℕ) (other : Data) → IsName first → Fits 400 (compact_text value) → IsName second → Fits 40 (compact_text other)
    → Fits 512 (compact_text (two first value second other))
two_fit first value second other named is named' is' =
    object_fits 465 (member first value (member second other no_members))
    (fits_wider (12 + 400 + (12 + 40 + 1)) 465 (members_text false (member first value (member second other no_members))) (omega arith)
    (member_fits false 400 (12 + 40 + 1) first value (member second other no_members) named is (member_fits true 40 1 second other no_members named' is' no_more))) (omega arith)

three_fit : (first : List ℕ) (value : Data) (second : List ℕ) (other : Data) (third : List ℕ) (last : Data)
    → IsName first → Fits 40 (compact_text value) → IsName second → Fits 40 (compact_text other) → IsName third → Fits 40 (compact_text last)
    → Fits 512 (compact_text (three first value second other third last))
three_fit first value second other third last named is named' is' named'' is'' =
    object_fits 157 (member first value (member second other (member third last no_members)))
    (fits_wider (12 + 40 + (12 + 40 + (12 + 40 + 1))) 157 (members_text false (member first value (member second other (member third last no_members)))) (omega arith)
    (member_fits false 40 (12 + 40 + (12 + 40 + 1)) first value (member second other (member third last no_members)) named is
    (member_fits true 40 (12 + 40 + 1) second other (member third last no_members) named' is' (member_fits true 40 1 third last no_members named'' is'' no_more)))) (omega arith)

-- ---- the names and words of lines

-- a name that stands as it is
name : (key : List ℕ) → json_quoted key ≡ quoted key → are_of_line key ≡ true → nat_le (length key) 8 ≡ true → IsName key
name key same plain short = fits_wider (8 + 2) 10 (json_quoted key) (omega arith) (quoted_fits 8 key same (tested 8 key plain short))

word : (text : List ℕ) → json_quoted text ≡ quoted text → are_of_line text ≡ true → nat_le (length text) 8 ≡ true → Fits 40 (compact_text (string text))
word text same plain short = fits_wider 10 40 (json_quoted text) (omega arith) (name text same plain short)

choice : (second : Bool) (a b : List ℕ) → Fits 40 (compact_text (string a)) → Fits 40 (compact_text (string b)) → Fits 40 (compact_text (string (cond second a b)))
choice true a b first other = first
choice false a b first other = other

table_name : (field : Field) → Fits 40 (compact_text (field_form field))
unfolding json_on_literals
table_name Src = word (codes "src") refl refl refl
table_name Dst = word (codes "dst") refl refl refl

short_number : (n : ℕ) → n < 2 ^ 64 → Fits 40 (compact_text (numeral n))
short_number n small = fits_wider 20 40 (decimal n) (omega arith) (decimal_fits n small)

long_number : (n : ℕ) → n < 2 ^ 64 → Fits 300 (compact_text (numeral n))
long_number n small = fits_wider 20 300 (decimal n) (omega arith) (decimal_fits n small)

-- the name of a family
family_fits : (version : IpVersion) (acl : Bool) → Fits 40 (compact_text (string (family_name version acl)))
unfolding json_on_literals
family_fits V4 acl = choice acl (codes "acl") (codes "route") (word (codes "acl") refl refl refl) (word (codes "route") refl refl refl)
family_fits V6 acl = choice acl (codes "acl6") (codes "route6") (word (codes "acl6") refl refl refl) (word (codes "route6") refl refl refl)

-- of IPv6 a rule has 21 values, a change 6, a rank 5 and an entry 28
rule_fits : (version : IpVersion) (rule : Rule) → IsTraceRule version rule → Fits 300 (compact_text (array (items_form (rule_form version rule))))
rule_fits V4 rule is = array_fits 300 (items_form (rule_form V4 rule)) (rule_small V4 rule is) (omega arith)
rule_fits V6 rule is = array_fits 300 (items_form (rule_form V6 rule)) (rule_small V6 rule is) (omega arith)

change_fits : (version : IpVersion) (priority answer : ℕ) → IsTraceRank version priority → answer < 2 ^ 32
    → Fits 300 (compact_text (array (items_form (rank_form version priority ++ numeral answer ∷ []))))
change_fits V4 priority answer is small = array_fits 300 (items_form (rank_form V4 priority ++ numeral answer ∷ [])) (numerals_append (rank_form V4 priority) (numeral answer ∷ []) (rank_small V4 priority is) (omega arith, tt)) (omega arith)
change_fits V6 priority answer is small = array_fits 300 (items_form (rank_form V6 priority ++ numeral answer ∷ [])) (numerals_append (rank_form V6 priority) (numeral answer ∷ []) (rank_small V6 priority is) (omega arith, tt)) (omega arith)

removed_fits : (version : IpVersion) (priority : ℕ) → IsTraceRank version priority → Fits 300 (compact_text (removed_form version priority))
removed_fits V4 priority is = long_number (rank_number priority) (removed_small V4 priority is)
removed_fits V6 priority is = array_fits 300 (items_form (rank_form V6 priority)) (rank_small V6 priority is) (omega arith)

entry_fits : (version : IpVersion) (entry : Entry) → IsTraceEntry version entry → Fits 400 (compact_text (array (items_form (entry_form version entry))))
entry_fits V4 entry is = array_fits 400 (items_form (entry_form V4 entry)) (entry_small V4 entry is) (omega arith)
entry_fits V6 entry is = array_fits 400 (items_form (entry_form V6 entry)) (entry_small V6 entry is) (omega arith)

pub line_fits : (version : IpVersion) (fault : List ℕ) (line : TraceLine) → IsPlainFault fault → IsTraceLineOf version line → Fits 512 (compact_text (form_of version fault line))
unfolding json_on_literals
line_fits version fault (Head family acl bits slots) plain is =
    let few : slots < 2 ^ 64 = (let most = is.1 in omega arith) in
    three_fit (codes "family") (string (family_name family acl)) (codes "mode") (string (cond bits (codes "bits") (codes "cover"))) (codes "slots") (numeral slots)
    (name (codes "family") refl refl refl) (family_fits family acl)
    (name (codes "mode") refl refl refl) (choice bits (codes "bits") (codes "cover") (word (codes "bits") refl refl refl) (word (codes "cover") refl refl refl))
    (name (codes "slots") refl refl refl) (short_number slots few)
line_fits version fault (Commit n) plain is = one_fits (codes "commit") (numeral n) (name (codes "commit") refl refl refl) (long_number n (omega arith))
line_fits version fault (Add rule) plain is =
    one_fits (codes "add") (array (items_form (rule_form version rule))) (name (codes "add") refl refl refl) (rule_fits version rule is)
line_fits version fault (Set priority answer) plain is =
    one_fits (codes "set") (array (items_form (rank_form version priority ++ numeral answer ∷ []))) (name (codes "set") refl refl refl) (change_fits version priority answer is.0 is.1)
line_fits version fault (Del priority) plain is = one_fits (codes "del") (removed_form version priority) (name (codes "del") refl refl refl) (removed_fits version priority is)
line_fits version fault (Put slot entry) plain is =
    let at : slot < 2 ^ 64 = (let small = is.0 in omega arith) in
    two_fit (codes "put") (array (items_form (entry_form version entry))) (codes "slot") (numeral slot)
    (name (codes "put") refl refl refl) (entry_fits version entry is.1) (name (codes "slot") refl refl refl) (short_number slot at)
line_fits version fault (Erase slot) plain is = one_fits (codes "erase") (numeral slot) (name (codes "erase") refl refl refl) (long_number slot (omega arith))
line_fits version fault (Table field port bits) plain is =
    let at : port < 2 ^ 64 = (let small = is.0 in omega arith) in
    let fits : bits < 2 ^ 64 = (let small = is.1 in omega arith) in
    three_fit (codes "port") (numeral port) (codes "table") (field_form field) (codes "word") (numeral bits)
    (name (codes "port") refl refl refl) (short_number port at) (name (codes "table") refl refl refl) (table_name field) (name (codes "word") refl refl refl) (short_number bits fits)
line_fits version fault Drain plain is = one_fits (codes "drain") (boolean true) (name (codes "drain") refl refl refl) (tested 300 (compact_text (boolean true)) refl refl)
line_fits version fault (Done n) plain is = one_fits (codes "done") (numeral n) (name (codes "done") refl refl refl) (long_number n (omega arith))
line_fits version fault (Refused n) plain is = one_fits (codes "refused") (numeral n) (name (codes "refused") refl refl refl) (long_number n (omega arith))
line_fits version fault (End writes) plain is = one_fits (codes "end") (numeral writes) (name (codes "end") refl refl refl) (long_number writes is)
line_fits version fault (Fault at) plain is =
    let few : at < 2 ^ 64 = omega arith in
    two_fit (codes "fault") (string fault) (codes "line") (numeral at) (name (codes "fault") refl refl refl)
    (fits_wider (32 + 2) 400 (json_quoted fault) (omega arith) (quoted_fits 32 fault (plain_texts fault plain.plain) (record { plain = plain.bytes; short = plain.short })))
    (name (codes "line") refl refl refl) (short_number at few)
