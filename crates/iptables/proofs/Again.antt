-- A list that comes again, by its own script.
use Rattle.std.proofs.Common.{◌≡◌, ◌<◌, ◌≤◌, ◌+◌, ◌/◌, ◌%◌, ◌^◌, ℕ, suc, Bool, true, false, cond, ◌==◌, ◌&&◌, Option, Some, None, List, [], ◌∷◌, ◌++◌, length, take, drop, refl, sym, ap, ◌∙◌, arith, subst, append_assoc}
use Rattle.std.specs.Prelude.{IfSome, codes, decimal, nat_lt}
use Rattle.rule_model.specs.declared.IpVersion.{IpVersion}
use Rattle.rule_model.specs.declared.IpVersion.TheVariants.{V4, V6}
use Rattle.rule_model.specs.AddressBlock.{AddressBlock, IsAddressBlock}
use Rattle.rule_model.specs.PortRange.{PortRange, IsPortRange}
use Rattle.line_words.specs.Shown.{group_text, groups_of_number, hex_digit, ipv6_text, joined_text, longest_run}
use Rattle.written_chains.specs.declared.meets.Tests.{Tests}
use Rattle.written_chains.specs.declared.writing.Line.{Line}
use Rattle.written_chains.specs.Walks.{or_policy}
use Rattle.kept_numbers.specs.declared.words.OlderLine.{OlderLine}
use Rattle.kept_numbers.specs.Laws.{Rises, numbers_of, words_of}
use Rattle.kept_numbers.specs.Numbered.{numbers_for}
use Rattle.kept_numbers.specs.Older.{older_lines}
use Rattle.kept_numbers.specs.Written.{AreComments, AreLines, AreWords, IsWithinLine, comments_text, numbered_text}
use Rattle.kept_numbers.proofs.Back.{number-within, read-back, within-both, within-test}
use Rattle.kept_numbers.proofs.Lists.{numbers-rise, same-again}
use Rattle.iptables.specs.Again.{AllRight, AreRight, ListsComeAgain}
use Rattle.iptables.specs.Telling.{address_text, anew_note, dotted, line_words, list_words, ports_text, proto_text, side_text, text_by}

-- ---- no line ends within the words of a line

part : (number power : ℕ) → number / power % 256 < 2 ^ 64
part number power = let below : number / power % 256 < 256 = omega arith in omega (arith, below)

dotted-within : (address : ℕ) → IsWithinLine (dotted address)
dotted-within address =
    within-both (decimal (address / 2 ^ 120 % 256)) _ (number-within _ (part address (2 ^ 120)))
    (within-both (codes ".") _ (within-test (codes ".") refl)
    (within-both (decimal (address / 2 ^ 112 % 256)) _ (number-within _ (part address (2 ^ 112)))
    (within-both (codes ".") _ (within-test (codes ".") refl)
    (within-both (decimal (address / 2 ^ 104 % 256)) _ (number-within _ (part address (2 ^ 104)))
    (within-both (codes ".") _ (within-test (codes ".") refl) (number-within _ (part address (2 ^ 96))))))))

-- an address of IPv6
digit-within : (digit : ℕ) (rest : List ℕ) → IsWithinLine rest → IsWithinLine (hex_digit digit ∷ rest)
digit-within digit rest within = by (nat_lt digit 10)
  where
    by : (b : Bool) → IsWithinLine (cond b (digit + 48) (digit + 87) ∷ rest)
    by true = (λ e. omega (arith, e), within)
    by false = (λ e. omega (arith, e), within)

group-within : (group : ℕ) → IsWithinLine (group_text group)
group-within group = by (nat_lt group 16) (nat_lt group 256) (nat_lt group 4096)
  where
    by : (a b c : Bool)
        → IsWithinLine
        (cond a (hex_digit group ∷ [])
        (cond b (hex_digit (group / 16) ∷ hex_digit (group % 16) ∷ [])
        (cond c (hex_digit (group / 256) ∷ hex_digit (group / 16 % 16) ∷ hex_digit (group % 16) ∷ [])
        (hex_digit (group / 4096) ∷ hex_digit (group / 256 % 16) ∷ hex_digit (group / 16 % 16) ∷ hex_digit (group % 16) ∷ []))))
    by true b c = digit-within group [] tt
    by false true c = digit-within (group / 16) (hex_digit (group % 16) ∷ []) (digit-within (group % 16) [] tt)
    by false false true =
        digit-within (group / 256) (hex_digit (group / 16 % 16) ∷ hex_digit (group % 16) ∷ [])
        (digit-within (group / 16 % 16) (hex_digit (group % 16) ∷ []) (digit-within (group % 16) [] tt))
    by false false false =
        digit-within (group / 4096) (hex_digit (group / 256 % 16) ∷ hex_digit (group / 16 % 16) ∷ hex_digit (group % 16) ∷ [])
        (digit-within (group / 256 % 16) (hex_digit (group / 16 % 16) ∷ hex_digit (group % 16) ∷ [])
        (digit-within (group / 16 % 16) (hex_digit (group % 16) ∷ []) (digit-within (group % 16) [] tt)))

groups-within : (groups : List ℕ) → IsWithinLine (joined_text groups)
groups-within [] = tt
groups-within (group ∷ []) = group-within group
groups-within (group ∷ next ∷ groups) = within-both (group_text group) _ (group-within group) (λ e. absurd (cc), groups-within (next ∷ groups))

text-within : (groups : List ℕ) (short : Bool) (front back : ℕ) → IsWithinLine (cond short (joined_text groups) (joined_text (take front groups) ++ 58 ∷ 58 ∷ joined_text (drop back groups)))
text-within groups true front back = groups-within groups
text-within groups false front back =
    within-both (joined_text (take front groups)) (58 ∷ 58 ∷ joined_text (drop back groups)) (groups-within (take front groups))
    (λ e. absurd (cc), (λ e. absurd (cc), groups-within (drop back groups)))

ipv6-within : (address : ℕ) → IsWithinLine (ipv6_text address)
ipv6-within address =
    let groups = groups_of_number address in
    text-within groups (nat_lt (longest_run 0 groups).len 2) (longest_run 0 groups).before ((longest_run 0 groups).before + (longest_run 0 groups).len)

-- the words
address-within : (version : IpVersion) (address : ℕ) → IsWithinLine (address_text version address)
address-within V4 address = dotted-within address
address-within V6 address = ipv6-within address

side-within : (version : IpVersion) (block : AddressBlock) → IsAddressBlock block → IsWithinLine (side_text version block)
side-within version block right = by (block.len == 0)
  where
    by : (b : Bool) → IsWithinLine (cond b (codes "any") (address_text version block.addr ++ (codes "/" ++ decimal block.len)))
    by true = within-test (codes "any") refl
    by false =
        within-both (address_text version block.addr) (codes "/" ++ decimal block.len) (address-within version block.addr)
        (within-both (codes "/") (decimal block.len) (within-test (codes "/") refl) (number-within block.len (let most : block.len ≤ 128 = right.length in omega (arith, most))))

proto-within : (proto : Option ℕ) → IfSome proto (λ number. number < 2 ^ 8) → IsWithinLine (proto_text proto)
proto-within None right = within-test (codes "any") refl
proto-within (Some proto) right = by (proto == 1) (proto == 6) (proto == 17)
  where
    by : (a b c : Bool) → IsWithinLine (cond a (codes "icmp") (cond b (codes "tcp") (cond c (codes "udp") (decimal proto))))
    by true b c = within-test (codes "icmp") refl
    by false true c = within-test (codes "tcp") refl
    by false false true = within-test (codes "udp") refl
    by false false false = number-within proto (omega (arith, right))

ports-within : (range : PortRange) → IsPortRange range → IsWithinLine (ports_text range)
ports-within range right = by ((range.lo == 0) && (range.hi == 65535)) (range.lo == range.hi)
  where
    low : range.lo < 2 ^ 64
    low = let ordered : range.lo ≤ range.hi = right.ordered in let fits : range.hi < 2 ^ 16 = right.fits in omega (arith, ordered, fits)

    by : (a b : Bool) → IsWithinLine (cond a (codes "any") (cond b (decimal range.lo) (decimal range.lo ++ (codes "-" ++ decimal range.hi))))
    by true b = within-test (codes "any") refl
    by false true = number-within range.lo low
    by false false =
        within-both (decimal range.lo) (codes "-" ++ decimal range.hi) (number-within range.lo low)
        (within-both (codes "-") (decimal range.hi) (within-test (codes "-") refl) (number-within range.hi (let fits : range.hi < 2 ^ 16 = right.fits in omega (arith, fits))))

blank-within : (rest : List ℕ) → IsWithinLine rest → IsWithinLine (codes " " ++ rest)
blank-within rest within = within-both (codes " ") rest (within-test (codes " ") refl) within

rest-within : (version : IpVersion) (tests : Tests) → AreRight tests
    → IsWithinLine
    (side_text version tests.src ++ (codes " " ++ (side_text version tests.dst ++ (codes " " ++ (proto_text tests.proto ++ (codes " " ++ (ports_text tests.sport ++ (codes " " ++ ports_text tests.dport))))))))
rest-within version tests right =
    within-both (side_text version tests.src) _ (side-within version tests.src right.src_right)
    (blank-within _
    (within-both (side_text version tests.dst) _ (side-within version tests.dst right.dst_right)
    (blank-within _
    (within-both (proto_text tests.proto) _ (proto-within tests.proto right.proto_right)
    (blank-within _ (within-both (ports_text tests.sport) _ (ports-within tests.sport right.sport_right) (blank-within _ (ports-within tests.dport right.dport_right))))))))

are-words : (version : IpVersion) (permits : Bool) (tests : Tests) → AreRight tests → AreWords (line_words version permits tests)
are-words version true tests right = (refl, within-both (codes "permit ") _ (within-test (codes "permit ") refl) (rest-within version tests right))
are-words version false tests right = (refl, within-both (codes "deny ") _ (within-test (codes "deny ") refl) (rest-within version tests right))

abbrev AllWords : List (List ℕ) → Type 0
AllWords [] = Unit {0}
AllWords (words ∷ lines) = AreWords words × AllWords lines

all-words : (version : IpVersion) (policy : Bool) (last : Tests) (lines : List Line) → AreRight last → AllRight lines → AllWords (list_words version policy last lines)
all-words version policy last [] right all = (are-words version policy last right, tt)
all-words version policy last (line ∷ lines) right all =
    (are-words version (or_policy policy line.action) line.tests all.0, all-words version policy last lines right all.1)

words-many : (version : IpVersion) (policy : Bool) (last : Tests) (lines : List Line) → length (list_words version policy last lines) ≡ length lines + 1
words-many version policy last [] = refl
words-many version policy last (line ∷ lines) =
    ap suc (words-many version policy last lines) ∙ one-more (length lines)
  where
    one-more : (n : ℕ) → suc (n + 1) ≡ suc n + 1
    one-more n = omega arith

-- ---- the lines that are read back

abbrev lines_of : List ℕ → List (List ℕ) → List OlderLine
lines_of [] lines = []
lines_of (number ∷ numbers) [] = []
lines_of (number ∷ numbers) (words ∷ lines) = record { number = number; words = words } ∷ lines_of numbers lines

their-numbers : (numbers : List ℕ) (lines : List (List ℕ)) → length numbers ≡ length lines → numbers_of (lines_of numbers lines) ≡ numbers
their-numbers [] lines same = refl
their-numbers (number ∷ numbers) [] same = absurd (omega (arith, same))
their-numbers (number ∷ numbers) (words ∷ lines) same = ap (λ l. number ∷ l) (their-numbers numbers lines (omega (arith, same)))

their-words : (numbers : List ℕ) (lines : List (List ℕ)) → length numbers ≡ length lines → words_of (lines_of numbers lines) ≡ lines
their-words [] [] same = refl
their-words [] (words ∷ lines) same = absurd (omega (arith, same))
their-words (number ∷ numbers) [] same = absurd (omega (arith, same))
their-words (number ∷ numbers) (words ∷ lines) same = ap (λ l. words ∷ l) (their-words numbers lines (omega (arith, same)))

are-lines : (low : ℕ) (numbers : List ℕ) (lines : List (List ℕ)) → Rises low numbers → AllWords lines → AreLines (lines_of numbers lines)
are-lines low [] lines rises all = tt
are-lines low (number ∷ numbers) [] rises all = tt
are-lines low (number ∷ numbers) (words ∷ lines) rises all =
    let above : low < number = rises.0 in (omega (arith, above), rises.1, all.0, are-lines number numbers lines rises.2 all.1)

-- the comment that all lines are new is one of those before them
abbrev with_note : Bool → List (List ℕ) → List (List ℕ)
with_note anew [] = cond anew (codes "# numbered anew: no number is left between" ∷ []) []
with_note anew (comment ∷ comments) = comment ∷ with_note anew comments

note-are : (anew : Bool) (comments : List (List ℕ)) → AreComments comments → AreComments (with_note anew comments)
note-are true [] are = ((refl, within-test (drop 1 (codes "# numbered anew: no number is left between")) refl), tt)
note-are false [] are = tt
note-are anew (comment ∷ comments) are = (are.0, note-are anew comments are.1)

note-text : (anew : Bool) (comments : List (List ℕ)) (text : List ℕ) → comments_text (with_note anew comments) ++ text ≡ comments_text comments ++ (anew_note anew ++ text)
note-text true [] text = refl
note-text false [] text = refl
note-text anew (comment ∷ comments) text =
    append_assoc comment (codes "\n" ++ comments_text (with_note anew comments)) text
    ∙ ap (λ t. comment ++ (codes "\n" ++ t)) (note-text anew comments text)
    ∙ sym (append_assoc comment (codes "\n" ++ comments_text comments) (anew_note anew ++ text))

pub come-again : ListsComeAgain
come-again version policy last older lines first behind have few right all are_first are_behind =
    let words = list_words version policy last lines in
    let found = numbers_for older words in
    let many : length words ≡ length lines + 1 = words-many version policy last lines in
    let rise = numbers-rise older words have (omega (arith, few, many)) in
    let again = lines_of found.1 words in
    let numbers : numbers_of again ≡ found.1 = their-numbers found.1 words rise.1 in
    let their : words_of again ≡ words = their-words found.1 words rise.1 in
    let rest = comments_text behind ++ codes "commit\n" in
    let list = numbered_text found.1 words in
    let back = read-back (with_note found.0 first) behind again (note-are found.0 first are_first) are_behind (are-lines 0 found.1 words rise.0 (all-words version policy last lines right all)) in
    let same : numbers_for again words ≡ (false, found.1) =
    ap (λ w. numbers_for again w) (sym their) ∙ same-again again (subst (λ (l : List ℕ). Rises 0 l) (sym numbers) rise.0) ∙ ap (λ n. (false, n)) numbers in (
      again,
      ap (λ t. older_lines t)
          (ap (λ t. comments_text first ++ t) (append_assoc (anew_note found.0) list rest) ∙ sym (note-text found.0 first (list ++ rest))
          ∙ ap (λ n. comments_text (with_note found.0 first) ++ (numbered_text n words ++ rest)) (sym numbers)
          ∙ ap (λ w. comments_text (with_note found.0 first) ++ (numbered_text (numbers_of again) w ++ rest)) (sym their))
          ∙ back,
      ap (λ a. text_by words a) same,
    )
