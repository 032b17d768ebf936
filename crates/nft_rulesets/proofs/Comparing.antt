-- What the tests of a comparison hold.
use Rattle.std.proofs.Common.{◌≡◌, ℕ, zero, suc, ◌+◌, ◌-◌, ◌/◌, ◌^◌, ◌<◌, ◌≤◌, Bool, true, false, not, ◌==◌, ◌&&◌, ◌||◌, nat_le, nat_lt, cond, Option, Some, None, Result, Ok, Err, List, [], ◌∷◌, ◌++◌, map, refl, sym, ap, ◌∙◌, arith, eqb-true, eq-eqb, le-leb}
use Rattle.std.specs.List.{range_with_len}
use Rattle.std.proofs.lemmas.Bool.{and_from, and_parts, leb-true}
use Rattle.std.proofs.lemmas.Bool.Decides.{nat_tests}
use Rattle.std.proofs.lemmas.List.Folds.{list_any-append}
use Rattle.std.proofs.lemmas.Nat.{shr_below}
use Rattle.rule_model.specs.declared.Key.{Key}
use Rattle.rule_model.specs.AddressBlock.{AddressBlock, any_address, block_holds}
use Rattle.rule_model.specs.Key.{IsKey}
use Rattle.rule_model.specs.PortRange.{any_port, range_holds}
use Rattle.rule_model.specs.Rule.{proto_holds}
use Rattle.written_chains.specs.declared.meets.Tests.{Tests}
use Rattle.written_chains.specs.declared.writing.ChainRule.{ChainRule}
use Rattle.written_chains.specs.declared.writing.Target.TheVariants.{Decides, Jumps}
use Rattle.written_chains.specs.Laws.{ListsAnswerAsWalks, list_verdict}
use Rattle.written_chains.specs.Meets.{meet, tests_hold}
use Rattle.written_chains.specs.Walks.{or_else, or_policy, verdict}
use Rattle.written_chains.specs.Written.{under, within, written_out}
use Rattle.nft_rulesets.specs.declared.fields.Field.{Field}
use Rattle.nft_rulesets.specs.declared.fields.Field.TheVariants as field
use Rattle.nft_rulesets.specs.declared.spans.Span.{Span}
use Rattle.nft_rulesets.specs.declared.why.Why.{Why}
use Rattle.nft_rulesets.specs.declared.why.Why.TheVariants as why
use Rattle.nft_rulesets.specs.Laws.{ComparisonsHoldWhatTheySay, any_holds, in_spans, is_of_field, number_of, same_proto, span_holds}
use Rattle.nft_rulesets.specs.Matches.{of_same}
use Rattle.nft_rulesets.specs.Spans.{blocks}
use Rattle.nft_rulesets.specs.Products.{all_have_ports, all_tests, are_few, before_tests, compared_spans, dport_test, is_right, meets_all, meets_one, met_tests, met_within, most_of, product, proto_test, proto_tests, receiver_test, source_test, span_tests, sport_test, wants_proto}
use Rattle.nft_rulesets.proofs.Holding.{and-or, and-under, and-whole, blocks-are, bool-same, in_blocks, or-false, outside-is}

-- ---- tests that meet: by the list of a rule that jumps to another one

abbrev pub found_hold : Option Tests → Key → Bool
found_hold None key = false
found_hold (Some tests) key = tests_hold tests key

abbrev two_rules : Tests → Tests → List ChainRule
two_rules a b = record { chain = 0; tests = a; target = Jumps 1 } ∷ record { chain = 1; tests = b; target = Decides true } ∷ []

within-one : (met : Option Tests) → within 1 ((under met (Some true) [] ++ []) ++ []) ≡ Ok (under met (Some true) [])
within-one None = refl
within-one (Some tests) = refl

written-two : (a b : Tests) → written_out 1 (two_rules a b) 2 0 ≡ Ok (under (meet a b) (Some true) [])
written-two a b = within-one (meet a b)

same-cond : (b : Bool) → cond b true false ≡ b
same-cond true = refl
same-cond false = refl

listed : (met : Option Tests) (key : Key) → list_verdict false (under met (Some true) []) key ≡ found_hold met key
listed None key = refl
listed (Some tests) key = same-cond (tests_hold tests key)

walked-by : (x y : Bool) → or_policy false (cond x (or_else (cond y (Some true) None) None) None) ≡ (x && y)
walked-by true true = refl
walked-by true false = refl
walked-by false y = refl

walked : (a b : Tests) (key : Key) → verdict (two_rules a b) 2 0 false key ≡ (tests_hold a key && tests_hold b key)
walked a b key = walked-by (tests_hold a key) (tests_hold b key)

pub meet-hold : ListsAnswerAsWalks → (a b : Tests) (key : Key) → found_hold (meet a b) key ≡ (tests_hold a key && tests_hold b key)
meet-hold law a b key =
    sym (listed (meet a b) key)
    ∙ law 1 2 0 (two_rules a b) false (under (meet a b) (Some true) []) key (written-two a b)
    ∙ walked a b key

-- ---- several

pub both-any : (first second : List Tests) (key : Key) → any_holds (first ++ second) key ≡ (any_holds first key || any_holds second key)
both-any first second key = list_any-append (λ (one : Tests). tests_hold one key) first second

and-none : (b : Bool) → false ≡ (b && false)
and-none true = refl
and-none false = refl

met-any : (met : Option Tests) (key : Key) → any_holds (met_tests met) key ≡ found_hold met key
met-any None key = refl
met-any (Some tests) key = or-false (tests_hold tests key)

one-meets : ListsAnswerAsWalks → (tests : Tests) (others : List Tests) (key : Key) → any_holds (meets_one tests others) key ≡ (tests_hold tests key && any_holds others key)
one-meets law tests [] key = and-none (tests_hold tests key)
one-meets law tests (other ∷ others) key =
    both-any (met_tests (meet tests other)) (meets_one tests others) key
    ∙ ap (λ b. b || any_holds (meets_one tests others) key) (met-any (meet tests other) key ∙ meet-hold law tests other key)
    ∙ ap (λ b. (tests_hold tests key && tests_hold other key) || b) (one-meets law tests others key)
    ∙ and-under (tests_hold tests key) (tests_hold other key) (any_holds others key) (tests_hold other key || any_holds others key) refl

all-meet : ListsAnswerAsWalks → (tests others : List Tests) (key : Key) → any_holds (meets_all tests others) key ≡ (any_holds tests key && any_holds others key)
all-meet law [] others key = refl
all-meet law (one ∷ tests) others key =
    both-any (meets_one one others) (meets_all tests others) key
    ∙ ap (λ b. b || any_holds (meets_all tests others) key) (one-meets law one others key)
    ∙ ap (λ b. (tests_hold one key && any_holds others key) || b) (all-meet law tests others key)
    ∙ and-or (tests_hold one key) (any_holds tests key) (any_holds others key)

-- ---- the tests of one span

five : (a b p s d a' b' p' s' d' : Bool) → a ≡ a' → b ≡ b' → p ≡ p' → s ≡ s' → d ≡ d' → ((((a && b) && p) && s) && d) ≡ ((((a' && b') && p') && s') && d')
five a b p s d a' b' p' s' d' ea eb ep es ed =
    ap (λ x. (((x && b) && p) && s) && d) ea
    ∙ ap (λ x. (((a' && x) && p) && s) && d) eb
    ∙ ap (λ x. (((a' && b') && x) && s) && d) ep
    ∙ ap (λ x. (((a' && b') && p') && x) && d) es
    ∙ ap (λ x. (((a' && b') && p') && s') && x) ed

any-address : (x : ℕ) → x < 2 ^ 128 → block_holds any_address x ≡ true
any-address x below = let small : x / 2 ^ 128 < 2 ^ 0 = shr_below x 0 128 below in eq-eqb (x / 2 ^ 128) 0 (none (x / 2 ^ 128) small)
  where
    none : (n : ℕ) → n < 1 → n ≡ 0
    none n small = omega arith

any-ports : (x : ℕ) → x < 2 ^ 16 → range_holds any_port x ≡ true
any-ports x below = and_from (nat_le 0 x) (nat_le x 65535) (le-leb 0 x (omega arith)) (le-leb x 65535 (omega arith))

first-alone : (a : Bool) → ((((a && true) && true) && true) && true) ≡ a
first-alone true = refl
first-alone false = refl

source-one : (block : AddressBlock) (key : Key) → IsKey key → tests_hold (source_test block) key ≡ block_holds block key.src
source-one block key is =
    five (block_holds block key.src) (block_holds any_address key.dst) true (range_holds any_port key.sport) (range_holds any_port key.dport) (block_holds block key.src) true true true true
    refl (any-address key.dst is.dst) refl (any-ports key.sport is.sport) (any-ports key.dport is.dport)
    ∙ first-alone (block_holds block key.src)

receiver-one : (block : AddressBlock) (key : Key) → IsKey key → tests_hold (receiver_test block) key ≡ block_holds block key.dst
receiver-one block key is =
    five (block_holds any_address key.src) (block_holds block key.dst) true (range_holds any_port key.sport) (range_holds any_port key.dport) true (block_holds block key.dst) true true true
    (any-address key.src is.src) refl refl (any-ports key.sport is.sport) (any-ports key.dport is.dport)
    ∙ three (block_holds block key.dst)
  where
    three : (b : Bool) → ((((true && b) && true) && true) && true) ≡ b
    three true = refl
    three false = refl

eqb-turned : (a b : ℕ) → (a == b) ≡ (b == a)
eqb-turned a b = bool-same (a == b) (b == a) (λ e. eq-eqb b a (sym (eqb-true a b e))) (λ e. eq-eqb a b (sym (eqb-true b a e)))

proto-one : (proto : ℕ) (key : Key) → IsKey key → tests_hold (proto_test proto) key ≡ (proto == key.proto)
proto-one proto key is =
    five (block_holds any_address key.src) (block_holds any_address key.dst) (proto == key.proto) (range_holds any_port key.sport) (range_holds any_port key.dport) true true (proto == key.proto) true true
    (any-address key.src is.src) (any-address key.dst is.dst) refl (any-ports key.sport is.sport) (any-ports key.dport is.dport)
    ∙ two (proto == key.proto)
  where
    two : (b : Bool) → ((((true && true) && b) && true) && true) ≡ b
    two true = refl
    two false = refl

same-proto : (proto : Option ℕ) (key : Key) → proto_holds proto key.proto ≡ same_proto proto key
same-proto None key = refl
same-proto (Some proto) key = eqb-turned proto key.proto

sport-one : (proto : Option ℕ) (span : Span) (key : Key) → IsKey key → tests_hold (sport_test proto span) key ≡ (same_proto proto key && span_holds span key.sport)
sport-one proto span key is =
    five (block_holds any_address key.src) (block_holds any_address key.dst) (proto_holds proto key.proto) (span_holds span key.sport) (range_holds any_port key.dport) true true (same_proto proto key) (span_holds span key.sport) true
    (any-address key.src is.src) (any-address key.dst is.dst) (same-proto proto key) refl (any-ports key.dport is.dport)
    ∙ sym (and-whole (same_proto proto key && span_holds span key.sport))

dport-one : (proto : Option ℕ) (span : Span) (key : Key) → IsKey key → tests_hold (dport_test proto span) key ≡ (same_proto proto key && span_holds span key.dport)
dport-one proto span key is =
    five (block_holds any_address key.src) (block_holds any_address key.dst) (proto_holds proto key.proto) (range_holds any_port key.sport) (span_holds span key.dport) true true (same_proto proto key) true (span_holds span key.dport)
    (any-address key.src is.src) (any-address key.dst is.dst) (same-proto proto key) (any-ports key.sport is.sport) refl
    ∙ ap (λ b. b && span_holds span key.dport) (sym (and-whole (same_proto proto key)))

-- ---- those of a span's numbers

sources-any : (found : List AddressBlock) (key : Key) → IsKey key → any_holds (map source_test found) key ≡ in_blocks found key.src
sources-any [] key is = refl
sources-any (block ∷ found) key is =
    ap (λ b. b || any_holds (map source_test found) key) (source-one block key is)
    ∙ ap (λ b. block_holds block key.src || b) (sources-any found key is)

receivers-any : (found : List AddressBlock) (key : Key) → IsKey key → any_holds (map receiver_test found) key ≡ in_blocks found key.dst
receivers-any [] key is = refl
receivers-any (block ∷ found) key is =
    ap (λ b. b || any_holds (map receiver_test found) key) (receiver-one block key is)
    ∙ ap (λ b. block_holds block key.dst || b) (receivers-any found key is)

protos-any : (first count : ℕ) (key : Key) → IsKey key → any_holds (map proto_test (range_with_len first count)) key ≡ (nat_le first key.proto && nat_lt key.proto (first + count))
protos-any first zero key is = no-protos first key.proto
  where
    no-protos : (lo x : ℕ) → false ≡ (nat_le lo x && nat_lt x (lo + 0))
    no-protos lo x = grind (arith, nat_tests)
protos-any first (suc count) key is =
    ap (λ b. b || any_holds (map proto_test (range_with_len (first + 1) count)) key) (proto-one first key is)
    ∙ ap (λ b. (first == key.proto) || b) (protos-any (first + 1) count key is)
    ∙ more first count key.proto
  where
    more : (lo n x : ℕ) → ((lo == x) || (nat_le (lo + 1) x && nat_lt x (lo + 1 + n))) ≡ (nat_le lo x && nat_lt x (lo + suc n))
    more lo n x = grind (arith, nat_tests)

protos-span : (span : Span) (key : Key) → IsKey key → is_right 255 span ≡ true → any_holds (proto_tests span) key ≡ span_holds span key.proto
protos-span span key is right =
    let order = leb-true span.lo span.hi (and_parts (nat_le span.lo span.hi) (nat_le span.hi 255) right).0 in
    protos-any span.lo (span.hi + 1 - span.lo) key is ∙ up-to span.lo span.hi key.proto order
  where
    up-to : (lo hi x : ℕ) → lo ≤ hi → (nat_le lo x && nat_lt x (lo + (hi + 1 - lo))) ≡ (nat_le lo x && nat_le x hi)
    up-to lo hi x order = grind (arith, nat_tests)

-- ---- by a field

tests-same : (a b : List Tests) → ◌≡◌ {A = Option (List Tests)} (Some a) (Some b) → a ≡ b
tests-same a b e = cc

number-same : (a b : ℕ) → ◌≡◌ {A = Option ℕ} (Some a) (Some b) → a ≡ b
number-same a b e = cc

if-right : (test : Bool) (list tests : List Tests) → cond test (Some list) None ≡ Some tests → (test ≡ true) × (list ≡ tests)
if-right true list tests e = (refl, tests-same list tests e)
if-right false list tests e = absurd (let bad : ◌≡◌ {A = Option (List Tests)} None (Some tests) = e in cc)

span-any : (tested : Field) (span : Span) (tests : List Tests) (key : Key) (number : ℕ) → IsKey key → number_of tested key ≡ Some number → span_tests tested span ≡ Some tests
    → any_holds tests key ≡ (is_of_field tested key && span_holds span number)
span-any field.Source span tests key number is has made =
    ap (λ l. any_holds l key) (sym (tests-same (map source_test (blocks 128 0 span)) tests made))
    ∙ sources-any (blocks 128 0 span) key is
    ∙ blocks-are span key.src is.src
    ∙ ap (λ n. span_holds span n) (number-same key.src number has)
span-any field.Receiver span tests key number is has made =
    ap (λ l. any_holds l key) (sym (tests-same (map receiver_test (blocks 128 0 span)) tests made))
    ∙ receivers-any (blocks 128 0 span) key is
    ∙ blocks-are span key.dst is.dst
    ∙ ap (λ n. span_holds span n) (number-same key.dst number has)
span-any field.Protocol span tests key number is has made =
    let found = if-right (is_right 255 span) (proto_tests span) tests made in
    ap (λ l. any_holds l key) (sym found.1)
    ∙ protos-span span key is found.0
    ∙ ap (λ n. span_holds span n) (number-same key.proto number has)
span-any (field.SourcePort proto) span tests key number is has made =
    let found = if-right (is_right 65535 span) (sport_test proto span ∷ []) tests made in
    ap (λ l. any_holds l key) (sym found.1)
    ∙ or-false (tests_hold (sport_test proto span) key)
    ∙ sport-one proto span key is
    ∙ ap (λ n. same_proto proto key && span_holds span n) (number-same key.sport number has)
span-any (field.ReceiverPort proto) span tests key number is has made =
    let found = if-right (is_right 65535 span) (dport_test proto span ∷ []) tests made in
    ap (λ l. any_holds l key) (sym found.1)
    ∙ or-false (tests_hold (dport_test proto span) key)
    ∙ dport-one proto span key is
    ∙ ap (λ n. same_proto proto key && span_holds span n) (number-same key.dport number has)
span-any field.Version span tests key number is has made = absurd (let bad : ◌≡◌ {A = Option ℕ} None (Some number) = has in cc)
span-any field.Absent span tests key number is has made = absurd (let bad : ◌≡◌ {A = Option ℕ} None (Some number) = has in cc)

before-parts : (a b : Option (List Tests)) (c : List Tests) → before_tests a b ≡ Some c → (x : List Tests) × (y : List Tests) × (a ≡ Some x) × (b ≡ Some y) × (x ++ y ≡ c)
before-parts None b c e = absurd (let bad : ◌≡◌ {A = Option (List Tests)} None (Some c) = e in cc)
before-parts (Some x) None c e = absurd (let bad : ◌≡◌ {A = Option (List Tests)} None (Some c) = e in cc)
before-parts (Some x) (Some y) c e = (x, y, refl, refl, tests-same (x ++ y) c e)

all-any : (tested : Field) (spans : List Span) (others : List Tests) (key : Key) (number : ℕ) → IsKey key → number_of tested key ≡ Some number → all_tests tested spans ≡ Some others
    → any_holds others key ≡ (is_of_field tested key && in_spans spans number)
all-any tested [] others key number is has made = ap (λ l. any_holds l key) (sym (tests-same [] others made)) ∙ and-none (is_of_field tested key)
all-any tested (span ∷ spans) others key number is has made =
    let parts = before-parts (span_tests tested span) (all_tests tested spans) others made in
    ap (λ l. any_holds l key) (sym parts.4)
    ∙ both-any parts.0 parts.1 key
    ∙ ap (λ b. b || any_holds parts.1 key) (span-any tested span parts.0 key number is has parts.2)
    ∙ ap (λ b. (is_of_field tested key && span_holds span number) || b) (all-any tested spans parts.1 key number is has parts.3)
    ∙ and-under (is_of_field tested key) (span_holds span number) (in_spans spans number) (span_holds span number || in_spans spans number) refl

-- ---- a comparison

pub ok-same : (a b : List Tests) → ◌≡◌ {A = Result (List Tests) Why} (Ok a) (Ok b) → a ≡ b
ok-same a b e = cc

if-few : (few : Bool) (met both : List Tests) → cond few (Ok met) (Err why.Many) ≡ Ok both → met ≡ both
if-few true met both e = ok-same met both e
if-few false met both e = absurd (let bad : ◌≡◌ {A = Result (List Tests) Why} (Err why.Many) (Ok both) = e in cc)

met-parts : (refused : Bool) (tests both : List Tests) (o : Option (List Tests)) → cond refused (Err why.Ports) (met_within tests o) ≡ Ok both → (others : List Tests) × (o ≡ Some others) × (meets_all tests others ≡ both)
met-parts true tests both o e = absurd (let bad : ◌≡◌ {A = Result (List Tests) Why} (Err why.Ports) (Ok both) = e in cc)
met-parts false tests both None e = absurd (let bad : ◌≡◌ {A = Result (List Tests) Why} (Err why.Values) (Ok both) = e in cc)
met-parts false tests both (Some others) e = (others, refl, if-few (are_few tests others) (meets_all tests others) both e)

pub product-any : ListsAnswerAsWalks → (tests both : List Tests) (tested : Field) (spans : List Span) (key : Key) (number : ℕ) → IsKey key → number_of tested key ≡ Some number → product tests tested spans ≡ Ok both
    → any_holds both key ≡ (any_holds tests key && (is_of_field tested key && in_spans spans number))
product-any law tests both tested spans key number is has made =
    let found = met-parts (wants_proto tested && not (all_have_ports tests)) tests both (all_tests tested spans) made in
    ap (λ l. any_holds l key) (sym found.2)
    ∙ all-meet law tests found.0 key
    ∙ ap (λ b. any_holds tests key && b) (all-any tested spans found.0 key number is has found.1)

-- a field's number is up to its most one
up-to-most : (tested : Field) (key : Key) (number : ℕ) → IsKey key → number_of tested key ≡ Some number → nat_le number (most_of tested) ≡ true
up-to-most field.Source key number is has = let same = number-same key.src number has in let below = is.src in le-leb number (2 ^ 128 - 1) (omega arith)
up-to-most field.Receiver key number is has = let same = number-same key.dst number has in let below = is.dst in le-leb number (2 ^ 128 - 1) (omega arith)
up-to-most field.Protocol key number is has = let same = number-same key.proto number has in let below = is.proto in le-leb number 255 (omega arith)
up-to-most (field.SourcePort proto) key number is has = let same = number-same key.sport number has in let below = is.sport in le-leb number 65535 (omega arith)
up-to-most (field.ReceiverPort proto) key number is has = let same = number-same key.dport number has in let below = is.dport in le-leb number 65535 (omega arith)
up-to-most field.Version key number is has = absurd (let bad : ◌≡◌ {A = Option ℕ} None (Some number) = has in cc)
up-to-most field.Absent key number is has = absurd (let bad : ◌≡◌ {A = Option ℕ} None (Some number) = has in cc)

same-kept : (s : Bool) → s ≡ of_same s false
same-kept true = refl
same-kept false = refl

same-turned : (s : Bool) → not s ≡ of_same s true
same-turned true = refl
same-turned false = refl

spans-compared : (tested : Field) (negated : Bool) (spans : List Span) (number : ℕ) → nat_le number (most_of tested) ≡ true → in_spans (compared_spans tested negated spans) number ≡ of_same (in_spans spans number) negated
spans-compared tested false spans number fits = same-kept (in_spans spans number)
spans-compared tested true spans number fits =
    outside-is (most_of tested) spans number
    ∙ ap (λ b. b && not (in_spans spans number)) fits
    ∙ same-turned (in_spans spans number)

pub comparisons-hold : ListsAnswerAsWalks → ComparisonsHoldWhatTheySay
comparisons-hold law tests both tested negated spans key number is has made =
    product-any law tests both tested (compared_spans tested negated spans) key number is has made
    ∙ ap (λ b. any_holds tests key && (is_of_field tested key && b)) (spans-compared tested negated spans number (up-to-most tested key number is has))
