-- Which protocols, ports and interfaces tests hold.
use Rattle.std.proofs.Common.{◌≡◌, ◌<◌, ◌≤◌, ◌+◌, ◌-◌, ◌^◌, ℕ, zero, suc, Bool, true, false, not, ◌==◌, ◌&&◌, ◌||◌, nat_le, nat_lt, cond, List, [], ◌∷◌, refl, sym, ap, ◌∙◌, arith, inl, inr}
use Rattle.std.proofs.lemmas.Bool.{eq-eqb, ne_eqb, eqb-true, eqb-false, lt-ltb, le-ltb, le-leb, lt-leb, cases_lt, cases_order}
use Rattle.rule_model.specs.declared.Key.{Key}
use Rattle.rule_model.specs.Key.{IsKey}
use Rattle.rule_model.specs.AddressBlock.{any_address, block_holds}
use Rattle.rule_model.specs.PortRange.{PortRange, any_port, range_holds}
use Rattle.written_chains.specs.declared.meets.Tests.{Tests}
use Rattle.written_chains.specs.Laws.{ListsAnswerAsWalks}
use Rattle.written_chains.specs.Meets.{tests_hold}
use Rattle.iptables.specs.declared.fields.Side.{Side}
use Rattle.iptables.specs.declared.fields.Side.TheVariants.{Src, Dst}
use Rattle.iptables.specs.Values.{above, any_tests, apart, around, below, each_range, either_tests, face_tests, met_with, other_protos, port_tests, proto_but, proto_tests, protos_tests, ranges_tests}
use Rattle.iptables.specs.Laws.{any_holds, any_range, port_at, unless}
use Rattle.iptables.proofs.Beside.{any-block, any-range}
use Rattle.iptables.proofs.Between.{any-all, outside-is}
use Rattle.iptables.proofs.Holding.{any-append, met-holds, or-false}

-- ---- ports

sport-only : (x a b c : Bool) → a ≡ true → b ≡ true → c ≡ true → ((((a && b) && true) && x) && c) ≡ x
sport-only true a b c is_a is_b is_c = rw (is_a, is_b, is_c) refl
sport-only false a b c is_a is_b is_c = rw (is_a, is_b) refl

dport-only : (x a b c : Bool) → a ≡ true → b ≡ true → c ≡ true → ((((a && b) && true) && c) && x) ≡ x
dport-only true a b c is_a is_b is_c = rw (is_a, is_b, is_c) refl
dport-only false a b c is_a is_b is_c = rw (is_a, is_b, is_c) refl

port-only : (side : Side) (range : PortRange) (key : Key) → IsKey key → tests_hold (port_tests side range) key ≡ range_holds range (port_at side key)
port-only Src range key is =
    sport-only (range_holds range key.sport) (block_holds any_address key.src) (block_holds any_address key.dst) (range_holds any_port key.dport) (any-block key.src is.src) (any-block key.dst is.dst) (any-range key.dport is.dport)
port-only Dst range key is =
    dport-only (range_holds range key.dport) (block_holds any_address key.src) (block_holds any_address key.dst) (range_holds any_port key.sport) (any-block key.src is.src) (any-block key.dst is.dst) (any-range key.sport is.sport)

port-below : (side : Side) (key : Key) → IsKey key → port_at side key < 2 ^ 16
port-below Src key is = is.sport
port-below Dst key is = is.dport

each-holds : (side : Side) (ranges : List PortRange) (key : Key) → IsKey key → any_holds (each_range side ranges) key ≡ any_range ranges (port_at side key)
each-holds side [] key is = refl
each-holds side (range ∷ ranges) key is =
    ap (λ x. x || any_holds (each_range side ranges) key) (port-only side range key is) ∙ ap (λ x. range_holds range (port_at side key) || x) (each-holds side ranges key is)

below-by : (side : Side) (range : PortRange) (key : Key) (none : Bool) → IsKey key → (range.lo == 0) ≡ none → any_holds (below side range) key ≡ nat_lt (port_at side key) range.lo
below-by side range key true is none =
    let zero_lo = eqb-true range.lo 0 none in
    ap (λ b. any_holds (cond b [] (port_tests side (record { lo = 0; hi = range.lo - 1 }) ∷ [])) key) none ∙ sym (le-ltb (port_at side key) range.lo (omega (arith, zero_lo)))
below-by side range key false is none =
    let some = eqb-false range.lo 0 none in
    let p = port_at side key in
    ap (λ b. any_holds (cond b [] (port_tests side (record { lo = 0; hi = range.lo - 1 }) ∷ [])) key) none
    ∙ or-false (tests_hold (port_tests side (record { lo = 0; hi = range.lo - 1 })) key) ∙ port-only side (record { lo = 0; hi = range.lo - 1 }) key is
    ∙ elim (cases_lt p range.lo) [
      | inl less ↦ rw (le-leb 0 p (omega arith), le-leb p (range.lo - 1) (omega (arith, less)), lt-ltb p range.lo less) refl
      | inr more ↦ rw (le-leb 0 p (omega arith), lt-leb p (range.lo - 1) (omega (arith, more, some)), le-ltb p range.lo more) refl
    ]

above-by : (side : Side) (range : PortRange) (key : Key) (none : Bool) → IsKey key → (range.hi == 65535) ≡ none → any_holds (above side range) key ≡ nat_lt range.hi (port_at side key)
above-by side range key true is none =
    let last = eqb-true range.hi 65535 none in
    let few = port-below side key is in
    ap (λ b. any_holds (cond b [] (port_tests side (record { lo = range.hi + 1; hi = 65535 }) ∷ [])) key) none ∙ sym (le-ltb range.hi (port_at side key) (omega (arith, last, few)))
above-by side range key false is none =
    let few = port-below side key is in
    let p = port_at side key in
    ap (λ b. any_holds (cond b [] (port_tests side (record { lo = range.hi + 1; hi = 65535 }) ∷ [])) key) none
    ∙ or-false (tests_hold (port_tests side (record { lo = range.hi + 1; hi = 65535 })) key) ∙ port-only side (record { lo = range.hi + 1; hi = 65535 }) key is
    ∙ elim (cases_lt range.hi p) [
      | inl less ↦ rw (le-leb (range.hi + 1) p (omega (arith, less)), le-leb p 65535 (omega (arith, few)), lt-ltb range.hi p less) refl
      | inr more ↦ rw (lt-leb (range.hi + 1) p (omega (arith, more)), le-ltb range.hi p more) refl
    ]

around-holds : (side : Side) (range : PortRange) (key : Key) → IsKey key → any_holds (around side range) key ≡ not (range_holds range (port_at side key))
around-holds side range key is =
    any-append (below side range) (above side range) key
    ∙ ap (λ x. x || any_holds (above side range) key) (below-by side range key (range.lo == 0) is refl)
    ∙ ap (λ x. nat_lt (port_at side key) range.lo || x) (above-by side range key (range.hi == 65535) is refl)
    ∙ outside-is (port_at side key) range.lo range.hi

and-true : (x : Bool) → x ≡ x && true
and-true true = refl
and-true false = refl

and-neither : (x r s : Bool) → (x && not r) && not s ≡ x && not (r || s)
and-neither true true s = refl
and-neither true false s = refl
and-neither false r s = refl

apart-holds : ListsAnswerAsWalks → (side : Side) (left : List Tests) (ranges : List PortRange) (key : Key) → IsKey key → any_holds (apart side left ranges) key ≡ any_holds left key && not (any_range ranges (port_at side key))
apart-holds walks side left [] key is = and-true (any_holds left key)
apart-holds walks side left (range ∷ ranges) key is =
    let p = port_at side key in
    apart-holds walks side (met_with left (around side range)) ranges key is
    ∙ ap (λ x. x && not (any_range ranges p)) (met-holds walks left (around side range) key ∙ ap (λ x. any_holds left key && x) (around-holds side range key is))
    ∙ and-neither (any_holds left key) (range_holds range p) (any_range ranges p)

pub ports-hold : ListsAnswerAsWalks → (side : Side) (negated : Bool) (ranges : List PortRange) (key : Key) → IsKey key → any_holds (ranges_tests side negated ranges) key ≡ unless negated (any_range ranges (port_at side key))
ports-hold walks side false ranges key is = each-holds side ranges key is
ports-hold walks side true ranges key is =
    apart-holds walks side (any_tests ∷ []) ranges key is ∙ ap (λ x. (x || false) && not (any_range ranges (port_at side key))) (any-all key is)

not-either : (x y : Bool) → not x && not y ≡ not (x || y)
not-either true y = refl
not-either false y = refl

pub either-holds : ListsAnswerAsWalks → (negated : Bool) (ranges : List PortRange) (key : Key) → IsKey key → any_holds (either_tests negated ranges) key ≡ unless negated (any_range ranges key.sport || any_range ranges key.dport)
either-holds walks false ranges key is =
    any-append (each_range Src ranges) (each_range Dst ranges) key
    ∙ ap (λ x. x || any_holds (each_range Dst ranges) key) (each-holds Src ranges key is)
    ∙ ap (λ x. any_range ranges key.sport || x) (each-holds Dst ranges key is)
either-holds walks true ranges key is =
    met-holds walks (ranges_tests Src true ranges) (ranges_tests Dst true ranges) key
    ∙ ap (λ x. x && any_holds (ranges_tests Dst true ranges) key) (ports-hold walks Src true ranges key is)
    ∙ ap (λ x. not (any_range ranges key.sport) && x) (ports-hold walks Dst true ranges key is)
    ∙ not-either (any_range ranges key.sport) (any_range ranges key.dport)

-- ---- protocols

proto-only-by : (x a b c d : Bool) → a ≡ true → b ≡ true → c ≡ true → d ≡ true → ((((a && b) && x) && c) && d) ≡ x
proto-only-by true a b c d is_a is_b is_c is_d = rw (is_a, is_b, is_c, is_d) refl
proto-only-by false a b c d is_a is_b is_c is_d = rw (is_a, is_b) refl

proto-only : (proto : ℕ) (key : Key) → IsKey key → tests_hold (proto_tests proto) key ≡ (proto == key.proto)
proto-only proto key is =
    proto-only-by (proto == key.proto) (block_holds any_address key.src) (block_holds any_address key.dst) (range_holds any_port key.sport) (range_holds any_port key.dport) (any-block key.src is.src) (any-block key.dst is.dst)
    (any-range key.sport is.sport) (any-range key.dport is.dport)

but-by : (proto other : ℕ) (key : Key) (same : Bool) → IsKey key → any_holds (cond same [] (proto_tests other ∷ [])) key ≡ not same && (other == key.proto)
but-by proto other key true is = refl
but-by proto other key false is = or-false (tests_hold (proto_tests other) key) ∙ proto-only other key is

one-more : (o k proto : ℕ) → ((not (proto == o) && (o == k)) || (nat_le (o + 1) k && not (proto == k))) ≡ nat_le o k && not (proto == k)
one-more o k proto =
    elim (cases_order o k) [
      | inl same ↦ rw same (rw (eq-eqb k k refl, lt-leb (k + 1) k (omega arith), le-leb k k (omega arith)) (kept (not (proto == k))))
      | inr rest ↦ elim rest [
        | inl less ↦ rw (ne_eqb o k (λ e. omega (arith, less, e)), le-leb (o + 1) k (omega (arith, less)), le-leb o k (omega (arith, less))) (left-out (not (proto == o)) (not (proto == k)))
        | inr more ↦ rw (ne_eqb o k (λ e. omega (arith, more, e)), lt-leb (o + 1) k (omega (arith, more)), lt-leb o k more) (left-out (not (proto == o)) false)
      ]
    ]
  where
    kept : (x : Bool) → ((x && true) || false) ≡ x
    kept true = refl
    kept false = refl

    left-out : (x y : Bool) → ((x && false) || y) ≡ y
    left-out true y = refl
    left-out false y = refl

others-hold : (proto left : ℕ) (key : Key) → IsKey key → left ≤ 256 → any_holds (other_protos proto left) key ≡ nat_le (256 - left) key.proto && not (proto == key.proto)
others-hold proto zero key is few =
    let small = is.proto in
    sym (ap (λ b. b && not (proto == key.proto)) (lt-leb 256 key.proto (omega (arith, small))))
others-hold proto (suc left) key is few =
    let k = key.proto in
    let next : 256 - left ≡ (255 - left) + 1 = omega (arith, few) in
    let this : 255 - left ≡ 256 - suc left = omega (arith, few) in
    any-append (proto_but proto (255 - left)) (other_protos proto left) key
    ∙ ap (λ x. x || any_holds (other_protos proto left) key) (but-by proto (255 - left) key (proto == (255 - left)) is)
    ∙ ap (λ x. (not (proto == (255 - left)) && ((255 - left) == k)) || x) (others-hold proto left key is (omega (arith, few)))
    ∙ ap (λ n. (not (proto == (255 - left)) && ((255 - left) == k)) || (nat_le n k && not (proto == k))) next
    ∙ one-more (255 - left) k proto
    ∙ ap (λ n. nat_le n k && not (proto == k)) this

pub protos-hold : (negated : Bool) (proto : ℕ) (key : Key) → IsKey key → any_holds (protos_tests negated proto) key ≡ unless negated (proto == key.proto)
protos-hold false proto key is = or-false (tests_hold (proto_tests proto) key) ∙ proto-only proto key is
protos-hold true proto key is =
    others-hold proto 256 key is (omega arith) ∙ ap (λ b. b && not (proto == key.proto)) (le-leb 0 key.proto (omega arith))

-- ---- an interface

pub faces-hold : (negated named : Bool) (key : Key) → IsKey key → any_holds (face_tests negated named) key ≡ unless negated named
faces-hold false true key is = ap (λ x. x || false) (any-all key is)
faces-hold false false key is = refl
faces-hold true true key is = refl
faces-hold true false key is = ap (λ x. x || false) (any-all key is)
