-- The tests that hold where two do: each field by itself, and all five.
use Rattle.std.proofs.Common.{◌≡◌, ℕ, ◌+◌, ◌-◌, ◌/◌, ◌^◌, ◌<◌, ◌≤◌, Bool, true, false, ◌==◌, ◌&&◌, nat_le, cond, Option, Some, None, refl, sym, ap, ◌∙◌, arith, eqb-true, eq-eqb, le-leb, leb-true}
use Rattle.std.proofs.lemmas.Bool.{leb-false}
use Rattle.std.proofs.lemmas.Nat.{shr-shr}
use Rattle.rule_model.specs.declared.Key.{Key}
use Rattle.rule_model.specs.AddressBlock.{AddressBlock, block_holds}
use Rattle.rule_model.specs.PortRange.{PortRange, range_holds}
use Rattle.rule_model.specs.Rule.{proto_holds}
use Rattle.written_chains.specs.declared.meets.Tests.{Tests}
use Rattle.written_chains.specs.Meets.{◌>>=◌, tests_hold, meet, meet_blocks, meet_ports, meet_protos, greater, lesser}

-- ---- booleans

pub and-false : (b : Bool) → false ≡ b && false
and-false true = refl
and-false false = refl

pub swapped : (a b c d : Bool) → (a && b) && (c && d) ≡ (a && c) && (b && d)
swapped true true c d = refl
swapped true false true d = refl
swapped true false false d = refl
swapped false b true d = refl
swapped false b false d = refl

-- ---- addresses

abbrev block_found : Option AddressBlock → ℕ → Bool
block_found None x = false
block_found (Some block) x = block_holds block x

-- an address of a longer block is in a shorter one exactly where the longer block's own address is
inner : (short long : AddressBlock) (x : ℕ) → short.len ≤ long.len → block_holds long x ≡ true → block_holds short x ≡ block_holds short long.addr
inner short long x order held =
    let past = 128 - long.len in
    let more = (128 - short.len) - (128 - long.len) in
    let whole : 128 - short.len ≡ past + more = omega arith in
    let held_is : x / 2 ^ past ≡ long.addr / 2 ^ past = eqb-true _ _ held in
    let same : x / 2 ^ past / 2 ^ more ≡ long.addr / 2 ^ past / 2 ^ more = ap (λ (n : ℕ). n / 2 ^ more) held_is in
    let joined : x / 2 ^ (past + more) ≡ long.addr / 2 ^ (past + more) = sym (shr-shr x past more) ∙ same ∙ shr-shr long.addr past more in
    let upper : x / 2 ^ (128 - short.len) ≡ long.addr / 2 ^ (128 - short.len) = rw whole joined in
    ap (λ (n : ℕ). n == short.addr / 2 ^ (128 - short.len)) upper

-- where one block is found by a test, and holds an address, as another test says
found-by : (test : Bool) (block : AddressBlock) (x : ℕ) → block_found (cond test (Some block) None) x ≡ test && block_holds block x
found-by true block x = refl
found-by false block x = refl

and-by : (test other held : Bool) → (held ≡ true → other ≡ test) → test && held ≡ other && held
and-by test other true same = ap (λ b. b && true) (sym (same refl))
and-by test other false same = sym (and-false test) ∙ and-false other

and-turned : (a b : Bool) → a && b ≡ b && a
and-turned true true = refl
and-turned true false = refl
and-turned false true = refl
and-turned false false = refl

blocks-at : (a b : AddressBlock) (x : ℕ) (order : Bool) → (order ≡ true → a.len ≤ b.len) → (order ≡ false → b.len ≤ a.len)
    → block_found (cond (cond order (block_holds a b.addr) (block_holds b a.addr)) (Some (cond order b a)) None) x ≡ block_holds a x && block_holds b x
blocks-at a b x true shorter longer =
    found-by (block_holds a b.addr) b x ∙ and-by (block_holds a b.addr) (block_holds a x) (block_holds b x) (λ held. inner a b x (shorter refl) held)
blocks-at a b x false shorter longer =
    found-by (block_holds b a.addr) a x ∙ and-by (block_holds b a.addr) (block_holds b x) (block_holds a x) (λ held. inner b a x (longer refl) held)
    ∙ and-turned (block_holds b x) (block_holds a x)

blocks-met : (a b : AddressBlock) (x : ℕ) → block_found (meet_blocks a b) x ≡ block_holds a x && block_holds b x
blocks-met a b x = blocks-at a b x (nat_le a.len b.len) (λ e. leb-true _ _ e) (λ e. let less = leb-false a.len b.len e in omega (arith, less))

-- ---- protocols

abbrev proto_found : Option (Option ℕ) → ℕ → Bool
proto_found None x = false
proto_found (Some proto) x = proto_holds proto x

-- two numbers
two-found : (p q x : ℕ) (test : Bool) → (test ≡ true → p ≡ q) → (test ≡ false → p == q ≡ false) → proto_found (cond test (Some (Some p)) None) x ≡ (p == x) && (q == x)
two-found p q x true same other = both (p == x) ∙ ap (λ (n : ℕ). (p == x) && (n == x)) (same refl)
  where
    both : (b : Bool) → b ≡ b && b
    both true = refl
    both false = refl
two-found p q x false same other = apart (p == x) (q == x) (λ one two. let differ = other refl in let equal = eqb-true p x one ∙ sym (eqb-true q x two) in absurd (let is = eq-eqb p q equal in cc))
  where
    apart : (b c : Bool) → (b ≡ true → c ≡ true → false ≡ true) → false ≡ b && c
    apart true true never = never refl refl
    apart true false never = refl
    apart false c never = refl

protos-met : (a b : Option ℕ) (x : ℕ) → proto_found (meet_protos a b) x ≡ proto_holds a x && proto_holds b x
protos-met None b x = refl
protos-met (Some p) None x = whole (p == x)
  where
    whole : (b : Bool) → b ≡ b && true
    whole true = refl
    whole false = refl
protos-met (Some p) (Some q) x = two-found p q x (p == q) (λ e. eqb-true p q e) (λ e. e)

-- ---- ports

abbrev ports_found : Option PortRange → ℕ → Bool
ports_found None x = false
ports_found (Some range) x = range_holds range x

from-found : (lo hi x : ℕ) (test : Bool) → (test ≡ false → hi < lo) → ports_found (cond test (Some (record { lo = lo; hi = hi })) None) x ≡ nat_le lo x && nat_le x hi
from-found lo hi x true over = refl
from-found lo hi x false over = none (nat_le lo x) (nat_le x hi) (λ one two. let first = leb-true lo x one in let second = leb-true x hi two in let past = over refl in absurd (omega (arith, first, second, past)))
  where
    none : (b c : Bool) → (b ≡ true → c ≡ true → false ≡ true) → false ≡ b && c
    none true true never = never refl refl
    none true false never = refl
    none false c never = refl

greater-holds : (a b x : ℕ) (test : Bool) → (test ≡ true → a ≤ b) → (test ≡ false → b < a) → nat_le (cond test b a) x ≡ nat_le a x && nat_le b x
greater-holds a b x true below above = second (nat_le a x) (nat_le b x) (λ e. let held = leb-true b x e in let order = below refl in le-leb a x (omega (arith, held, order)))
  where
    second : (p q : Bool) → (q ≡ true → p ≡ true) → q ≡ p && q
    second p true implies = sym (ap (λ b. b && true) (implies refl))
    second p false implies = and-false p
greater-holds a b x false below above = first (nat_le a x) (nat_le b x) (λ e. let held = leb-true a x e in let order = above refl in le-leb b x (omega (arith, held, order)))
  where
    first : (p q : Bool) → (p ≡ true → q ≡ true) → p ≡ p && q
    first true q implies = sym (implies refl)
    first false q implies = refl

lesser-holds : (a b x : ℕ) (test : Bool) → (test ≡ true → a ≤ b) → (test ≡ false → b < a) → nat_le x (cond test a b) ≡ nat_le x a && nat_le x b
lesser-holds a b x true below above = first (nat_le x a) (nat_le x b) (λ e. let held = leb-true x a e in let order = below refl in le-leb x b (omega (arith, held, order)))
  where
    first : (p q : Bool) → (p ≡ true → q ≡ true) → p ≡ p && q
    first true q implies = sym (implies refl)
    first false q implies = refl
lesser-holds a b x false below above = second (nat_le x a) (nat_le x b) (λ e. let held = leb-true x b e in let order = above refl in le-leb x a (omega (arith, held, order)))
  where
    second : (p q : Bool) → (q ≡ true → p ≡ true) → q ≡ p && q
    second p true implies = sym (ap (λ b. b && true) (implies refl))
    second p false implies = and-false p

ports-met : (a b : PortRange) (x : ℕ) → ports_found (meet_ports a b) x ≡ range_holds a x && range_holds b x
ports-met a b x =
    from-found (greater a.lo b.lo) (lesser a.hi b.hi) x (nat_le (greater a.lo b.lo) (lesser a.hi b.hi)) (λ e. leb-false _ _ e)
    ∙ ap (λ t. t && nat_le x (lesser a.hi b.hi)) (greater-holds a.lo b.lo x (nat_le a.lo b.lo) (λ e. leb-true _ _ e) (λ e. leb-false _ _ e))
    ∙ ap (λ t. (nat_le a.lo x && nat_le b.lo x) && t) (lesser-holds a.hi b.hi x (nat_le a.hi b.hi) (λ e. leb-true _ _ e) (λ e. leb-false _ _ e))
    ∙ swapped (nat_le a.lo x) (nat_le b.lo x) (nat_le x a.hi) (nat_le x b.hi)

-- ---- all five

-- tests hold, if there are any
abbrev pub found_hold : Option Tests → Key → Bool
found_hold None key = false
found_hold (Some tests) key = tests_hold tests key

abbrev five : Option AddressBlock → Option AddressBlock → Option (Option ℕ) → Option PortRange → Option PortRange → Option Tests
five s d p sp dp = do
  from ← s
  to ← d
  protocol ← p
  source ← sp
  destination ← dp
  Some (record { src = from; dst = to; proto = protocol; sport = source; dport = destination })

five-found : (s d : Option AddressBlock) (p : Option (Option ℕ)) (sp dp : Option PortRange) (key : Key)
    → found_hold (five s d p sp dp) key ≡ (((block_found s key.src && block_found d key.dst) && proto_found p key.proto) && ports_found sp key.sport) && ports_found dp key.dport
five-found None d p sp dp key = refl
five-found (Some s) None p sp dp key = ap (λ b. ((b && proto_found p key.proto) && ports_found sp key.sport) && ports_found dp key.dport) (and-false (block_holds s key.src))
five-found (Some s) (Some d) None sp dp key = ap (λ b. (b && ports_found sp key.sport) && ports_found dp key.dport) (and-false (block_holds s key.src && block_holds d key.dst))
five-found (Some s) (Some d) (Some p) None dp key = ap (λ b. b && ports_found dp key.dport) (and-false ((block_holds s key.src && block_holds d key.dst) && proto_holds p key.proto))
five-found (Some s) (Some d) (Some p) (Some sp) None key = and-false (((block_holds s key.src && block_holds d key.dst) && proto_holds p key.proto) && range_holds sp key.sport)
five-found (Some s) (Some d) (Some p) (Some sp) (Some dp) key = refl

five-swapped : (a b c d e f g h i j : Bool) → (((((a && b) && (c && d)) && (e && f)) && (g && h)) && (i && j)) ≡ ((((a && c) && e) && g) && i) && ((((b && d) && f) && h) && j)
five-swapped a b c d e f g h i j =
    ap (λ x. ((x && (e && f)) && (g && h)) && (i && j)) (swapped a b c d)
    ∙ ap (λ x. (x && (g && h)) && (i && j)) (swapped (a && c) (b && d) e f)
    ∙ ap (λ x. x && (i && j)) (swapped ((a && c) && e) ((b && d) && f) g h)
    ∙ swapped (((a && c) && e) && g) (((b && d) && f) && h) i j

-- the tests that hold where two do
pub meet-holds : (a b : Tests) (key : Key) → found_hold (meet a b) key ≡ tests_hold a key && tests_hold b key
meet-holds a b key =
    five-found (meet_blocks a.src b.src) (meet_blocks a.dst b.dst) (meet_protos a.proto b.proto) (meet_ports a.sport b.sport) (meet_ports a.dport b.dport) key
    ∙ ap (λ x. (((x && block_found (meet_blocks a.dst b.dst) key.dst) && proto_found (meet_protos a.proto b.proto) key.proto) && ports_found (meet_ports a.sport b.sport) key.sport) && ports_found (meet_ports a.dport b.dport) key.dport) (blocks-met a.src b.src key.src)
    ∙ ap (λ x. ((((block_holds a.src key.src && block_holds b.src key.src) && x) && proto_found (meet_protos a.proto b.proto) key.proto) && ports_found (meet_ports a.sport b.sport) key.sport) && ports_found (meet_ports a.dport b.dport) key.dport) (blocks-met a.dst b.dst key.dst)
    ∙ ap (λ x. ((((block_holds a.src key.src && block_holds b.src key.src) && (block_holds a.dst key.dst && block_holds b.dst key.dst)) && x) && ports_found (meet_ports a.sport b.sport) key.sport) && ports_found (meet_ports a.dport b.dport) key.dport) (protos-met a.proto b.proto key.proto)
    ∙ ap (λ x. ((((block_holds a.src key.src && block_holds b.src key.src) && (block_holds a.dst key.dst && block_holds b.dst key.dst)) && (proto_holds a.proto key.proto && proto_holds b.proto key.proto)) && x) && ports_found (meet_ports a.dport b.dport) key.dport) (ports-met a.sport b.sport key.sport)
    ∙ ap (λ x. ((((block_holds a.src key.src && block_holds b.src key.src) && (block_holds a.dst key.dst && block_holds b.dst key.dst)) && (proto_holds a.proto key.proto && proto_holds b.proto key.proto)) && (range_holds a.sport key.sport && range_holds b.sport key.sport)) && x) (ports-met a.dport b.dport key.dport)
    ∙ five-swapped (block_holds a.src key.src) (block_holds b.src key.src) (block_holds a.dst key.dst) (block_holds b.dst key.dst) (proto_holds a.proto key.proto) (proto_holds b.proto key.proto) (range_holds a.sport key.sport) (range_holds b.sport key.sport) (range_holds a.dport key.dport) (range_holds b.dport key.dport)
