-- Blocks, protocols and ports, part by part.
use Rattle.std.proofs.Common.{◌≡◌, ◌≢◌, ◌<◌, ◌≤◌, ◌+◌, ◌-◌, ◌*◌, ◌/◌, ◌%◌, ◌^◌, ℕ, zero, suc, Bool, true, false, ◌==◌, cond, Option, Some, None, Result, Err, List, [], ◌∷◌, ◌++◌, length, take, drop, get_or, refl, sym, ap, subst, ◌∙◌, ◌↔◌, arith}
use Rattle.std.proofs.lemmas.List.{at_drop_more, at_drop_all, length-drop, take_all}
use Rattle.std.proofs.lemmas.Bool.{eq-eqb, eqb-true}
use Rattle.std.proofs.lemmas.Nat.{pow-add, shl_whole, shr_below}
use Rattle.std.proofs.Math.Nat.{mul-mod_left}
use Rattle.rule_model.specs.declared.IpVersion.{IpVersion}
use Rattle.rule_model.specs.declared.PrefixFault.{PrefixFault}
use Rattle.rule_model.specs.declared.PrefixFault.TheVariants.{Length, HostBits}
use Rattle.rule_model.specs.AddressBlock.{AddressBlock}
use Rattle.rule_model.specs.PortRange.{PortRange}
use Rattle.written_chains.specs.declared.meets.Tests.{Tests}
use Rattle.iptables.specs.declared.blocks.Which.{Which}
use Rattle.iptables.specs.declared.blocks.Which.TheVariants.{Below}
use Rattle.iptables.specs.declared.spans.Span.{Span}
use Rattle.iptables.specs.declared.fields.Side.{Side}
use Rattle.iptables.specs.Values.{any_tests, apart, around, beside, bits_of, colon_ports, first_comma, from_number, going_on, last_number, met_with, numbered_block, other_protos, proto_but, range_list, ranges_at, sibling, sibling_tests, span_tests, up_to_number, with_range}
use Rattle.iptables.proofs.Loops.{part-next}

-- ---- blocks

-- an address's leading bits are a number of so many bits
pub number-below : (address len : ℕ) → len ≤ 128 → address < 2 ^ 128 → address / 2 ^ (128 - len) < 2 ^ len
number-below address len fits below =
    let whole : 128 ≡ len + (128 - len) = omega arith in
    shr_below address len (128 - len) (rw (sym whole) below)

-- its bits behind them are none, and none is lost
pub block-whole : (number len : ℕ) → len ≤ 128 → number < 2 ^ len → number * 2 ^ (128 - len) % 2 ^ 128 ≡ number * 2 ^ (128 - len)
block-whole number len fits below = shl_whole number len (128 - len) 128 below (omega arith)

pub block-is : (number len : ℕ) → len ≤ 128 → number < 2 ^ len → record { addr = number * 2 ^ (128 - len) % 2 ^ 128; len = len } ≡ numbered_block number len
block-is number len fits below = ap (λ (a : ℕ). record (numbered_block number len) { addr = a }) (block-whole number len fits below)

pub no-host-bits : (number len : ℕ) → number * 2 ^ (128 - len) % 2 ^ (128 - len) ≡ 0
no-host-bits number len = mul-mod_left number (2 ^ (128 - len))

-- so they are a block
pub no-fault : (r : Result AddressBlock PrefixFault) (address len : ℕ) (fault : PrefixFault) → len ≤ 128 → address % 2 ^ (128 - len) ≡ 0
    → ((r ≡ Err Length) ↔ (128 < len)) → ((r ≡ Err HostBits) ↔ ((len ≤ 128) × (address % 2 ^ (128 - len) ≢ 0))) → r ≡ Err fault → ⊥
no-fault r address len Length fits none of_length of_bits is = let past = of_length.0 is in omega arith
no-fault r address len HostBits fits none of_length of_bits is = (of_bits.0 is).1 none

pub whole-none : (number len : ℕ) → len ≤ 128 → number < 2 ^ len → number * 2 ^ (128 - len) % 2 ^ 128 % 2 ^ (128 - len) ≡ 0
whole-none number len fits below = ap (λ (a : ℕ). a % 2 ^ (128 - len)) (block-whole number len fits below) ∙ no-host-bits number len

-- a number with its last bit turned has no bit more
turned-below : (b : Bool) (number half : ℕ) → (number % 2 == 0) ≡ b → number < half * 2 → cond b (number + 1) (number - 1) < half * 2
turned-below true number half even below = let is = eqb-true (number % 2) 0 even in omega arith
turned-below false number half odd below = omega arith

pub sibling-below : (number len : ℕ) → 1 ≤ len → number < 2 ^ len → sibling number < 2 ^ len
sibling-below number len some below =
    let whole : len ≡ (len - 1) + 1 = omega arith in
    let twice : 2 ^ len ≡ 2 ^ (len - 1) * 2 = ap (λ (n : ℕ). 2 ^ n) whole ∙ pow-add 2 (len - 1) 1 in
    subst (λ (n : ℕ). sibling number < n) (sym twice) (turned-below (number % 2 == 0) number (2 ^ (len - 1)) refl (subst (λ (n : ℕ). number < n) twice below))

-- half of a number of so many bits has one bit less
pub half-below : (number len next : ℕ) → len ≡ next + 1 → number < 2 ^ len → number / 2 < 2 ^ next
half-below number len next is below = shr_below number next 1 (subst (λ n. number < 2 ^ n) is below)

-- a block more
pub beside-next : (side : Side) (which : Which) (number len next half : ℕ) (into new : List Tests) → len ≡ suc next → half ≡ number / 2
    → new ≡ into ++ sibling_tests side which number len → new ++ beside side which next half ≡ into ++ beside side which len number
beside-next side which number len next half into new is half_is put =
    part-next into new (sibling_tests side which number len) (beside side which next half) put
    ∙ ap (λ h. into ++ (sibling_tests side which number len ++ beside side which next h)) half_is
    ∙ ap (λ n. into ++ (sibling_tests side which number n ++ beside side which next (number / 2))) is
    ∙ ap (λ n. into ++ beside side which n number) (sym is)

-- ---- addresses from one to another

pub up-to-last : (side : Side) (version : IpVersion) (number : ℕ) → number ≡ last_number version → up_to_number side version number ≡ any_tests ∷ []
up-to-last side version number is = ap (λ b. cond b (any_tests ∷ []) (beside side Below (bits_of version) (number + 1))) (eq-eqb number (last_number version) is)

pub between : (side : Side) (version : IpVersion) (negated : Bool) (span : Span) (from up : List Tests) → negated ≡ false → from ≡ from_number side version span.first → up ≡ up_to_number side version span.last
    → span_tests side version negated span ≡ met_with from up
between side version negated span from up is from_is up_is =
    ap (λ b. span_tests side version b span) is ∙ ap (λ f. met_with f (up_to_number side version span.last)) (sym from_is) ∙ ap (λ u. met_with from u) (sym up_is)

-- ---- protocols

pub protos-next : (proto left next : ℕ) (into new : List Tests) → left ≡ suc next → new ≡ into ++ proto_but proto (255 - next) → new ++ other_protos proto next ≡ into ++ other_protos proto left
protos-next proto left next into new is put =
    part-next into new (proto_but proto (255 - next)) (other_protos proto next) put ∙ ap (λ n. into ++ other_protos proto n) (sym is)

-- ---- ports

pub list-none : (most : ℕ) (before : List PortRange) (word : List ℕ) → most ≡ 0 → range_list most before word ≡ None
list-none zero before word is = refl
list-none (suc most) before word is = absurd (omega arith)

pub list-more : (most : ℕ) (before : List PortRange) (word : List ℕ) → most ≢ 0 → range_list most before word ≡ ranges_at (λ ranges rest. range_list (most - 1) ranges rest) before word (first_comma word)
list-more zero before word some = absurd (some refl)
list-more (suc most) before word some =
    let same : most ≡ suc most - 1 = omega arith in
    ap (λ n. ranges_at (λ ranges rest. range_list n ranges rest) before word (first_comma word)) same

pub list-last : (most : ℕ) (before : List PortRange) (word : List ℕ) (range : Option PortRange) → most ≢ 0 → None ≡ first_comma word → range ≡ colon_ports word → range_list most before word ≡ with_range before range
list-last most before word range some none is =
    list-more most before word some ∙ ap (λ p. ranges_at (λ ranges rest. range_list (most - 1) ranges rest) before word p) (sym none) ∙ ap (λ r. with_range before r) (sym is)

pub list-behind : (most place : ℕ) (before mid : List PortRange) (word : List ℕ) (range : Option PortRange) → most ≢ 0 → Some place ≡ first_comma word → range ≡ colon_ports (take place word) → with_range before range ≡ Some mid
    → range_list most before word ≡ range_list (most - 1) mid (drop (place + 1) word)
list-behind most place before mid word range some found is put =
    list-more most before word some ∙ ap (λ p. ranges_at (λ ranges rest. range_list (most - 1) ranges rest) before word p) (sym found)
    ∙ ap (λ r. going_on (λ ranges. range_list (most - 1) ranges (drop (place + 1) word)) r) (ap (λ r. with_range before r) (sym is) ∙ put)

-- a slice up to the end
pub rest-whole : (word : List ℕ) (place : ℕ) → take (length word - place) (drop place word) ≡ drop place word
rest-whole word place =
    let same = length-drop place word in
    take_all (length word - place) (drop place word) (omega (arith, same))

-- beside one range more
pub apart-next : (side : Side) (left new : List Tests) (ranges : List PortRange) (place : ℕ) (range unused : PortRange) → place < length ranges → range ≡ get_or ranges place unused → new ≡ met_with left (around side range)
    → apart side new (drop (place + 1) ranges) ≡ apart side left (drop place ranges)
apart-next side left new ranges place range unused below is met =
    ap (λ l. apart side l (drop (place + 1) ranges)) met
    ∙ ap (λ (r : PortRange). apart side (met_with left (around side r)) (drop (place + 1) ranges)) is
    ∙ sym (at_drop_more (λ l. apart side left l) ranges place unused below)

pub apart-end : (side : Side) (left : List Tests) (ranges : List PortRange) (place : ℕ) → length ranges ≤ place → apart side left (drop place ranges) ≡ left
apart-end side left ranges place all = at_drop_all (λ l. apart side left l) ranges place all
