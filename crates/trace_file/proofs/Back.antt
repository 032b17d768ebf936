-- Each line of a trace is the line that its value is read as.
use Rattle.std.proofs.Common.{◌≡◌, ℕ, ◌<◌, ◌≤◌, ◌^◌, Bool, true, false, IfSome, List, [], ◌∷◌, ◌++◌, Option, Some, None, refl, sym, ap, arith, le-leb, cond}
use Rattle.std.specs.Prelude.{codes, slice_index}
use Rattle.slot_order.specs.Order.{script_slots}
use Rattle.serde_json.specs.Data.{array, string}
use Rattle.rule_model.specs.declared.IpVersion.{IpVersion}
use Rattle.rule_model.specs.declared.IpVersion.TheVariants.{V4, V6}
use Rattle.rule_model.specs.declared.Rule.{Rule}
use Rattle.rule_model.specs.declared.Field.TheVariants.{Src, Dst}
use Rattle.rule_model.specs.PortRange.{PortRange, IsPortRange}
use Rattle.rule_model.specs.declared.words.Word.{Word}
use Rattle.rule_model.specs.declared.words.Entry.{Entry}
use Rattle.trace_file.specs.declared.TraceLine.{TraceLine}
use Rattle.trace_file.specs.declared.TraceLine.TheVariants.{Head, Commit, Add, Set, Del, Put, Erase, Table, Drain, Done, Refused, End, Fault}
use Rattle.trace_file.specs.Values.{proto_in, ports_in, word_in, rule_in, entry_in}
use Rattle.trace_file.specs.Ipv6Values as ipv6
use Rattle.trace_file.specs.Lines.{added_in, changed_in, removed_in, entry_by, head_in, line_in}
use Rattle.trace_file.specs.Forms.{numeral, proto_form, items_form, rank_form, rule_form, entry_form, removed_form, family_name, form_of, IsIpv4Word, IsIpv4Rule, IsIpv4Entry, IsIpv6Rule, IsIpv6Entry, IsTraceRank, IsTraceRule, IsTraceEntry, IsTraceLineOf}
use Rattle.trace_file.proofs.Numbers.{number_back, bits_back, rank_back, block_back}
use Rattle.trace_file.proofs.Ipv6Numbers.{rank6_back, block6_back, word6_back}

proto_back : (proto : Option ℕ) → IfSome proto (λ n. n < 2 ^ 8) → proto_in (proto_form proto) ≡ Some proto
proto_back None fits = refl
proto_back (Some n) fits = rw (bits_back 8 n fits) refl

ports_back : (range : PortRange) → IsPortRange range → ports_in (numeral range.lo) (numeral range.hi) ≡ Some range
ports_back range is =
    let below : range.lo < 2 ^ 16 = let last = is.fits in let order = is.ordered in omega arith in
    rw (bits_back 16 range.lo below) (rw (bits_back 16 range.hi is.fits) (rw (le-leb range.lo range.hi is.ordered) refl))

-- a rule of IPv4
rule_back : (rule : Rule) → IsIpv4Rule rule → rule_in (rule_form V4 rule) ≡ Some rule
rule_back rule is =
    rw (rank_back rule.priority is.priority) (rw (block_back rule.src is.right.src_right is.src)
    (rw (block_back rule.dst is.right.dst_right is.dst) (rw (proto_back rule.proto is.right.proto_right)
    (rw (ports_back rule.sport is.right.sport_right) (rw (ports_back rule.dport is.right.dport_right)
    (rw (bits_back 32 rule.result is.result) refl))))))

word_back : (word : Word) → IsIpv4Word word
    → word_in (numeral (slice_index word.lane 0)) (numeral (slice_index word.lane 4)) (numeral (slice_index word.lane 8)) (numeral (slice_index word.lane 9)) (numeral (slice_index word.lane 10)) ≡ Some word
word_back word is =
    rw (bits_back 32 _ (is.fits 0)) (rw (bits_back 32 _ (is.fits 4)) (rw (bits_back 32 _ (is.fits 8)) (rw (bits_back 32 _ (is.fits 9)) (rw (bits_back 32 _ (is.fits 10))
    (ap Some (sym is.lanes))))))

-- an entry of IPv4
entry_back : (entry : Entry) → IsIpv4Entry entry → entry_in (entry_form V4 entry) ≡ Some entry
entry_back entry is =
    rw (word_back entry.value is.value) (rw (word_back entry.mask is.mask) (rw (rank_back entry.tag is.tag) (rw (bits_back 32 entry.result is.result) refl)))

-- a rule of IPv6
rule6_back : (rule : Rule) → IsIpv6Rule rule → ipv6.rule_in (rule_form V6 rule) ≡ Some rule
rule6_back rule is =
    rw (rank6_back rule.priority is.priority) (rw (block6_back rule.src is.right.src_right) (rw (block6_back rule.dst is.right.dst_right)
    (rw (proto_back rule.proto is.right.proto_right) (rw (ports_back rule.sport is.right.sport_right) (rw (ports_back rule.dport is.right.dport_right)
    (rw (bits_back 32 rule.result is.result) refl))))))

-- an entry of IPv6
entry6_back : (entry : Entry) → IsIpv6Entry entry → ipv6.entry_in (entry_form V6 entry) ≡ Some entry
entry6_back entry is =
    rw (word6_back entry.value is.value) (rw (word6_back entry.mask is.mask) (rw (rank6_back entry.tag is.tag) (rw (bits_back 32 entry.result is.result) refl)))

-- of either version
added_back : (version : IpVersion) (rule : Rule) → IsTraceRule version rule → added_in version (array (items_form (rule_form version rule))) ≡ Some rule
added_back V4 rule is = rule_back rule is
added_back V6 rule is = rule6_back rule is

changed_back : (version : IpVersion) (priority answer : ℕ) → IsTraceRank version priority → answer < 2 ^ 32
    → changed_in version (array (items_form (rank_form version priority ++ numeral answer ∷ []))) ≡ Some (Set priority answer)
changed_back V4 priority answer is small = rw (rank_back priority is) (rw (bits_back 32 answer small) refl)
changed_back V6 priority answer is small = rw (rank6_back priority is) (rw (bits_back 32 answer small) refl)

removed_back : (version : IpVersion) (priority : ℕ) → IsTraceRank version priority → removed_in version (removed_form version priority) ≡ Some priority
removed_back V4 priority is = rank_back priority is
removed_back V6 priority is = rank6_back priority is

put_back : (version : IpVersion) (entry : Entry) → IsTraceEntry version entry → entry_by version (array (items_form (entry_form version entry))) ≡ Some entry
put_back V4 entry is = entry_back entry is
put_back V6 entry is = entry6_back entry is

-- a head
head_back : (version : IpVersion) (acl bits : Bool) (slots : ℕ) → 1 ≤ slots → slots ≤ script_slots
    → head_in (string (family_name version acl)) (string (cond bits (codes "bits") (codes "cover"))) (numeral slots) ≡ Some (Head version acl bits slots)
head_back V4 true true slots some most = rw (number_back script_slots slots most, le-leb 1 slots some) refl
head_back V4 true false slots some most = rw (number_back script_slots slots most, le-leb 1 slots some) refl
head_back V4 false true slots some most = rw (number_back script_slots slots most, le-leb 1 slots some) refl
head_back V4 false false slots some most = rw (number_back script_slots slots most, le-leb 1 slots some) refl
head_back V6 true true slots some most = rw (number_back script_slots slots most, le-leb 1 slots some) refl
head_back V6 true false slots some most = rw (number_back script_slots slots most, le-leb 1 slots some) refl
head_back V6 false true slots some most = rw (number_back script_slots slots most, le-leb 1 slots some) refl
head_back V6 false false slots some most = rw (number_back script_slots slots most, le-leb 1 slots some) refl

-- a line
pub line_back : (version : IpVersion) (text : List ℕ) (line : TraceLine) → IsTraceLineOf version line → line_in version (form_of version text line) ≡ Some line
line_back version text (Head family acl bits slots) is = head_back family acl bits slots is.0 is.1
line_back version text (Commit n) is = rw (bits_back 32 n is) refl
line_back version text (Add rule) is = rw (added_back version rule is) refl
line_back version text (Set priority answer) is = changed_back version priority answer is.0 is.1
line_back version text (Del priority) is = rw (removed_back version priority is) refl
line_back version text (Put slot entry) is = rw (put_back version entry is.1) (rw (bits_back 32 slot is.0) refl)
line_back version text (Erase slot) is = rw (bits_back 32 slot is) refl
line_back version text (Table Src port word) is = rw (bits_back 16 port is.0) (rw (bits_back 16 word is.1) refl)
line_back version text (Table Dst port word) is = rw (bits_back 16 port is.0) (rw (bits_back 16 word is.1) refl)
line_back version text Drain is = refl
line_back version text (Done n) is = rw (bits_back 32 n is) refl
line_back version text (Refused n) is = rw (bits_back 32 n is) refl
line_back version text (End writes) is = rw (bits_back 64 writes is) refl
line_back version text (Fault line) is = rw (bits_back 32 line is) refl
