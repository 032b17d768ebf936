-- The limits of a trace of IPv4 are within those of IPv6.
use Rattle.std.proofs.Common.{◌≡◌, ℕ, ap}
use Rattle.std.specs.Prelude.{slice_index}
use Rattle.rule_model.specs.declared.IpVersion.{IpVersion}
use Rattle.rule_model.specs.declared.IpVersion.TheVariants.{V4, V6}
use Rattle.rule_model.specs.declared.Rule.{Rule}
use Rattle.rule_model.specs.declared.words.Word.{Word}
use Rattle.rule_model.specs.declared.words.Entry.{Entry}
use Rattle.trace_file.specs.declared.TraceLine.{TraceLine}
use Rattle.trace_file.specs.declared.TraceLine.TheVariants.{Head, Commit, Add, Set, Del, Put, Erase, Table, Drain, Done, Refused, End, Fault}
use Rattle.trace_file.specs.Forms.{IsIpv4Rank, IsIpv4Word, IsIpv4Rule, IsIpv4Entry, IsIpv6Rank, IsIpv6Word, IsIpv6Rule, IsIpv6Entry, IsTraceLine, IsTraceLineOf}

wider_rank : (rank : ℕ) → IsIpv4Rank rank → IsIpv6Rank rank
wider_rank rank is = record { high = is.high }

wider_word : (word : Word) → IsIpv4Word word → IsIpv6Word word
wider_word word is =
    let e1 : slice_index word.lane 1 ≡ 0 = ap (λ (w : Word). slice_index w.lane 1) is.lanes in
    let e2 : slice_index word.lane 2 ≡ 0 = ap (λ (w : Word). slice_index w.lane 2) is.lanes in
    let e3 : slice_index word.lane 3 ≡ 0 = ap (λ (w : Word). slice_index w.lane 3) is.lanes in
    let e5 : slice_index word.lane 5 ≡ 0 = ap (λ (w : Word). slice_index w.lane 5) is.lanes in
    let e6 : slice_index word.lane 6 ≡ 0 = ap (λ (w : Word). slice_index w.lane 6) is.lanes in
    let e7 : slice_index word.lane 7 ≡ 0 = ap (λ (w : Word). slice_index w.lane 7) is.lanes in
    record { lanes = rw (e1, e2, e3, e5, e6, e7) is.lanes; fits = is.fits }

wider_rule : (rule : Rule) → IsIpv4Rule rule → IsIpv6Rule rule
wider_rule rule is = record { priority = wider_rank rule.priority is.priority; right = is.right; result = is.result }

wider_entry : (entry : Entry) → IsIpv4Entry entry → IsIpv6Entry entry
wider_entry entry is = record {
  value = wider_word entry.value is.value;
  mask = wider_word entry.mask is.mask;
  tag = wider_rank entry.tag is.tag;
  result = is.result;
}

wider_line : (line : TraceLine) → IsTraceLineOf V4 line → IsTraceLine line
wider_line (Head version acl bits slots) is = is
wider_line (Commit n) is = is
wider_line (Add rule) is = wider_rule rule is
wider_line (Set priority answer) is = (wider_rank priority is.0, is.1)
wider_line (Del priority) is = wider_rank priority is
wider_line (Put slot entry) is = (is.0, wider_entry entry is.1)
wider_line (Erase slot) is = is
wider_line (Table field port word) is = is
wider_line Drain is = tt
wider_line (Done n) is = is
wider_line (Refused n) is = is
wider_line (End writes) is = is
wider_line (Fault line) is = is

-- a line of a trace of one of them is one of a trace of either
pub either_version : (version : IpVersion) (line : TraceLine) → IsTraceLineOf version line → IsTraceLine line
either_version V4 line is = wider_line line is
either_version V6 line is = is
