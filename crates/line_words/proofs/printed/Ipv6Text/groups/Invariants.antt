use Rattle.std.proofs.Common.{◌≡◌, ◌+◌, ◌*◌, ◌≤◌, ◌++◌, length, drop}
use Rattle.line_words.specs.Shown.{joined_text}
use Rattle.line_words.proofs.Shown.{behind_colons}
use Rattle.line_words.proofs.printed.Ipv6Text.groups.Given as goal

-- the text, and the groups that are to come
abbrev pub invariant-loop-group : goal.invariant-loop-group
invariant-loop-group l = record {
  text : l.text ++ behind_colons (drop l.group-index l.rest) ≡ l.fn.self ++ joined_text l.groups;
  len : length l.text ≤ length l.fn.self + 5 * l.group-index + 4;
  count : length l.groups ≡ length l.rest + 1;
}
