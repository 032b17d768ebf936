-- What is written for a line of a trace is read as that line.
use Rattle.std.proofs.Common.{◌≡◌, ℕ, ◌<◌, ◌^◌, IfSome, List, [], ◌∷◌, ◌++◌, Option, Some, None, refl, ap, ◌∙◌, arith}
use Rattle.std.specs.Prelude.{slice_index}
use Rattle.std.proofs.lemmas.Nat.{shr_below}
use Rattle.serde_json.specs.Data.{Data}
use Rattle.serde_json.specs.Read.{read}
use Rattle.serde_json.specs.Written.{compact_text}
use Rattle.rule_model.specs.declared.IpVersion.{IpVersion}
use Rattle.rule_model.specs.declared.IpVersion.TheVariants.{V4, V6}
use Rattle.rule_model.specs.Rank.{high_of, low_of}
use Rattle.rule_model.specs.Rule.{HasConditions}
use Rattle.rule_model.specs.declared.Rule.{Rule}
use Rattle.rule_model.specs.declared.Field.TheVariants.{Src, Dst}
use Rattle.rule_model.specs.AddressBlock.{AddressBlock, IsAddressBlock}
use Rattle.rule_model.specs.declared.words.Word.{Word}
use Rattle.rule_model.specs.declared.words.Entry.{Entry}
use Rattle.trace_file.specs.declared.TraceLine.{TraceLine}
use Rattle.trace_file.specs.declared.TraceLine.TheVariants.{Head, Commit, Add, Set, Del, Put, Erase, Table, Drain, Done, Refused, End, Fault}
use Rattle.trace_file.specs.Values.{◌>>=◌}
use Rattle.trace_file.specs.Lines.{line_in, trace_line}
use Rattle.trace_file.specs.Forms.{numeral, rank_number, ipv4_number, proto_form, parts_form, rank_form, block_form, rule_form, word_form, entry_form, removed_form, items_form, form_of, IsIpv4Rank, IsTraceRank, IsTraceRule, IsTraceEntry, IsTraceLineOf}
use Rattle.trace_file.proofs.Back.{line_back}
use Rattle.trace_file.proofs.Written.{IsNumeral, AreNumerals, IsSimple, one_written, two_written, three_written}

-- the values of two lists, one behind the other
pub numerals_append : (xs ys : List Data) → AreNumerals (items_form xs) → AreNumerals (items_form ys) → AreNumerals (items_form (xs ++ ys))
numerals_append [] ys these those = those
numerals_append (x ∷ xs) ys these those = (these.0, numerals_append xs ys these.1 those)

parts_small : (n : ℕ) → n < 2 ^ 128 → AreNumerals (items_form (parts_form n))
parts_small n small = (omega arith, (omega arith, (omega arith, (omega arith, tt))))

ipv4_rank_small : (rank : ℕ) → IsIpv4Rank rank → rank_number rank < 2 ^ 40
ipv4_rank_small rank is = let high = is.high in let low = is.low in omega arith

pub rank_small : (version : IpVersion) (rank : ℕ) → IsTraceRank version rank → AreNumerals (items_form (rank_form version rank))
rank_small V4 rank is = (ipv4_rank_small rank is, tt)
rank_small V6 rank is = (let high = is.high in omega arith, parts_small (low_of rank) (omega arith))

pub removed_small : (version : IpVersion) (rank : ℕ) → IsTraceRank version rank → IsSimple (removed_form version rank)
removed_small V4 rank is = let small = ipv4_rank_small rank is in omega arith
removed_small V6 rank is = rank_small V6 rank is

block_small : (version : IpVersion) (block : AddressBlock) → IsAddressBlock block → AreNumerals (items_form (block_form version block))
block_small V4 block right =
    let small : ipv4_number block < 2 ^ 32 = shr_below block.addr 32 96 right.fits in
    let short = right.length in
    (omega arith, (omega arith, tt))
block_small V6 block right =
    let short = right.length in
    numerals_append (parts_form block.addr) (numeral block.len ∷ []) (parts_small block.addr right.fits) (omega arith, tt)

proto_small : (proto : Option ℕ) → IfSome proto (λ n. n < 2 ^ 8) → IsNumeral (proto_form proto)
proto_small None fits = tt
proto_small (Some n) fits = let small : n < 2 ^ 40 = omega arith in small

-- what a rule has, of either version
record IsRight (version : IpVersion) (rule : Rule) : Type 0 where
  priority : IsTraceRank version rule.priority
  right : HasConditions rule
  result : rule.result < 2 ^ 32

rule_right : (version : IpVersion) (rule : Rule) → IsTraceRule version rule → IsRight version rule
rule_right V4 rule is = record { priority = is.priority; right = is.right; result = is.result }
rule_right V6 rule is = record { priority = is.priority; right = is.right; result = is.result }

pub rule_small : (version : IpVersion) (rule : Rule) → IsTraceRule version rule → AreNumerals (items_form (rule_form version rule))
rule_small version rule traced =
    let is = rule_right version rule traced in
    let right = is.right in
    let sport = right.sport_right.ordered in
    let sport_fits = right.sport_right.fits in
    let dport = right.dport_right.ordered in
    let dport_fits = right.dport_right.fits in
    let answer = is.result in
    numerals_append (rank_form version rule.priority ++ block_form version rule.src ++ block_form version rule.dst) _
    (numerals_append (rank_form version rule.priority ++ block_form version rule.src) _
    (numerals_append (rank_form version rule.priority) _ (rank_small version rule.priority is.priority) (block_small version rule.src right.src_right))
    (block_small version rule.dst right.dst_right))
    (proto_small rule.proto right.proto_right, (omega arith, (omega arith, (omega arith, (omega arith, (omega arith, tt))))))

lane_small : (word : Word) → ((lane : ℕ) → slice_index word.lane lane < 2 ^ 32) → (place : ℕ) → slice_index word.lane place < 2 ^ 40
lane_small word fits place = let small = fits place in omega arith

word_small : (version : IpVersion) (word : Word) → ((lane : ℕ) → slice_index word.lane lane < 2 ^ 32) → AreNumerals (items_form (word_form version word))
word_small V4 word fits =
    (lane_small word fits 0, (lane_small word fits 4, (lane_small word fits 8, (lane_small word fits 9, (lane_small word fits 10, tt)))))
word_small V6 word fits = (
  lane_small word fits 0,
  (
    lane_small word fits 1,
    (
      lane_small word fits 2,
      (
        lane_small word fits 3,
        (
          lane_small word fits 4,
          (
            lane_small word fits 5,
            (
              lane_small word fits 6,
              (
                lane_small word fits 7,
                (lane_small word fits 8, (lane_small word fits 9, (lane_small word fits 10, tt))),
              ),
            ),
          ),
        ),
      ),
    ),
  ),
)

pub entry_small : (version : IpVersion) (entry : Entry) → IsTraceEntry version entry → AreNumerals (items_form (entry_form version entry))
entry_small version entry is = go version is
  where
    of_parts : (version : IpVersion) → ((lane : ℕ) → slice_index entry.value.lane lane < 2 ^ 32) → ((lane : ℕ) → slice_index entry.mask.lane lane < 2 ^ 32)
        → IsTraceRank version entry.tag → entry.result < 2 ^ 32 → AreNumerals (items_form (entry_form version entry))
    of_parts version value mask tag answer =
        numerals_append (word_form version entry.value ++ word_form version entry.mask ++ rank_form version entry.tag) (numeral entry.result ∷ [])
        (numerals_append (word_form version entry.value ++ word_form version entry.mask) (rank_form version entry.tag)
        (numerals_append (word_form version entry.value) (word_form version entry.mask) (word_small version entry.value value) (word_small version entry.mask mask))
        (rank_small version entry.tag tag))
        (omega arith, tt)

    go : (version : IpVersion) → IsTraceEntry version entry → AreNumerals (items_form (entry_form version entry))
    go V4 is = of_parts V4 is.value.fits is.mask.fits is.tag is.result
    go V6 is = of_parts V6 is.value.fits is.mask.fits is.tag is.result

-- its text is that of its value,
pub form_written : (version : IpVersion) (text : List ℕ) (line : TraceLine) → IsTraceLineOf version line
    → read (compact_text (form_of version text line)) ≡ Some (form_of version text line)
form_written version text (Head family acl bits slots) is = three_written _ _ _ _ _ _ tt tt (let most = is.1 in omega arith) refl
form_written version text (Commit n) is = one_written _ _ (omega arith)
form_written version text (Add rule) is = one_written _ _ (rule_small version rule is)
form_written version text (Set priority answer) is = one_written _ _ (numerals_append (rank_form version priority) (numeral answer ∷ []) (rank_small version priority is.0) (let small = is.1 in omega arith, tt))
form_written version text (Del priority) is = one_written _ _ (removed_small version priority is)
form_written version text (Put slot entry) is = two_written _ _ _ _ (entry_small version entry is.1) (let small = is.0 in omega arith) refl
form_written version text (Erase slot) is = one_written _ _ (omega arith)
form_written version text (Table Src port word) is = three_written _ _ _ _ _ _ (let small = is.0 in omega arith) tt (let small = is.1 in omega arith) refl
form_written version text (Table Dst port word) is = three_written _ _ _ _ _ _ (let small = is.0 in omega arith) tt (let small = is.1 in omega arith) refl
form_written version text Drain is = one_written _ _ tt
form_written version text (Done n) is = one_written _ _ (omega arith)
form_written version text (Refused n) is = one_written _ _ (omega arith)
form_written version text (End writes) is = one_written _ _ is
form_written version text (Fault line) is = two_written _ _ _ _ tt (omega arith) refl

-- and so is the line
pub line_written : (version : IpVersion) (text : List ℕ) (line : TraceLine) → IsTraceLineOf version line
    → trace_line version (compact_text (form_of version text line)) ≡ Some line
line_written version text line is = ap (λ found. found >>= line_in version) (form_written version text line is) ∙ line_back version text line is
