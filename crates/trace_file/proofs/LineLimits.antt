-- Each line that is read is one of a trace, with all numbers within their limits.
use Rattle.std.proofs.Common.{◌≡◌, ℕ, ◌^◌, ◌<◌, ◌≤◌, List, [], ◌∷◌, Some, inl, inr, subst, arith, leb-true}
use Rattle.std.specs.Prelude.{nat_le, ◌&&◌, codes, option_map}
use Rattle.std.specs.Str.{bytes_eq}
use Rattle.slot_order.specs.Order.{script_slots}
use Rattle.serde_json.specs.Data.{Data, Members, no_members, member}
use Rattle.serde_json.specs.Find.{as_bool, as_str, as_object}
use Rattle.serde_json.specs.Read.{read}
use Rattle.rule_model.specs.declared.IpVersion.{IpVersion}
use Rattle.rule_model.specs.declared.IpVersion.TheVariants.{V4, V6}
use Rattle.rule_model.specs.declared.Rule.{Rule}
use Rattle.rule_model.specs.declared.words.Entry.{Entry}
use Rattle.trace_file.specs.declared.TraceLine.{TraceLine}
use Rattle.trace_file.specs.declared.TraceLine.TheVariants.{Head, Commit, Add, Set, Del, Put, Erase, Table, Drain, Done, Refused, End, Fault}
use Rattle.trace_file.specs.Values.{most, number_to, rank_in, rule_in, entry_in, values_in}
use Rattle.trace_file.specs.Ipv6Values as ipv6
use Rattle.trace_file.specs.Ipv6Values.{rank_at, rule_at, entry_at}
use Rattle.trace_file.specs.Lines.{added_in, change_in, changed_in, removed_in, entry_by, drain_in, one_member, put_in, fault_in, two_members, table_in, family_in, head_in, three_members, members_line, line_in, slots_in, choice_in, field_in, trace_line}
use Rattle.trace_file.specs.Forms.{IsIpv4Rule, IsIpv4Entry, IsTraceRank, IsTraceRule, IsTraceEntry, IsTraceLineOf}
use Rattle.trace_file.proofs.Limits.{first_step, mapped, passed, either, number-is, bits-is, rank-is, rule_of-is, entry_of-is}
use Rattle.trace_file.proofs.Ipv6Limits.{only-is, rank6-is, rule6-is, entry6-is, change6-is}

rule-is : (values : List Data) (rule : Rule) → rule_in values ≡ Some rule → IsIpv4Rule rule
rule-is (p ∷ sa ∷ sl ∷ da ∷ dl ∷ pr ∷ a ∷ b ∷ c ∷ d ∷ r ∷ []) rule same = rule_of-is p sa sl da dl pr a b c d r rule same
rule-is values rule same = absurd (cc)

entry-is : (values : List Data) (entry : Entry) → entry_in values ≡ Some entry → IsIpv4Entry entry
entry-is (a ∷ b ∷ c ∷ d ∷ e ∷ f ∷ g ∷ h ∷ i ∷ j ∷ t ∷ r ∷ []) entry same = entry_of-is a b c d e f g h i j t r entry same
entry-is values entry same = absurd (cc)

change-is : (values : List Data) (line : TraceLine) → change_in values ≡ Some line → IsTraceLineOf V4 line
change-is (p ∷ r ∷ []) line same =
    let w1 = first_step (rank_in p) _ line same in
    let w2 = first_step (number_to (most 32) r) _ line w1.2 in
    subst (IsTraceLineOf V4) (let e : Some (Set w1.0 w2.0) ≡ Some line = w2.2 in let k : Set w1.0 w2.0 ≡ line = cc in k) (rank-is p w1.0 w1.1, bits-is 32 r w2.0 (omega arith) w2.1)
change-is values line same = absurd (cc)

-- the same by the version
added-is : (version : IpVersion) (value : Data) (rule : Rule) → added_in version value ≡ Some rule → IsTraceRule version rule
added-is V4 value rule same = rule-is (values_in value) rule same
added-is V6 value rule same = rule6-is (values_in value) rule (only-is 21 (values_in value) (rule_at (values_in value)) rule same).1

removed-is : (version : IpVersion) (value : Data) (rank : ℕ) → removed_in version value ≡ Some rank → IsTraceRank version rank
removed-is V4 value rank same = rank-is value rank same
removed-is V6 value rank same = rank6-is (values_in value) 0 rank (only-is 5 (values_in value) (rank_at (values_in value) 0) rank same).1

put_entry-is : (version : IpVersion) (value : Data) (entry : Entry) → entry_by version value ≡ Some entry → IsTraceEntry version entry
put_entry-is V4 value entry same = entry-is (values_in value) entry same
put_entry-is V6 value entry same = entry6-is (values_in value) entry (only-is 28 (values_in value) (entry_at (values_in value)) entry same).1

changed-is : (version : IpVersion) (value : Data) (line : TraceLine) → changed_in version value ≡ Some line → IsTraceLineOf version line
changed-is V4 value line same = change-is (values_in value) line same
changed-is V6 value line same =
    let w = mapped (ipv6.change_in (values_in value)) (λ found. Set found.0 found.1) line same in
    subst (IsTraceLineOf V6) w.2 (change6-is (values_in value) w.0 (only-is 6 (values_in value) _ w.0 w.1).1)

module _ (version : IpVersion) where
  drain-is : (value : Data) (line : TraceLine) → drain_in value ≡ Some line → IsTraceLineOf version line
  drain-is value line same =
      let w = first_step (as_bool value) _ line same in
      let p = passed w.0 Drain line w.2 in
      subst (IsTraceLineOf version) p.1 tt

  -- a line that is a number of so many bits
  numbered : (bits : ℕ) (value : Data) (line : TraceLine) (form : ℕ → TraceLine) → 0 < 2 ^ bits → ((n : ℕ) → n < 2 ^ bits → IsTraceLineOf version (form n)) → option_map form (number_to (most bits) value) ≡ Some line → IsTraceLineOf version line
  numbered bits value line form some is same = let w = mapped (number_to (most bits) value) form line same in subst (IsTraceLineOf version) w.2 (is w.0 (bits-is bits value w.0 some w.1))

  one-is : (key : List ℕ) (value : Data) (line : TraceLine) → one_member version key value ≡ Some line → IsTraceLineOf version line
  one-is key value line same = elim (either (bytes_eq key (codes "commit")) _ _ line same) [
    | inl a ↦ numbered 32 value line Commit (omega arith) (λ n fits. fits) a
    | inr r1 ↦ elim (either (bytes_eq key (codes "add")) _ _ line r1) [
      | inl a ↦ let w = mapped (added_in version value) Add line a in subst (IsTraceLineOf version) w.2 (added-is version value w.0 w.1)
      | inr r2 ↦ elim (either (bytes_eq key (codes "set")) _ _ line r2) [
        | inl a ↦ changed-is version value line a
        | inr r3 ↦ elim (either (bytes_eq key (codes "del")) _ _ line r3) [
          | inl a ↦ let w = mapped (removed_in version value) Del line a in subst (IsTraceLineOf version) w.2 (removed-is version value w.0 w.1)
          | inr r4 ↦ elim (either (bytes_eq key (codes "erase")) _ _ line r4) [
            | inl a ↦ numbered 32 value line Erase (omega arith) (λ n fits. fits) a
            | inr r5 ↦ elim (either (bytes_eq key (codes "drain")) _ _ line r5) [
              | inl a ↦ drain-is value line a
              | inr r6 ↦ elim (either (bytes_eq key (codes "done")) _ _ line r6) [
                | inl a ↦ numbered 32 value line Done (omega arith) (λ n fits. fits) a
                | inr r7 ↦ elim (either (bytes_eq key (codes "refused")) _ _ line r7) [
                  | inl a ↦ numbered 32 value line Refused (omega arith) (λ n fits. fits) a
                  | inr r8 ↦ elim (either (bytes_eq key (codes "end")) _ _ line r8) [
                    | inl a ↦ numbered 64 value line End (omega arith) (λ n fits. fits) a
                    | inr none ↦ absurd (cc)
                  ]
                ]
              ]
            ]
          ]
        ]
      ]
    ]
  ]

  put-is : (put slot : Data) (line : TraceLine) → put_in version put slot ≡ Some line → IsTraceLineOf version line
  put-is put slot line same =
      let w1 = first_step (entry_by version put) _ line same in
      let w2 = first_step (number_to (most 32) slot) _ line w1.2 in
      subst (IsTraceLineOf version) (let e : Some (Put w2.0 w1.0) ≡ Some line = w2.2 in let k : Put w2.0 w1.0 ≡ line = cc in k) (bits-is 32 slot w2.0 (omega arith) w2.1, put_entry-is version put w1.0 w1.1)

  fault-is : (text at : Data) (line : TraceLine) → fault_in text at ≡ Some line → IsTraceLineOf version line
  fault-is text at line same = let w = first_step (as_str text) _ line same in numbered 32 at line Fault (omega arith) (λ n fits. fits) w.2

  two-is : (first : List ℕ) (value : Data) (second : List ℕ) (other : Data) (line : TraceLine) → two_members version first value second other ≡ Some line → IsTraceLineOf version line
  two-is first value second other line same = elim (either (bytes_eq first (codes "put") && bytes_eq second (codes "slot")) _ _ line same) [
    | inl a ↦ put-is value other line a
    | inr r ↦ elim (either (bytes_eq first (codes "fault") && bytes_eq second (codes "line")) _ _ line r) [
      | inl a ↦ fault-is value other line a
      | inr none ↦ absurd (cc)
    ]
  ]

  table-is : (port table word : Data) (line : TraceLine) → table_in port table word ≡ Some line → IsTraceLineOf version line
  table-is port table word line same =
      let w1 = first_step (number_to (most 16) port) _ line same in
      let w2 = first_step (field_in table) _ line w1.2 in
      let w3 = first_step (number_to (most 16) word) _ line w2.2 in
      subst (IsTraceLineOf version) (let e : Some (Table w2.0 w1.0 w3.0) ≡ Some line = w3.2 in let k : Table w2.0 w1.0 w3.0 ≡ line = cc in k) (bits-is 16 port w1.0 (omega arith) w1.1, bits-is 16 word w3.0 (omega arith) w3.1)

  slots-is : (value : Data) (n : ℕ) → slots_in value ≡ Some n → (1 ≤ n) × (n ≤ script_slots)
  slots-is value n same =
      let w = first_step (number_to script_slots value) _ n same in
      let p = passed (nat_le 1 w.0) w.0 n w.2 in
      let some : 1 ≤ w.0 = leb-true 1 w.0 p.0 in
      let most : w.0 ≤ script_slots = number-is script_slots value w.0 w.1 in
      let e = p.1 in
      (omega arith, omega arith)

  head-is : (family mode slots : Data) (line : TraceLine) → head_in family mode slots ≡ Some line → IsTraceLineOf version line
  head-is family mode slots line same =
      let w1 = first_step (family_in family) _ line same in
      let w2 = first_step (choice_in (codes "cover") (codes "bits") mode) _ line w1.2 in
      let w3 = first_step (slots_in slots) _ line w2.2 in
      subst (IsTraceLineOf version) (let e : Some (Head w1.0.0 w1.0.1 w2.0 w3.0) ≡ Some line = w3.2 in let k : Head w1.0.0 w1.0.1 w2.0 w3.0 ≡ line = cc in k) (slots-is slots w3.0 w3.1)

  three-is : (first : List ℕ) (value : Data) (second : List ℕ) (other : Data) (third : List ℕ) (last : Data) (line : TraceLine) → three_members first value second other third last ≡ Some line → IsTraceLineOf version line
  three-is first value second other third last line same = elim (either (bytes_eq first (codes "family") && bytes_eq second (codes "mode") && bytes_eq third (codes "slots")) _ _ line same) [
    | inl a ↦ head-is value other last line a
    | inr r ↦ elim (either (bytes_eq first (codes "port") && bytes_eq second (codes "table") && bytes_eq third (codes "word")) _ _ line r) [
      | inl a ↦ table-is value other last line a
      | inr none ↦ absurd (cc)
    ]
  ]

  members-is : (ms : Members) (line : TraceLine) → members_line version ms ≡ Some line → IsTraceLineOf version line
  members-is (member a x no_members) line same = one-is a x line same
  members-is (member a x (member b y no_members)) line same = two-is a x b y line same
  members-is (member a x (member b y (member c z no_members))) line same = three-is a x b y c z line same
  members-is ms line same = absurd (cc)

  -- the line of a value
  pub line-is : (value : Data) (line : TraceLine) → line_in version value ≡ Some line → IsTraceLineOf version line
  line-is value line same = let w = first_step (as_object value) (members_line version) line same in members-is w.0 line w.2

  -- and of a text
  pub trace_line-is : (text : List ℕ) (line : TraceLine) → trace_line version text ≡ Some line → IsTraceLineOf version line
  trace_line-is text line same = let w = first_step (read text) (line_in version) line same in line-is w.0 line w.2
