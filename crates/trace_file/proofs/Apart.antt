-- A line that has a rank is one of a single version, since it has another number of values in the other.
use Rattle.std.proofs.Common.{◌≡◌, ℕ, Bool, true, false, cond, List, [], ◌∷◌, length, Option, Some, None, ◌⊎◌, inl, inr, refl, sym, ap, ◌∙◌, subst}
use Rattle.std.specs.Prelude.{◌&&◌, codes, option_map}
use Rattle.std.specs.Str.{bytes_eq}
use Rattle.serde_json.specs.Data.{Data, null, boolean, number, string, array, object, Members, no_members, member}
use Rattle.serde_json.specs.Find.{as_bool, as_str, as_object}
use Rattle.serde_json.specs.Read.{read}
use Rattle.rule_model.specs.declared.IpVersion.TheVariants.{V4, V6}
use Rattle.rule_model.specs.declared.Rule.{Rule}
use Rattle.rule_model.specs.declared.words.Entry.{Entry}
use Rattle.trace_file.specs.declared.TraceLine.{TraceLine}
use Rattle.trace_file.specs.declared.TraceLine.TheVariants.{Head, Commit, Add, Set, Del, Put, Erase, Table, Drain, Done, Refused, End, Fault}
use Rattle.trace_file.specs.Values.{most, number_to, rank_in, rule_in, entry_in, values_in}
use Rattle.trace_file.specs.Ipv6Values as ipv6
use Rattle.trace_file.specs.Lines.{added_in, change_in, changed_in, removed_in, drain_in, one_member, put_in, entry_by, fault_in, two_members, three_members, table_in, head_in, members_line, line_in, slots_in, family_in, field_in, choice_in, trace_line}
use Rattle.trace_file.specs.Forms.{NamesRank, VersionsAreApart}
use Rattle.trace_file.proofs.Limits.{first_step, mapped, passed, either}
use Rattle.trace_file.proofs.Ipv6Limits.{only-is}

-- of one choice both lines are the first or both the second
both : (test : Bool) (x x' y y' : Option TraceLine) (line other : TraceLine) → cond test x y ≡ Some line → cond test x' y' ≡ Some other
    → ((x ≡ Some line) × (x' ≡ Some other)) ⊎ ((y ≡ Some line) × (y' ≡ Some other))
both true x x' y y' line other same same' = inl (same, same')
both false x x' y y' line other same same' = inr (same, same')

-- how many values a rule, an entry and a change have
rule-length : (values : List Data) (rule : Rule) → rule_in values ≡ Some rule → length values ≡ 11
rule-length (a ∷ b ∷ c ∷ d ∷ e ∷ f ∷ g ∷ h ∷ i ∷ j ∷ k ∷ []) rule same = refl
rule-length values rule same = absurd (cc)

entry-length : (values : List Data) (entry : Entry) → entry_in values ≡ Some entry → length values ≡ 12
entry-length (a ∷ b ∷ c ∷ d ∷ e ∷ f ∷ g ∷ h ∷ i ∷ j ∷ k ∷ l ∷ []) entry same = refl
entry-length values entry same = absurd (cc)

change-length : (values : List Data) (line : TraceLine) → change_in values ≡ Some line → length values ≡ 2
change-length (a ∷ b ∷ []) line same = refl
change-length values line same = absurd (cc)

-- a number has none
rank-length : (value : Data) (rank : ℕ) → rank_in value ≡ Some rank → length (values_in value) ≡ 0
rank-length null rank same = absurd (cc)
rank-length (boolean b) rank same = absurd (cc)
rank-length (number n) rank same = refl
rank-length (string s) rank same = absurd (cc)
rank-length (array items) rank same = absurd (cc)
rank-length (object ms) rank same = absurd (cc)

-- no list has two lengths
two-lengths : (n a b : ℕ) → n ≡ a → n ≡ b → (a ≡ b → ⊥) → ⊥
two-lengths n a b same same' apart = apart (sym same ∙ same')

apart-added : (value : Data) (rule other : Rule) → added_in V4 value ≡ Some rule → added_in V6 value ≡ Some other → ⊥
apart-added value rule other same same' =
    two-lengths (length (values_in value)) 11 21 (rule-length (values_in value) rule same) (only-is 21 (values_in value) _ other same').0 (λ e. cc)

apart-changed : (value : Data) (line other : TraceLine) → changed_in V4 value ≡ Some line → changed_in V6 value ≡ Some other → ⊥
apart-changed value line other same same' =
    let w = mapped (ipv6.change_in (values_in value)) (λ found. Set found.0 found.1) other same' in
    two-lengths (length (values_in value)) 2 6 (change-length (values_in value) line same) (only-is 6 (values_in value) _ w.0 w.1).0 (λ e. cc)

apart-removed : (value : Data) (rank other : ℕ) → removed_in V4 value ≡ Some rank → removed_in V6 value ≡ Some other → ⊥
apart-removed value rank other same same' =
    two-lengths (length (values_in value)) 0 5 (rank-length value rank same) (only-is 5 (values_in value) _ other same').0 (λ e. cc)

apart-put : (value : Data) (entry other : Entry) → entry_by V4 value ≡ Some entry → entry_by V6 value ≡ Some other → ⊥
apart-put value entry other same same' =
    two-lengths (length (values_in value)) 12 28 (entry-length (values_in value) entry same) (only-is 28 (values_in value) _ other same').0 (λ e. cc)

-- a line of one number has no rank
no-rank : (found : Option ℕ) (form : ℕ → TraceLine) (line : TraceLine) → ((n : ℕ) → NamesRank (form n) → ⊥) → option_map form found ≡ Some line → NamesRank line → ⊥
no-rank found form line none same names = let w = mapped found form line same in none w.0 (subst NamesRank (sym w.2) names)

drain-none : (value : Data) (line : TraceLine) → drain_in value ≡ Some line → NamesRank line → ⊥
drain-none value line same names =
    let w = first_step (as_bool value) _ line same in
    let p = passed w.0 Drain line w.2 in
    let bad : NamesRank Drain = subst NamesRank (sym p.1) names in bad

one-apart : (key : List ℕ) (value : Data) (line other : TraceLine) → NamesRank line → one_member V4 key value ≡ Some line → one_member V6 key value ≡ Some other → ⊥
one-apart key value line other names same same' = elim (both (bytes_eq key (codes "commit")) _ _ _ _ line other same same') [
  | inl a ↦ no-rank (number_to (most 32) value) Commit line (λ n bad. bad) a.0 names
  | inr r1 ↦ elim (both (bytes_eq key (codes "add")) _ _ _ _ line other r1.0 r1.1) [
    | inl a ↦
        let w = mapped (added_in V4 value) Add line a.0 in
        let v = mapped (added_in V6 value) Add other a.1 in
        apart-added value w.0 v.0 w.1 v.1
    | inr r2 ↦ elim (both (bytes_eq key (codes "set")) _ _ _ _ line other r2.0 r2.1) [
      | inl a ↦ apart-changed value line other a.0 a.1
      | inr r3 ↦ elim (both (bytes_eq key (codes "del")) _ _ _ _ line other r3.0 r3.1) [
        | inl a ↦
            let w = mapped (removed_in V4 value) Del line a.0 in
            let v = mapped (removed_in V6 value) Del other a.1 in
            apart-removed value w.0 v.0 w.1 v.1
        | inr r4 ↦ elim (either (bytes_eq key (codes "erase")) _ _ line r4.0) [
          | inl a ↦ no-rank (number_to (most 32) value) Erase line (λ n bad. bad) a names
          | inr r5 ↦ elim (either (bytes_eq key (codes "drain")) _ _ line r5) [
            | inl a ↦ drain-none value line a names
            | inr r6 ↦ elim (either (bytes_eq key (codes "done")) _ _ line r6) [
              | inl a ↦ no-rank (number_to (most 32) value) Done line (λ n bad. bad) a names
              | inr r7 ↦ elim (either (bytes_eq key (codes "refused")) _ _ line r7) [
                | inl a ↦ no-rank (number_to (most 32) value) Refused line (λ n bad. bad) a names
                | inr r8 ↦ elim (either (bytes_eq key (codes "end")) _ _ line r8) [
                  | inl a ↦ no-rank (number_to (most 64) value) End line (λ n bad. bad) a names
                  | inr none ↦ absurd (cc)
                ]
              ]
            ]
          ]
        ]
      ]
    ]
  ]
]

two-apart : (first : List ℕ) (value : Data) (second : List ℕ) (slot : Data) (line other : TraceLine) → NamesRank line
    → two_members V4 first value second slot ≡ Some line → two_members V6 first value second slot ≡ Some other → ⊥
two-apart first value second slot line other names same same' = elim (both (bytes_eq first (codes "put") && bytes_eq second (codes "slot")) _ _ _ _ line other same same') [
  | inl a ↦
      let w = first_step (entry_by V4 value) _ line a.0 in
      let v = first_step (entry_by V6 value) _ other a.1 in
      apart-put value w.0 v.0 w.1 v.1
  | inr r ↦ elim (either (bytes_eq first (codes "fault") && bytes_eq second (codes "line")) _ _ line r.0) [
    | inl a ↦ let w = first_step (as_str value) _ line a in no-rank (number_to (most 32) slot) Fault line (λ n bad. bad) w.2 names
    | inr none ↦ absurd (cc)
  ]
]

table-none : (port table word : Data) (line : TraceLine) → table_in port table word ≡ Some line → NamesRank line → ⊥
table-none port table word line same names =
    let w1 = first_step (number_to (most 16) port) _ line same in
    let w2 = first_step (field_in table) _ line w1.2 in
    let w3 = first_step (number_to (most 16) word) _ line w2.2 in
    let is : Table w2.0 w1.0 w3.0 ≡ line = (let e : Some (Table w2.0 w1.0 w3.0) ≡ Some line = w3.2 in cc) in
    let bad : NamesRank (Table w2.0 w1.0 w3.0) = subst NamesRank (sym is) names in bad

head-none : (family mode slots : Data) (line : TraceLine) → head_in family mode slots ≡ Some line → NamesRank line → ⊥
head-none family mode slots line same names =
    let w1 = first_step (family_in family) _ line same in
    let w2 = first_step (choice_in (codes "cover") (codes "bits") mode) _ line w1.2 in
    let w3 = first_step (slots_in slots) _ line w2.2 in
    let is : Head w1.0.0 w1.0.1 w2.0 w3.0 ≡ line = (let e : Some (Head w1.0.0 w1.0.1 w2.0 w3.0) ≡ Some line = w3.2 in cc) in
    let bad : NamesRank (Head w1.0.0 w1.0.1 w2.0 w3.0) = subst NamesRank (sym is) names in bad

three-none : (first : List ℕ) (value : Data) (second : List ℕ) (other : Data) (third : List ℕ) (last : Data) (line : TraceLine)
    → three_members first value second other third last ≡ Some line → NamesRank line → ⊥
three-none first value second other third last line same names = elim (either (bytes_eq first (codes "family") && bytes_eq second (codes "mode") && bytes_eq third (codes "slots")) _ _ line same) [
  | inl a ↦ head-none value other last line a names
  | inr r ↦ elim (either (bytes_eq first (codes "port") && bytes_eq second (codes "table") && bytes_eq third (codes "word")) _ _ line r) [
    | inl a ↦ table-none value other last line a names
    | inr none ↦ absurd (cc)
  ]
]

members-apart : (ms : Members) (line other : TraceLine) → NamesRank line → members_line V4 ms ≡ Some line → members_line V6 ms ≡ Some other → ⊥
members-apart (member a x no_members) line other names same same' = one-apart a x line other names same same'
members-apart (member a x (member b y no_members)) line other names same same' = two-apart a x b y line other names same same'
members-apart (member a x (member b y (member c z no_members))) line other names same same' = three-none a x b y c z line same names
members-apart ms line other names same same' = absurd (cc)

value-apart : (value : Data) (line other : TraceLine) → NamesRank line → line_in V4 value ≡ Some line → line_in V6 value ≡ Some other → ⊥
value-apart value line other names same same' =
    let w = first_step (as_object value) (members_line V4) line same in
    let v = first_step (as_object value) (members_line V6) other same' in
    let one : v.0 ≡ w.0 = (let e : Some v.0 ≡ Some w.0 = sym v.1 ∙ w.1 in cc) in
    members-apart w.0 line other names w.2 (subst (λ ms. members_line V6 ms ≡ Some other) one v.2)

pub versions-apart : VersionsAreApart
versions-apart text line other names same same' =
    let w = first_step (read text) (line_in V4) line same in
    let v = first_step (read text) (line_in V6) other same' in
    let one : v.0 ≡ w.0 = (let e : Some v.0 ≡ Some w.0 = sym v.1 ∙ w.1 in cc) in
    value-apart w.0 line other names w.2 (subst (λ value. line_in V6 value ≡ Some other) one v.2)
