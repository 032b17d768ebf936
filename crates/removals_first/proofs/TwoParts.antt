-- Two parts, one after the other.
use Rattle.std.proofs.Common.{◌≡◌, ℕ, ◌+◌, ◌-◌, ◌≤◌, List, ◌++◌, length, take, ◌⊎◌, inl, inr, sym, ap, subst, ◌∙◌, arith}
use Rattle.std.proofs.lemmas.Bool.{cases_lt}
use Rattle.std.proofs.lemmas.List.{take-append-le}
use Rattle.std.proofs.Math.Seq.{take-append-add}
use Rattle.rule_model.specs.declared.Rule.{Rule}
use Rattle.rule_model.specs.RuleSet.{answer}
use Rattle.tcam_device.specs.declared.Write.{Write}
use Rattle.tcam_device.specs.State.{State, lookup, Shows, state_after}
use Rattle.tcam_device.specs.Hitless.{ShowsOldOrNew, KeepsOldOrNew, TurnsAt}
use Rattle.tcam_device.proofs.Spans.{state_after-append}
use Rattle.removals_first.specs.Early.{IsBetween, TwoPartsAreHitless, TwoPartsTurnOnce, NoOtherSetBetween}

module _ (state : State) (first second : List Write) where
  -- while the first part is made
  in-first : (n : ℕ) → n ≤ length first → state_after state (take n (first ++ second)) ≡ state_after state (take n first)
  in-first n within = ap (state_after state) (take-append-le n first second within)

  -- and while the second one is
  in-second : (k : ℕ) → state_after state (take (length first + k) (first ++ second)) ≡ state_after (state_after state first) (take k second)
  in-second k = ap (state_after state) (take-append-add first second k) ∙ state_after-append state first (take k second)

module _ (old middle new : List Rule) (state : State) (first second : List Write) (between : IsBetween old middle new) where
  during : KeepsOldOrNew old middle state first → KeepsOldOrNew middle new (state_after state first) second → (n : ℕ) → ShowsOldOrNew (state_after state (take n (first ++ second))) old new
  during one two n key is_key = elim (cases_lt (length first) n) [
    | inr within ↦ subst (λ s. (lookup s key ≡ answer old key) ⊎ (lookup s key ≡ answer new key)) (sym (in-first state first second n within)) (elim (one.during n key is_key) [
      | inl is_old ↦ inl is_old
      | inr is_middle ↦ to is_middle
    ])
    | inl behind ↦
        let count : length first + (n - length first) ≡ n = omega arith in
        subst (λ s. (lookup s key ≡ answer old key) ⊎ (lookup s key ≡ answer new key))
        (sym (in-second state first second (n - length first)) ∙ ap (λ m. state_after state (take m (first ++ second))) count)
        (elim (two.during (n - length first) key is_key) [ inl is_middle ↦ to is_middle | inr is_new ↦ inr is_new ])
  ]
    where
      to : {found : Rattle.rule_model.specs.RuleSet.Answer} → found ≡ answer middle key → (found ≡ answer old key) ⊎ (found ≡ answer new key)
      to is = elim (between key is_key) [ inl a ↦ inl (is ∙ a) | inr b ↦ inr (is ∙ b) ]

pub parts-hitless : TwoPartsAreHitless
parts-hitless old middle new state first second between one two = record {
  on_the_way = record { before = one.on_the_way.before; during = during old middle new state first second between one.on_the_way two.on_the_way };
  after = subst (λ s. Shows s new) (sym (state_after-append state first second)) two.after;
}

pub parts-turn : TwoPartsTurnOnce
parts-turn old middle new state first second between one two key is_key = go (one key is_key) (two key is_key) (between key is_key)
  where
    go : (turn : ℕ) × TurnsAt turn old middle state first key → (turn : ℕ) × TurnsAt turn middle new (state_after state first) second key
        → (answer middle key ≡ answer old key) ⊎ (answer middle key ≡ answer new key) → (turn : ℕ) × TurnsAt turn old new state (first ++ second) key
    -- the key has the old answer all through the first part, and turns in the second one
    go (a, is_a) (b, is_b) (inl same) = (
      length first + b,
      record {
        before = λ n less. elim (cases_lt (length first) n) [
          | inr within ↦ ap (λ s. lookup s key) (in-first state first second n within) ∙ (elim (cases_lt n a) [ inl early ↦ is_a.before n early | inr late ↦ is_a.since n late ∙ same ])
          | inl behind ↦
              let count : length first + (n - length first) ≡ n = omega arith in
              ap (λ m. lookup (state_after state (take m (first ++ second))) key) (sym count) ∙ ap (λ s. lookup s key) (in-second state first second (n - length first))
              ∙ is_b.before (n - length first) (omega arith) ∙ same
        ];
        since = λ n least.
            let count : length first + (n - length first) ≡ n = omega arith in
            ap (λ m. lookup (state_after state (take m (first ++ second))) key) (sym count) ∙ ap (λ s. lookup s key) (in-second state first second (n - length first))
            ∙ is_b.since (n - length first) (omega arith);
      },
    )
    -- it turns in the first part, and has the new answer all through the second one
    go (a, is_a) (b, is_b) (inr same) = elim (cases_lt (length first) a) [
      | inr within ↦ (
        a,
        record {
          before = λ n less. ap (λ s. lookup s key) (in-first state first second n (omega arith)) ∙ is_a.before n less;
          since = λ n least. elim (cases_lt (length first) n) [
            | inr inside ↦ ap (λ s. lookup s key) (in-first state first second n inside) ∙ is_a.since n least ∙ same
            | inl behind ↦ second_new n (omega arith)
          ];
        },
      )
      | inl past ↦ (
        length first + 1,
        record {
          before = λ n less. ap (λ s. lookup s key) (in-first state first second n (omega arith)) ∙ is_a.before n (omega arith);
          since = λ n least. second_new n (omega arith);
        },
      )
    ]
      where
        second_new : (n : ℕ) → length first ≤ n → lookup (state_after state (take n (first ++ second))) key ≡ answer new key
        second_new n least =
            let count : length first + (n - length first) ≡ n = omega arith in
            ap (λ m. lookup (state_after state (take m (first ++ second))) key) (sym count) ∙ ap (λ s. lookup s key) (in-second state first second (n - length first))
            ∙ elim (cases_lt (n - length first) b) [ inl early ↦ is_b.before (n - length first) early ∙ same | inr late ↦ is_b.since (n - length first) late ]

pub no-other : NoOtherSetBetween
no-other old middle new state writes n keeps shows key is_key = elim (keeps.during n key is_key) [
  | inl is_old ↦ inl (sym (shows key is_key) ∙ is_old)
  | inr is_new ↦ inr (sym (shows key is_key) ∙ is_new)
]
