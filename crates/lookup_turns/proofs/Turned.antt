-- A turn keeps words current, and answers a search as a look-up.
use Rattle.std.proofs.Common.{◌≡◌, ℕ, zero, suc, ◌⊎◌, inl, inr, Bool, true, false, Option, Some, None, List, [], ◌∷◌, length, refl, ◌∙◌, ap, arith}
use Rattle.std.specs.Prelude.{nat_lt, drop}
use Rattle.rule_model.specs.declared.Key.{Key}
use Rattle.rule_model.specs.Key.{IsKey}
use Rattle.rule_model.specs.RuleSet.{Answer, answer}
use Rattle.tcam_device.specs.declared.Action.{Action}
use Rattle.tcam_device.specs.declared.Action.TheVariants.{Written, Drained}
use Rattle.tcam_device.specs.State.{State, lookup, on_device}
use Rattle.tcam_device.specs.Flight.{Flight, with_word, search_answer, word_answer, most_in_flight}
use Rattle.commit_writes.specs.Bits.{FieldBits}
use Rattle.commit_writes.specs.InFlight.{AreCurrent, ServesLive}
use Rattle.commit_writes.proofs.Current.{current_answers, are_current_part, are_current_more}
use Rattle.batch_order.specs.declared.Step.{Step}
use Rattle.batch_order.specs.declared.Step.TheVariants as step
use Rattle.batch_order.specs.Managed.{Managed, HeldCommit, Serves, live_now}
use Rattle.batch_order.specs.Steps.{Steps, StepsOn, KeepsCurrent}
use Rattle.batch_order.specs.CarriedOut.{ahead_of}
use Rattle.batch_order.proofs.under_way.Stepped.{not_drained}
use Rattle.lookup_turns.specs.Turns.{Outcome, SearchesOnce, translated}

-- a drain comes only where no word is in flight
on_empty : (old : Managed) (held : HeldCommit) (words : ℕ) (actions : List Action) (new : Managed) → StepsOn old held words actions step.Drained new → words ≡ 0
on_empty old held words [] new did = absurd (not_drained held.way held did.0)
on_empty old held words (Written write ∷ actions) new did = absurd (let clash = did.0 in cc)
on_empty old held zero (Drained ∷ actions) new did = refl
on_empty old held (suc words) (Drained ∷ actions) new did = absurd (let clash = did.0 in cc)

drains_empty : (old : Managed) (words : ℕ) (held : Option HeldCommit) (new : Managed) → Steps old words held step.Drained new → words ≡ 0
drains_empty old words None new did = absurd (let clash = did.0 in cc)
drains_empty old words (Some held) new did = on_empty old held words held.actions new did

no_words : (bits : FieldBits) (flight : Flight) → length flight ≡ 0 → AreCurrent bits flight
no_words bits [] none = tt
no_words bits (one ∷ flight) none = absurd (omega arith)

-- a step leaves the words in flight current
pub step_current : (old : Managed) (made : Step) (new : Managed) (flight : Flight) → KeepsCurrent old made new → Steps old (length flight) old.held made new
    → AreCurrent (live_now old) flight → AreCurrent (live_now new) flight
step_current old (step.Wrote write) new flight keeps did current = are_current_part (live_now new) (live_now old) flight keeps current
step_current old (step.Finished counts) new flight keeps did current = are_current_part (live_now new) (live_now old) flight keeps current
step_current old step.Idle new flight keeps did current = are_current_part (live_now new) (live_now old) flight keeps current
step_current old step.Drained new flight keeps did current = no_words (live_now new) flight (drains_empty old (length flight) old.held new did)
step_current old (step.Waiting words) new flight keeps did current = are_current_part (live_now new) (live_now old) flight keeps current
step_current old (step.Reverted undone) new flight keeps did current = are_current_part (live_now new) (live_now old) flight keeps current

-- a translation too
pub translate_current : (bits : FieldBits) (state : State) (key : Key) (flight : Flight) → ServesLive bits state → IsKey key → AreCurrent bits flight
    → AreCurrent bits (translated state key flight)
translate_current bits state key flight serves valid current = go (nat_lt (length flight) most_in_flight)
  where
    go : (room : Bool) → AreCurrent bits (elim room [ true ↦ with_word state key flight | false ↦ flight ])
    go true = are_current_more bits state key flight serves valid current
    go false = current

old_or_new : (slots : ℕ) (manager : Managed) (key : Key) (held : Option HeldCommit) → Serves (on_device slots manager.state) manager.rules held → IsKey key
    → (lookup (on_device slots manager.state) key ≡ answer manager.rules key) ⊎ (lookup (on_device slots manager.state) key ≡ answer (ahead_of held manager.rules) key)
old_or_new slots manager key None serves valid = inl (serves key valid)
old_or_new slots manager key (Some held) serves valid = serves key valid

-- a search answers as a look-up
pub search_seen : (slots : ℕ) (manager : Managed) (flight : Flight) (found : Option Answer) → Serves (on_device slots manager.state) manager.rules manager.held
    → ServesLive (live_now manager) (on_device slots manager.state) → AreCurrent (live_now manager) flight → found ≡ search_answer (on_device slots manager.state) flight
    → SearchesOnce slots manager flight (record { answered = found; actions = []; manager = manager; flight = drop 1 flight })
search_seen slots manager [] found serves live current is =
    ap (λ (a : Option Answer). let left : Outcome = record { answered = a; actions = []; manager = manager; flight = [] } in left) is
search_seen slots manager (oldest ∷ flight) found serves live current is =
    let state = on_device slots manager.state in
    let now = current_answers (live_now manager) state oldest.0 oldest.1 live current.0 in (
      word_answer state oldest.1,
      record {
        now = now;
        old_or_new = elim (old_or_new slots manager oldest.0 manager.held serves current.0.valid) [ inl old ↦ inl (now ∙ old) | inr new ↦ inr (now ∙ new) ];
      },
      ap (λ (a : Option Answer). let left : Outcome = record { answered = a; actions = []; manager = manager; flight = flight } in left) is,
    )
