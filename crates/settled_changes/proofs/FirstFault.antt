-- What is known of the first requests: the strict commands among them, the priorities that they name strictly and
-- forgivingly, and what their fault comes to.
use Rattle.std.proofs.Common.{◌≡◌, ℕ, ◌+◌, ◌≤◌, true, false, not, Option, Some, None, unwrap_or, List, [], ◌∷◌, ◌++◌, length, take, drop, slice_get, refl, sym, ap, ap₂, subst, ◌∙◌}
use Rattle.std.specs.BTreeSet.{BTreeSet, Updates, contains}
use Rattle.std.specs.Ordering.{nat_cmp}
use Rattle.std.specs.Option.{option_or}
use Rattle.std.proofs.lemmas.Bool.{cond-true, cond-false}
use Rattle.std.proofs.lemmas.List.{append-nil, append_assoc, drop_all, drop_more}
use Rattle.std.proofs.lemmas.List.Elements.{filter_map-append}
use Rattle.rule_model.specs.declared.Rule.{Rule}
use Rattle.rule_store.specs.declared.BatchFault.{BatchFault}
use Rattle.rule_store.specs.declared.BatchFault.TheVariants.{Twice}
use Rattle.rule_store.specs.declared.Command.{Command}
use Rattle.rule_store.specs.Batch.{named_priority, command_fault, batch_fault, batch_fault_after}
use Rattle.rule_store.proofs.Sums.{slice_get-within, slice_get-read, take-read}
use Rattle.settled_changes.specs.declared.Request.{Request}
use Rattle.settled_changes.specs.declared.Request.TheVariants.{Strict, Put, Drop}
use Rattle.settled_changes.specs.Requests.{asked_priority, is_strict, strict_command, strict_commands, is_strictly_asked, is_forgivingly_asked, request_fault, requests_fault, requests_fault_after}
use Rattle.settled_changes.proofs.NamedSets.{none-in, asked-passes, asked-fails}

or-assoc : (a b c : Option BatchFault) → option_or a (option_or b c) ≡ option_or (option_or a b) c
or-assoc None b c = refl
or-assoc (Some fault) b c = refl

or-none : (a : Option BatchFault) → option_or a None ≡ a
or-none None = refl
or-none (Some fault) = refl

or-some : (a : Option BatchFault) (fault : BatchFault) (rest : Option BatchFault) → option_or a (option_or (Some fault) rest) ≡ Some (unwrap_or a fault)
or-some None fault rest = refl
or-some (Some first) fault rest = refl

-- the fault of a batch with one command more
batch-more : (rules : List Rule) (earlier commands : List Command) (command : Command)
    → batch_fault_after rules earlier (commands ++ command ∷ []) ≡ option_or (batch_fault_after rules earlier commands) (command_fault rules (earlier ++ commands) command)
batch-more rules earlier [] command = or-none _ ∙ ap (λ some. command_fault rules some command) (sym (append-nil earlier))
batch-more rules earlier (first ∷ commands) command =
    ap (option_or (command_fault rules earlier first))
    (batch-more rules (earlier ++ first ∷ []) commands command
    ∙ ap (λ some. option_or (batch_fault_after rules (earlier ++ first ∷ []) commands) (command_fault rules some command)) (append_assoc earlier (first ∷ []) commands))
    ∙ or-assoc (command_fault rules earlier first) (batch_fault_after rules (earlier ++ first ∷ []) commands) (command_fault rules (earlier ++ first ∷ commands) command)

-- so much of some requests is known
pub record IsKnown (rules : List Rule) (requests : List Request) (place : ℕ) (strict : List Command) (strictly forgivingly : BTreeSet ℕ) : Type 0 where
  pub commands : strict ≡ strict_commands (take place requests)
  pub strictly_are : (priority : ℕ) → contains nat_cmp strictly priority ≡ is_strictly_asked priority (take place requests)
  pub forgivingly_are : (priority : ℕ) → contains nat_cmp forgivingly priority ≡ is_forgivingly_asked priority (take place requests)
  pub fault : requests_fault rules requests ≡ option_or (batch_fault rules strict) (requests_fault_after rules (take place requests) (drop place requests))

-- a request that is no strict one
pub not-strict : (request : Request) → ((command : Command) → request ≡ Strict command → ⊥) → is_strict request ≡ false
not-strict (Strict command) isnt = absurd (isnt command refl)
not-strict (Put rule) isnt = refl
not-strict (Drop priority) isnt = refl

-- the same of what is equal
pub known-same : (rules : List Rule) (requests : List Request) (place : ℕ) (strict strict' : List Command) (strictly strictly' forgivingly forgivingly' : BTreeSet ℕ)
    → strict' ≡ strict → strictly' ≡ strictly → forgivingly' ≡ forgivingly → IsKnown rules requests place strict strictly forgivingly → IsKnown rules requests place strict' strictly' forgivingly'
known-same rules requests place strict strict' strictly strictly' forgivingly forgivingly' commands_are strictly_are forgivingly_are known =
    subst (λ some. IsKnown rules requests place some strictly' forgivingly') (sym commands_are)
    (subst (λ some. IsKnown rules requests place strict some forgivingly') (sym strictly_are)
    (subst (λ some. IsKnown rules requests place strict strictly some) (sym forgivingly_are) known))

-- of none
pub known-none : (rules : List Rule) (requests : List Request) (strictly forgivingly : BTreeSet ℕ) → strictly.keys ≡ [] → forgivingly.keys ≡ [] → IsKnown rules requests 0 [] strictly forgivingly
known-none rules requests strictly forgivingly no_strict no_forgiving = record {
  commands = refl;
  strictly_are = λ priority. none-in strictly priority no_strict;
  forgivingly_are = λ priority. none-in forgivingly priority no_forgiving;
  fault = refl;
}

-- of all
pub known-all : (rules : List Rule) (requests : List Request) (place : ℕ) (strict : List Command) (strictly forgivingly : BTreeSet ℕ)
    → IsKnown rules requests place strict strictly forgivingly → length requests ≤ place → requests_fault rules requests ≡ batch_fault rules strict
known-all rules requests place strict strictly forgivingly known all =
    known.fault ∙ ap (λ some. option_or (batch_fault rules strict) (requests_fault_after rules (take place requests) some)) (drop_all place requests all) ∙ or-none (batch_fault rules strict)

module _ (rules : List Rule) (requests : List Request) (place : ℕ) (request : Request) (read : slice_get requests place ≡ Some request) where
  grown : take (place + 1) requests ≡ take place requests ++ request ∷ []
  grown = take-read requests place request read

  split : drop place requests ≡ request ∷ drop (place + 1) requests
  split = drop_more requests place request (slice_get-within requests place request read) ∙ ap (λ (first : Request). first ∷ drop (place + 1) requests) (slice_get-read requests place request read)

  -- the fault behind the earlier ones, by the one at the place
  from-here : (fault : Option BatchFault) → request_fault rules (take place requests) request ≡ fault
      → requests_fault_after rules (take place requests) (drop place requests) ≡ option_or fault (requests_fault_after rules (take (place + 1) requests) (drop (place + 1) requests))
  from-here fault is =
      ap (requests_fault_after rules (take place requests)) split
      ∙ ap₂ (λ (found : Option BatchFault) (earlier : List Request). option_or found (requests_fault_after rules earlier (drop (place + 1) requests))) is (sym grown)

  module _ (strict : List Command) (strictly forgivingly : BTreeSet ℕ) (known : IsKnown rules requests place strict strictly forgivingly) where
    -- a request that is mixed with those before it fails, where none before it does
    mixed : (own : ℕ) → request_fault rules (take place requests) request ≡ Some (Twice own) → requests_fault rules requests ≡ Some (unwrap_or (batch_fault rules strict) (Twice own))
    mixed own is =
        known.fault ∙ ap (option_or (batch_fault rules strict)) (from-here (Some (Twice own)) is)
        ∙ or-some (batch_fault rules strict) (Twice own) (requests_fault_after rules (take (place + 1) requests) (drop (place + 1) requests))

    pub mixed-strict : (command : Command) → request ≡ Strict command → contains nat_cmp forgivingly (named_priority command) ≡ true → requests_fault rules requests ≡ Some (unwrap_or (batch_fault rules strict) (Twice (named_priority command)))
    mixed-strict command is named =
        mixed (named_priority command) (ap (request_fault rules (take place requests)) is ∙ cond-true _ _ _ (sym (known.forgivingly_are (named_priority command)) ∙ named))

    pub mixed-forgiving : is_strict request ≡ false → contains nat_cmp strictly (asked_priority request) ≡ true → requests_fault rules requests ≡ Some (unwrap_or (batch_fault rules strict) (Twice (asked_priority request)))
    mixed-forgiving forgiving named = mixed (asked_priority request) (by request forgiving (sym (known.strictly_are (asked_priority request)) ∙ named))
      where
        by : (one : Request) → is_strict one ≡ false → is_strictly_asked (asked_priority one) (take place requests) ≡ true → request_fault rules (take place requests) one ≡ Some (Twice (asked_priority one))
        by (Strict command) isnt asked = absurd (let bad : true ≡ false = isnt in cc)
        by (Put rule) isnt asked = cond-true _ _ _ asked
        by (Drop priority) isnt asked = cond-true _ _ _ asked

    -- one that isn't mixed: a strict one,
    pub known-strict : (command : Command) (new : BTreeSet ℕ) → request ≡ Strict command → contains nat_cmp forgivingly (named_priority command) ≡ false
        → Updates nat_cmp strictly new (named_priority command) true → IsKnown rules requests (place + 1) (strict ++ command ∷ []) new forgivingly
    known-strict command new is unnamed updates = record {
      commands =
          ap (λ some. some ++ command ∷ []) known.commands
          ∙ sym (ap strict_commands (grown ∙ ap (λ (one : Request). take place requests ++ one ∷ []) is) ∙ filter_map-append strict_command (take place requests) (Strict command ∷ []));
      strictly_are = λ priority.
          asked-passes is_strict (take place requests) (Strict command) priority strictly new refl known.strictly_are updates
          ∙ sym (ap (is_strictly_asked priority) (grown ∙ ap (λ (one : Request). take place requests ++ one ∷ []) is));
      forgivingly_are = λ priority.
          asked-fails (λ (one : Request). not (is_strict one)) (take place requests) (Strict command) priority forgivingly refl known.forgivingly_are
          ∙ sym (ap (is_forgivingly_asked priority) (grown ∙ ap (λ (one : Request). take place requests ++ one ∷ []) is));
      fault =
          known.fault
          ∙ ap (option_or (batch_fault rules strict)) (from-here (command_fault rules strict command) taken)
          ∙ or-assoc (batch_fault rules strict) (command_fault rules strict command) (requests_fault_after rules (take (place + 1) requests) (drop (place + 1) requests))
          ∙ ap (λ (found : Option BatchFault). option_or found (requests_fault_after rules (take (place + 1) requests) (drop (place + 1) requests))) (sym (batch-more rules [] strict command));
    }
      where
        taken : request_fault rules (take place requests) request ≡ command_fault rules strict command
        taken =
            ap (request_fault rules (take place requests)) is
            ∙ cond-false _ _ _ (sym (known.forgivingly_are (named_priority command)) ∙ unnamed)
            ∙ ap (λ some. command_fault rules some command) (sym known.commands)

    -- and a forgiving one
    pub known-forgiving : (new : BTreeSet ℕ) → is_strict request ≡ false → contains nat_cmp strictly (asked_priority request) ≡ false
        → Updates nat_cmp forgivingly new (asked_priority request) true → IsKnown rules requests (place + 1) strict strictly new
    known-forgiving new forgiving unnamed updates = record {
      commands = known.commands ∙ sym (ap strict_commands grown ∙ filter_map-append strict_command (take place requests) (request ∷ []) ∙ none request forgiving);
      strictly_are = λ priority. asked-fails is_strict (take place requests) request priority strictly forgiving known.strictly_are ∙ sym (ap (is_strictly_asked priority) grown);
      forgivingly_are = λ priority.
          asked-passes (λ (one : Request). not (is_strict one)) (take place requests) request priority forgivingly new (ap not forgiving) known.forgivingly_are updates
          ∙ sym (ap (is_forgivingly_asked priority) grown);
      fault = known.fault ∙ ap (option_or (batch_fault rules strict)) (from-here None (by request forgiving (sym (known.strictly_are (asked_priority request)) ∙ unnamed)));
    }
      where
        none : (one : Request) → is_strict one ≡ false → strict_commands (take place requests) ++ strict_commands (one ∷ []) ≡ strict_commands (take place requests)
        none (Strict command) isnt = absurd (let bad : true ≡ false = isnt in cc)
        none (Put rule) isnt = append-nil _
        none (Drop priority) isnt = append-nil _

        by : (one : Request) → is_strict one ≡ false → is_strictly_asked (asked_priority one) (take place requests) ≡ false → request_fault rules (take place requests) one ≡ None
        by (Strict command) isnt asked = absurd (let bad : true ≡ false = isnt in cc)
        by (Put rule) isnt asked = cond-false _ _ _ asked
        by (Drop priority) isnt asked = cond-false _ _ _ asked
