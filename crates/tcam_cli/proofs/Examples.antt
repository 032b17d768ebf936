-- The promise of the top call at some small scripts, each with its whole report.
use Rattle.std.proofs.Common.{◌≡◌, false, ℕ, ◌∙◌, Contains, List, [], ◌∷◌, ◌++◌, Some, None, replicate, refl, sym, subst, ap, inl, inr, lit≤, arith}
use Rattle.std.specs.Prelude.{codes, nat_eq, ℕ}
use Rattle.std.specs.List.{IsDistinct}
use Rattle.std.specs.Fmt.{digits}
use Rattle.rule_store.specs.declared.Mode.TheVariants.{Cover}
use Rattle.rule_store.specs.Verdict.{OutOfSlots}
use Rattle.report_lines.specs.declared.Family.TheVariants.{Route, Acl}
use Rattle.replay.specs.declared.Act.{Act}
use Rattle.settled_changes.specs.declared.Request.TheVariants.{Put as Puts, Drop as Drops}
use Rattle.replay.specs.declared.Act.TheVariants.{Command, Ask, All, Commit}
use Rattle.rule_store.specs.declared.Command.TheVariants.{Add, Set, Del}
use Rattle.rule_model.specs.AddressBlock.{ipv4_block}
use Rattle.rule_model.specs.Rank.{ipv4_route_rank, list_rank}
use Rattle.rule_model.specs.Rule.{route_rule}
use Rattle.script_runs.specs.Script.{Whole, FaultAt}
use Rattle.report_lines.specs.Sizes.{usual_sizes}
use Rattle.replay.specs.Script.{script_of}
use Rattle.replay.specs.Text.{accepted_line, refused_line}
use Rattle.report_lines.specs.Text.{fault_line}
use Rattle.replay.specs.Effects.{Setting, Prints}
use Rattle.replay.specs.Run.{Progress, start, ending, after_refusal, after_segment}
use Rattle.script_runs.specs.declared.Status.TheVariants.{Done, Refused, Script as ScriptFault, Usage}
use Rattle.std.proofs.lemmas.Option.{none-some}
use Rattle.std.proofs.Math.Seq.{take-nil}
use Rattle.slot_order.proofs.Lists.{contains_none}
use Rattle.slot_pool.specs.Arrangement.{Slots}
use Rattle.rule_model.specs.declared.words.Entry.{Entry}
use Rattle.tcam_device.specs.Order.{IsOrdered, HasOneTwin}
use Rattle.tcam_device.specs.declared.Write.{Write}
use Rattle.tcam_device.proofs.States.{IsState-blank}
use Rattle.tcam_device.proofs.Wider.{empty_slot}
use Rattle.commit_writes.proofs.NoBits.{bit_writes-none}
use Rattle.tcam_device.specs.State as State
use Rattle.commit_writes.specs.Proposal.{proposal}
use Rattle.commit_writes.specs.declared.Done.{Done as Counts}
use Rattle.commit_writes.specs.Bits.{no_bits}
use Rattle.commit_writes.specs.Commit.{HoldsInOrder, IsSegment}
use Rattle.commit_writes.specs.Planned.{AreArranged}
use Rattle.commit_writes.specs.PlannedBatch.{IsPlannedBatch}
use Rattle.commit_writes.specs.Shape.{due_of, HasShape}
use Rattle.batch_order.specs.declared.Placement.TheVariants.{Middle}
use Rattle.batch_order.specs.Placing.{IsPlacedBy}
use Rattle.tcam_cli.specs.Readings.{reading}
use Rattle.tcam_cli.specs.CommandLine.{script_setting}
use Rattle.tcam_cli.specs.Headline.{NoJob, Reads, IsCarriedOut}

abbrev routes : ℕ → Setting
routes slots = script_setting Route slots Cover Middle false 0 false false false false

abbrev feed : List ℕ → List ℕ
feed line = line ++ 10 ∷ []

-- the words are no command line
usage : IsCarriedOut NoJob 8 Usage None None (Some (codes "x")) (Some (codes "x" ++ feed (codes "usage"))) []
usage = (refl, refl, (feed (codes "usage"), refl, inl (refl, refl)))

-- an empty script
empty : IsCarriedOut (Reads (routes 8)) 8 Done (Some []) (Some []) (Some []) (Some (feed (codes "end rules 0 entries 0 writes 0 pending 0"))) []
unfolding digits
empty = (
  record { taken = []; parts = refl; all = λ _. refl },
  record {
    effects = Prints (ending (routes 8) (start 8)) ∷ [];
    partial = [];
    outcome = (record { body = []; last = start 8; run = (refl, refl); status_is = refl; effects_are = refl }, refl);
    events_is = refl;
    report_is = refl;
  },
)

-- the acts of two routes for one slot
abbrev two-routes : List ℕ
two-routes = feed (codes "route add 10.0.0.0/8 7") ++ feed (codes "route add 11.0.0.0/8 8") ++ feed (codes "commit")

abbrev ten : Act
ten = Command (Add (route_rule (ipv4_route_rank (ipv4_block 0x0a000000 8)) (ipv4_block 0x0a000000 8) 7))

abbrev eleven : Act
eleven = Command (Add (route_rule (ipv4_route_rank (ipv4_block 0x0b000000 8)) (ipv4_block 0x0b000000 8) 8))

two-routes-acts : script_of usual_sizes (reading Route) two-routes ≡ record { acts = record { line = 1; act = ten } ∷ record { line = 2; act = eleven } ∷ record { line = 3; act = Commit } ∷ []; last = Whole }
two-routes-acts = refl

-- the acts of a change and of a removal, by the priority of a prefix
changes-acts : script_of usual_sizes (reading Route) (feed (codes "route set 10.0.0.0/8 9") ++ feed (codes "route del 11.0.0.0/8"))
    ≡ record {
      acts = record { line = 1; act = Command (Set (ipv4_route_rank (ipv4_block 0x0a000000 8)) 9) } ∷ record { line = 2; act = Command (Del (ipv4_route_rank (ipv4_block 0x0b000000 8))) } ∷ [];
      last = Whole;
    }
changes-acts = refl

-- the same of a line of an access list, by the priority of a sequence number
list-acts : script_of usual_sizes (reading Acl) (feed (codes "acl set 100 permit") ++ feed (codes "acl del 7"))
    ≡ record {
      acts = record { line = 1; act = Command (Set (list_rank 100) 1) } ∷ record { line = 2; act = Command (Del (list_rank 7)) } ∷ [];
      last = Whole;
    }
list-acts = refl

-- changes that don't ask what is there, and a whole new set, which can't be begun while they are pending
feed-acts : script_of usual_sizes (reading Route) (feed (codes "route put 10.0.0.0/8 9") ++ feed (codes "route drop 10.0.0.0/8") ++ feed (codes "route all"))
    ≡ record {
      acts = record { line = 1; act = Ask (Puts (route_rule (ipv4_route_rank (ipv4_block 0x0a000000 8)) (ipv4_block 0x0a000000 8) 9)) }
          ∷ record { line = 2; act = Ask (Drops (ipv4_route_rank (ipv4_block 0x0a000000 8))) } ∷ [];
      last = FaultAt 3 (codes "changes pending");
    }
feed-acts = refl

whole-acts : script_of usual_sizes (reading Acl) (feed (codes "acl all") ++ feed (codes "acl drop 7"))
    ≡ record {
      acts = record { line = 1; act = All } ∷ record { line = 2; act = Ask (Drops (list_rank 7)) } ∷ [];
      last = Whole;
    }
whole-acts = refl

abbrev one-pending : Progress
one-pending = record (start 8) { batch = Add (route_rule (ipv4_route_rank (ipv4_block 0x0a000000 8)) (ipv4_block 0x0a000000 8) 7) ∷ [] }

abbrev two-pending : Progress
two-pending = record one-pending { batch = Add (route_rule (ipv4_route_rank (ipv4_block 0x0a000000 8)) (ipv4_block 0x0a000000 8) 7) ∷ Add (route_rule (ipv4_route_rank (ipv4_block 0x0b000000 8)) (ipv4_block 0x0b000000 8) 8) ∷ [] }

refused : IsCarriedOut (Reads (routes 1)) 8 Refused (Some two-routes) (Some []) (Some []) (Some (feed (codes "commit 1 refused slots 2 1") ++ feed (codes "end rules 0 entries 0 writes 0 pending 0"))) []
unfolding digits
refused = (
  record { taken = two-routes; parts = refl; all = λ _. refl },
  record {
    effects = Prints (refused_line Route 1 (OutOfSlots 2 1)) ∷ Prints (ending (routes 1) (after_refusal two-pending)) ∷ [];
    partial = [];
    outcome = (
      record {
        body = Prints (refused_line Route 1 (OutOfSlots 2 1)) ∷ [];
        last = after_refusal two-pending;
        run = (
          [],
          one-pending,
          Prints (refused_line Route 1 (OutOfSlots 2 1)) ∷ [],
          (refl, refl),
          (
            [],
            two-pending,
            Prints (refused_line Route 1 (OutOfSlots 2 1)) ∷ [],
            (refl, refl),
            (Prints (refused_line Route 1 (OutOfSlots 2 1)) ∷ [], after_refusal two-pending, [], (refl, refl), (refl, refl), refl),
            refl,
          ),
          refl,
        );
        status_is = refl;
        effects_are = refl;
      },
      refl,
    );
    events_is = refl;
    report_is = refl;
  },
)

-- a line at fault, behind one that is carried out, of a script that goes on
abbrev at-fault : List ℕ
at-fault = feed (codes "route add 10.0.0.0/8 7") ++ feed (codes "route add 10.0.0.1/8 x") ++ codes "more"

faulty : IsCarriedOut (Reads (routes 8)) 8 ScriptFault (Some at-fault) (Some (codes "more")) (Some []) (Some (feed (codes "line 2 host bits"))) []
unfolding digits
faulty = (
  record { taken = feed (codes "route add 10.0.0.0/8 7") ++ feed (codes "route add 10.0.0.1/8 x"); parts = refl; all = λ either. elim either [ inl is ↦ cc | inr is ↦ cc ] },
  record {
    effects = Prints (fault_line 2 (codes "host bits")) ∷ [];
    partial = [];
    outcome = (
      record {
        body = [];
        last = one-pending;
        run = ([], one-pending, [], (refl, refl), (refl, refl), refl);
        status_is = refl;
        effects_are = refl;
      },
      refl,
    );
    events_is = refl;
    report_is = refl;
  },
)

-- a commit of an empty batch, which is accepted and writes nothing
abbrev empty-commit : List ℕ
empty-commit = feed (codes "commit")

abbrev none-counted : Counts
none-counted = record { writes = 0; words = 0; most = 0; span = 0 }

blank-shows : State.Shows (State.blank 8) []
blank-shows key is = refl

-- a blank device is in order for no pieces
blank-ordered : IsOrdered (State.blank 8) (Contains [])
blank-ordered =
    record {
      known = λ at entry held. absurd (let none : None ≡ Some entry = sym (empty_slot {E = Entry} 8 at) ∙ held in cc);
      complete = λ ranked member. absurd (contains_none ranked member);
      order = λ i j first second less member other here there meet. absurd (contains_none first member);
    }

-- and its tables serve none
blank-holds : HoldsInOrder (State.blank 8) (Contains [])
blank-holds =
    record {
      ordered = blank-ordered;
      serves = record { srcbits = λ ranked bit member. absurd (contains_none ranked member); dstbits = λ ranked bit member. absurd (contains_none ranked member) };
    }

blank-twins : HasOneTwin (State.blank 8).slots
blank-twins =
    record {
      one = λ a b twin other. absurd (let none : None ≡ Some twin.1.first = sym (empty_slot {E = Entry} 8 twin.0) ∙ twin.1.here in cc);
      equal = λ lesser at alike. absurd (let none : None ≡ Some alike.first = sym (empty_slot {E = Entry} 8 lesser) ∙ alike.here in cc);
    }

nothing-made : IsSegment Cover no_bits [] [] (State.blank 8) []
nothing-made =
    record {
      hitless =
          record {
            on_the_way = record { before = blank-shows; during = λ n key is. inl (rw take-nil refl) };
            after = blank-shows;
          };
      turns = λ none key is. (0, record { before = λ n early. absurd (omega arith); since = λ n late. rw take-nil refl });
      order =
          record {
            inserting = λ n within. (0, rw take-nil blank-holds);
            rising = λ n m now later more. omega arith;
            finishing = λ n past. (
              [],
              record { known = λ ranked member. absurd (contains_none ranked member); kept = λ was is old. absurd (contains_none was old) },
              rw take-nil blank-holds,
              λ ranked member. absurd (contains_none ranked member),
            );
            after = blank-holds;
            once = λ ranked member. absurd (contains_none ranked member);
            between = λ k insertion none. absurd (none-some insertion none);
            copies = λ n within. rw take-nil blank-twins;
          };
      shape =
          subst (λ front. HasShape front (due_of Cover no_bits [] []) (State.blank 8) []) (sym (bit_writes-none (State.blank 8))) record {
            inserted = [];
            rewritten = [];
            erased = [];
            parts = refl;
            whole = refl;
            entries = refl;
            results = tt;
            erases = tt;
          };
      tight = λ chain is. tt;
    }

none-distinct : IsDistinct nat_eq []
unfolding IsDistinct
none-distinct = tt

-- eight slots where no id stands
abbrev no-ids : Slots
no-ids = replicate 8 None

none-arranged : AreArranged [] no-ids
none-arranged =
    record {
      few = lit≤ tt;
      apart = record { small = tt; once = none-distinct };
      standing =
          record {
            within = λ at id held. absurd (let none : None ≡ Some id = sym (empty_slot {E = ℕ} 8 at) ∙ held in cc);
            placed = λ id live. absurd (cc);
            once = λ i j id here there. absurd (let none : None ≡ Some id = sym (empty_slot {E = ℕ} 8 i) ∙ here in cc);
          };
      order = λ i j first second less here there. absurd (let none : None ≡ Some first = sym (empty_slot {E = ℕ} 8 i) ∙ here in cc);
    }

nothing-placed : IsPlacedBy Middle Cover no_bits [] [] (State.blank 8) []
nothing-placed =
    record {
      live = [];
      arrangement = no-ids;
      entries = [];
      parts = record { planned = []; rewrites = []; erased = [] };
      plan = subst (λ writes. IsPlannedBatch (proposal Cover no_bits [] []) (State.state_after (State.blank 8) writes) [] no-ids [] [] [] []) (sym (bit_writes-none (State.blank 8)))
          record {
            is_state = IsState-blank 8;
            mirrors = refl;
            serving = refl;
            is_set = tt;
            right = tt;
            changes = tt;
            sound = refl;
            arranged = none-arranged;
            entries_are =
                record {
                  of_piece = λ one member. absurd (contains_none one member);
                  has_id = λ ranked member. absurd (contains_none ranked member);
                  once = λ a b member. absurd (contains_none a member);
                };
            inserted = refl;
            have_entries = tt;
            are_planned = tt;
            rewrites_are = tt;
            erased_are = tt;
          };
      aims = refl;
      writes_are = sym (ap (λ (words : List Write). words ++ []) (bit_writes-none (State.blank 8)));
    }

abbrev committed : Progress
committed = after_segment (routes 8) (start 8) []

accepted : IsCarriedOut (Reads (routes 8)) 8 Done (Some empty-commit) (Some []) (Some []) (Some (feed (codes "commit 1 ok writes 0 words 0 most 0 span 0") ++ feed (codes "end rules 0 entries 0 writes 0 pending 0"))) []
unfolding digits
accepted = (
  record { taken = empty-commit; parts = refl; all = λ _. refl },
  record {
    effects = Prints (accepted_line 1 none-counted) ∷ Prints (ending (routes 8) committed) ∷ [];
    partial = [];
    outcome = (
      record {
        body = Prints (accepted_line 1 none-counted) ∷ [];
        last = committed;
        run = (
          Prints (accepted_line 1 none-counted) ∷ [],
          committed,
          [],
          record {
            made = [];
            writes =
                record {
                  segment = nothing-made;
                  placed = nothing-placed;
                  of_family = tt;
                  in_use = tt;
                  counts = none-counted;
                  numbers =
                      record {
                        writes = refl;
                        words = refl;
                        most = refl;
                        span = record { no_less = tt; no_more = inl refl };
                      };
                };
            effects_are = refl;
            after = refl;
          },
          (refl, refl),
          refl,
        );
        status_is = refl;
        effects_are = refl;
      },
      refl,
    );
    events_is = refl;
    report_is = refl;
  },
)
