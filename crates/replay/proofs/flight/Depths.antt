-- Worked commits of probes with words in flight, by computation.
use Rattle.std.proofs.Common.{◌≡◌, ℕ, ◌*◌, ◌^◌, ◌++◌, List, [], ◌∷◌, Some, None, length, replicate, true, false, refl}
use Rattle.std.specs.Prelude.{codes}
use Rattle.std.specs.Fmt.{digits}
use Rattle.rule_model.specs.declared.Key.{Key}
use Rattle.rule_model.specs.declared.Field.TheVariants.{Dst}
use Rattle.rule_model.specs.AddressBlock.{ipv4_block}
use Rattle.rule_model.specs.Rank.{ipv4_route_rank, list_rank}
use Rattle.rule_model.specs.Rule.{route_rule}
use Rattle.rule_model.specs.Piece.{whole_piece}
use Rattle.rule_store.specs.declared.Mode.TheVariants.{Cover, Bits}
use Rattle.rule_model.specs.declared.words.Entry.{Entry}
use Rattle.rule_model.specs.Entry.{entry_of}
use Rattle.tcam_device.specs.declared.Write.TheVariants.{Slot, Table}
use Rattle.tcam_device.specs.declared.Action.{Action}
use Rattle.tcam_device.specs.declared.Action.TheVariants.{Written, Drained}
use Rattle.tcam_device.specs.Flight.{writes_in}
use Rattle.tcam_device.specs.State.{State, state_after}
use Rattle.batch_order.specs.declared.Placement.TheVariants.{Middle}
use Rattle.report_lines.specs.declared.Family.TheVariants.{Route, Acl}
use Rattle.replay.specs.Effects.{Setting, Effect, Acts, Prints, effects_of, flushed, waiting_after}

-- a list of one slot whose tables have words for three ports, and a line of destination ports 1-2 that tests bit 0
abbrev tiny : State
tiny = record { slots = None ∷ []; src = 0 ∷ []; dst = 0 ∷ 0 ∷ 0 ∷ [] }

abbrev port_one : Key
port_one = record { src = 0; dst = 0; proto = 0; sport = 0; dport = 1 }

abbrev entry : Entry
entry = record { value = record { lane = replicate 10 0 ++ 1 ∷ [] }; mask = record { lane = replicate 10 0 ++ 1 ∷ [] }; tag = list_rank 10; result = 1 }

abbrev ranged : List Action
ranged = Written (Table Dst 1 1) ∷ Written (Table Dst 2 1) ∷ Drained ∷ Written (Slot 0 (Some entry)) ∷ []

abbrev of_list : ℕ → Setting
of_list depth = record { slots = 1; mode = Bits; placement = Middle; family = Acl; trace = false; depth = depth; json = false; names = false; parts = false; large = false }

-- all that some actions do, the words that are left searched behind them
abbrev all_of : Setting → List Key → State → List Action → List Effect
all_of setting probes state actions =
    let after = state_after state (writes_in actions) in
    effects_of setting probes 0 0 state actions ++ flushed setting.family probes (length (writes_in actions)) after (waiting_after setting.depth 0 actions)

-- two words wait, and are searched before the drain; one more waits, and is searched before the commit's line
deep : all_of (of_list 2) (port_one ∷ []) tiny ranged ≡
    Acts (Written (Table Dst 1 1)) ∷ Acts (Written (Table Dst 2 1)) ∷ Prints (codes "w 2 p 1 none" ++ 10 ∷ []) ∷ Prints (codes "w 2 p 1 none" ++ 10 ∷ []) ∷ Acts Drained
    ∷ Acts (Written (Slot 0 (Some entry))) ∷ Prints (codes "w 3 p 1 10 permit" ++ 10 ∷ []) ∷ []
unfolding digits
deep = refl

-- none waits, and each line has the number of its write
flat : all_of (of_list 0) (port_one ∷ []) tiny ranged ≡
    Acts (Written (Table Dst 1 1)) ∷ Prints (codes "w 1 p 1 none" ++ 10 ∷ []) ∷ Acts (Written (Table Dst 2 1)) ∷ Prints (codes "w 2 p 1 none" ++ 10 ∷ []) ∷ Acts Drained
    ∷ Acts (Written (Slot 0 (Some entry))) ∷ Prints (codes "w 3 p 1 10 permit" ++ 10 ∷ []) ∷ []
unfolding digits
flat = refl

-- with a trace a drain has its line behind those of the words that it waits for
traced_drain : effects_of (record (of_list 1) { trace = true }) (port_one ∷ []) 2 1 tiny (Drained ∷ []) ≡
    Prints (codes "w 2 p 1 none" ++ 10 ∷ []) ∷ Acts Drained ∷ Prints (codes "w 2 drain" ++ 10 ∷ []) ∷ []
unfolding digits
traced_drain = refl

-- routes: 10.1.2.0/24 is copied from slot 1 to slot 0, and 10.1.0.0/20 written over it
abbrev route : ℕ → ℕ → ℕ → Entry
route address len answer =
    let block = ipv4_block address len in
    entry_of (whole_piece (route_rule (ipv4_route_rank block) block answer)) (ipv4_route_rank block) answer

abbrev nested : State
nested = record {
  slots = None ∷ Some (route 0x0a010200 24 8) ∷ Some (route 0x0a010000 16 9) ∷ Some (route 0x0a000000 8 7) ∷ [];
  src = 0 ∷ [];
  dst = 0 ∷ [];
}

abbrev inside : Key
inside = record { src = 0; dst = 0x0a010203 * 2 ^ 96; proto = 0; sport = 0; dport = 0 }

abbrev twenty : List Action
twenty = Written (Slot 0 (Some (route 0x0a010200 24 8))) ∷ Written (Slot 1 (Some (route 0x0a010000 20 5))) ∷ []

abbrev of_routes : ℕ → Setting
of_routes depth = record { slots = 4; mode = Cover; placement = Middle; family = Route; trace = false; depth = depth; json = false; names = false; parts = false; large = false }

-- by names the first is told to be a copy, by the slots before it
by_names : effects_of (record (of_routes 0) { trace = true; names = true }) [] 0 0 nested (twenty ++ Written (Slot 3 None) ∷ []) ≡
    Acts (Written (Slot 0 (Some (route 0x0a010200 24 8)))) ∷ Prints (codes "w 1 slot 0 copy from 1 10.1.2.0/24 8" ++ 10 ∷ [])
    ∷ Acts (Written (Slot 1 (Some (route 0x0a010000 20 5)))) ∷ Prints (codes "w 2 slot 1 new 10.1.0.0/20 5" ++ 10 ∷ [])
    ∷ Acts (Written (Slot 3 None)) ∷ Prints (codes "w 3 slot 3 erase 10.0.0.0/8" ++ 10 ∷ []) ∷ []
unfolding digits
by_names = refl

one_behind : all_of (of_routes 1) (inside ∷ []) nested twenty ≡
    Acts (Written (Slot 0 (Some (route 0x0a010200 24 8)))) ∷ Acts (Written (Slot 1 (Some (route 0x0a010000 20 5))))
    ∷ Prints (codes "w 2 p 1 10.1.2.0/24 8" ++ 10 ∷ []) ∷ Prints (codes "w 2 p 1 10.1.2.0/24 8" ++ 10 ∷ []) ∷ []
unfolding digits
one_behind = refl
