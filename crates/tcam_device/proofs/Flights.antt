-- The journal among some events, by one event more, and what a word answers that is searched as it was made.
use Rattle.std.proofs.Common.{◌≡◌, List, [], ◌∷◌, ◌++◌, Option, Some, None, refl, ap, if◌then◌else◌}
use Rattle.slot_order.specs.Order.{first_hit}
use Rattle.rule_model.specs.declared.Key.{Key}
use Rattle.rule_model.specs.declared.words.Entry.{Entry}
use Rattle.rule_model.specs.Entry.{hits}
use Rattle.tcam_device.specs.declared.Write.{Write}
use Rattle.tcam_device.specs.State.{State, search_word, hits_key, told, lookup}
use Rattle.tcam_device.specs.declared.Action.{Action}
use Rattle.tcam_device.specs.declared.Action.TheVariants.{Written, Drained}
use Rattle.tcam_device.specs.Flight.{writes_in, word_answer}

-- a write behind some events is the last of their writes
pub writes_in-written : (events : List Action) (write : Write) → writes_in (events ++ Written write ∷ []) ≡ writes_in events ++ write ∷ []
writes_in-written [] write = refl
writes_in-written (Written first ∷ events) write = ap (λ writes. first ∷ writes) (writes_in-written events write)
writes_in-written (Drained ∷ events) write = writes_in-written events write

-- a drain behind them is none
pub writes_in-drained : (events : List Action) → writes_in (events ++ Drained ∷ []) ≡ writes_in events
writes_in-drained [] = refl
writes_in-drained (Written first ∷ events) = ap (λ writes. first ∷ writes) (writes_in-drained events)
writes_in-drained (Drained ∷ events) = writes_in-drained events

-- a look-up by a key is the look-up by its search word
pub first_hit-word : (state : State) (slots : List (Option Entry)) (key : Key) → first_hit hits slots (search_word state key) ≡ first_hit (hits_key state) slots key
first_hit-word state [] key = refl
first_hit-word state (None ∷ slots) key = first_hit-word state slots key
first_hit-word state (Some entry ∷ slots) key = ap (λ below. if hits_key state entry key then Some entry else below) (first_hit-word state slots key)

-- a word that is made now answers as a look-up
pub made_now : (state : State) (key : Key) → word_answer state (search_word state key) ≡ lookup state key
made_now state key = ap told (first_hit-word state state.slots key)
