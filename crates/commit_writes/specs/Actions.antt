-- The writes and drains of a commit, and of one that is taken back.
use Rattle.std.specs.Prelude.{◌≡◌, ℕ, zero, suc, Bool, true, false, ◌||◌, is_some, List, [], ◌∷◌, ◌++◌, map, take, drop}
use Rattle.std.specs.List.{list_any}
use Rattle.rule_model.specs.declared.Rule.{Rule}
use Rattle.rule_store.specs.declared.Mode.{Mode}
use Rattle.rule_store.specs.declared.Command.{Command}
use Rattle.tcam_device.specs.declared.Write.{Write}
use Rattle.tcam_device.specs.State.{State}
use Rattle.tcam_device.specs.Insertion.{table_writes}
use Rattle.commit_writes.specs.Bits.{FieldBits, bits_with, new_bits}
use Rattle.commit_writes.specs.Commit.{IsSegment}
use Rattle.tcam_device.specs.declared.Action.{Action}
use Rattle.tcam_device.specs.declared.Action.TheVariants.{Written, Drained}
use Rattle.tcam_device.specs.Flight.{writes_in}
use Rattle.commit_writes.specs.Undo.{undo_writes}

-- whether some ranges have a bit
abbrev pub have_bits : FieldBits → Bool
have_bits bits = list_any (λ range. is_some range) bits.src || list_any (λ range. is_some range) bits.dst

-- writes of which those to the tables come first, with a drain behind these where one is due
abbrev pub with_drain : Bool → List Write → List Action
with_drain false made = map Written made
with_drain true made =
    map Written (take (table_writes made) made) ++ Drained ∷ map Written (drop (table_writes made) made)

-- The actions of a commit: where it gives a new bit one drain, behind its table words and before its first insertion, also
-- where no table word differs, since a commit that was taken back may have left words with other bits in flight.
abbrev pub commit_actions : Mode → FieldBits → List Rule → List Command → List Write → List Action
commit_actions mode bits rules batch made = with_drain (have_bits (new_bits bits (bits_with mode rules batch bits))) made

-- the first actions, up to so many writes, without a drain that is due then
abbrev pub up_to_writes : ℕ → List Action → List Action
up_to_writes zero actions = []
up_to_writes (suc more) [] = []
up_to_writes (suc more) (Written write ∷ actions) = Written write ∷ up_to_writes more actions
up_to_writes (suc more) (Drained ∷ actions) = Drained ∷ up_to_writes (suc more) actions

-- some first actions of a commit, and then those that take them back: no drain is among these
abbrev pub back_from : State → List Action → List Action
back_from state front = front ++ map Written (undo_writes state (writes_in front))

-- A return: a part of a commit and its undo writes.
pub record IsReturn (mode : Mode) (bits : FieldBits) (rules : List Rule) (batch : List Command) (state : State) (actions : List Action) : Type 0 where
  pub made : List Write
  pub segment : IsSegment mode bits rules batch state made
  pub front : List Action
  pub back : List Action
  pub parts : commit_actions mode bits rules batch made ≡ front ++ back
  pub actions_are : actions ≡ back_from state front
