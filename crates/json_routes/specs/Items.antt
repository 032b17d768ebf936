-- What the items of an array of routes come to in a script: each is said, left out by name, or the one at which the script ends.
use Rattle.std.specs.Prelude.{◌≡◌, ℕ, ◌+◌, Bool, true, false, nat_le, ◌==◌, None, List, [], ◌∷◌, ◌++◌, codes, decimal, length, if◌then◌else◌}
use Rattle.rule_model.specs.declared.IpVersion.{IpVersion}
use Rattle.json.specs.Json.{Json, Items, no_items, item}
use Rattle.import_lines.specs.Import.{LineTold, SaidBy, UnsaidBy, ImportedScript, Whole, StoppedAt, onto_script}
use Rattle.ip_routes.specs.Telling.{Known, route_told, route_after, route_closing}
use Rattle.json_routes.specs.Lines.{route_line}

-- A route is told as the line that `ip -o` prints of it is, where it has a word, and no more bytes than a line may have.
abbrev pub line_told : Known → List ℕ → LineTold
line_told known [] = UnsaidBy (codes "no prefix")
line_told known (byte ∷ bytes) =
    if nat_le (length (byte ∷ bytes)) 512 then route_told known (byte ∷ bytes) else UnsaidBy (codes "long route")

abbrev pub told_by : Known → LineTold → LineTold
told_by known (SaidBy line) = line_told known line
told_by known (UnsaidBy why) = UnsaidBy why

abbrev pub after_by : Known → LineTold → Known
after_by known (SaidBy line) = route_after known line
after_by known (UnsaidBy why) = known

-- what an item comes to, by what is known of those before it, and what is known behind it, where it is said
abbrev pub item_told : Known → Json → LineTold
item_told known value = told_by known (route_line value)

abbrev pub item_after : Known → Json → Known
item_after known value = after_by known (route_line value)

-- the last line of a script that ends at an item
abbrev pub stop_item : ℕ → List ℕ → List ℕ
stop_item number why = codes "item " ++ (decimal number ++ (codes " " ++ (why ++ codes "\n")))

-- the comment on an item that is left out
abbrev pub left_out_item : ℕ → List ℕ → List ℕ
left_out_item number why = codes "# left out: item " ++ (decimal number ++ (codes ": " ++ (why ++ codes "\n")))

-- and on how many there are
abbrev pub left_out_items : ℕ → List ℕ
left_out_items count = if count == 0 then [] else codes "# left out: " ++ (decimal count ++ codes " items\n")

-- a script that ends at an item
abbrev pub stops_at_item : ℕ → List ℕ → ImportedScript
stops_at_item number why = record { text = stop_item number why; last = StoppedAt number }

-- and one behind all items, so many of them left out
abbrev pub items_end : Known → ℕ → ImportedScript
items_end known left_out = record { text = left_out_items left_out ++ route_closing known; last = Whole left_out }

-- what an item has in the script, before what those behind it have: where it is said, and where it is left out
abbrev pub item_script : Bool → ℕ → LineTold → ImportedScript → ImportedScript → ImportedScript
item_script leave_out number (SaidBy bytes) said passed = onto_script bytes said
item_script leave_out number (UnsaidBy why) said passed =
    if leave_out then onto_script (left_out_item number why) passed else stops_at_item number why

-- The script of some items, the first of this number, by what is known before them and how many are left out by then.
abbrev pub items_script : Bool → Known → ℕ → ℕ → Items → ImportedScript
items_script leave_out known number left_out no_items = items_end known left_out
items_script leave_out known number left_out (item value items) =
    item_script leave_out number (item_told known value)
    (items_script leave_out (item_after known value) (number + 1) left_out items)
    (items_script leave_out known (number + 1) (left_out + 1) items)

-- nothing is known yet
abbrev pub no_routes : IpVersion → Known
no_routes version = record { version = version; hops = []; last = None }

-- where the script of an array stands between two items
pub record Standing : Type 0 where
  pub known : Known
  pub leave_out : Bool
  pub number : ℕ
  pub left_out : ℕ

-- what the items to come have
abbrev pub script_at : Standing → Items → ImportedScript
script_at at items = items_script at.leave_out at.known at.number at.left_out items

-- behind an item the script goes on, or it ended there
abbrev pub GoesBy : Bool → ImportedScript → List ℕ → Standing → Items → Type 0
GoesBy true script written at items = script ≡ onto_script written (script_at at items)
GoesBy false script written at items = script ≡ record { text = written; last = StoppedAt at.number }
