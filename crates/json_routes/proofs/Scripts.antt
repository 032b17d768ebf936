-- The script of an array, item by item.
use Rattle.std.proofs.Common.{◌≡◌, ◌≢◌, cond, [], ◌<◌, ◌≤◌, ◌+◌, ℕ, true, false, List, ◌++◌, length, drop, get_or, sym, ap, ◌∙◌, append_assoc, ne_eqb}
use Rattle.std.specs.Prelude.{codes, decimal}
use Rattle.std.proofs.lemmas.List.{at_drop_more, at_drop_all}
use Rattle.script_runs.specs.declared.Status.TheVariants as status
use Rattle.json.specs.Json.{Json, Items, item}
use Rattle.json.specs.Value.{value_view, items_view}
use Rattle.json.specs.declared.value.Value.{Value}
use Rattle.import_lines.specs.Import.{LineTold, SaidBy, UnsaidBy, ImportedScript, StoppedAt, onto_script}
use Rattle.ip_routes.specs.Telling.{route_closing}
use Rattle.json_routes.specs.Items.{Standing, item_after, item_script, item_told, items_end, items_script, left_out_item, left_out_items, script_at, stop_item}
use Rattle.json_routes.specs.Texts.{IsScriptOf, status_of}

-- bytes before bytes
pub onto-twice : (a b : List ℕ) (s : ImportedScript) → onto_script a (onto_script b s) ≡ onto_script (a ++ b) s
onto-twice a b s = ap (λ t. record s { text = t }) (sym (append_assoc a b s.text))

-- ---- an item, by what is told of it

-- what an item has, by what is told of it
item-by : (at : Standing) (value : Json) (items : Items) (told : LineTold) → item_told at.known value ≡ told
    → script_at at (item value items) ≡ item_script at.leave_out at.number told
    (items_script at.leave_out (item_after at.known value) (at.number + 1) at.left_out items)
    (items_script at.leave_out at.known (at.number + 1) (at.left_out + 1) items)
item-by at value items told is =
    ap (λ t. item_script at.leave_out at.number t
    (items_script at.leave_out (item_after at.known value) (at.number + 1) at.left_out items)
    (items_script at.leave_out at.known (at.number + 1) (at.left_out + 1) items)) is

-- it is said
pub goes-said : (at new : Standing) (value : Json) (items : Items) (old bytes written : List ℕ) → item_told at.known value ≡ SaidBy bytes → written ≡ old ++ bytes
    → new ≡ record at { known = item_after at.known value; number = at.number + 1 }
    → onto_script old (script_at at (item value items)) ≡ onto_script written (script_at new items)
goes-said at new value items old bytes written is put next =
    ap (onto_script old) (item-by at value items (SaidBy bytes) is)
    ∙ onto-twice old bytes (items_script at.leave_out (item_after at.known value) (at.number + 1) at.left_out items)
    ∙ ap (λ w. onto_script w (items_script at.leave_out (item_after at.known value) (at.number + 1) at.left_out items)) (sym put)
    ∙ ap (λ s. onto_script written (script_at s items)) (sym next)

-- it is left out
pub goes-left : (at new : Standing) (value : Json) (items : Items) (old why written : List ℕ) → item_told at.known value ≡ UnsaidBy why → at.leave_out ≡ true → written ≡ old ++ left_out_item at.number why
    → new ≡ record at { number = at.number + 1; left_out = at.left_out + 1 }
    → onto_script old (script_at at (item value items)) ≡ onto_script written (script_at new items)
goes-left at new value items old why written is may put next =
    let rest = items_script at.leave_out at.known (at.number + 1) (at.left_out + 1) items in
    let there = items_script at.leave_out (item_after at.known value) (at.number + 1) at.left_out items in
    ap (onto_script old) (item-by at value items (UnsaidBy why) is ∙ ap (λ b. item_script b at.number (UnsaidBy why) there rest) may)
    ∙ onto-twice old (left_out_item at.number why) rest
    ∙ ap (λ w. onto_script w rest) (sym put)
    ∙ ap (λ s. onto_script written (script_at s items)) (sym next)

-- or the script ends at it
pub stops : (at : Standing) (number : ℕ) (value : Json) (items : Items) (old why written : List ℕ) → item_told at.known value ≡ UnsaidBy why → at.leave_out ≡ false → written ≡ old ++ stop_item at.number why
    → number ≡ at.number
    → onto_script old (script_at at (item value items)) ≡ record { text = written; last = StoppedAt number }
stops at number value items old why written is may put same =
    let rest = items_script at.leave_out at.known (at.number + 1) (at.left_out + 1) items in
    let there = items_script at.leave_out (item_after at.known value) (at.number + 1) at.left_out items in
    ap (onto_script old) (item-by at value items (UnsaidBy why) is ∙ ap (λ b. item_script b at.number (UnsaidBy why) there rest) may)
    ∙ ap (λ w. record { text = w; last = StoppedAt at.number }) (sym put)
    ∙ ap (λ n. record { text = written; last = StoppedAt n }) (sym same)

-- ---- all items

-- the next one
pub script-next : {A : Type 0} → (at : Standing) (values : List (Value A)) (place : ℕ) (value unused : Value A) (old : List ℕ) → place < length values → value ≡ get_or values place unused
    → onto_script old (script_at at (items_view (drop place values))) ≡ onto_script old (script_at at (item (value_view value) (items_view (drop (place + 1) values))))
script-next at values place value unused old below is =
    at_drop_more (λ l. onto_script old (script_at at (items_view l))) values place unused below
    ∙ ap (λ v. onto_script old (script_at at (item (value_view v) (items_view (drop (place + 1) values))))) (sym is)

-- none is left
pub script-none : {A : Type 0} → (at : Standing) (values : List (Value A)) (place : ℕ) (old : List ℕ) → length values ≤ place
    → onto_script old (script_at at (items_view (drop place values))) ≡ onto_script old (items_end at.known at.left_out)
script-none at values place old all = at_drop_all (λ l. onto_script old (script_at at (items_view l))) values place all

-- the script that a call made
pub is-script : (script : ImportedScript) (old written : List ℕ) (at : Standing) → script ≡ onto_script old (items_end at.known at.left_out) → written ≡ old ++ (left_out_items at.left_out ++ route_closing at.known)
    → IsScriptOf script written status.Done
is-script script old written at is put = (put ∙ sym (ap (λ (s : ImportedScript). s.text) is), sym (ap (λ (s : ImportedScript). status_of s.last) is))

pub is-stopped : (script : ImportedScript) (written : List ℕ) (number : ℕ) → script ≡ record { text = written; last = StoppedAt number } → IsScriptOf script written status.Script
is-stopped script written number is = (sym (ap (λ (s : ImportedScript). s.text) is), sym (ap (λ (s : ImportedScript). status_of s.last) is))

-- how many items are left out, where some are
pub count-some : (count : ℕ) → count ≢ 0 → codes "# left out: " ++ (decimal count ++ codes " items\n") ≡ left_out_items count
count-some count some = ap (λ b. cond b [] (codes "# left out: " ++ (decimal count ++ codes " items\n"))) (sym (ne_eqb count 0 some))
