-- What comes of both plans where a device or the sink stops them.
use Rattle.std.proofs.Common.{◌≡◌, ◌⊎◌, inl, inr, ℕ, ◌+◌, Bool, true, false, Option, None, Some, IsSome, is_some, if◌then◌else◌, Err, List, [], ◌∷◌, ◌++◌, length, refl, sym, ap, ap₂, subst, ◌∙◌, append-nil, append_assoc, arith}
use Rattle.std.specs.Io.KnownBytes.{Appends}
use Rattle.std.proofs.KnownBytes.{Appends-trans}
use Rattle.std.proofs.lemmas.List.{append_cancel_left}
use Rattle.rule_model.specs.declared.IpVersion.{IpVersion}
use Rattle.batch_order.specs.Managed.{HeldCommit}
use Rattle.split_device.specs.declared.SplitAction.{SplitAction}
use Rattle.split_device.specs.declared.SplitAction.TheVariants.{Written, Drained}
use Rattle.split_device.specs.declared.SplitWrite.{SplitWrite}
use Rattle.split_device.specs.Flight.{written}
use Rattle.split_order.specs.Left.{left_of}
use Rattle.split_order.specs.Managed.{SplitManaged}
use Rattle.split_order.specs.Steps.{IsPartNext}
use Rattle.router.specs.declared.Side.{Side}
use Rattle.router.specs.declared.Side.TheVariants as side
use Rattle.router.specs.declared.RouterAct.TheVariants.{Commit}
use Rattle.router.specs.declared.RouterFault.TheVariants.{Sink, Device}
use Rattle.router.specs.Text.{accepted_line, action_line, parts_behind}
use Rattle.router.specs.Run.{DeviceSlots, Effect, Makes, Prints, Progress, made_of_list, made_of_routes, printed, told_parts, traced, writes_of}
use Rattle.router.specs.Routing.{FitsBoth, IsRouter, Routing, held_left, number_left, progress_of, setting_of}
use Rattle.router.specs.Carried.{AreTold, AreToldButOne, IsCutAt}
use Rattle.router.specs.Taken.{AreBothTaken, AreBothTold, IsCutInList, IsCutInRoutes, IsMadeBy, IsStuckInEither, IsStuckInList, IsStuckInRoutes, MadeOfBoth, made_on}
use Rattle.router.specs.Acting.{ComesTo, CutsAtLine, CutsAtPart, KeepsCounts, failed_side, outside}
use Rattle.router.proofs.Effects.{list_of_list, list_of_routes, list_of_traced, printed_append, routes_of_list, routes_of_routes, routes_of_traced, told_append, told_made}
use Rattle.router.proofs.Parts.{held_of_part, left_at}
use Rattle.router.proofs.Making.{both_made, both_text, both_told, done, has_effects, list_number, no_list, route_number, routes_alone, whole_line}

-- a part is next
pub first_part : (left : List SplitAction) → IsPartNext left → (part : SplitWrite) × (rest : List SplitAction) × (left ≡ Written part ∷ rest)
first_part [] due = absurd due
first_part (Written part ∷ rest) due = (part, rest, refl)
first_part (Drained ∷ rest) due = absurd due

-- the writes of some effects whose parts of the list come first
back_writes : (trace : Bool) (version : IpVersion) (text : List ℕ) (part : SplitWrite) (parts : ℕ) (rest routed : List SplitAction) (line : List ℕ)
    → writes_of (Makes side.List (Written part) ∷ (traced trace text ++ (told_parts trace version side.List parts rest ++ (told_parts trace version side.Routes 0 routed ++ Prints line ∷ []))))
    ≡ length (written (Written part ∷ rest)) + length (written routed)
back_writes trace version text part parts rest routed line =
    let tail : List Effect = told_parts trace version side.Routes 0 routed ++ Prints line ∷ [] in
    ap₂ (λ (a b : List SplitAction). length (written (Written part ∷ a)) + length (written b))
    (list_of_traced trace text (told_parts trace version side.List parts rest ++ tail)
    ∙ (list_of_list trace version parts rest tail ∙ (ap (λ (some : List SplitAction). rest ++ some) (list_of_routes trace version 0 routed (Prints line ∷ [])) ∙ append-nil rest)))
    (routes_of_traced trace text (told_parts trace version side.List parts rest ++ tail)
    ∙ (routes_of_list trace version parts rest tail ∙ (routes_of_routes trace version 0 routed (Prints line ∷ []) ∙ append-nil routed)))

last_writes : (trace : Bool) (version : IpVersion) (text : List ℕ) (part : SplitWrite) (parts : ℕ) (rest : List SplitAction) (line : List ℕ)
    → writes_of (Makes side.Routes (Written part) ∷ (traced trace text ++ (told_parts trace version side.Routes parts rest ++ Prints line ∷ []))) ≡ length (written (Written part ∷ rest))
last_writes trace version text part parts rest line =
    ap₂ (λ (a b : List SplitAction). length (written a) + length (written (Written part ∷ b)))
    (list_of_traced trace text (told_parts trace version side.Routes parts rest ++ Prints line ∷ []) ∙ list_of_routes trace version parts rest (Prints line ∷ []))
    (routes_of_traced trace text (told_parts trace version side.Routes parts rest ++ Prints line ∷ []) ∙ (routes_of_routes trace version parts rest (Prints line ∷ []) ∙ append-nil rest))
    ∙ (let first : 0 + length (written (Written part ∷ rest)) ≡ length (written (Written part ∷ rest)) = omega arith in first)

-- what some parts of one table alone are
pub list_alone : (trace : Bool) (version : IpVersion) (made : List SplitAction) → made_of_list (told_parts trace version side.List 0 made) ≡ made
list_alone trace version made = ap made_of_list (sym (append-nil (told_parts trace version side.List 0 made))) ∙ (list_of_list trace version 0 made [] ∙ append-nil made)

pub no_routes : (trace : Bool) (version : IpVersion) (made : List SplitAction) → made_of_routes (told_parts trace version side.List 0 made) ≡ []
no_routes trace version made = ap made_of_routes (sym (append-nil (told_parts trace version side.List 0 made))) ∙ routes_of_list trace version 0 made []

-- what is left is that of both tables where one holds a plan
pub left_of_both : (slots : DeviceSlots) (router : Routing) → (IsSome router.listed.whole.held ⊎ IsSome router.routed.whole.held) → held_left slots router ≡ Some (number_left slots.listed router.listed + number_left slots.routed router.routed)
left_of_both slots router some = go router.listed.whole.held router.routed.whole.held refl refl some
  where
    go : (one two : Option HeldCommit) → router.listed.whole.held ≡ one → router.routed.whole.held ≡ two → (IsSome router.listed.whole.held ⊎ IsSome router.routed.whole.held)
        → left_at slots router router.listed.whole.held router.routed.whole.held ≡ Some (number_left slots.listed router.listed + number_left slots.routed router.routed)
    go (Some one) two l r is = ap (λ (h : Option HeldCommit). left_at slots router h router.routed.whole.held) l
    go None (Some two) l r is = ap₂ (left_at slots router) l r
    go None None l r (inl is) = absurd (let wrong : false ≡ true = subst (λ (h : Option HeldCommit). IsSome h) l is in cc)
    go None None l r (inr is) = absurd (let wrong : false ≡ true = subst (λ (h : Option HeldCommit). IsSome h) r is in cc)

-- which table failed
pub list_failed : (router : Routing) → IsSome router.listed.whole.held → side.List ≡ failed_side router
list_failed router some = sym (ap (λ (held : Bool). if held then side.List else side.Routes) some)

pub routes_failed : (router : Routing) → router.listed.whole.held ≡ None → side.Routes ≡ failed_side router
routes_failed router none = sym (ap (λ (held : Option HeldCommit). if is_some held then side.List else side.Routes) none)

module _ (slots : DeviceSlots) (before now new : Routing) (listed routed : ℕ) (taken : AreBothTaken before now listed routed) (is : IsRouter now) (fits : FitsBoth now slots) where
  -- what all of it tells
  abbrev whole_text : List ℕ
  whole_text = whole_line slots before now listed routed taken is fits

  -- the list's parts behind some of them, and all that comes then
  abbrev behind_list : ℕ → List SplitAction → List Effect
  behind_list parts rest = told_parts before.trace before.version side.List parts rest ++ (told_parts before.trace before.version side.Routes 0 (left_of slots.routed now.routed) ++ Prints whole_text ∷ [])

  abbrev behind_routes : ℕ → List SplitAction → List Effect
  behind_routes parts rest = told_parts before.trace before.version side.Routes parts rest ++ Prints whole_text ∷ []

  abbrev line_at : Side → List SplitAction → SplitAction → List ℕ
  line_at which made last = action_line before.version which (parts_behind (length (written made)) last) last

  -- a commit that is cut among the list's parts, before this one
  list_split : (made rest : List SplitAction) (last : SplitAction) → left_of slots.listed now.listed ≡ made ++ last ∷ rest
      → told_parts before.trace before.version side.List 0 made ++ (Makes side.List last ∷ (traced before.trace (line_at side.List made last) ++ behind_list (parts_behind (length (written made)) last) rest))
      ≡ both_made before.trace before.version (left_of slots.listed now.listed) (left_of slots.routed now.routed) whole_text
  list_split made rest last split =
      let tail : List Effect = told_parts before.trace before.version side.Routes 0 (left_of slots.routed now.routed) ++ Prints whole_text ∷ [] in
      let front : List Effect = told_parts before.trace before.version side.List 0 made in
      let back : List Effect = told_parts before.trace before.version side.List (parts_behind (length (written made)) last) rest in
      let line : List Effect = traced before.trace (line_at side.List made last) in
      sym (ap (λ (some : List SplitAction). told_parts before.trace before.version side.List 0 some ++ tail) split
      ∙ (ap (λ (some : List Effect). some ++ tail) (told_append before.trace before.version side.List made (last ∷ rest))
      ∙ (append_assoc front (Makes side.List last ∷ (line ++ back)) tail ∙ ap (λ (some : List Effect). front ++ (Makes side.List last ∷ some)) (append_assoc line back tail))))

  -- or among the routes'
  routes_split : (made rest : List SplitAction) (last : SplitAction) → left_of slots.routed now.routed ≡ made ++ last ∷ rest
      → both_told before.trace before.version (left_of slots.listed now.listed) made ++ (Makes side.Routes last ∷ (traced before.trace (line_at side.Routes made last) ++ behind_routes (parts_behind (length (written made)) last) rest))
      ≡ both_made before.trace before.version (left_of slots.listed now.listed) (left_of slots.routed now.routed) whole_text
  routes_split made rest last split =
      let listed_first : List Effect = told_parts before.trace before.version side.List 0 (left_of slots.listed now.listed) in
      let front : List Effect = told_parts before.trace before.version side.Routes 0 made in
      let back : List Effect = told_parts before.trace before.version side.Routes (parts_behind (length (written made)) last) rest in
      let line : List Effect = traced before.trace (line_at side.Routes made last) in
      let tail : List Effect = Prints whole_text ∷ [] in
      append_assoc listed_first front (Makes side.Routes last ∷ (line ++ (back ++ tail)))
      ∙ ap (λ (some : List Effect). listed_first ++ some)
      (sym (ap (λ (some : List SplitAction). told_parts before.trace before.version side.Routes 0 some ++ tail) split
      ∙ (ap (λ (some : List Effect). some ++ tail) (told_append before.trace before.version side.Routes made (last ∷ rest))
      ∙ (append_assoc front (Makes side.Routes last ∷ (line ++ back)) tail ∙ ap (λ (some : List Effect). front ++ (Makes side.Routes last ∷ some)) (append_assoc line back tail)))))

  abbrev done_there : Progress
  done_there = done slots before now listed routed taken is fits

  -- the list's device failed
  pub cuts_list : (from to : MadeOfBoth) (told told' : Option (List ℕ)) → IsStuckInList slots now new from to → AreBothTold before.trace before.version from to told told' → IsSome new.listed.whole.held
      → CutsAtPart (setting_of before) slots (progress_of before) Commit side.List (held_left slots new) (outside from.list from.routes told) (outside to.list to.routes told')
  cuts_list from to told told' stuck lines some =
      let first = first_part (left_of slots.listed new.listed) stuck.stuck.due in
      let made : List SplitAction = stuck.stuck.made in
      let part : SplitWrite = first.0 in
      let rest : List SplitAction = first.1 in
      let split : left_of slots.listed now.listed ≡ made ++ Written part ∷ rest = stuck.stuck.has_made.left_is ∙ ap (λ (more : List SplitAction). made ++ more) first.2 in
      let routes_left : number_left slots.routed new.routed ≡ length (written (left_of slots.routed now.routed)) = ap (λ (r : Routing). number_left slots.routed r.routed) stuck.new_is in
      let list_left_is : number_left slots.listed new.listed ≡ length (written (Written part ∷ rest)) = ap (λ (more : List SplitAction). length (written more)) first.2 in
      let still : Appends lines.between told' [] = told_made before.trace before.version side.Routes from.routes to.routes [] lines.between told' lines.routes (stuck.routes ∙ sym (append-nil from.routes)) in
      record {
        front = told_parts before.trace before.version side.List 0 made;
        part = part;
        cut = record {
          back = traced before.trace (line_at side.List made (Written part)) ++ behind_list (length (written made) + 1) rest;
          after = done_there;
          step = has_effects slots before now listed routed taken is fits _ (list_split made rest (Written part) split);
        };
        does = record {
          list = stuck.stuck.grown ∙ ap (λ (more : List SplitAction). from.list ++ more) (sym (list_alone before.trace before.version made));
          routes = stuck.routes ∙ (sym (append-nil from.routes) ∙ ap (λ (more : List SplitAction). from.routes ++ more) (sym (no_routes before.trace before.version made)));
          report = Appends-trans told lines.between told' (printed (told_parts before.trace before.version side.List 0 made)) []
              (told_made before.trace before.version side.List from.list to.list made told lines.between lines.list stuck.stuck.grown) still;
        };
        left_is = left_of_both slots new (inl some)
            ∙ ap (λ (n : ℕ). Some n) (ap₂ (λ (a b : ℕ). a + b) list_left_is routes_left
            ∙ sym (back_writes before.trace before.version (line_at side.List made (Written part)) part (length (written made) + 1) rest (left_of slots.routed now.routed) whole_text));
      }

  -- or the routes'
  pub cuts_routes : (from to : MadeOfBoth) (told told' : Option (List ℕ)) → IsStuckInRoutes slots now new from to → AreBothTold before.trace before.version from to told told' → IsSome new.routed.whole.held
      → CutsAtPart (setting_of before) slots (progress_of before) Commit side.Routes (held_left slots new) (outside from.list from.routes told) (outside to.list to.routes told')
  cuts_routes from to told told' stuck lines some =
      let first = first_part (left_of slots.routed new.routed) stuck.stuck.due in
      let made : List SplitAction = stuck.stuck.made in
      let part : SplitWrite = first.0 in
      let rest : List SplitAction = first.1 in
      let listed_all : List SplitAction = left_of slots.listed now.listed in
      let split : left_of slots.routed now.routed ≡ made ++ Written part ∷ rest = stuck.stuck.has_made.left_is ∙ ap (λ (more : List SplitAction). made ++ more) first.2 in
      let list_none : number_left slots.listed new.listed ≡ 0 = ap (λ (r : Routing). number_left slots.listed r.listed) stuck.new_is in
      let routes_left : number_left slots.routed new.routed ≡ length (written (Written part ∷ rest)) = ap (λ (more : List SplitAction). length (written more)) first.2 in
      record {
        front = both_told before.trace before.version listed_all made;
        part = part;
        cut = record {
          back = traced before.trace (line_at side.Routes made (Written part)) ++ behind_routes (length (written made) + 1) rest;
          after = done_there;
          step = has_effects slots before now listed routed taken is fits _ (routes_split made rest (Written part) split);
        };
        does = record {
          list = stuck.list ∙ ap (λ (more : List SplitAction). from.list ++ more)
              (sym (list_of_list before.trace before.version 0 listed_all (told_parts before.trace before.version side.Routes 0 made) ∙ (ap (λ (more : List SplitAction). listed_all ++ more) (no_list before.trace before.version made) ∙ append-nil listed_all)));
          routes = stuck.stuck.grown
              ∙ ap (λ (more : List SplitAction). from.routes ++ more) (sym (routes_of_list before.trace before.version 0 listed_all (told_parts before.trace before.version side.Routes 0 made) ∙ routes_alone before.trace before.version made));
          report = subst (Appends told told') (sym (append-nil (printed (both_told before.trace before.version listed_all made))))
              (both_text before.trace before.version from to listed_all made told told' lines stuck.list stuck.stuck.grown);
        };
        left_is = left_of_both slots new (inr some)
            ∙ ap (λ (n : ℕ). Some n) (ap₂ (λ (a b : ℕ). a + b) list_none routes_left
            ∙ ((let zero_first : 0 + length (written (Written part ∷ rest)) ≡ length (written (Written part ∷ rest)) = omega arith in zero_first)
            ∙ sym (last_writes before.trace before.version (line_at side.Routes made (Written part)) part (length (written made) + 1) rest whole_text)));
      }

  -- the line that is told
  pub line_is : (drains : ℕ) (mid : Routing) (from to : MadeOfBoth) → IsMadeBy slots now drains mid from to → accepted_line (mid.commits + 1) listed routed drains ≡ whole_line slots before now listed routed taken is fits
  line_is drains mid from to made =
      let commits : mid.commits ≡ before.commits = ap (λ (r : Routing). r.commits) made.new_is ∙ ap (λ (r : Routing). r.commits) taken.now_is in
      ap₂ (λ (commit number : ℕ). accepted_line (commit + 1) number routed drains) commits (list_number slots before now listed routed taken is fits)
      ∙ ap₂ (λ (number total : ℕ). accepted_line (before.commits + 1) (length (written (left_of slots.listed now.listed))) number total) (route_number slots before now listed routed taken is fits) made.count

  -- and what is kept of the router where it is cut
  pub keeps_list : (from to : MadeOfBoth) → IsStuckInList slots now new from to → KeepsCounts before new
  keeps_list from to stuck = record {
    list_batch = ap (λ (r : Routing). r.list_batch) stuck.new_is ∙ ap (λ (r : Routing). r.list_batch) taken.now_is;
    route_batch = ap (λ (r : Routing). r.route_batch) stuck.new_is ∙ ap (λ (r : Routing). r.route_batch) taken.now_is;
    commits = ap (λ (r : Routing). r.commits) stuck.new_is ∙ ap (λ (r : Routing). r.commits) taken.now_is;
    writes = ap (λ (r : Routing). r.writes) stuck.new_is ∙ ap (λ (r : Routing). r.writes) taken.now_is;
    refused = ap (λ (r : Routing). r.refused) stuck.new_is ∙ ap (λ (r : Routing). r.refused) taken.now_is;
  }

  pub keeps_routes : (from to : MadeOfBoth) → IsStuckInRoutes slots now new from to → KeepsCounts before new
  keeps_routes from to stuck = record {
    list_batch = ap (λ (r : Routing). r.list_batch) stuck.new_is ∙ ap (λ (r : Routing). r.list_batch) taken.now_is;
    route_batch = ap (λ (r : Routing). r.route_batch) stuck.new_is ∙ ap (λ (r : Routing). r.route_batch) taken.now_is;
    commits = ap (λ (r : Routing). r.commits) stuck.new_is ∙ ap (λ (r : Routing). r.commits) taken.now_is;
    writes = ap (λ (r : Routing). r.writes) stuck.new_is ∙ ap (λ (r : Routing). r.writes) taken.now_is;
    refused = ap (λ (r : Routing). r.refused) stuck.new_is ∙ ap (λ (r : Routing). r.refused) taken.now_is;
  }

  -- where its device failed a commit comes to this
  pub make_stops : (list list' routes routes' : List SplitAction) (told told' : Option (List ℕ)) → IsStuckInEither slots now new (made_on list routes) (made_on list' routes')
      → AreBothTold now.trace now.version (made_on list routes) (made_on list' routes') told told' → ComesTo slots before Commit new (Err Device) (outside list routes told) (outside list' routes' told')
  make_stops list list' routes routes' told told' stuck lines = either stuck
    where
      here : AreBothTold before.trace before.version (made_on list routes) (made_on list' routes') told told'
      here = subst (λ (r : Routing). AreBothTold r.trace r.version (made_on list routes) (made_on list' routes') told told') taken.now_is lines

      stops : (which : Side) → which ≡ failed_side new → CutsAtPart (setting_of before) slots (progress_of before) Commit which (held_left slots new) (outside list routes told) (outside list' routes' told')
          → CutsAtPart (setting_of before) slots (progress_of before) Commit (failed_side new) (held_left slots new) (outside list routes told) (outside list' routes' told')
      stops which same cuts = subst (λ (one : Side). CutsAtPart (setting_of before) slots (progress_of before) Commit one (held_left slots new) (outside list routes told) (outside list' routes' told')) same cuts

      either : IsStuckInEither slots now new (made_on list routes) (made_on list' routes') → ComesTo slots before Commit new (Err Device) (outside list routes told) (outside list' routes' told')
      either (inl one) =
          let some : IsSome new.listed.whole.held = held_of_part slots.listed new.listed one.stuck.due in
          (keeps_list (made_on list routes) (made_on list' routes') one, λ at. stops side.List (list_failed new some) (cuts_list (made_on list routes) (made_on list' routes') told told' one here some))
      either (inr one) = (
        keeps_routes (made_on list routes) (made_on list' routes') one,
        λ at. stops side.Routes (routes_failed new (ap (λ (r : Routing). r.listed.whole.held) one.new_is))
            (cuts_routes (made_on list routes) (made_on list' routes') told told' one here (held_of_part slots.routed new.routed one.stuck.due)),
      )

  -- what was made and told where a line of its trace was refused
  cut_made : {slots_own : ℕ} (trace : Bool) (version : IpVersion) (which : Side) (old after : SplitManaged) (events events_new : List SplitAction) (told told' : Option (List ℕ)) → (cut : IsCutAt slots_own old after events events_new)
      → (lines : AreToldButOne trace version which events events_new told told') → left_of slots_own old ≡ lines.made ++ lines.last ∷ left_of slots_own after
  cut_made {slots_own} trace version which old after events events_new told told' cut lines =
      cut.has_made.left_is
      ∙ (ap (λ (some : List SplitAction). some ++ left_of slots_own after) (append_cancel_left events cut.made (lines.made ++ lines.last ∷ []) (sym cut.grown ∙ lines.grown))
      ∙ append_assoc lines.made (lines.last ∷ []) (left_of slots_own after))

  -- the line that was refused
  refused_is : (which : Side) (events events_new : List SplitAction) (told told' : Option (List ℕ)) (lines : AreToldButOne before.trace before.version which events events_new told told')
      → Prints (lines.partial ++ lines.rest) ∷ [] ≡ traced before.trace (line_at which lines.made lines.last)
  refused_is which events events_new told told' lines =
      ap (λ (text : List ℕ). Prints text ∷ []) (sym lines.line_is) ∙ ap (λ (wanted : Bool). traced wanted (line_at which lines.made lines.last)) (sym lines.wanted)

  breaks_list : (from to : MadeOfBoth) (told told' : Option (List ℕ)) → IsCutAt slots.listed now.listed new.listed from.list to.list → to.routes ≡ from.routes
      → AreToldButOne before.trace before.version side.List from.list to.list told told'
      → CutsAtLine (setting_of before) slots (progress_of before) Commit (outside from.list from.routes told) (outside to.list to.routes told')
  breaks_list from to told told' cut same lines =
      let made : List SplitAction = lines.made in
      let last : SplitAction = lines.last in
      let front : List Effect = told_parts before.trace before.version side.List 0 made in
      let rest : List SplitAction = left_of slots.listed new.listed in
      let back : List Effect = behind_list (parts_behind (length (written made)) last) rest in
      let split : left_of slots.listed now.listed ≡ made ++ last ∷ rest = cut_made before.trace before.version side.List now.listed new.listed from.list to.list told told' cut lines in
      record {
        front = front ++ Makes side.List last ∷ [];
        partial = lines.partial;
        rest = lines.rest;
        cut = record {
          back = back;
          after = done_there;
          step = has_effects slots before now listed routed taken is fits _ (append_assoc front (Makes side.List last ∷ []) (Prints (lines.partial ++ lines.rest) ∷ back)
              ∙ (ap (λ (line : List Effect). front ++ (Makes side.List last ∷ (line ++ back))) (refused_is side.List from.list to.list told told' lines) ∙ list_split made rest last split));
        };
        does = record {
          list = lines.grown ∙ ap (λ (more : List SplitAction). from.list ++ more) (sym (list_of_list before.trace before.version 0 made (Makes side.List last ∷ [])));
          routes = same ∙ (sym (append-nil from.routes) ∙ ap (λ (more : List SplitAction). from.routes ++ more) (sym (routes_of_list before.trace before.version 0 made (Makes side.List last ∷ []))));
          report = subst (λ (text : List ℕ). Appends told told' (text ++ lines.partial)) (sym (printed_append front (Makes side.List last ∷ []) ∙ append-nil (printed front))) lines.report;
        };
      }

  breaks_routes : (from to : MadeOfBoth) (told between told' : Option (List ℕ)) → IsCutAt slots.routed now.routed new.routed from.routes to.routes → to.list ≡ from.list ++ left_of slots.listed now.listed
      → AreTold before.trace before.version side.List from.list to.list told between → AreToldButOne before.trace before.version side.Routes from.routes to.routes between told'
      → CutsAtLine (setting_of before) slots (progress_of before) Commit (outside from.list from.routes told) (outside to.list to.routes told')
  breaks_routes from to told between told' cut grown first lines =
      let made : List SplitAction = lines.made in
      let last : SplitAction = lines.last in
      let listed_all : List SplitAction = left_of slots.listed now.listed in
      let front : List Effect = both_told before.trace before.version listed_all made in
      let rest : List SplitAction = left_of slots.routed new.routed in
      let back : List Effect = behind_routes (parts_behind (length (written made)) last) rest in
      let split : left_of slots.routed now.routed ≡ made ++ last ∷ rest = cut_made before.trace before.version side.Routes now.routed new.routed from.routes to.routes between told' cut lines in
      let routes_first : List Effect = told_parts before.trace before.version side.Routes 0 made in
      let list_first : List Effect = told_parts before.trace before.version side.List 0 listed_all in
      let seam : (list_first ++ routes_first) ++ Makes side.Routes last ∷ [] ≡ list_first ++ (routes_first ++ Makes side.Routes last ∷ []) = append_assoc list_first routes_first (Makes side.Routes last ∷ []) in
      record {
        front = front ++ Makes side.Routes last ∷ [];
        partial = lines.partial;
        rest = lines.rest;
        cut = record {
          back = back;
          after = done_there;
          step = has_effects slots before now listed routed taken is fits _ (append_assoc front (Makes side.Routes last ∷ []) (Prints (lines.partial ++ lines.rest) ∷ back)
              ∙ (ap (λ (line : List Effect). front ++ (Makes side.Routes last ∷ (line ++ back))) (refused_is side.Routes from.routes to.routes between told' lines) ∙ routes_split made rest last split));
        };
        does = record {
          list = grown ∙ ap (λ (more : List SplitAction). from.list ++ more) (sym (ap made_of_list seam
              ∙ (list_of_list before.trace before.version 0 listed_all (routes_first ++ Makes side.Routes last ∷ [])
              ∙ (ap (λ (more : List SplitAction). listed_all ++ more) (list_of_routes before.trace before.version 0 made (Makes side.Routes last ∷ [])) ∙ append-nil listed_all))));
          routes = lines.grown ∙ ap (λ (more : List SplitAction). from.routes ++ more) (sym (ap made_of_routes seam
              ∙ (routes_of_list before.trace before.version 0 listed_all (routes_first ++ Makes side.Routes last ∷ []) ∙ routes_of_routes before.trace before.version 0 made (Makes side.Routes last ∷ []))));
          report = subst (Appends told told') (text_is lines.partial)
              (Appends-trans told between told' (printed list_first) (printed routes_first ++ lines.partial) (told_made before.trace before.version side.List from.list to.list listed_all told between first grown) lines.report);
        };
      }
    where
      text_is : (partial : List ℕ) → printed (told_parts before.trace before.version side.List 0 (left_of slots.listed now.listed)) ++ (printed (told_parts before.trace before.version side.Routes 0 lines.made) ++ partial)
          ≡ printed (both_told before.trace before.version (left_of slots.listed now.listed) lines.made ++ Makes side.Routes lines.last ∷ []) ++ partial
      text_is partial =
          let a : List Effect = told_parts before.trace before.version side.List 0 (left_of slots.listed now.listed) in
          let b : List Effect = told_parts before.trace before.version side.Routes 0 lines.made in
          sym (ap (λ (text : List ℕ). text ++ partial) (printed_append (a ++ b) (Makes side.Routes lines.last ∷ []) ∙ (append-nil (printed (a ++ b)) ∙ printed_append a b)) ∙ append_assoc (printed a) (printed b) partial)

  -- where a line of a trace was refused it comes to this
  pub make_breaks : (list list' routes routes' : List SplitAction) (told told' : Bool → Option (List ℕ)) (count : Bool)
      → (IsCutInList slots now new (made_on list routes) (made_on list' routes') told told' ⊎ IsCutInRoutes slots now new (made_on list routes) (made_on list' routes') told told')
      → ComesTo slots before Commit new (Err Sink) (outside list routes (told count)) (outside list' routes' (told' count))
  make_breaks list list' routes routes' told told' count (inl one) at =
      breaks_list (made_on list routes) (made_on list' routes') (told count) (told' count) one.cut one.routes
      (subst (λ (r : Routing). AreToldButOne r.trace r.version side.List list list' (told count) (told' count)) taken.now_is (one.told count))
  make_breaks list list' routes routes' told told' count (inr one) at =
      let lines = one.told count in
      breaks_routes (made_on list routes) (made_on list' routes') (told count) lines.0 (told' count) one.cut one.list
      (subst (λ (r : Routing). AreTold r.trace r.version side.List list list' (told count) lines.0) taken.now_is lines.1)
      (subst (λ (r : Routing). AreToldButOne r.trace r.version side.Routes routes routes' lines.0 (told' count)) taken.now_is lines.2)
