-- What comes of both plans.
use Rattle.std.proofs.Common.{◌≡◌, ℕ, ◌+◌, ◌≤◌, Bool, Option, Ok, Err, List, [], ◌∷◌, ◌++◌, length, refl, sym, ap, ap₂, subst, ◌∙◌, append-nil, append_assoc}
use Rattle.std.specs.Io.KnownBytes.{Appends}
use Rattle.std.proofs.KnownBytes.{Appends-trans}
use Rattle.rule_model.specs.declared.IpVersion.{IpVersion}
use Rattle.rule_store.specs.Verdict.{Verdict}
use Rattle.split_device.specs.declared.SplitAction.{SplitAction}
use Rattle.split_device.specs.Flight.{written}
use Rattle.split_writes.specs.Insertion.{split_insertions, IsSplitUncrossed}
use Rattle.split_writes.specs.Segment.{most_by_parts}
use Rattle.split_order.specs.CarriedOut.{finished_split}
use Rattle.split_order.specs.Left.{left_of}
use Rattle.split_order.specs.Prepared.{HoldsOn}
use Rattle.report_lines.specs.Outside.{AppendsPart}
use Rattle.router.specs.declared.Side.TheVariants as side
use Rattle.router.specs.declared.RouterAct.TheVariants.{Commit}
use Rattle.router.specs.declared.RouterFault.TheVariants.{Sink}
use Rattle.router.specs.Run.{Commits, DeviceSlots, Effect, HasEffects, Judged, JudgedByRoutes, Prints, Progress, Table, after_commit, made_line, made_of_list, made_of_routes, printed, table_state, told_parts}
use Rattle.router.specs.Routing.{FitsBoth, IsRouter, Routing, progress_of, setting_of}
use Rattle.router.specs.Taken.{AreBothTaken, AreBothTold, IsMadeBy, MadeOfBoth, made_on}
use Rattle.router.specs.Acting.{ComesTo, Does, outside}
use Rattle.router.proofs.Effects.{list_of_list, list_of_routes, printed_append, routes_of_list, routes_of_routes, told_made}
use Rattle.router.proofs.Kept.{held_slots}
use Rattle.router.proofs.PlannedState.{part_of}
use Rattle.router.proofs.Planning.{table_after}

-- the effects of a commit that is made of these, with this line
abbrev pub both_told : Bool → IpVersion → List SplitAction → List SplitAction → List Effect
both_told trace version listed routed = told_parts trace version side.List 0 listed ++ told_parts trace version side.Routes 0 routed

abbrev pub both_made : Bool → IpVersion → List SplitAction → List SplitAction → List ℕ → List Effect
both_made trace version listed routed line = told_parts trace version side.List 0 listed ++ (told_parts trace version side.Routes 0 routed ++ Prints line ∷ [])

-- what was told of both
pub both_text : (trace : Bool) (version : IpVersion) (from to : MadeOfBoth) (listed routed : List SplitAction) (before after : Option (List ℕ)) → AreBothTold trace version from to before after
    → to.list ≡ from.list ++ listed → to.routes ≡ from.routes ++ routed → Appends before after (printed (both_told trace version listed routed))
both_text trace version from to listed routed before after told grown more =
    subst (Appends before after) (sym (printed_append (told_parts trace version side.List 0 listed) (told_parts trace version side.Routes 0 routed)))
    (Appends-trans before told.between after (printed (told_parts trace version side.List 0 listed)) (printed (told_parts trace version side.Routes 0 routed))
    (told_made trace version side.List from.list to.list listed before told.between told.list grown) (told_made trace version side.Routes from.routes to.routes routed told.between after told.routes more))

-- the text of a whole commit
made_text : (trace : Bool) (version : IpVersion) (listed routed : List SplitAction) (line : List ℕ) → printed (both_made trace version listed routed line) ++ [] ≡ printed (both_told trace version listed routed) ++ line
made_text trace version listed routed line =
    append-nil (printed (both_made trace version listed routed line))
    ∙ (ap printed (sym (append_assoc (told_parts trace version side.List 0 listed) (told_parts trace version side.Routes 0 routed) (Prints line ∷ [])))
    ∙ (printed_append (both_told trace version listed routed) (Prints line ∷ []) ∙ ap (λ (text : List ℕ). printed (both_told trace version listed routed) ++ text) (append-nil line)))

-- the routes' parts alone
pub no_list : (trace : Bool) (version : IpVersion) (made : List SplitAction) → made_of_list (told_parts trace version side.Routes 0 made) ≡ []
no_list trace version made = ap made_of_list (sym (append-nil (told_parts trace version side.Routes 0 made))) ∙ list_of_routes trace version 0 made []

pub routes_alone : (trace : Bool) (version : IpVersion) (made : List SplitAction) → made_of_routes (told_parts trace version side.Routes 0 made) ≡ made
routes_alone trace version made = ap made_of_routes (sym (append-nil (told_parts trace version side.Routes 0 made))) ∙ (routes_of_routes trace version 0 made [] ∙ append-nil made)

-- a commit that both tables have taken
module _ (slots : DeviceSlots) (before now : Routing) (listed routed : ℕ) (taken : AreBothTaken before now listed routed) (is : IsRouter now) (fits : FitsBoth now slots) where
  abbrev pub list_left : List SplitAction
  list_left = left_of slots.listed now.listed

  abbrev pub route_left : List SplitAction
  route_left = left_of slots.routed now.routed

  list_wide : before.listed.whole.slots ≤ slots.listed
  list_wide = subst (λ (n : ℕ). n ≤ slots.listed) (held_slots before.listed before.list_batch taken.list_counts now.listed taken.list_holds) fits.listed

  route_wide : before.routed.whole.slots ≤ slots.routed
  route_wide = subst (λ (n : ℕ). n ≤ slots.routed) (held_slots before.routed before.route_batch taken.route_counts now.routed taken.route_holds) fits.routed

  list_on : HoldsOn slots.listed before.listed before.list_batch taken.list_counts now.listed
  list_on = taken.list_holds.on slots.listed list_wide

  route_on : HoldsOn slots.routed before.routed before.route_batch taken.route_counts now.routed
  route_on = taken.route_holds.on slots.routed route_wide

  -- the numbers are those of the parts
  pub list_number : listed ≡ length (written list_left)
  list_number = taken.listed_is ∙ list_on.writes

  pub route_number : routed ≡ length (written route_left)
  route_number = taken.routed_is ∙ route_on.writes

  uncrossed : IsSplitUncrossed (most_by_parts before.version) (split_insertions (table_state slots.routed (progress_of before).routed) (written route_left))
  uncrossed = route_on.routes before.version taken.router.routes taken.router.changes

  -- the commit's line
  abbrev pub whole_line : List ℕ
  whole_line = made_line (progress_of before) list_left route_left

  abbrev pub done : Progress
  done = after_commit (setting_of before) (progress_of before) list_left route_left

  commits : (effects : List Effect) → effects ≡ both_made before.trace before.version list_left route_left whole_line → Commits (setting_of before) slots (progress_of before) effects done
  commits effects are = record {
    listed = list_left;
    routed = route_left;
    list_part = part_of before.listed before.list_batch taken.list_counts now.listed (taken.router.list_stands taken.idle.listed) taken.list_holds slots.listed (setting_of before) list_wide refl refl refl;
    route_part = part_of before.routed before.route_batch taken.route_counts now.routed (taken.router.route_stands taken.idle.routed) taken.route_holds slots.routed (setting_of before) route_wide
        (sym taken.router.slots) (sym taken.router.mode) (sym taken.router.placement);
    of_routes = uncrossed;
    effects_are = are;
    after = refl;
  }

  -- it has these effects
  pub has_effects : (effects : List Effect) → effects ≡ both_made before.trace before.version list_left route_left whole_line → HasEffects (setting_of before) slots (progress_of before) Commit effects done
  has_effects effects are =
      subst (λ (verdict : Verdict). Judged (setting_of before) slots (progress_of before) verdict effects done) (sym taken.list_accepted)
      (subst (λ (verdict : Verdict). JudgedByRoutes (setting_of before) slots (progress_of before) verdict effects done) (sym taken.route_accepted) (commits effects are))

  -- and leads there
  leads : (new : Routing) → new ≡ record now {
    listed = finished_split slots.listed now.listed;
    routed = finished_split slots.routed now.routed;
    list_batch = [];
    route_batch = [];
    commits = now.commits + 1;
    writes = now.writes + (listed + routed);
  } → progress_of new ≡ done
  leads new are =
      ap progress_of are
      ∙ (ap (λ (r : Routing). progress_of (record r {
        listed = finished_split slots.listed now.listed;
        routed = finished_split slots.routed now.routed;
        list_batch = [];
        route_batch = [];
        commits = r.commits + 1;
        writes = r.writes + (listed + routed);
      })) taken.now_is
      ∙ (ap₂ (λ (one two : Table). record done { listed = one; routed = two; writes = before.writes + (listed + routed) }) (table_after slots.listed before.listed before.list_batch taken.list_counts now.listed (setting_of before) refl taken.list_holds)
      (table_after slots.routed before.routed before.route_batch taken.route_counts now.routed (setting_of before) (sym taken.router.mode) taken.route_holds)
      ∙ ap (λ (n : ℕ). record done { writes = before.writes + n }) (ap₂ (λ (a b : ℕ). a + b) list_number route_number)))

  -- as it is counted once both were made
  pub leads_made : (drains : ℕ) (mid new : Routing) (from to : MadeOfBoth) → IsMadeBy slots now drains mid from to
      → new ≡ record mid { list_batch = []; route_batch = []; commits = mid.commits + 1; writes = mid.writes + (listed + routed) } → progress_of new ≡ done
  leads_made drains mid new from to made are =
      leads new (are ∙ ap (λ (r : Routing). record r { list_batch = []; route_batch = []; commits = r.commits + 1; writes = r.writes + (listed + routed) }) made.new_is)

  -- what was made of each device, where the whole commit was, and some of the line
  made_all : (list list' routes routes' : List SplitAction) (partial : List ℕ) (old mid new : Option (List ℕ)) → list' ≡ list ++ list_left → routes' ≡ routes ++ route_left
      → AreBothTold before.trace before.version (made_on list routes) (made_on list' routes') old mid → Appends mid new partial
      → Does (both_told before.trace before.version list_left route_left) partial (outside list routes old) (outside list' routes' new)
  made_all list list' routes routes' partial old mid new grown more told part = record {
    list = grown ∙ ap (λ (some : List SplitAction). list ++ some)
        (sym (list_of_list before.trace before.version 0 list_left (told_parts before.trace before.version side.Routes 0 route_left) ∙ (ap (λ (some : List SplitAction). list_left ++ some) (no_list before.trace before.version route_left) ∙ append-nil list_left)));
    routes = more ∙ ap (λ (some : List SplitAction). routes ++ some)
        (sym (routes_of_list before.trace before.version 0 list_left (told_parts before.trace before.version side.Routes 0 route_left) ∙ routes_alone before.trace before.version route_left));
    report = Appends-trans old mid new (printed (both_told before.trace before.version list_left route_left)) partial
        (both_text before.trace before.version (made_on list routes) (made_on list' routes') list_left route_left old mid told grown more) part;
  }

  -- the commit is made, with its line
  pub make_carries : (new : Routing) (list list' routes routes' : List SplitAction) (old mid told : Option (List ℕ)) → progress_of new ≡ done → list' ≡ list ++ list_left → routes' ≡ routes ++ route_left
      → AreBothTold before.trace before.version (made_on list routes) (made_on list' routes') old mid → Appends mid told whole_line
      → ComesTo slots before Commit new (Ok tt) (outside list routes old) (outside list' routes' told)
  make_carries new list list' routes routes' old mid told leads_there grown more parts line at =
      let tail : List Effect = Prints whole_line ∷ [] in
      record {
        effects = both_made before.trace before.version list_left route_left whole_line;
        step = subst (λ (after : Progress). HasEffects (setting_of before) slots (progress_of before) Commit (both_made before.trace before.version list_left route_left whole_line) after) (sym leads_there) (has_effects _ refl);
        does = record {
          list = grown ∙ ap (λ (some : List SplitAction). list ++ some)
              (sym (list_of_list before.trace before.version 0 list_left (told_parts before.trace before.version side.Routes 0 route_left ++ tail)
              ∙ (ap (λ (some : List SplitAction). list_left ++ some) (list_of_routes before.trace before.version 0 route_left tail) ∙ append-nil list_left)));
          routes = more ∙ ap (λ (some : List SplitAction). routes ++ some)
              (sym (routes_of_list before.trace before.version 0 list_left (told_parts before.trace before.version side.Routes 0 route_left ++ tail)
              ∙ (routes_of_routes before.trace before.version 0 route_left tail ∙ append-nil route_left)));
          report = subst (Appends old told) (sym (made_text before.trace before.version list_left route_left whole_line))
              (Appends-trans old mid told (printed (both_told before.trace before.version list_left route_left)) whole_line
              (both_text before.trace before.version (made_on list routes) (made_on list' routes') list_left route_left old mid parts grown more) line);
        };
      }

  -- or a part of the line
  pub make_cuts : (new : Routing) (list list' routes routes' : List SplitAction) (old mid told : Option (List ℕ)) → list' ≡ list ++ list_left → routes' ≡ routes ++ route_left
      → AreBothTold before.trace before.version (made_on list routes) (made_on list' routes') old mid → AppendsPart mid told whole_line
      → ComesTo slots before Commit new (Err Sink) (outside list routes old) (outside list' routes' told)
  make_cuts new list list' routes routes' old mid told grown more parts part at = record {
    front = both_told before.trace before.version list_left route_left;
    partial = part.0;
    rest = part.1;
    cut = record {
      back = [];
      after = done;
      step = has_effects _ (append_assoc (told_parts before.trace before.version side.List 0 list_left) (told_parts before.trace before.version side.Routes 0 route_left) (Prints (part.0 ++ part.1) ∷ [])
          ∙ ap (λ (text : List ℕ). both_made before.trace before.version list_left route_left text) (sym part.2));
    };
    does = made_all list list' routes routes' part.0 old mid told grown more parts part.3;
  }
