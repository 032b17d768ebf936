-- What some effects are of each device and of the report.
use Rattle.std.proofs.Common.{◌≡◌, ℕ, suc, ◌+◌, Bool, true, false, Option, List, [], ◌∷◌, ◌++◌, length, refl, sym, ap, ◌∙◌, subst, append_assoc, arith}
use Rattle.std.specs.Io.KnownBytes.{Appends}
use Rattle.std.proofs.lemmas.List.{append_cancel_left}
use Rattle.rule_model.specs.declared.IpVersion.{IpVersion}
use Rattle.split_device.specs.declared.SplitAction.{SplitAction}
use Rattle.split_device.specs.declared.SplitAction.TheVariants.{Written, Drained}
use Rattle.split_device.specs.Flight.{written}
use Rattle.router.specs.declared.Side.{Side}
use Rattle.router.specs.declared.Side.TheVariants as side
use Rattle.router.specs.Text.{action_line, parts_behind}
use Rattle.router.specs.Run.{Effect, Makes, Prints, made_of_list, made_of_routes, printed, told_parts, traced}
use Rattle.router.specs.Carried.{AreTold}

-- a trace line makes nothing of a device
pub list_of_traced : (trace : Bool) (line : List ℕ) (rest : List Effect) → made_of_list (traced trace line ++ rest) ≡ made_of_list rest
list_of_traced true line rest = refl
list_of_traced false line rest = refl

pub routes_of_traced : (trace : Bool) (line : List ℕ) (rest : List Effect) → made_of_routes (traced trace line ++ rest) ≡ made_of_routes rest
routes_of_traced true line rest = refl
routes_of_traced false line rest = refl

module _ (trace : Bool) (version : IpVersion) where
  -- what is told of the rest of some parts, with what comes behind
  abbrev line_of : Side → ℕ → SplitAction → List ℕ
  line_of which parts action = action_line version which (parts_behind parts action) action

  seam : (which : Side) (parts : ℕ) (action : SplitAction) (made : List SplitAction) (rest : List Effect)
      → (traced trace (line_of which parts action) ++ told_parts trace version which (parts_behind parts action) made) ++ rest
      ≡ traced trace (line_of which parts action) ++ (told_parts trace version which (parts_behind parts action) made ++ rest)
  seam which parts action made rest = append_assoc (traced trace (line_of which parts action)) (told_parts trace version which (parts_behind parts action) made) rest

  -- the parts of the list among what is told of the list first
  pub list_of_list : (parts : ℕ) (made : List SplitAction) (rest : List Effect) → made_of_list (told_parts trace version side.List parts made ++ rest) ≡ made ++ made_of_list rest
  list_of_list parts [] rest = refl
  list_of_list parts (action ∷ made) rest = ap (λ (some : List SplitAction). action ∷ some)
      (ap made_of_list (seam side.List parts action made rest)
      ∙ (list_of_traced trace (line_of side.List parts action) (told_parts trace version side.List (parts_behind parts action) made ++ rest) ∙ list_of_list (parts_behind parts action) made rest))

  pub list_of_routes : (parts : ℕ) (made : List SplitAction) (rest : List Effect) → made_of_list (told_parts trace version side.Routes parts made ++ rest) ≡ made_of_list rest
  list_of_routes parts [] rest = refl
  list_of_routes parts (action ∷ made) rest =
      ap made_of_list (seam side.Routes parts action made rest)
      ∙ (list_of_traced trace (line_of side.Routes parts action) (told_parts trace version side.Routes (parts_behind parts action) made ++ rest) ∙ list_of_routes (parts_behind parts action) made rest)

  -- and those of the routes
  pub routes_of_list : (parts : ℕ) (made : List SplitAction) (rest : List Effect) → made_of_routes (told_parts trace version side.List parts made ++ rest) ≡ made_of_routes rest
  routes_of_list parts [] rest = refl
  routes_of_list parts (action ∷ made) rest =
      ap made_of_routes (seam side.List parts action made rest)
      ∙ (routes_of_traced trace (line_of side.List parts action) (told_parts trace version side.List (parts_behind parts action) made ++ rest) ∙ routes_of_list (parts_behind parts action) made rest)

  pub routes_of_routes : (parts : ℕ) (made : List SplitAction) (rest : List Effect) → made_of_routes (told_parts trace version side.Routes parts made ++ rest) ≡ made ++ made_of_routes rest
  routes_of_routes parts [] rest = refl
  routes_of_routes parts (action ∷ made) rest = ap (λ (some : List SplitAction). action ∷ some)
      (ap made_of_routes (seam side.Routes parts action made rest)
      ∙ (routes_of_traced trace (line_of side.Routes parts action) (told_parts trace version side.Routes (parts_behind parts action) made ++ rest) ∙ routes_of_routes (parts_behind parts action) made rest))

  -- how many parts were made
  abbrev pub parts_after : ℕ → List SplitAction → ℕ
  parts_after parts [] = parts
  parts_after parts (action ∷ made) = parts_after (parts_behind parts action) made

  after_is : (parts : ℕ) (made : List SplitAction) → parts_after parts made ≡ parts + length (written made)
  after_is parts [] = omega arith
  after_is parts (Written part ∷ made) =
      let rest : parts_after (parts + 1) made ≡ parts + 1 + length (written made) = after_is (parts + 1) made in
      let here : parts_after (parts + 1) made ≡ parts + suc (length (written made)) = omega arith in
      here
  after_is parts (Drained ∷ made) = after_is parts made

  pub after_all : (made : List SplitAction) → parts_after 0 made ≡ length (written made)
  after_all made = let all = after_is 0 made in omega arith

  -- parts that are made one after the other
  told_on : (which : Side) (parts : ℕ) (a b : List SplitAction) → told_parts trace version which parts (a ++ b) ≡ told_parts trace version which parts a ++ told_parts trace version which (parts_after parts a) b
  told_on which parts [] b = refl
  told_on which parts (action ∷ a) b = ap (λ (some : List Effect). Makes which action ∷ some)
      (ap (λ (some : List Effect). traced trace (line_of which parts action) ++ some) (told_on which (parts_behind parts action) a b)
      ∙ sym (seam which parts action a (told_parts trace version which (parts_after (parts_behind parts action) a) b)))

  pub told_append : (which : Side) (a b : List SplitAction) → told_parts trace version which 0 (a ++ b) ≡ told_parts trace version which 0 a ++ told_parts trace version which (length (written a)) b
  told_append which a b = told_on which 0 a b ∙ ap (λ (n : ℕ). told_parts trace version which 0 a ++ told_parts trace version which n b) (after_all a)

  -- what was told of what was made
  pub told_made : (which : Side) (events events_new made : List SplitAction) (before after : Option (List ℕ)) → AreTold trace version which events events_new before after → events_new ≡ events ++ made
      → Appends before after (printed (told_parts trace version which 0 made))
  told_made which events events_new made before after told grown =
      subst (λ (some : List SplitAction). Appends before after (printed (told_parts trace version which 0 some)))
      (append_cancel_left events told.made made (sym told.grown ∙ grown)) told.report

-- one report after the other
pub printed_append : (a b : List Effect) → printed (a ++ b) ≡ printed a ++ printed b
printed_append [] b = refl
printed_append (Makes which action ∷ a) b = printed_append a b
printed_append (Prints line ∷ a) b = ap (λ (some : List ℕ). line ++ some) (printed_append a b) ∙ sym (append_assoc line (printed a) (printed b))
