-- Pairs of a map that have no packet in common.
use Rattle.std.proofs.Common.{◌≡◌, Bool, true, false, not, ◌&&◌, ◌||◌, Option, Some, None, List, [], ◌∷◌, refl, sym, ap, ◌∙◌}
use Rattle.std.specs.Prelude.{is_some}
use Rattle.std.proofs.lemmas.Bool.{and_parts, or_parts}
use Rattle.json.specs.Json.{Items, no_items, item}
use Rattle.rule_model.specs.declared.Key.{Key}
use Rattle.written_chains.specs.declared.meets.Tests.{Tests}
use Rattle.written_chains.specs.Laws.{ListsAnswerAsWalks}
use Rattle.written_chains.specs.Meets.{meet, tests_hold}
use Rattle.nft_rulesets.specs.Laws.{PairsAreApart, any_holds, pairs_hold}
use Rattle.nft_rulesets.specs.Looks.{pair_in}
use Rattle.nft_rulesets.specs.Products.{are_met, is_met}
use Rattle.nft_rulesets.specs.Verdicts.{are_apart, pair_held, pair_lets_on, passed_on}
use Rattle.nft_rulesets.proofs.Comparing.{both-any, found_hold, meet-hold}

-- ---- tests that don't meet

none-found : (met : Option Tests) (key : Key) → is_some met ≡ false → found_hold met key ≡ false
none-found None key none = refl
none-found (Some tests) key none = absurd (let bad : true ≡ false = none in cc)

no-meet : ListsAnswerAsWalks → (a b : Tests) (key : Key) → is_some (meet a b) ≡ false → (tests_hold a key && tests_hold b key) ≡ false
no-meet law a b key none = sym (meet-hold law a b key) ∙ none-found (meet a b) key none

and-no : (s : Bool) → (s && false) ≡ false
and-no true = refl
and-no false = refl

neither-of : (s a b : Bool) → (s && a) ≡ false → (s && b) ≡ false → (s && (a || b)) ≡ false
neither-of true a b first second = ap (λ z. z || b) first ∙ second
neither-of false a b first second = refl

of-neither : (s t b : Bool) → (s && b) ≡ false → (t && b) ≡ false → ((s || t) && b) ≡ false
of-neither true t b first second = first
of-neither false t b first second = second

one-apart : ListsAnswerAsWalks → (one : Tests) (others : List Tests) (key : Key) → is_met one others ≡ false → (tests_hold one key && any_holds others key) ≡ false
one-apart law one [] key none = and-no (tests_hold one key)
one-apart law one (other ∷ others) key none =
    let both = or_parts (is_some (meet one other)) (is_met one others) none in
    neither-of (tests_hold one key) (tests_hold other key) (any_holds others key) (no-meet law one other key both.0) (one-apart law one others key both.1)

all-apart : ListsAnswerAsWalks → (tests others : List Tests) (key : Key) → are_met tests others ≡ false → (any_holds tests key && any_holds others key) ≡ false
all-apart law [] others key none = refl
all-apart law (one ∷ tests) others key none =
    let both = or_parts (is_met one others) (are_met tests others) none in
    of-neither (tests_hold one key) (any_holds tests key) (any_holds others key) (one-apart law one others key both.0) (all-apart law tests others key both.1)

-- ---- pairs

not-held : (p h : Bool) → (p && h) ≡ false → p ≡ true → h ≡ false
not-held true h none has = none
not-held false h none has = absurd (let bad : false ≡ true = has in cc)

not-true : (b : Bool) → not b ≡ true → b ≡ false
not-true true is = absurd (let bad : false ≡ true = is in cc)
not-true false is = refl

still-passed : (on : Bool) (passed held : List Tests) (key : Key) → any_holds passed key ≡ true → any_holds (passed_on on passed held) key ≡ true
still-passed true passed held key has = both-any passed held key ∙ ap (λ b. b || any_holds held key) has
still-passed false passed held key has = has

pub pairs-apart : ListsAnswerAsWalks → PairsAreApart
pairs-apart law asked all fields tests passed no_items key apart has = refl
pairs-apart law asked all fields tests passed (item value items) key apart has =
    let held = pair_held asked.version fields tests (pair_in value) in
    let on = pair_lets_on asked all (pair_in value) in
    let both = and_parts (not (are_met passed held)) (are_apart asked all fields tests (passed_on on passed held) items) apart in
    let here = not-held (any_holds passed key) (any_holds held key) (all-apart law passed held key (not-true (are_met passed held) both.0)) has in
    ap (λ b. b || pairs_hold asked.version fields tests items key) here
    ∙ pairs-apart law asked all fields tests (passed_on on passed held) items key both.1 (still-passed on passed held key has)
