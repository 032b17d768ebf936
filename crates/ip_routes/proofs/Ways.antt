-- The numbers of next hops, and what a line comes to.
use Rattle.std.proofs.Common.{◌≡◌, ◌+◌, ℕ, Bool, true, false, cond, ◌||◌, Option, Some, None, Result, Err, IfOk, OnOk, List, [], ◌∷◌, ◌++◌, length, length-append, position, refl, sym, ap, ◌∙◌, subst, append-nil, append_assoc}
use Rattle.std.specs.Prelude.{Vec, map, option_map}
use Rattle.std.specs.List.{list_any, position_from}
use Rattle.std.proofs.lemmas.List.{length-map, map-append}
use Rattle.std.proofs.lemmas.Iterator.Adapters.{position_from-zero}
use Rattle.indexmap.specs.IndexSet.{insert_key}
use Rattle.std.specs.Str.{bytes_eq}
use Rattle.rule_model.specs.declared.IpVersion.{IpVersion}
use Rattle.rule_model.specs.AddressBlock.{AddressBlock, same_block}
use Rattle.import_lines.specs.declared.Told.{Told}
use Rattle.import_lines.specs.declared.Told.TheVariants.{Said}
use Rattle.import_lines.specs.Import.{LineTold, SaidBy, UnsaidBy, IsTold}
use Rattle.ip_routes.specs.declared.format.Behind.{Behind}
use Rattle.ip_routes.specs.declared.format.Behind.TheVariants as behind
use Rattle.ip_routes.specs.declared.format.SaidRoute.{SaidRoute}
use Rattle.ip_routes.specs.declared.attributes.Why.{Why}
use Rattle.ip_routes.specs.Words.{gap_words}
use Rattle.ip_routes.specs.Reading.{RouteReading, Unsaid, first_reading, read_words, way_of}
use Rattle.ip_routes.specs.Telling.{Known, number_from, hop_number, number_by, way_number, comment_by, way_comment, hops_by, hops_with, hop_line, route_line_text, kept_line, unsaid_text, by_metric, behind_of, added, known_with, told_behind, told_of, after_of, told_words, after_words, route_told, route_after}

-- ---- the number of a next hop

-- the one at a place, where the words of several are told by this
number-at : {K : Type 0} → (words : K → List ℕ) (way : List ℕ) (ways : List K) (place number : ℕ) → number ≡ place + 1
    → option_map (λ p. p + 1) (position_from (λ k. bytes_eq way (words k)) place ways) ≡ number_from number (map words ways) way
number-at words way [] place number is = refl
number-at words way (first ∷ ways) place number is = by (bytes_eq way (words first)) (number-at words way ways (place + 1) (number + 1) (ap (λ n. n + 1) is))
  where
    by : (b : Bool) → option_map (λ p. p + 1) (position_from (λ k. bytes_eq way (words k)) (place + 1) ways) ≡ number_from (number + 1) (map words ways) way
        → option_map (λ p. p + 1) (cond b (Some place) (position_from (λ k. bytes_eq way (words k)) (place + 1) ways)) ≡ cond b (Some number) (number_from (number + 1) (map words ways) way)
    by true behind = ap Some (sym is)
    by false behind = behind

pub place-number : {K : Type 0} → (words : K → List ℕ) (way : List ℕ) (ways : List K) (found : Option ℕ) → found ≡ position (λ k. bytes_eq way (words k)) ways
    → option_map (λ p. p + 1) found ≡ hop_number (map words ways) way
place-number words way ways found is =
    ap (λ f. option_map (λ p. p + 1) f) (is ∙ position_from-zero (λ k. bytes_eq way (words k)) ways) ∙ number-at words way ways 0 1 refl

-- one that has none is put behind the others
none-among : {K : Type 0} → (words : K → List ℕ) (way : List ℕ) (ways : List K) (number : ℕ) → number_from number (map words ways) way ≡ None → list_any (λ k. bytes_eq way (words k)) ways ≡ false
none-among words way [] number none = refl
none-among words way (first ∷ ways) number none = by (bytes_eq way (words first)) none (none-among words way ways (number + 1))
  where
    by : (b : Bool) → cond b (Some number) (number_from (number + 1) (map words ways) way) ≡ None → (number_from (number + 1) (map words ways) way ≡ None → list_any (λ k. bytes_eq way (words k)) ways ≡ false)
        → (b || list_any (λ k. bytes_eq way (words k)) ways) ≡ false
    by true some behind = absurd (cc)
    by false behind_none behind = behind behind_none

pub added-last : {K : Type 0} → (words : K → List ℕ) (way : List ℕ) (ways new : List K) (key : K) → hop_number (map words ways) way ≡ None → words key ≡ way
    → new ≡ insert_key (λ a b. bytes_eq (words a) (words b)) ways key → map words new ≡ map words ways ++ way ∷ []
added-last words way ways new key none key_is is =
    ap (λ l. map words l) (is ∙ ap (λ b. cond b ways (ways ++ key ∷ [])) (ap (λ w. list_any (λ k. bytes_eq w (words k)) ways) key_is ∙ none-among words way ways 1 none))
    ∙ map-append words ways (key ∷ []) ∙ ap (λ w. map words ways ++ w ∷ []) key_is

-- the ways of the table, in their words
pub way-place : {Z : Type 0} → (way : List ℕ) (ways : List (Vec ℕ Z)) (hops : List (List ℕ)) (found : Option ℕ) → map (λ (w : Vec ℕ Z). w.items) ways ≡ hops
    → found ≡ position (λ (k : Vec ℕ Z). bytes_eq way k.items) ways → option_map (λ p. p + 1) found ≡ hop_number hops way
way-place {Z} way ways hops found view_is is = place-number (λ (w : Vec ℕ Z). w.items) way ways found is ∙ ap (λ h. hop_number h way) view_is

pub way-added : {Z : Type 0} → (way : List ℕ) (ways new : List (Vec ℕ Z)) (hops : List (List ℕ)) (key : Vec ℕ Z) → map (λ (w : Vec ℕ Z). w.items) ways ≡ hops → None ≡ hop_number hops way → key.items ≡ way
    → new ≡ insert_key (λ (a b : Vec ℕ Z). bytes_eq a.items b.items) ways key → map (λ (w : Vec ℕ Z). w.items) new ≡ hops ++ way ∷ []
way-added {Z} way ways new hops key view_is none key_is is =
    added-last (λ (w : Vec ℕ Z). w.items) way ways new key (ap (λ h. hop_number h way) view_is ∙ sym none) key_is is ∙ ap (λ h. h ++ way ∷ []) view_is

pub way-count : {Z : Type 0} → (way : List ℕ) (new : List (Vec ℕ Z)) (hops : List (List ℕ)) → map (λ (w : Vec ℕ Z). w.items) new ≡ hops ++ way ∷ [] → length new ≡ length hops + 1
way-count {Z} way new hops is = sym (length-map new (λ (w : Vec ℕ Z). w.items)) ∙ ap length is ∙ length-append hops (way ∷ [])

-- it has one
way-found : (held hops : List (List ℕ)) (way : List ℕ) (number : ℕ) → held ≡ hops → Some number ≡ hop_number held way → hop_number hops way ≡ Some number
way-found held hops way number same is = ap (λ h. hop_number h way) (sym same) ∙ sym is

pub found-number : (held hops : List (List ℕ)) (way : List ℕ) (number : ℕ) → held ≡ hops → Some number ≡ hop_number held way → number ≡ way_number hops way
found-number held hops way number same is = sym (ap (λ o. number_by hops o) (way-found held hops way number same is))

pub found-comment : (held hops : List (List ℕ)) (way : List ℕ) (number : ℕ) (into : List ℕ) → held ≡ hops → Some number ≡ hop_number held way → into ≡ into ++ way_comment hops way
found-comment held hops way number into same is = sym (append-nil into) ∙ ap (λ t. into ++ t) (sym (ap (λ o. comment_by hops way o) (way-found held hops way number same is)))

pub found-hops : (held hops : List (List ℕ)) (way : List ℕ) (number : ℕ) → held ≡ hops → Some number ≡ hop_number held way → hops ≡ hops_with hops way
found-hops held hops way number same is = sym (ap (λ o. hops_by hops way o) (way-found held hops way number same is))

-- or none
pub way-none : (held hops : List (List ℕ)) (way : List ℕ) → held ≡ hops → None ≡ hop_number held way → None ≡ hop_number hops way
way-none held hops way same is = is ∙ ap (λ h. hop_number h way) same

pub none-number : {E : Type 0} → (hops : List (List ℕ)) (way : List ℕ) (r : Result ℕ E) → None ≡ hop_number hops way → IfOk r (λ number. number ≡ length hops + 1) → IfOk r (λ number. number ≡ way_number hops way)
none-number hops way r none is = subst (λ o. IfOk r (λ number. number ≡ number_by hops o)) none is

pub none-comment : {E : Type 0} → (hops : List (List ℕ)) (way : List ℕ) (r : Result ℕ E) (into new : List ℕ) → None ≡ hop_number hops way → OnOk r (new ≡ into ++ hop_line (length hops + 1) way) → OnOk r (new ≡ into ++ way_comment hops way)
none-comment hops way r into new none is = subst (λ o. OnOk r (new ≡ into ++ comment_by hops way o)) none is

pub none-hops : {E : Type 0} → (hops : List (List ℕ)) (way : List ℕ) (r : Result ℕ E) (new : List (List ℕ)) → None ≡ hop_number hops way → OnOk r (new ≡ hops ++ way ∷ []) → OnOk r (new ≡ hops_with hops way)
none-hops hops way r new none is = subst (λ o. OnOk r (new ≡ hops_by hops way o)) none is

-- ---- a route, by what it is behind the one before

pub same-behind : (version : IpVersion) (last : SaidRoute) (route : RouteReading) (block : AddressBlock) (metric : ℕ) (b : Behind) → same_block last.prefix block ≡ true → block ≡ route.block → metric ≡ route.metric → b ≡ by_metric version last.metric metric
    → b ≡ behind_of version (Some last) route
same-behind version last route block metric b same block_is metric_is is =
    is ∙ ap (λ m. by_metric version last.metric m) metric_is
    ∙ ap (λ x. cond x (by_metric version last.metric route.metric) behind.New) (sym same ∙ ap (λ a. same_block last.prefix a) block_is)

pub new-behind : (version : IpVersion) (last : SaidRoute) (route : RouteReading) (block : AddressBlock) → same_block last.prefix block ≡ false → block ≡ route.block → behind.New ≡ behind_of version (Some last) route
new-behind version last route block other block_is =
    ap (λ x. cond x (by_metric version last.metric route.metric) behind.New) (sym other ∙ ap (λ a. same_block last.prefix a) block_is)

pub behind-by : (known : Known) (version : IpVersion) (last : SaidRoute) (route : RouteReading) (b : Behind) → version ≡ known.version → Some last ≡ known.last → b ≡ behind_of version (Some last) route → b ≡ behind_of known.version known.last route
behind-by known version last route b version_is last_is is =
    is ∙ ap (λ v. behind_of v (Some last) route) version_is ∙ ap (λ l. behind_of known.version l route) last_is

-- what is written of it, into room that was empty
pub told-new : (known : Known) (route : RouteReading) (b : Behind) (into items : List ℕ) → behind.New ≡ b → items ≡ into ++ added known route → into ≡ [] → told_behind known route b ≡ SaidBy items
told-new known route b into items is put none = ap (λ x. told_behind known route x) (sym is) ∙ ap SaidBy (sym (put ∙ ap (λ l. l ++ added known route) none))

pub told-kept : (known : Known) (route : RouteReading) (b : Behind) (into items : List ℕ) → behind.Kept ≡ b → items ≡ into ++ kept_line route → into ≡ [] → told_behind known route b ≡ SaidBy items
told-kept known route b into items is put none = ap (λ x. told_behind known route x) (sym is) ∙ ap SaidBy (sym (put ∙ ap (λ l. l ++ kept_line route) none))

pub told-unsaid : (known : Known) (route : RouteReading) (b : Behind) (why : Why) (word into items : List ℕ) → behind.Unsaid why ≡ b → word ≡ route.text → items ≡ into ++ unsaid_text why word → into ≡ [] → told_behind known route b ≡ UnsaidBy items
told-unsaid known route b why word into items is word_is put none =
    ap (λ x. told_behind known route x) (sym is) ∙ ap (λ w. UnsaidBy (unsaid_text why w)) (sym word_is) ∙ ap UnsaidBy (sym (put ∙ ap (λ l. l ++ unsaid_text why word) none))

-- a route that is added: `view` is what is known by its fields
pub added-by : (view known : Known) (route : RouteReading) (way prefix : List ℕ) (number : ℕ) (into said new : List ℕ) → view ≡ known → way ≡ way_of route → prefix ≡ route.text → number ≡ way_number view.hops way → said ≡ into ++ way_comment view.hops way
    → new ≡ said ++ route_line_text prefix number → new ≡ into ++ added known route
added-by view known route way prefix number into said new view_is way_is prefix_is number_is said_is new_is =
    new_is ∙ ap (λ l. l ++ route_line_text prefix number) said_is ∙ append_assoc into (way_comment view.hops way) (route_line_text prefix number)
    ∙ ap (λ n. into ++ (way_comment view.hops way ++ route_line_text prefix n)) number_is
    ∙ ap (λ p. into ++ (way_comment view.hops way ++ route_line_text p (way_number view.hops way))) prefix_is
    ∙ ap (λ w. into ++ (way_comment view.hops w ++ route_line_text route.text (way_number view.hops w))) way_is
    ∙ ap (λ k. into ++ added k route) view_is

abbrev with_last : IpVersion → List (List ℕ) → AddressBlock → ℕ → Known
with_last version hops block metric = record { version = version; hops = hops; last = Some (record { prefix = block; metric = metric }) }

pub known-by : (view known : Known) (route : RouteReading) (way : List ℕ) (block : AddressBlock) (metric : ℕ) (hops : List (List ℕ)) → view ≡ known → way ≡ way_of route → block ≡ route.block → metric ≡ route.metric → hops ≡ hops_with view.hops way
    → with_last view.version hops block metric ≡ known_with known route
known-by view known route way block metric hops view_is way_is block_is metric_is hops_is =
    ap (λ h. with_last view.version h block metric) hops_is
    ∙ ap (λ w. with_last view.version (hops_with view.hops w) block metric) way_is
    ∙ ap (λ b. with_last view.version (hops_with view.hops (way_of route)) b metric) block_is
    ∙ ap (λ m. with_last view.version (hops_with view.hops (way_of route)) route.block m) metric_is
    ∙ ap (λ k. known_with k route) view_is

-- ---- a line, by its words

pub words-read : (version same : IpVersion) (route : RouteReading) (words : List (List ℕ)) (r : Result RouteReading Unsaid) → version ≡ same → route ≡ first_reading → read_words version route [] words ≡ r → read_words same first_reading [] words ≡ r
words-read version same route words r version_is route_is is =
    sym (ap (λ v. read_words v route [] words) version_is ∙ ap (λ s. read_words same s [] words) route_is) ∙ is

pub told-again : {E : Type 0} → (r : Result Told E) (items : List ℕ) (line same : LineTold) → line ≡ same → IfOk r (λ answer. IsTold answer items line) → IfOk r (λ answer. IsTold answer items same)
told-again r items line same is told = subst (λ l. IfOk r (λ answer. IsTold answer items l)) is told

pub after-again : {E : Type 0} → (r : Result Told E) (new known same : Known) → known ≡ same → IfOk r (λ answer. answer ≡ Said → new ≡ known) → IfOk r (λ answer. answer ≡ Said → new ≡ same)
after-again r new known same is after = subst (λ k. IfOk r (λ answer. answer ≡ Said → new ≡ k)) is after

pub told-err : (known : Known) (r : Result RouteReading Unsaid) (why : Why) (word into items : List ℕ) → r ≡ Err (record { why = why; word = word }) → items ≡ into ++ unsaid_text why word → into ≡ [] → told_of known r ≡ UnsaidBy items
told-err known r why word into items is put none = ap (λ x. told_of known x) is ∙ ap UnsaidBy (sym (put ∙ ap (λ l. l ++ unsaid_text why word) none))

pub told-none : (known : Known) (text : List ℕ) → gap_words text ≡ [] → route_told known text ≡ SaidBy []
told-none known text none = ap (λ w. told_words known w) none

pub after-none : (known : Known) (text : List ℕ) → gap_words text ≡ [] → route_after known text ≡ known
after-none known text none = ap (λ w. after_words known w) none

pub told-words : (known : Known) (text word : List ℕ) (words : List (List ℕ)) → gap_words text ≡ word ∷ words → told_of known (read_words known.version first_reading [] (gap_words text)) ≡ route_told known text
told-words known text word words some = ap (λ w. told_of known (read_words known.version first_reading [] w)) some ∙ ap (λ w. told_words known w) (sym some)

pub after-words-some : (known : Known) (text word : List ℕ) (words : List (List ℕ)) → gap_words text ≡ word ∷ words → after_of known (read_words known.version first_reading [] (gap_words text)) ≡ route_after known text
after-words-some known text word words some = ap (λ w. after_of known (read_words known.version first_reading [] w)) some ∙ ap (λ w. after_words known w) (sym some)
