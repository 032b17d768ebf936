-- What an event comes to, by what its callees answer. What is known is `view` by its fields, and `known` as a whole.
use Rattle.std.proofs.Common.{◌≡◌, ◌&&◌, ◌||◌, ℕ, Bool, true, false, cond, Option, Some, None, Result, Ok, Err, IfOk, List, [], ◌∷◌, ◌++◌, sym, ap, ◌∙◌, subst, append-nil, append_assoc}
use Rattle.std.specs.Prelude.{codes}
use Rattle.std.specs.Str.{bytes_eq}
use Rattle.rule_model.specs.declared.IpVersion.{IpVersion}
use Rattle.rule_model.specs.AddressBlock.{AddressBlock}
use Rattle.import_lines.specs.declared.Told.{Told}
use Rattle.import_lines.specs.declared.Told.TheVariants.{Said}
use Rattle.import_lines.specs.Import.{LineTold, SaidBy, UnsaidBy, IsTold}
use Rattle.ip_routes.specs.declared.attributes.Why.{Why}
use Rattle.ip_routes.specs.Words.{gap_words}
use Rattle.ip_routes.specs.Reading.{RouteReading, Unsaid, read_words, reading_of, way_of}
use Rattle.ip_routes.specs.Telling.{hop_number, hops_with, unsaid_text, way_comment, way_number}
use Rattle.ip_monitor.specs.declared.events.Passed.{Passed}
use Rattle.ip_monitor.specs.declared.ranks.Ranked.{Ranked}
use Rattle.ip_monitor.specs.Events.{PassedBy, is_advertised, passed_of}
use Rattle.ip_monitor.specs.Ranks.{least_of, number_at, others}
use Rattle.ip_monitor.specs.Standings.{Standing, ranks_of, with_ranks}
use Rattle.ip_monitor.specs.Telling.{Known, answer_lines, changed_text, clashes, comment_of, event_after, event_told, after_by, after_words, hops_after, is_other, known_after, monitor_after, monitor_told, passed_line, rank_of, ranks_after, read_after, read_told, route_told, told_by, told_words, why_unclear}

-- ---- a route

pub clash-by : (view known : Known) (route : RouteReading) (block : AddressBlock) (metric : ℕ) (way : List ℕ) (ranks : List Ranked) (there number : Option ℕ) (b : Bool) → view ≡ known → block ≡ route.block → metric ≡ route.metric → way ≡ way_of route
    → ranks ≡ ranks_of block view.standings → there ≡ number_at metric ranks → number ≡ hop_number view.hops way → b ≡ is_other there number → b ≡ clashes known route
clash-by view known route block metric way ranks there number b view_is block_is metric_is way_is ranks_is there_is number_is is =
    is ∙ ap (λ t. is_other t number) (there_is ∙ ap (λ r. number_at metric r) ranks_is)
    ∙ ap (λ n. is_other (number_at metric (ranks_of block view.standings)) n) number_is
    ∙ ap (λ m. is_other (number_at m (ranks_of block view.standings)) (hop_number view.hops way)) metric_is
    ∙ ap (λ p. is_other (number_at route.metric (ranks_of p view.standings)) (hop_number view.hops way)) block_is
    ∙ ap (λ w. is_other (number_at route.metric (ranks_of route.block view.standings)) (hop_number view.hops w)) way_is
    ∙ ap (λ k. clashes k route) view_is

-- behind an event: those of other metrics, and the one that stands
abbrev ranks_by : List Standing → AddressBlock → ℕ → List Ranked
ranks_by standings block metric = others metric (ranks_of block standings)

pub ranks-are : (view : Known) (gone : Bool) (route : RouteReading) (block : AddressBlock) (metric : ℕ) (ranks kept all : List Ranked) → block ≡ route.block → metric ≡ route.metric
    → ranks ≡ ranks_of block view.standings → kept ≡ others metric ranks → all ≡ kept ++ rank_of view.hops gone route → all ≡ ranks_after view gone route
ranks-are view gone route block metric ranks kept all block_is metric_is ranks_is kept_is all_is =
    all_is ∙ ap (λ k. k ++ rank_of view.hops gone route) (kept_is ∙ ap (λ r. others metric r) ranks_is)
    ∙ ap (λ m. ranks_by view.standings block m ++ rank_of view.hops gone route) metric_is
    ∙ ap (λ p. ranks_by view.standings p route.metric ++ rank_of view.hops gone route) block_is

pub changed-by : (view known : Known) (gone : Bool) (route : RouteReading) (prefix : List ℕ) (all : List Ranked) (least : Option Ranked) (into said new : List ℕ) → view ≡ known → prefix ≡ route.text → all ≡ ranks_after view gone route
    → least ≡ least_of all → said ≡ into ++ comment_of view.hops gone route → new ≡ said ++ answer_lines prefix least → new ≡ into ++ changed_text known gone route
changed-by view known gone route prefix all least into said new view_is prefix_is all_is least_is said_is new_is =
    new_is ∙ ap (λ s. s ++ answer_lines prefix least) said_is ∙ append_assoc into (comment_of view.hops gone route) (answer_lines prefix least)
    ∙ ap (λ p. into ++ (comment_of view.hops gone route ++ answer_lines p least)) prefix_is
    ∙ ap (λ l. into ++ (comment_of view.hops gone route ++ answer_lines route.text l)) (least_is ∙ ap least_of all_is)
    ∙ ap (λ k. into ++ changed_text k gone route) view_is

abbrev with_both : IpVersion → List (List ℕ) → List Standing → Known
with_both version hops standings = record { version = version; hops = hops; standings = standings }

pub known-by : (view known : Known) (gone : Bool) (route : RouteReading) (block : AddressBlock) (all : List Ranked) (hops : List (List ℕ)) (standings : List Standing) → view ≡ known → block ≡ route.block → all ≡ ranks_after view gone route
    → hops ≡ hops_after view.hops gone route → standings ≡ with_ranks block all view.standings → with_both view.version hops standings ≡ known_after known gone route
known-by view known gone route block all hops standings view_is block_is all_is hops_is standings_is =
    ap (λ h. with_both view.version h standings) hops_is
    ∙ ap (λ s. with_both view.version (hops_after view.hops gone route) s) (standings_is ∙ ap (λ a. with_ranks block a view.standings) all_is ∙ ap (λ p. with_ranks p (ranks_after view gone route) view.standings) block_is)
    ∙ ap (λ k. known_after k gone route) view_is

-- the route that stands, if it does
pub gone-rank : (ranks : List Ranked) (hops : List (List ℕ)) (gone : Bool) (route : RouteReading) → gone ≡ true → ranks ≡ ranks ++ rank_of hops gone route
gone-rank ranks hops gone route is = sym (append-nil ranks) ∙ ap (λ g. ranks ++ rank_of hops g route) (sym is)

pub gone-hops : (hops : List (List ℕ)) (gone : Bool) (route : RouteReading) → gone ≡ true → hops ≡ hops_after hops gone route
gone-hops hops gone route is = ap (λ g. hops_after hops g route) (sym is)

pub gone-comment : (into : List ℕ) (hops : List (List ℕ)) (gone : Bool) (route : RouteReading) → gone ≡ true → into ≡ into ++ comment_of hops gone route
gone-comment into hops gone route is = sym (append-nil into) ∙ ap (λ g. into ++ comment_of hops g route) (sym is)

abbrev rank_with : ℕ → ℕ → Ranked
rank_with metric number = record { metric = metric; number = number }

pub stood-rank : (ranks new : List Ranked) (hops : List (List ℕ)) (gone : Bool) (route : RouteReading) (way : List ℕ) (metric number : ℕ) → gone ≡ false → way ≡ way_of route → metric ≡ route.metric → number ≡ way_number hops way
    → new ≡ ranks ++ rank_with metric number ∷ [] → new ≡ ranks ++ rank_of hops gone route
stood-rank ranks new hops gone route way metric number is way_is metric_is number_is new_is =
    new_is ∙ ap (λ m. ranks ++ rank_with m number ∷ []) metric_is
    ∙ ap (λ n. ranks ++ rank_with route.metric n ∷ []) (number_is ∙ ap (λ w. way_number hops w) way_is)
    ∙ ap (λ g. ranks ++ rank_of hops g route) (sym is)

pub stood-hops : (hops new : List (List ℕ)) (gone : Bool) (route : RouteReading) (way : List ℕ) → gone ≡ false → way ≡ way_of route → new ≡ hops_with hops way → new ≡ hops_after hops gone route
stood-hops hops new gone route way is way_is new_is = new_is ∙ ap (λ w. hops_with hops w) way_is ∙ ap (λ g. hops_after hops g route) (sym is)

pub stood-comment : (into new : List ℕ) (hops : List (List ℕ)) (gone : Bool) (route : RouteReading) (way : List ℕ) → gone ≡ false → way ≡ way_of route → new ≡ into ++ way_comment hops way → new ≡ into ++ comment_of hops gone route
stood-comment into new hops gone route way is way_is new_is = new_is ∙ ap (λ w. into ++ way_comment hops w) way_is ∙ ap (λ g. into ++ comment_of hops g route) (sym is)

-- ---- whether it is said, into room that was empty

pub told-unclear : (known : Known) (gone advertised unclear : Bool) (route : RouteReading) (reason : Why) (word into items : List ℕ) → unclear ≡ ((gone || advertised) && clashes known route) → unclear ≡ true → reason ≡ why_unclear gone → word ≡ route.text
    → items ≡ into ++ unsaid_text reason word → into ≡ [] → route_told known gone advertised route ≡ UnsaidBy items
told-unclear known gone advertised unclear route reason word into items unclear_is holds reason_is word_is put none =
    ap (λ b. cond b (UnsaidBy (unsaid_text (why_unclear gone) route.text)) (SaidBy (changed_text known gone route))) (sym unclear_is ∙ holds)
    ∙ ap (λ r. UnsaidBy (unsaid_text r route.text)) (sym reason_is) ∙ ap (λ w. UnsaidBy (unsaid_text reason w)) (sym word_is)
    ∙ ap UnsaidBy (sym (put ∙ ap (λ l. l ++ unsaid_text reason word) none))

pub told-clear : (known : Known) (gone advertised unclear : Bool) (route : RouteReading) (into items : List ℕ) → unclear ≡ ((gone || advertised) && clashes known route) → unclear ≡ false
    → items ≡ into ++ changed_text known gone route → into ≡ [] → route_told known gone advertised route ≡ SaidBy items
told-clear known gone advertised unclear route into items unclear_is fails put none =
    ap (λ b. cond b (UnsaidBy (unsaid_text (why_unclear gone) route.text)) (SaidBy (changed_text known gone route))) (sym unclear_is ∙ fails)
    ∙ ap SaidBy (sym (put ∙ ap (λ l. l ++ changed_text known gone route) none))

-- ---- an event

pub words-read : (version same : IpVersion) (gone : Bool) (route : RouteReading) (words : List (List ℕ)) (r : Result RouteReading Unsaid) → version ≡ same → route ≡ reading_of gone → read_words version route [] words ≡ r
    → read_words same (reading_of gone) [] words ≡ r
words-read version same gone route words r version_is route_is is =
    sym (ap (λ v. read_words v route [] words) version_is ∙ ap (λ s. read_words same s [] words) route_is) ∙ is

pub told-again : {E : Type 0} → (r : Result Told E) (items : List ℕ) (line same : LineTold) → line ≡ same → IfOk r (λ answer. IsTold answer items line) → IfOk r (λ answer. IsTold answer items same)
told-again r items line same is told = subst (λ l. IfOk r (λ answer. IsTold answer items l)) is told

pub after-again : {E : Type 0} → (r : Result Told E) (new known same : Known) → known ≡ same → IfOk r (λ answer. answer ≡ Said → new ≡ known) → IfOk r (λ answer. answer ≡ Said → new ≡ same)
after-again r new known same is after = subst (λ k. IfOk r (λ answer. answer ≡ Said → new ≡ k)) is after

pub read-told : (known : Known) (gone advertised same : Bool) (route : RouteReading) (r : Result RouteReading Unsaid) → advertised ≡ same → r ≡ Ok route → route_told known gone advertised route ≡ read_told known gone same r
read-told known gone advertised same route r advertised_is is =
    ap (λ a. route_told known gone a route) advertised_is ∙ ap (λ x. read_told known gone same x) (sym is)

pub read-bad : (known : Known) (gone advertised : Bool) (r : Result RouteReading Unsaid) (reason : Why) (word into items : List ℕ) → r ≡ Err (record { why = reason; word = word }) → items ≡ into ++ unsaid_text reason word → into ≡ []
    → read_told known gone advertised r ≡ UnsaidBy items
read-bad known gone advertised r reason word into items is put none =
    ap (λ x. read_told known gone advertised x) is ∙ ap UnsaidBy (sym (put ∙ ap (λ l. l ++ unsaid_text reason word) none))

-- one that doesn't change the table, or one that does
pub passed-told : (known : Known) (gone : Bool) (version : IpVersion) (words : List (List ℕ)) (by : Passed) (word into items : List ℕ) → version ≡ known.version → passed_of version words ≡ Some (record { by = by; word = word })
    → items ≡ into ++ passed_line by word → into ≡ [] → event_told known gone words ≡ SaidBy items
passed-told known gone version words by word into items version_is is put none =
    ap (λ p. told_by known gone words p) (ap (λ v. passed_of v words) (sym version_is) ∙ is) ∙ ap SaidBy (sym (put ∙ ap (λ l. l ++ passed_line by word) none))

pub passed-after : (known : Known) (gone : Bool) (version : IpVersion) (words : List (List ℕ)) (found : PassedBy) → version ≡ known.version → passed_of version words ≡ Some found → known ≡ event_after known gone words
passed-after known gone version words found version_is is = sym (ap (λ p. after_by known gone words p) (ap (λ v. passed_of v words) (sym version_is) ∙ is))

pub own-told : (known : Known) (gone : Bool) (version : IpVersion) (words : List (List ℕ)) → version ≡ known.version → passed_of version words ≡ None
    → read_told known gone (is_advertised words) (read_words known.version (reading_of gone) [] words) ≡ event_told known gone words
own-told known gone version words version_is is = sym (ap (λ p. told_by known gone words p) (ap (λ v. passed_of v words) (sym version_is) ∙ is))

pub own-after : (known : Known) (gone : Bool) (version : IpVersion) (words : List (List ℕ)) → version ≡ known.version → passed_of version words ≡ None
    → read_after known gone (read_words known.version (reading_of gone) [] words) ≡ event_after known gone words
own-after known gone version words version_is is = sym (ap (λ p. after_by known gone words p) (ap (λ v. passed_of v words) (sym version_is) ∙ is))

-- ---- a line, by its first word

pub told-none : (known : Known) (text : List ℕ) → gap_words text ≡ [] → monitor_told known text ≡ SaidBy []
told-none known text none = ap (λ w. told_words known w) none

pub after-none : (known : Known) (text : List ℕ) → gap_words text ≡ [] → monitor_after known text ≡ known
after-none known text none = ap (λ w. after_words known w) none

pub told-gone : (known : Known) (text word : List ℕ) (words : List (List ℕ)) → gap_words text ≡ word ∷ words → bytes_eq word (codes "Deleted") ≡ true → event_told known true words ≡ monitor_told known text
told-gone known text word words some gone =
    sym (ap (λ w. told_words known w) some ∙ ap (λ b. cond b (event_told known true words) (event_told known false (word ∷ words))) gone)

pub after-gone : (known : Known) (text word : List ℕ) (words : List (List ℕ)) → gap_words text ≡ word ∷ words → bytes_eq word (codes "Deleted") ≡ true → event_after known true words ≡ monitor_after known text
after-gone known text word words some gone =
    sym (ap (λ w. after_words known w) some ∙ ap (λ b. cond b (event_after known true words) (event_after known false (word ∷ words))) gone)

pub told-stands : (known : Known) (text word : List ℕ) (words : List (List ℕ)) → gap_words text ≡ word ∷ words → bytes_eq word (codes "Deleted") ≡ false → event_told known false (gap_words text) ≡ monitor_told known text
told-stands known text word words some stands =
    ap (λ w. event_told known false w) some
    ∙ sym (ap (λ w. told_words known w) some ∙ ap (λ b. cond b (event_told known true words) (event_told known false (word ∷ words))) stands)

pub after-stands : (known : Known) (text word : List ℕ) (words : List (List ℕ)) → gap_words text ≡ word ∷ words → bytes_eq word (codes "Deleted") ≡ false → event_after known false (gap_words text) ≡ monitor_after known text
after-stands known text word words some stands =
    ap (λ w. event_after known false w) some
    ∙ sym (ap (λ w. after_words known w) some ∙ ap (λ b. cond b (event_after known true words) (event_after known false (word ∷ words))) stands)
