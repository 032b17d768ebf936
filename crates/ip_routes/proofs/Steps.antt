-- What a word comes to, by what its callees answer. A reading is `view` by its fields, and `seen` as a whole.
use Rattle.std.proofs.Common.{◌≡◌, ◌↔◌, ◌<◌, ◌≤◌, ◌+◌, ℕ, Bool, true, false, nat_le, ◌==◌, cond, Option, Result, Ok, Err, List, [], ◌∷◌, ◌++◌, length, refl, sym, ap, ◌∙◌, subst, append_assoc, arith, length-append}
use Rattle.std.specs.Prelude.{codes}
use Rattle.std.specs.Str.{bytes_eq}
use Rattle.std.proofs.lemmas.Bool.{le-leb, leb-true, leb-false, eqb-true}
use Rattle.std.proofs.lemmas.Bool.Decides.{same_from_decides}
use Rattle.rule_model.specs.declared.IpVersion.{IpVersion}
use Rattle.rule_model.specs.AddressBlock.{AddressBlock}
use Rattle.line_words.specs.Notations.{notation_for}
use Rattle.line_words.specs.declared.WordFault.{WordFault}
use Rattle.ip_routes.specs.declared.attributes.Attribute.{Attribute}
use Rattle.ip_routes.specs.declared.attributes.RouteKind.{RouteKind}
use Rattle.ip_routes.specs.declared.attributes.Why.{Why}
use Rattle.ip_routes.specs.declared.attributes.Why.TheVariants as why
use Rattle.ip_routes.specs.declared.reading.Expects.{Expects}
use Rattle.ip_routes.specs.declared.reading.Expects.TheVariants as expects
use Rattle.ip_routes.specs.Words.{is_another_kind, kind_of, attribute_in}
use Rattle.ip_routes.specs.Reading.{RouteReading, prefix_text, every_address, missing_length, with_block, read_prefix, with_kind, read_first, put_bytes, put_hop, spaced, expecting, behind_via, read_address, read_as, step_as, step, way_by, way_of, end_as, ended_by, goes_on, read_words}

-- ---- a bound

-- a test of it
pub fits-is : (r : Bool) (a b : ℕ) → (r ≡ true) ↔ (a ≤ b) → r ≡ nat_le a b
fits-is r a b exact = same_from_decides r (nat_le a b) exact (leb-true a b, le-leb a b)

-- ---- the parts of a prefix

-- the first of them in room that is empty
pub first-part : (room part text : List ℕ) (r : Bool) → room ≡ [] → part ≡ text → r ≡ nat_le (length room + length part) 64 → r ≡ nat_le (length text) 64
first-part room part text r none same is =
    let empty : length room ≡ 0 = ap length none in
    let long : length part ≡ length text = ap length same in
    let sum : length room + length part ≡ length text = omega (arith, empty, long) in
    is ∙ ap (λ n. nat_le n 64) sum

pub first-text : (room part text new : List ℕ) → room ≡ [] → part ≡ text → new ≡ room ++ part → new ≡ text
first-text room part text new none same put = put ∙ ap (λ l. l ++ part) none ∙ same

-- two
pub two-fit : (room next word part text : List ℕ) (r : Bool) → next ≡ room ++ word → part ≡ text → r ≡ nat_le (length next + length part) 64 → r ≡ nat_le (length room + length (word ++ text)) 64
two-fit room next word part text r put same is =
    let first : length next ≡ length room + length word = ap length put ∙ length-append room word in
    let both = length-append word text in
    let second : length part ≡ length text = ap length same in
    let sum : length next + length part ≡ length room + length (word ++ text) = omega (arith, first, both, second) in
    is ∙ ap (λ n. nat_le n 64) sum

pub two-text : (room next new word part text : List ℕ) → next ≡ room ++ word → part ≡ text → new ≡ next ++ part → new ≡ room ++ (word ++ text)
two-text room next new word part text put same more =
    more ∙ ap (λ l. l ++ part) put ∙ ap (λ l. (room ++ word) ++ l) same ∙ append_assoc room word text

-- the first one is too long
pub one-over : (room word text : List ℕ) (r : Bool) → r ≡ nat_le (length room + length word) 64 → r ≡ false → false ≡ nat_le (length room + length (word ++ text)) 64
one-over room word text r is over =
    let long : 64 < length room + length word = leb-false (length room + length word) 64 (sym is ∙ over) in
    let both = length-append word text in
    fits-is false (length room + length (word ++ text)) 64 ((λ e. absurd (cc)), (λ fits. absurd (omega (arith, long, both, fits))))

-- `default`, and another word
pub text-default : (version : IpVersion) (word : List ℕ) → bytes_eq word (codes "default") ≡ true → every_address version ≡ prefix_text version word
text-default version word same = ap (λ b. cond b (every_address version) (word ++ missing_length version word)) (sym same)

pub text-other : (version : IpVersion) (word : List ℕ) → bytes_eq word (codes "default") ≡ false → word ++ missing_length version word ≡ prefix_text version word
text-other version word other = ap (λ b. cond b (every_address version) (word ++ missing_length version word)) (sym other)

pub fits-default : (version : IpVersion) (word text : List ℕ) (r : Bool) → text ≡ prefix_text version word → r ≡ nat_le (length text) 64 → r ≡ nat_le (length (prefix_text version word)) 64
fits-default version word text r same is = is ∙ ap (λ t. nat_le (length t) 64) same

-- ---- the prefix

pub text-read : (version : IpVersion) (view seen : RouteReading) (held : List ℕ) (block : AddressBlock) → view ≡ seen → held ≡ view.text → Ok block ≡ (notation_for version).block held
    → Ok (record view { expects = expects.Attribute; block = block }) ≡ with_block seen seen.text ((notation_for version).block seen.text)
text-read version view seen held block view_is held_is read =
    ap (λ r. with_block view view.text r) (read ∙ ap (λ t. (notation_for version).block t) held_is)
    ∙ ap (λ (s : RouteReading). with_block s s.text ((notation_for version).block s.text)) view_is

pub text-bad : (version : IpVersion) (view seen : RouteReading) (held : List ℕ) (fault : WordFault) → view ≡ seen → held ≡ view.text → Err fault ≡ (notation_for version).block held
    → Err why.Prefix ≡ with_block seen seen.text ((notation_for version).block seen.text)
text-bad version view seen held fault view_is held_is read =
    ap (λ r. with_block view view.text r) (read ∙ ap (λ t. (notation_for version).block t) held_is)
    ∙ ap (λ (s : RouteReading). with_block s s.text ((notation_for version).block s.text)) view_is

with-text : (seen : RouteReading) (text : List ℕ) (r : Result AddressBlock WordFault) → with_block (record seen { text = text }) text r ≡ with_block seen text r
with-text seen text (Ok block) = refl
with-text seen text (Err fault) = refl

pub prefix-fits : (version : IpVersion) (view seen : RouteReading) (word text : List ℕ) (fits : Bool) (r : Result RouteReading Why) → view ≡ seen → fits ≡ nat_le (length (prefix_text version word)) 64 → fits ≡ true → text ≡ prefix_text version word
    → r ≡ with_block (record view { text = text }) text ((notation_for version).block text) → r ≡ read_prefix version seen word
prefix-fits version view seen word text fits r view_is fits_is holds text_is is =
    is ∙ with-text view text ((notation_for version).block text)
    ∙ ap (λ t. with_block view t ((notation_for version).block t)) text_is
    ∙ ap (λ b. cond b (with_block view (prefix_text version word) ((notation_for version).block (prefix_text version word))) (Err why.Prefix)) (sym holds ∙ fits_is)
    ∙ ap (λ s. read_prefix version s word) view_is

pub prefix-over : (version : IpVersion) (seen : RouteReading) (word : List ℕ) (fits : Bool) → fits ≡ nat_le (length (prefix_text version word)) 64 → fits ≡ false → Err why.Prefix ≡ read_prefix version seen word
prefix-over version seen word fits fits_is fails =
    ap (λ b. cond b (with_block seen (prefix_text version word) ((notation_for version).block (prefix_text version word))) (Err why.Prefix)) (sym fails ∙ fits_is)

-- ---- the first word

pub first-other : (version : IpVersion) (seen : RouteReading) (word : List ℕ) → is_another_kind word ≡ true → Err why.Kind ≡ read_first version seen word
first-other version seen word other = ap (λ b. cond b (Err why.Kind) (with_kind version seen word (kind_of word))) (sym other)

pub first-by : (version : IpVersion) (seen : RouteReading) (word : List ℕ) (found : Option RouteKind) (r : Result RouteReading Why) → is_another_kind word ≡ false → found ≡ kind_of word → r ≡ with_kind version seen word found → r ≡ read_first version seen word
first-by version seen word found r other found_is is =
    is ∙ ap (λ k. with_kind version seen word k) found_is ∙ ap (λ b. cond b (Err why.Kind) (with_kind version seen word (kind_of word))) (sym other)

-- ---- the next hop

pub bytes-fit : (view seen : RouteReading) (bytes items : List ℕ) → view ≡ seen → true ≡ nat_le (length view.hop + length bytes) 400 → items ≡ view.hop ++ bytes → Ok (record view { hop = items }) ≡ put_bytes seen bytes
bytes-fit view seen bytes items view_is fits put =
    ap (λ h. Ok (record view { hop = h })) put
    ∙ ap (λ b. cond b (Ok (record view { hop = view.hop ++ bytes })) (Err why.LongHop)) fits
    ∙ ap (λ s. put_bytes s bytes) view_is

pub bytes-over : (view seen : RouteReading) (bytes : List ℕ) → view ≡ seen → false ≡ nat_le (length view.hop + length bytes) 400 → Err why.LongHop ≡ put_bytes seen bytes
bytes-over view seen bytes view_is over =
    ap (λ b. cond b (Ok (record view { hop = view.hop ++ bytes })) (Err why.LongHop)) over ∙ ap (λ s. put_bytes s bytes) view_is

spaced-none : (hop : List ℕ) → (length hop == 0) ≡ true → hop ≡ spaced hop
spaced-none [] none = refl
spaced-none (byte ∷ bytes) none = let h : length (byte ∷ bytes) ≡ 0 = eqb-true (length (byte ∷ bytes)) 0 none in absurd (omega (arith, h))

spaced-some : (hop : List ℕ) → (length hop == 0) ≡ false → hop ++ 32 ∷ [] ≡ spaced hop
spaced-some [] some = absurd (cc)
spaced-some (byte ∷ bytes) some = refl

pub hop-first : (seen : RouteReading) (word : List ℕ) (r : Result RouteReading Why) → (length seen.hop == 0) ≡ true → r ≡ put_bytes seen word → r ≡ put_hop seen word
hop-first seen word r none is = is ∙ ap (λ h. put_bytes (record seen { hop = h }) word) (spaced-none seen.hop none)

pub hop-next : (view seen : RouteReading) (items word : List ℕ) (r : Result RouteReading Why) → view ≡ seen → (length seen.hop == 0) ≡ false → items ≡ view.hop ++ 32 ∷ [] → r ≡ put_bytes (record view { hop = items }) word → r ≡ put_hop seen word
hop-next view seen items word r view_is some put is =
    is ∙ ap (λ h. put_bytes (record view { hop = h }) word) put
    ∙ ap (λ (s : RouteReading). put_bytes (record s { hop = s.hop ++ 32 ∷ [] }) word) view_is
    ∙ ap (λ h. put_bytes (record seen { hop = h }) word) (spaced-some seen.hop some)

pub hop-full : (view seen : RouteReading) (word : List ℕ) → view ≡ seen → (length seen.hop == 0) ≡ false → length view.hop ≡ 400 → Err why.LongHop ≡ put_hop seen word
hop-full view seen word view_is some full =
    let full_seen : length seen.hop ≡ 400 = subst (λ (s : RouteReading). length s.hop ≡ 400) view_is full in
    let longer = length-append seen.hop (32 ∷ []) in
    let over : false ≡ nat_le (length (seen.hop ++ 32 ∷ []) + length word) 400
    = fits-is false (length (seen.hop ++ 32 ∷ []) + length word) 400 ((λ e. absurd (cc)), (λ fits. absurd (omega (arith, full_seen, longer, fits)))) in
    bytes-over (record seen { hop = seen.hop ++ 32 ∷ [] }) (record seen { hop = seen.hop ++ 32 ∷ [] }) word refl over
    ∙ ap (λ h. put_bytes (record seen { hop = h }) word) (spaced-some seen.hop some)

pub address-read : (seen held : RouteReading) (word : List ℕ) (next : Expects) (r : Result RouteReading Why) → next ≡ behind_via word → held ≡ expecting next seen → r ≡ put_hop held word → r ≡ read_address seen word
address-read seen held word next r next_is held_is is =
    is ∙ ap (λ h. put_hop h word) held_is ∙ ap (λ e. put_hop (expecting e seen) word) next_is

-- ---- a word by what it is

pub as-read : (version : IpVersion) (seen : RouteReading) (word : List ℕ) (gone : Bool) (asks : Attribute) (r : Result RouteReading Why) → gone ≡ seen.gone → asks ≡ attribute_in version gone word → r ≡ read_as seen word asks
    → r ≡ read_as seen word (attribute_in version seen.gone word)
as-read version seen word gone asks r gone_is asks_is is =
    is ∙ ap (λ a. read_as seen word a) (asks_is ∙ ap (λ g. attribute_in version g word) gone_is)

pub step-by : (version : IpVersion) (seen : RouteReading) (word : List ℕ) (asked : Expects) (r : Result RouteReading Why) → asked ≡ seen.expects → r ≡ step_as version seen word asked → r ≡ step version seen word
step-by version seen word asked r asked_is is = is ∙ ap (λ e. step_as version seen word e) asked_is

pub way-by : (seen : RouteReading) (named : RouteKind) (bytes : List ℕ) → named ≡ seen.kind → bytes ≡ way_by seen.hop named → bytes ≡ way_of seen
way-by seen named bytes named_is is = is ∙ ap (λ k. way_by seen.hop k) named_is

-- ---- the words of a line

pub read-end : (version : IpVersion) (seen : RouteReading) (last : List ℕ) (words : List (List ℕ)) (r : Result (Unit {0}) Why) → words ≡ [] → r ≡ end_as seen seen.expects
    → read_words version seen last words ≡ ended_by seen last r
read-end version seen last words r none is = ap (λ w. read_words version seen last w) none ∙ ap (λ e. ended_by seen last e) (sym is)

pub read-on : (version : IpVersion) (seen next : RouteReading) (last word : List ℕ) (words behind : List (List ℕ)) → words ≡ word ∷ behind → Ok next ≡ step version seen word
    → read_words version seen last words ≡ read_words version next word behind
read-on version seen next last word words behind more is =
    ap (λ w. read_words version seen last w) more ∙ ap (λ s. goes_on (λ n. read_words version n word behind) word s) (sym is)

pub read-stop : (version : IpVersion) (seen : RouteReading) (last word : List ℕ) (words behind : List (List ℕ)) (reason : Why) → words ≡ word ∷ behind → Err reason ≡ step version seen word
    → read_words version seen last words ≡ Err (record { why = reason; word = word })
read-stop version seen last word words behind reason more is =
    ap (λ w. read_words version seen last w) more ∙ ap (λ s. goes_on (λ n. read_words version n word behind) word s) (sym is)
