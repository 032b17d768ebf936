-- Lines that loops pass, and numbers that they put, one after the other.
use Rattle.std.proofs.Common.{◌≡◌, ◌<◌, ◌≤◌, ◌+◌, ◌-◌, ◌*◌, ◌/◌, ℕ, zero, suc, Bool, true, false, cond, IfSome, subst, Option, Some, None, List, [], ◌∷◌, ◌++◌, length, drop, get_or, refl, sym, ap, ◌∙◌, arith, append-nil, append_assoc}
use Rattle.std.specs.Str.{bytes_eq}
use Rattle.std.proofs.lemmas.Bool.{le-leb, lt-leb}
use Rattle.std.proofs.lemmas.List.{at_drop_more, at_drop_all, drop_more}
use Rattle.std.proofs.lemmas.Nat.{mul-le}
use Rattle.kept_numbers.proofs.Rising.{part-below}
use Rattle.kept_numbers.specs.declared.words.OlderLine.{OlderLine}
use Rattle.kept_numbers.specs.Kept.{begins, behind_first, is_gone, kept, mark_of, rest_of, standing, stays}
use Rattle.kept_numbers.specs.declared.numbering.Waiting.{Waiting}
use Rattle.kept_numbers.specs.Numbered.{numbered, put_before, spread, spread_before, tens, went}

-- ---- what is passed

none-left : (n : ℕ) → [] ≡ drop {A = List ℕ} n []
none-left zero = refl
none-left (suc n) = refl

behind-drop : (lines : List (List ℕ)) (place : ℕ) → behind_first (drop place lines) ≡ drop (place + 1) lines
behind-drop [] zero = refl
behind-drop [] (suc place) = none-left (suc place + 1)
behind-drop (line ∷ lines) zero = refl
behind-drop (line ∷ lines) (suc place) = behind-drop lines place ∙ ap (λ n. drop n (line ∷ lines)) (one-more place)
  where
    one-more : (n : ℕ) → suc (n + 1) ≡ suc n + 1
    one-more n = omega arith

pub gone-here : (words : List ℕ) (behind : List OlderLine) (line : List ℕ) (lines : List (List ℕ)) (place : ℕ) (first unused : OlderLine) → place < length behind → first ≡ get_or behind place unused
    → is_gone words (drop place behind) line (drop place lines)
    ≡ cond (begins (drop place lines) words) false (cond (bytes_eq first.words line) true (is_gone words (drop (place + 1) behind) line (drop (place + 1) lines)))
gone-here words behind line lines place first unused below is =
    at_drop_more (λ l. is_gone words l line (drop place lines)) behind place unused below
    ∙ ap (λ (f : OlderLine). cond (begins (drop place lines) words) false (cond (bytes_eq f.words line) true (is_gone words (drop (place + 1) behind) line (behind_first (drop place lines))))) (sym is)
    ∙ ap (λ l. cond (begins (drop place lines) words) false (cond (bytes_eq first.words line) true (is_gone words (drop (place + 1) behind) line l))) (behind-drop lines place)

-- what a list has where it has nothing
abbrev pub no_line : OlderLine
no_line = record { number = 0; words = [] }

-- the older line comes next in the new list
pub gone-begun : (words : List ℕ) (behind : List OlderLine) (line : List ℕ) (lines : List (List ℕ)) (place : ℕ) → place < length behind → begins (drop place lines) words ≡ true
    → is_gone words (drop place behind) line (drop place lines) ≡ false
gone-begun words behind line lines place below begun =
    gone-here words behind line lines place (get_or behind place no_line) no_line below refl
    ∙ ap (λ b. cond b false (cond (bytes_eq (get_or behind place no_line).words line) true (is_gone words (drop (place + 1) behind) line (drop (place + 1) lines)))) begun

-- the new one comes next in the older list
pub gone-same : (words : List ℕ) (behind : List OlderLine) (line : List ℕ) (lines : List (List ℕ)) (place : ℕ) (first : OlderLine) → place < length behind → first ≡ get_or behind place first
    → begins (drop place lines) words ≡ false → bytes_eq first.words line ≡ true → is_gone words (drop place behind) line (drop place lines) ≡ true
gone-same words behind line lines place first below is other same =
    gone-here words behind line lines place first first below is
    ∙ ap (λ b. cond b false (cond (bytes_eq first.words line) true (is_gone words (drop (place + 1) behind) line (drop (place + 1) lines)))) other
    ∙ ap (λ b. cond b true (is_gone words (drop (place + 1) behind) line (drop (place + 1) lines))) same

pub gone-on : (words : List ℕ) (behind : List OlderLine) (line : List ℕ) (lines : List (List ℕ)) (place : ℕ) (first : OlderLine) → place < length behind → first ≡ get_or behind place first
    → begins (drop place lines) words ≡ false → bytes_eq first.words line ≡ false
    → is_gone words (drop (place + 1) behind) line (drop (place + 1) lines) ≡ is_gone words (drop place behind) line (drop place lines)
gone-on words behind line lines place first below is other different =
    sym (gone-here words behind line lines place first first below is
    ∙ ap (λ b. cond b false (cond (bytes_eq first.words line) true (is_gone words (drop (place + 1) behind) line (drop (place + 1) lines)))) other
    ∙ ap (λ b. cond b true (is_gone words (drop (place + 1) behind) line (drop (place + 1) lines))) different)

pub gone-end : (words : List ℕ) (behind : List OlderLine) (line : List ℕ) (lines : List (List ℕ)) (place : ℕ) → length behind ≤ place → is_gone words (drop place behind) line (drop place lines) ≡ false
gone-end words behind line lines place all = at_drop_all (λ l. is_gone words l line (drop place lines)) behind place all

pub begins-at : (lines : List (List ℕ)) (place : ℕ) (line unused words : List ℕ) → place < length lines → line ≡ get_or lines place unused → begins (drop place lines) words ≡ bytes_eq line words
begins-at lines place line unused words below is =
    at_drop_more (λ l. begins l words) lines place unused below ∙ ap (λ l. bytes_eq l words) (sym is)

pub begins-not : (lines : List (List ℕ)) (place : ℕ) (words : List ℕ) → length lines ≤ place → begins (drop place lines) words ≡ false
begins-not lines place words all = at_drop_all (λ l. begins l words) lines place all

-- the older line at a place stays, or those behind it are looked at
pub stands-here : (older : List OlderLine) (line : List ℕ) (lines : List (List ℕ)) (place : ℕ) (first unused : OlderLine) → place < length older → first ≡ get_or older place unused
    → standing (drop place older) line lines ≡ cond (stays first (drop (place + 1) older) line lines) (drop place older) (standing (drop (place + 1) older) line lines)
stands-here older line lines place first unused below is =
    at_drop_more (λ l. standing l line lines) older place unused below
    ∙ ap (λ (f : OlderLine). cond (stays f (drop (place + 1) older) line lines) (f ∷ drop (place + 1) older) (standing (drop (place + 1) older) line lines)) (sym is)
    ∙ ap (λ l. cond (stays first (drop (place + 1) older) line lines) l (standing (drop (place + 1) older) line lines))
    (ap (λ (f : OlderLine). f ∷ drop (place + 1) older) is ∙ sym (drop_more older place unused below))

-- where what stands behind it is given
pub stands-at : (older behind : List OlderLine) (line : List ℕ) (lines : List (List ℕ)) (place : ℕ) (first : OlderLine) (held : Bool) → place < length older → first ≡ get_or older place first
    → behind ≡ drop (place + 1) older → held ≡ stays first behind line lines → standing (drop place older) line lines ≡ cond held (drop place older) (standing (drop (place + 1) older) line lines)
stands-at older behind line lines place first held below is behind_is told =
    stands-here older line lines place first first below is
    ∙ ap (λ b. cond b (drop place older) (standing (drop (place + 1) older) line lines)) (ap (λ l. stays first l line lines) (sym behind_is) ∙ sym told)

pub stands-end : (older : List OlderLine) (line : List ℕ) (lines : List (List ℕ)) (place : ℕ) → length older ≤ place → standing (drop place older) line lines ≡ []
stands-end older line lines place all = at_drop_all (λ l. standing l line lines) older place all

-- ---- marks

pub mark-next : (rest at behind : List OlderLine) (lines : List (List ℕ)) (marks new : List (Option ℕ)) (place : ℕ) (line unused : List ℕ) (mark : Option ℕ) → place < length lines → line ≡ get_or lines place unused
    → at ≡ standing rest line (drop (place + 1) lines) → mark ≡ mark_of at line → behind ≡ rest_of at line → new ≡ marks ++ mark ∷ []
    → new ++ kept behind (drop (place + 1) lines) ≡ marks ++ kept rest (drop place lines)
mark-next rest at behind lines marks new place line unused mark below is at_is mark_is behind_is put =
    ap (λ l. l ++ kept behind (drop (place + 1) lines)) put ∙ append_assoc marks (mark ∷ []) (kept behind (drop (place + 1) lines))
    ∙ ap (λ m. marks ++ m ∷ kept behind (drop (place + 1) lines)) mark_is
    ∙ ap (λ b. marks ++ mark_of at line ∷ kept b (drop (place + 1) lines)) behind_is
    ∙ ap (λ a. marks ++ mark_of a line ∷ kept (rest_of a line) (drop (place + 1) lines)) at_is
    ∙ ap (λ l. marks ++ kept rest (l ∷ drop (place + 1) lines)) is
    ∙ sym (ap (λ l. marks ++ l) (at_drop_more (λ l. kept rest l) lines place unused below))

pub mark-end : (rest : List OlderLine) (lines : List (List ℕ)) (marks : List (Option ℕ)) (place : ℕ) → length lines ≤ place → marks ++ kept rest (drop place lines) ≡ marks
mark-end rest lines marks place all = ap (λ l. marks ++ l) (at_drop_all (λ l. kept rest l) lines place all) ∙ append-nil marks

-- ---- numbers

pub tens-next : (first count place : ℕ) (into new : List ℕ) → place < count → new ≡ into ++ (first + 10 * place) ∷ []
    → new ++ tens (first + 10 * (place + 1)) (count - (place + 1)) ≡ into ++ tens (first + 10 * place) (count - place)
tens-next first count place into new below put =
    ap (λ l. l ++ tens (first + 10 * (place + 1)) (count - (place + 1))) put ∙ append_assoc into ((first + 10 * place) ∷ []) (tens (first + 10 * (place + 1)) (count - (place + 1)))
    ∙ ap (λ n. into ++ (first + 10 * place) ∷ tens n (count - (place + 1))) (further first place)
    ∙ ap (λ n. into ++ tens (first + 10 * place) n) (sym (one-less count place below))
  where
    further : (f p : ℕ) → f + 10 * (p + 1) ≡ f + 10 * p + 10
    further f p = omega arith

    one-less : (c p : ℕ) → p < c → c - p ≡ suc (c - (p + 1))
    one-less c p lt = omega arith

pub tens-end : (first count place : ℕ) (into : List ℕ) → count ≤ place → into ++ tens first (count - place) ≡ into
tens-end first count place into all = ap (λ n. into ++ tens first n) (none-left count place all) ∙ append-nil into
  where
    none-left : (c p : ℕ) → c ≤ p → c - p ≡ 0
    none-left c p le = omega arith

pub spread-next : (low gap parts place : ℕ) (into new : List ℕ) → place < parts → new ≡ into ++ (low + gap * place / parts) ∷ []
    → new ++ spread low gap parts (place + 1) (parts - (place + 1)) ≡ into ++ spread low gap parts place (parts - place)
spread-next low gap parts place into new below put =
    ap (λ l. l ++ spread low gap parts (place + 1) (parts - (place + 1))) put
    ∙ append_assoc into ((low + gap * place / parts) ∷ []) (spread low gap parts (place + 1) (parts - (place + 1)))
    ∙ ap (λ n. into ++ spread low gap parts place n) (sym (one-less parts place below))
  where
    one-less : (c p : ℕ) → p < c → c - p ≡ suc (c - (p + 1))
    one-less c p lt = omega arith

pub spread-end : (low gap parts place : ℕ) (into : List ℕ) → parts ≤ place → into ++ spread low gap parts place (parts - place) ≡ into
spread-end low gap parts place into all = ap (λ n. into ++ spread low gap parts place n) (none-left parts place all) ∙ append-nil into
  where
    none-left : (c p : ℕ) → c ≤ p → c - p ≡ 0
    none-left c p le = omega arith

-- a line is told
pub mark-told : (place : ℕ) (marks : List (Option ℕ)) (mark unused : Option ℕ) (at : Waiting) (numbers : List ℕ) (found : Option Waiting) (new : List ℕ) → place < length marks → mark ≡ get_or marks place unused
    → put_before numbers (numbered at.low at.wait (mark ∷ drop (place + 1) marks)) ≡ went found new (drop (place + 1) marks)
    → put_before numbers (numbered at.low at.wait (drop place marks)) ≡ went found new (drop (place + 1) marks)
mark-told place marks mark unused at numbers found new below is goes =
    at_drop_more (λ l. put_before numbers (numbered at.low at.wait l)) marks place unused below
    ∙ ap (λ m. put_before numbers (numbered at.low at.wait (m ∷ drop (place + 1) marks))) (sym is) ∙ goes

-- one that has a number, where there is no room before it, and where there is
pub given-full : (into new : List ℕ) (low wait number : ℕ) (marks : List (Option ℕ)) → number ≤ low + wait → put_before into (numbered low wait (Some number ∷ marks)) ≡ went None new marks
given-full into new low wait number marks full =
    ap (λ b. put_before into (cond b None (spread_before low number wait (numbered number 0 marks)))) (le-leb number (low + wait) full)

spread-put : (front mid new : List ℕ) (low number wait : ℕ) (found : Option (List ℕ)) → mid ≡ front ++ spread low (number - low) (wait + 1) 1 wait → new ≡ mid ++ number ∷ []
    → put_before front (spread_before low number wait found) ≡ put_before new found
spread-put front mid new low number wait None put given = refl
spread-put front mid new low number wait (Some rest) put given =
    ap Some
    (sym (append_assoc front (spread low (number - low) (wait + 1) 1 wait) (number ∷ rest))
    ∙ ap (λ l. l ++ (number ∷ rest)) (sym put) ∙ sym (append_assoc mid (number ∷ []) rest) ∙ ap (λ l. l ++ rest) (sym given))

pub given-put : (into mid new : List ℕ) (low wait number : ℕ) (marks : List (Option ℕ)) → low + wait < number → mid ≡ into ++ spread low (number - low) (wait + 1) 1 wait → new ≡ mid ++ number ∷ []
    → put_before into (numbered low wait (Some number ∷ marks)) ≡ went (Some (record { low = number; wait = 0 })) new marks
given-put into mid new low wait number marks room put given =
    ap (λ b. put_before into (cond b None (spread_before low number wait (numbered number 0 marks)))) (lt-leb number (low + wait) room)
    ∙ spread-put into mid new low number wait (numbered number 0 marks) put given

-- behind all lines
pub last-full : (place : ℕ) (marks : List (Option ℕ)) (low wait : ℕ) (numbers : List ℕ) → length marks ≤ place → 4294967295 < low + 10 * wait → put_before numbers (numbered low wait (drop place marks)) ≡ None
last-full place marks low wait numbers all full =
    at_drop_all (λ l. put_before numbers (numbered low wait l)) marks place all
    ∙ ap (λ b. put_before numbers (cond b (Some (tens (low + 10) wait)) None)) (lt-leb (low + 10 * wait) 4294967295 full)

pub last-put : (place : ℕ) (marks : List (Option ℕ)) (low wait : ℕ) (numbers new : List ℕ) → length marks ≤ place → low + 10 * wait ≤ 4294967295 → new ≡ numbers ++ tens (low + 10) wait
    → put_before numbers (numbered low wait (drop place marks)) ≡ Some new
last-put place marks low wait numbers new all room put =
    at_drop_all (λ l. put_before numbers (numbered low wait l)) marks place all
    ∙ ap (λ b. put_before numbers (cond b (Some (tens (low + 10) wait)) None)) (le-leb (low + 10 * wait) 4294967295 room)
    ∙ ap Some (sym put)

-- ---- all of them

pub tens-start : (first count : ℕ) (into : List ℕ) → into ++ tens (first + 10 * 0) (count - 0) ≡ into ++ tens first count
tens-start first count into = ap (λ n. into ++ tens n (count - 0)) (none-more first) ∙ ap (λ n. into ++ tens first n) (none-less count)
  where
    none-more : (f : ℕ) → f + 10 * 0 ≡ f
    none-more f = omega arith

    none-less : (c : ℕ) → c - 0 ≡ c
    none-less c = omega arith

pub spread-start : (low gap count : ℕ) (into : List ℕ) → into ++ spread low gap (count + 1) 1 (count + 1 - 1) ≡ into ++ spread low gap (count + 1) 1 count
spread-start low gap count into = ap (λ n. into ++ spread low gap (count + 1) 1 n) (one-less count)
  where
    one-less : (c : ℕ) → c + 1 - 1 ≡ c
    one-less c = omega arith

-- a part lies between
pub part-fits : (gap place parts : ℕ) → 0 < parts → 0 < gap → place < parts → gap * place / parts < gap
part-fits gap place parts some there below = part-below gap parts place there below

-- and what is parted fits
pub gap-fits : (gap place : ℕ) → gap ≤ 4294967295 → place ≤ 4097 → gap * place ≤ 4294967295 * 4097
gap-fits gap place few less = mul-le gap place 4294967295 4097 few less

-- what is so of what was found, where it is this
pub some-is : (P : Waiting → Type 0) (found : Option Waiting) (next : Waiting) → found ≡ Some next → IfSome found P → P next
some-is P found next is holds = subst (λ (o : Option Waiting). IfSome o P) is holds
