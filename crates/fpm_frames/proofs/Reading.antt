-- What was read, by what the source gave.
use Rattle.std.proofs.Common.{suc, zero, cond, nat_le, ◌==◌, ◌≡◌, ◌≢◌, ◌≤◌, ◌<◌, ◌+◌, ◌*◌, ℕ, Bool, true, false, inl, inr, Option, Result, Ok, Err, List, [], ◌∷◌, ◌++◌, length, take, refl, sym, ap, ◌∙◌, subst, append-nil, append_assoc, length-append, arith}
use Rattle.std.specs.List.{concat}
use Rattle.std.specs.Io.KnownBytes.{Consumes, IsAtEnd}
use Rattle.std.proofs.lemmas.List.{length-take-le}
use Rattle.std.proofs.lemmas.Bool.{leb-true}
use Rattle.script_lines.specs.Given.{GivesPieces, HasEnd}
use Rattle.script_lines.proofs.Pieces.{concat-append, end-either, end-one, end-right}
use Rattle.script_lines.proofs.Turns.{gives-none, gives-trans}
use Rattle.fpm_frames.specs.declared.frames.Header.{Header}
use Rattle.fpm_frames.specs.declared.frames.Header.TheVariants as header
use Rattle.fpm_frames.specs.declared.frames.Came.{Came}
use Rattle.fpm_frames.specs.declared.frames.Came.TheVariants as came
use Rattle.fpm_frames.specs.declared.frames.Unread.{Unread}
use Rattle.fpm_frames.specs.declared.frames.Unread.TheVariants as unread
use Rattle.fpm_frames.specs.Frames.{IsPart, HasCome, frame_header, Gains, Fills, ReadsRest, Reads}

-- ---- one read

abbrev pub one : ℕ → List ℕ → List (List ℕ)
one n into = take n into ∷ []

-- the source gave these bytes
pub gives-one : (given0 given1 : List (List ℕ)) (a b : Option (List ℕ)) (into : List ℕ) (n : ℕ) → n ≤ length into → given1 ≡ given0 ++ one n into → Consumes a b (take n into) → (n ≡ 0 → IsAtEnd b)
    → GivesPieces given0 given1 a b (one n into)
gives-one given0 given1 a b into n count given taken end = record {
  given = given;
  taken = subst (λ bytes. Consumes a b bytes) (sym (append-nil (take n into))) taken;
  end = λ e. end (sym (length-take-le n into count) ∙ ap length (end-one (take n into) e));
}

-- and they are in room
pub gains-one : (old new into : List ℕ) (n wanted : ℕ) → n ≤ length into → length into ≤ wanted → new ≡ old ++ take n into → Gains old wanted (one n into) new (Ok n)
gains-one old new into zero wanted count short put = (put ∙ append-nil old, refl, inl refl)
gains-one old new into (suc n) wanted count short put =
    let size : length (take (suc n) into) ≡ suc n = length-take-le (suc n) into count in
    let whole : concat (one (suc n) into) ≡ take (suc n) into = append-nil (take (suc n) into) in
    let some : length (take (suc n) into) ≢ 0 = λ e. (let bad : suc n ≡ 0 = sym size ∙ e in absurd (cc)) in (
      put ∙ ap (λ l. old ++ l) (sym whole),
      ap length whole ∙ size,
      omega (arith, count, short),
      λ e. some (ap length (end-one (take (suc n) into) e)),
    )

-- ---- several reads

pub record HasRead (given_old given_new : List (List ℕ)) (left_old left_new : Option (List ℕ)) (old room : List ℕ) : Type 0 where
  pub pieces : List (List ℕ)
  pub gives : GivesPieces given_old given_new left_old left_new pieces
  pub grown : room ≡ old ++ concat pieces
  pub goes_on : HasEnd pieces → ⊥

pub read-none : (given : List (List ℕ)) (left : Option (List ℕ)) (old : List ℕ) → HasRead given given left left old old
read-none given left old = record { pieces = []; gives = gives-none given left; grown = sym (append-nil old); goes_on = λ e. e }

-- the source gave more
pub gives-more : (given0 given1 given2 : List (List ℕ)) (a b c : Option (List ℕ)) (p q : List (List ℕ)) → GivesPieces given0 given1 a b p → (HasEnd p → ⊥) → GivesPieces given1 given2 b c q → GivesPieces given0 given2 a c (p ++ q)
gives-more given0 given1 given2 a b c p q x on y = gives-trans given0 given1 given2 a b c p q x y (λ e. absurd (on e)) (λ e. absurd (on e))

pub grown-more : (old mid new : List ℕ) (p q : List (List ℕ)) → mid ≡ old ++ concat p → new ≡ mid ++ concat q → new ≡ old ++ concat (p ++ q)
grown-more old mid new p q first more = more ∙ ap (λ l. l ++ concat q) first ∙ append_assoc old (concat p) (concat q) ∙ ap (λ l. old ++ l) (sym (concat-append p q))

pub on-both : (p q : List (List ℕ)) → (HasEnd p → ⊥) → (HasEnd q → ⊥) → HasEnd (p ++ q) → ⊥
on-both p q first more e = elim (end-either p q e) [ inl l ↦ first l | inr r ↦ more r ]

module _ (given0 given1 given2 : List (List ℕ)) (a b c : Option (List ℕ)) (old mid new : List ℕ) (wanted : ℕ) (was : HasRead given0 given1 a b old mid) (q : List (List ℕ)) (gives : GivesPieces given1 given2 b c q) where
  -- some bytes came
  pub read-more : (n : ℕ) → n ≢ 0 → Gains mid wanted q new (Ok n) → HasRead given0 given2 a c old new
  read-more zero some gains = absurd (some refl)
  read-more (suc n) some gains = record {
    pieces = was.pieces ++ q;
    gives = gives-more given0 given1 given2 a b c was.pieces q was.gives was.goes_on gives;
    grown = grown-more old mid new was.pieces q was.grown gains.0;
    goes_on = on-both was.pieces q was.goes_on gains.3;
  }

  -- none did
  pub fills-end : (goal n : ℕ) → n ≡ 0 → Gains mid wanted q new (Ok n) → length mid ≤ goal → length mid ≢ goal
      → GivesPieces given0 given2 a c (was.pieces ++ q) × Fills old goal (was.pieces ++ q) new (Ok false)
  fills-end goal zero none gains within other =
      let long : length new ≡ length mid = ap length gains.0 in
      let less : length new < goal = omega (arith, long, within, other) in (
        gives-more given0 given1 given2 a b c was.pieces q was.gives was.goes_on gives,
        (grown-more old mid new was.pieces q was.grown (gains.0 ∙ sym (append-nil mid) ∙ ap (λ l. mid ++ l) (sym gains.1)), less, end-right was.pieces q gains.2),
      )
  fills-end goal (suc n) none gains within other = let bad : suc n ≡ 0 = none in absurd (cc)

  -- the source failed, or memory was wanting
  pub fills-failed : (goal : ℕ) (why : Unread) → Gains mid wanted q new (Err why) → length mid ≤ goal → length mid ≢ goal
      → GivesPieces given0 given2 a c (was.pieces ++ q) × Fills old goal (was.pieces ++ q) new (Err why)
  fills-failed goal unread.Fault gains within other =
      let same : mid ≡ old ++ concat (was.pieces ++ q) = grown-more old mid mid was.pieces q was.grown (sym (append-nil mid) ∙ ap (λ l. mid ++ concat l) (sym gains)) in
      let less : length mid < goal = omega (arith, within, other) in
      (gives-more given0 given1 given2 a b c was.pieces q was.gives was.goes_on gives, subst (λ l. length l < goal) same less)
  fills-failed goal unread.Memory gains within other =
      (gives-more given0 given1 given2 a b c was.pieces q was.gives was.goes_on gives, tt)

-- how many bytes there are behind a read
pub grown-by : (mid new : List ℕ) (wanted n : ℕ) (q : List (List ℕ)) → n ≢ 0 → Gains mid wanted q new (Ok n) → length new ≡ length mid + n
grown-by mid new wanted zero q some gains = absurd (some refl)
grown-by mid new wanted (suc n) q some gains = ap length gains.0 ∙ length-append mid (concat q) ∙ ap (λ k. length mid + k) gains.1

pub wanted-by : (mid new : List ℕ) (wanted n : ℕ) (q : List (List ℕ)) → n ≢ 0 → Gains mid wanted q new (Ok n) → n ≤ wanted
wanted-by mid new wanted zero q some gains = absurd (some refl)
wanted-by mid new wanted (suc n) q some gains = gains.2

-- ---- a frame

-- what its first four bytes say stays where more come
pub header-same : (four more : List ℕ) → length four ≡ 4 → frame_header (four ++ more) ≡ frame_header four
header-same [] more size = absurd (cc)
header-same (a ∷ []) more size = absurd (cc)
header-same (a ∷ b ∷ []) more size = absurd (cc)
header-same (a ∷ b ∷ c ∷ []) more size = absurd (cc)
header-same (a ∷ b ∷ c ∷ d ∷ rest) more size = refl

module _ (four new : List ℕ) (goal : ℕ) (q : List (List ℕ)) (size : length four ≡ 4) (says : frame_header four ≡ header.Size goal) where
  pub rest-whole : Fills four goal q new (Ok true) → ReadsRest four q new (Ok came.Frame)
  rest-whole fills =
      let says_new : frame_header new ≡ header.Size goal = ap frame_header fills.0 ∙ header-same four (concat q) size ∙ says in
      (fills.0, (says_new ∙ ap header.Size (sym fills.1), fills.2))

  pub rest-cut : Fills four goal q new (Ok false) → ReadsRest four q new (Ok came.Cut)
  rest-cut fills =
      let says_new : frame_header new ≡ header.Size goal = ap frame_header fills.0 ∙ header-same four (concat q) size ∙ says in
      let long : length new ≡ 4 + length (concat q) = ap length fills.0 ∙ length-append four (concat q) ∙ ap (λ k. k + length (concat q)) size in
      (fills.0, (inr (goal, says_new, fills.1), (λ e. (let none : length new ≡ 0 = ap length e in omega (arith, long, none))), fills.2))

  pub rest-failed : (why : Unread) → Fills four goal q new (Err why) → ReadsRest four q new (Err why)
  rest-failed unread.Fault less = inr (goal, header-same four (concat q) size ∙ says, less)
  rest-failed unread.Memory less = tt

pub rest-unknown : (four : List ℕ) (why : Header) → length four ≡ 4 → frame_header four ≡ why → ((size : ℕ) → why ≢ header.Size size) → ReadsRest four [] four (Ok (came.Unknown why))
rest-unknown four why size says other = (sym (append-nil four), (size, says, other))

-- ---- from the first byte on

pub four-first : (four : List ℕ) (p : List (List ℕ)) → Fills [] 4 p four (Ok true) → length four ≡ 4
four-first four p fills = fills.1

pub reads-end : (part : List ℕ) (p : List (List ℕ)) → Fills [] 4 p part (Ok false) → part ≡ [] → Reads p part (Ok came.End)
reads-end part p fills none = (fills.0, (none, fills.2))

pub reads-cut : (part : List ℕ) (p : List (List ℕ)) → Fills [] 4 p part (Ok false) → part ≢ [] → Reads p part (Ok came.Cut)
reads-cut part p fills some = (fills.0, (inl fills.1, some, fills.2))

pub reads-failed : (part old : List ℕ) (p : List (List ℕ)) (why : Unread) → old ≡ [] → Fills old 4 p part (Err why) → Reads p part (Err why)
reads-failed part old p unread.Fault none less = inl (subst (λ o. length (o ++ concat p) < 4) none less)
reads-failed part old p unread.Memory none less = tt

-- what came behind them, by all pieces
come-all : (what : Came) (p q : List (List ℕ)) (part : List ℕ) → (HasEnd p → ⊥) → HasCome what q part → HasCome what (p ++ q) part
come-all came.Frame p q part on has = (has.0, on-both p q on has.1)
come-all came.End p q part on has = (has.0, end-right p q has.1)
come-all came.Cut p q part on has = (has.0, has.1, end-right p q has.2)
come-all (came.Unknown why) p q part on has = has

pub reads-all : (four new : List ℕ) (p q : List (List ℕ)) (result : Result Came Unread) → Fills [] 4 p four (Ok true) → ReadsRest four q new result → Reads (p ++ q) new result
reads-all four new p q (Ok what) fills rest = (grown-more [] four new p q fills.0 rest.0, come-all what p q new fills.2 rest.1)
reads-all four new p q (Err unread.Fault) fills part = subst IsPart (grown-more [] four (four ++ concat q) p q fills.0 refl) part
reads-all four new p q (Err unread.Memory) fills part = tt

-- ---- how many bytes a frame has at least

of-least : (p q r : Bool) (n size : ℕ) → cond p (cond q (cond r (header.Size n) header.Short) header.Kind) header.Version ≡ header.Size size → (r ≡ true) × (n ≡ size)
of-least true true true n size is = (refl, cc)
of-least true true false n size is = absurd (cc)
of-least true false r n size is = absurd (cc)
of-least false q r n size is = absurd (cc)

pub header-least : (bytes : List ℕ) (size : ℕ) → frame_header bytes ≡ header.Size size → 4 ≤ size
header-least [] size is = absurd (cc)
header-least (a ∷ []) size is = absurd (cc)
header-least (a ∷ b ∷ []) size is = absurd (cc)
header-least (a ∷ b ∷ c ∷ []) size is = absurd (cc)
header-least (a ∷ b ∷ c ∷ d ∷ rest) size is =
    let both = of-least (a == 1) (b == 1) (nat_le 4 (c * 256 + d)) (c * 256 + d) size is in
    subst (λ n. 4 ≤ n) both.1 (leb-true 4 (c * 256 + d) both.0)

-- and of a whole one
pub frame-least : (bytes : List ℕ) → frame_header bytes ≡ header.Size (length bytes) → 4 ≤ length bytes
frame-least bytes is = header-least bytes (length bytes) is

pub room-least : (room four : List ℕ) (size : ℕ) → room ≡ four → length four ≡ 4 → frame_header room ≡ header.Size size → length four ≤ size
room-least room four size same long says = let least = header-least room size says in omega (arith, least, long)
