use Rattle.std.proofs.Common.{◌≡◌, suc, ◌+◌, ◌-◌, ◌/◌, ◌%◌, ◌<◌, arith, inl, inr, ap}
use Rattle.std.proofs.lemmas.Bool.{cases_eq}
use Rattle.word_tree.specs.Tree.{bit_of, ancestor}
use Rattle.word_tree.proofs.Levels.{is_upper, in_level, in_root, same_word, set_ancestor, ancestor_suc, ancestor_zero}
use Rattle.word_tree.proofs.Steps.{placed, zero_bit, up_later, before, none_under, found_last, found_one_under}
use Rattle.word_tree.proofs.tree.last_leaf.Goals as goal

pub returns-in-Some : goal.returns-in-Some
returns-in-Some c =
    let words = c.args.words.now in
    let is = c.in-Some.ensures in
    let small : c.in-Some.bit < 64 = let b = is.0 in omega arith in (
      same_word c.args.depth c.args.last c.in-Some.bit c.requires.leaf small,
      let b = is.0 in omega arith,
      found_one_under words (c.args.last / 64) (c.args.last % 64 + 1) c.in-Some.bit (omega arith) is,
      λ p leaf low below. zero_bit words p (λ one. let r = found_last words (c.args.last / 64) (c.args.last % 64 + 1) c.in-Some.bit p (omega arith) is.2 (omega arith) one in omega arith),
    )

pub loop-level-init : goal.loop-level-init
loop-level-init c =
    let a = ancestor_suc 0 c.args.last in
    let b = ancestor_zero c.args.last in
    record {
      at = λ h e. let one : h ≡ 1 = omega arith in let s = ap (λ z. ancestor z c.args.last) one in omega arith;
      none = λ h p e leaf one later.
          let first : h ≡ 1 = omega arith in
          let s = ap (λ z. ancestor z p) first in
          let d = ancestor_suc 0 p in
          let f = ancestor_zero p in
          let r = up_later c.args.depth p c.args.last leaf c.requires.leaf later in omega arith;
    }

pub bounds-words-at : goal.bounds-words-at
bounds-words-at c =
    let is = placed c.args.depth c.loop-level.level c.loop-level.at c.args.last c.loop-level-test.true c.loop-level.auto.level c.requires.leaf c.loop-level.invariant.at in
    let high = is_upper (c.loop-level.level - 1) c.args.depth c.loop-level.at (let few = c.loop-level.auto.level in let t = c.loop-level-test.true in omega arith) is in
    let low = c.requires.leaf.low in
    let room = c.requires.room in omega arith

pub last_under-requires-clause-place : goal.last_under-requires-clause-place
last_under-requires-clause-place c =
    same_word (c.loop-level.level - 1) c.loop-level.at c.in-Some-highest.bit
    (placed c.args.depth c.loop-level.level c.loop-level.at c.args.last c.loop-level-test.true c.loop-level.auto.level c.requires.leaf c.loop-level.invariant.at)
    (let b = c.in-Some-highest.ensures.0 in omega arith)

pub last_under-requires-clause-one : goal.last_under-requires-clause-one
last_under-requires-clause-one c = found_one_under c.args.words.now (c.loop-level.at / 64) (c.loop-level.at % 64) c.in-Some-highest.bit (omega arith) c.in-Some-highest.ensures

pub returns-in-Some-highest : goal.returns-in-Some-highest
returns-in-Some-highest c =
    let words = c.args.words.now in
    let u = c.last_under.ensures in
    let i = c.loop-level.invariant in
    let at = c.loop-level.at in
    let few = c.loop-level.auto.level in
    let some = c.loop-level-test.true in
    let is = c.in-Some-highest.ensures in
    let g = suc c.args.depth - c.loop-level.level in
    let e : c.loop-level.level - 1 + g ≡ c.args.depth = omega arith in
    let f : c.loop-level.level + g ≡ suc c.args.depth = omega arith in
    let from = i.at g f in
    let side = is.0 in
    let mine = u.high g c.args.last e (omega arith) in (
      u.leaf,
      omega arith,
      u.one,
      λ p leaf low before. zero_bit words p (λ one. elim (cases_eq (p / 64) (c.args.last / 64)) [
        | inl same ↦ let z : bit_of words p ≡ 0 = none_under words (c.args.last / 64) (c.args.last % 64 + 1) p c.in_default.ensures same (omega arith) in omega arith
        | inr far ↦
            let past = i.none g p f leaf one (omega arith) in
            let set = set_ancestor words c.args.depth g (c.loop-level.level - 1) p e c.requires.tree leaf one in
            let found = found_last words (at / 64) (at % 64) c.in-Some-highest.bit (ancestor g p) (omega arith) is.2 (omega arith) set in
            let r = u.greatest g p e leaf one found in omega arith
      ]),
    )

pub loop-level-preserved : goal.loop-level-preserved
loop-level-preserved c =
    let words = c.args.words.now in
    let i = c.loop-level.invariant in
    let at = c.loop-level.at in
    let few = c.loop-level.auto.level in
    let some = c.loop-level-test.true in
    let next = c.saturating_sub-at-in-loop-level.ensures in
    let is = placed c.args.depth c.loop-level.level at c.args.last some few c.requires.leaf i.at in
    record {
      at = λ h e.
          let g : h ≡ suc (h - 1) = omega arith in
          let s = ap (λ z. ancestor z c.args.last) g in
          let was = i.at (h - 1) (omega arith) in
          let up = ancestor_suc (h - 1) c.args.last in
          omega arith;
      none = λ h p e leaf one later.
          let g : h ≡ suc (h - 1) = omega arith in
          let s = ap (λ z. ancestor z p) g in
          let was = i.none (h - 1) p (omega arith) leaf one later in
          let up = ancestor_suc (h - 1) p in
          let inside = in_level c.args.depth (h - 1) (c.loop-level.level - 1) p (omega arith) leaf in
          let set = set_ancestor words c.args.depth (h - 1) (c.loop-level.level - 1) p (omega arith) c.requires.tree leaf one in
          let r = before words (c.loop-level.level - 1) at (ancestor (h - 1) p) is inside was set c.in_default-highest.ensures in
          omega arith;
    }

pub returns : goal.returns
returns c =
    let words = c.args.words.now in
    let i = c.loop-level.invariant in
    let root : c.loop-level.level ≡ 0 = omega arith in
    λ p leaf low. zero_bit words p (λ one. elim (cases_eq (p / 64) (c.args.last / 64)) [
      | inl same ↦ let z : bit_of words p ≡ 0 = none_under words (c.args.last / 64) (c.args.last % 64 + 1) p c.in_default.ensures same (omega arith) in omega arith
      | inr far ↦
          let past = i.none (suc c.args.depth) p (omega arith) leaf one (omega arith) in
          let up = ancestor_suc c.args.depth c.args.last in
          let mine = i.at (suc c.args.depth) (omega arith) in
          let small = in_root (ancestor c.args.depth c.args.last) (in_level c.args.depth c.args.depth 0 c.args.last (omega arith) c.requires.leaf) in
          omega arith
    ])
