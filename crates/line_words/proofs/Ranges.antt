-- The two ports of a range, and the dash between them.
use Rattle.std.proofs.Common.{◌≡◌, ℕ, ◌<◌, ◌↔◌, inl, inr, true, false, nat_le, Result, Ok, Err, List, [], ◌∷◌, Option, Some, None, refl, sym, ◌∙◌, arith}
use Rattle.std.proofs.lemmas.Bool.{cases_Bool, false≢true}
use Rattle.std.proofs.lemmas.Grind.{common_steps}
use Rattle.std.specs.Option.{IsNone, IfSome}
use Rattle.std.specs.Prelude.{ok_or, if◌then◌else◌}
use Rattle.rule_model.specs.PortRange.{PortRange}
use Rattle.line_words.specs.declared.WordFault.{WordFault}
use Rattle.line_words.specs.declared.WordFault.TheVariants.{BadPorts}
use Rattle.line_words.specs.Kinds.{number_up_to, parts_at, port_of, port_parts}
use Rattle.line_words.specs.Words.{◌>>=◌}
use Rattle.line_words.proofs.Separators.{HasMoreParts, number-whole, whole-or-more}

-- the range of two ports
abbrev pub range_between : ℕ → ℕ → Result PortRange WordFault
range_between lo hi = if nat_le lo hi then Ok (record { lo = lo; hi = hi }) else Err BadPorts

-- the range of two ports that may be faulty
abbrev pub range_of : Result ℕ WordFault → Result ℕ WordFault → Result PortRange WordFault
range_of first last = do
  lo ← first
  hi ← last
  range_between lo hi

-- no range without a last port
no-last : (first : Option ℕ) → range_of (ok_or first BadPorts) (Err BadPorts) ≡ Err BadPorts
no-last None = refl
no-last (Some lo) = refl

-- a word of more parts is no port
no-port : (last : List ℕ) (found : Option ℕ) → found ≡ number_up_to 65535 last → HasMoreParts 45 last → ok_or found BadPorts ≡ Err BadPorts
no-port last None is more = refl
no-port last (Some hi) is more =
    let whole = number-whole 45 refl 65535 last hi (sym is) in
    let parts = sym whole ∙ more.parts in
    cc

-- What stands behind the first dash is the last port.
pub range-parts : (first last : List ℕ) → port_parts (first ∷ parts_at 45 last) ≡ range_of (port_of first) (port_of last)
range-parts first last =
    elim (whole-or-more 45 last) [
      | inl whole ↦ rw whole refl
      | inr more ↦ rw (more.parts, no-port last (number_up_to 65535 last) refl more, no-last (number_up_to 65535 first)) refl
    ]

-- Ports that are made where the first isn't above the last are the range.
pub range-made : (lo hi : ℕ) (made : Option PortRange) → (IsNone made ↔ (hi < lo))
    → IfSome made (λ ports. ports ≡ record { lo = lo; hi = hi }) → ok_or made BadPorts ≡ range_between lo hi
range-made lo hi None none range =
    let above : hi < lo = none.0 refl in
    let test : nat_le lo hi ≡ false = grind (arith, common_steps) in
    rw test refl
range-made lo hi (Some ports) none range =
    elim (cases_Bool (nat_le lo hi)) [
      | inl test ↦ rw (test, range) refl
      | inr test ↦
          let above : hi < lo = grind (arith, common_steps) in
          absurd (false≢true (sym (none.1 above)))
    ]

-- no port is above itself
itself : (port : Result ℕ WordFault) → range_of port port ≡ (port >>= λ only. Ok (record { lo = only; hi = only }))
itself (Err fault) = refl
itself (Ok port) =
    let test : nat_le port port ≡ true = grind (arith, common_steps) in
    rw test refl

-- A lone port is a range of one.
pub one-port : (word : List ℕ) → port_parts (word ∷ word ∷ []) ≡ port_parts (word ∷ [])
one-port word = itself (port_of word)
