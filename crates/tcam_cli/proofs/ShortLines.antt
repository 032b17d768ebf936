-- A line that is an act has two bytes at least.
use Rattle.std.proofs.Common.{◌≡◌, ℕ, ◌≤◌, ◌&&◌, ◌==◌, Bool, true, false, Option, Some, None, Result, Ok, Err, List, [], ◌∷◌, filter, length, take, cond, refl, sym, subst, arith, if◌then◌else◌}
use Rattle.std.specs.Prelude.{codes, nat_eq}
use Rattle.std.specs.Str.{bytes_eq}
use Rattle.std.proofs.Math.Nat.{min-le_left}
use Rattle.std.proofs.lemmas.List.{length-take}
use Rattle.rule_model.specs.declared.IpVersion.TheVariants.{V4, V6}
use Rattle.script_lines.specs.declared.Line.{Line}
use Rattle.script_lines.specs.Lines.{numbered}
use Rattle.line_words.specs.Words.{◌>>=◌, is_blank, is_skipped, is_word}
use Rattle.line_words.specs.Notations.{notation_for}
use Rattle.line_words.specs.Kinds.{Notation}
use Rattle.line_words.specs.Commands.{common_command, line_of}
use Rattle.line_words.specs.declared.WordFault.{WordFault}
use Rattle.route_reader.specs.Grammar.{route_command}
use Rattle.acl_reader.specs.Grammar.{acl_command}
use Rattle.report_lines.specs.declared.Family.{Family}
use Rattle.report_lines.specs.declared.Family.TheVariants.{Route, Acl, Route6, Acl6}
use Rattle.replay.specs.declared.Act.{Act}
use Rattle.tcam_cli.specs.Readings.{acl_act, reading, reading_of, route_act}

-- words that are no command
abbrev IsRefused : {C : Type 0} → Result C WordFault → Type 0
IsRefused (Ok found) = ⊥
IsRefused (Err fault) = Unit {0}

-- and a line that is no act
abbrev IsNoAct : Result (Option Act) (List ℕ) → Type 0
IsNoAct (Ok None) = Unit {0}
IsNoAct (Ok (Some act)) = ⊥
IsNoAct (Err text) = Unit {0}

refused-if : {C : Type 0} (test : Bool) (one other : Result C WordFault) → IsRefused one → IsRefused other → IsRefused (cond test one other)
refused-if true one other first second = first
refused-if false one other first second = second

refused-else : {C : Type 0} (test : Bool) (one other : Result C WordFault) → test ≡ false → IsRefused other → IsRefused (cond test one other)
refused-else test one other is second = subst (λ some. IsRefused (cond some one other)) (sym is) second

refused-then : {C D : Type 0} (found : Result C WordFault) (more : C → Result D WordFault) → IsRefused found → IsRefused (found >>= more)
refused-then (Ok one) more refused = absurd refused
refused-then (Err fault) more refused = refused

-- a word of one byte is no longer one
and-none : (one : Bool) → (one && false) ≡ false
and-none true = refl
and-none false = refl

no-commit : (byte : ℕ) → bytes_eq (byte ∷ []) (codes "commit") ≡ false
no-commit byte = and-none (nat_eq byte 99)

-- a word of one byte alone is no command
common-refused : (notation : Notation) (byte : ℕ) → IsRefused (common_command notation (byte ∷ []) [])
common-refused notation byte =
    refused-if (bytes_eq (byte ∷ []) (codes "probe")) _ _ tt
    (refused-if (bytes_eq (byte ∷ []) (codes "packet")) _ _ tt
    (refused-if (bytes_eq (byte ∷ []) (codes "frame")) _ _ tt
    (refused-else (bytes_eq (byte ∷ []) (codes "commit")) _ _ (no-commit byte)
    (refused-if (bytes_eq (byte ∷ []) (codes "trial")) _ _ tt (refused-if (bytes_eq (byte ∷ []) (codes "crash")) _ _ tt tt)))))

route-refused : (notation : Notation) (byte : ℕ) → IsRefused (route_command notation ((byte ∷ []) ∷ []))
route-refused notation byte =
    refused-if (bytes_eq (byte ∷ []) (codes "route")) _ _ tt (refused-then (common_command notation (byte ∷ []) []) _ (common-refused notation byte))

acl-refused : (notation : Notation) (byte : ℕ) → IsRefused (acl_command notation ((byte ∷ []) ∷ []))
acl-refused notation byte =
    refused-if (bytes_eq (byte ∷ []) (codes "acl")) _ _ tt (refused-then (common_command notation (byte ∷ []) []) _ (common-refused notation byte))

-- a line of one byte is nothing, or that word
module _ {C : Type 0} (command : List (List ℕ) → Result C WordFault) (act : C → Act) (byte : ℕ) (refused : IsRefused (command ((byte ∷ []) ∷ []))) where
  by-answer : (found : Result C WordFault) → IsRefused found → IsNoAct (reading_of act (found >>= λ one. Ok (Some one)))
  by-answer (Ok one) bad = absurd bad
  by-answer (Err fault) bad = tt

  by-hash : (hash : Bool) → IsNoAct (reading_of act (cond hash (Ok None) (command ((byte ∷ []) ∷ []) >>= λ one. Ok (Some one))))
  by-hash true = tt
  by-hash false = by-answer (command ((byte ∷ []) ∷ [])) refused

  by-blank : (blank : Bool) → let words = filter is_word (cond blank ([] ∷ [] ∷ []) ((byte ∷ []) ∷ [])) in IsNoAct (reading_of act (cond (is_skipped words) (Ok None) (command words >>= λ one. Ok (Some one))))
  by-blank true = tt
  by-blank false = by-hash (byte == 35)

  one-byte : IsNoAct (reading_of act (line_of command (byte ∷ [])))
  one-byte = by-blank (is_blank byte)

short-none : (family : Family) (byte : ℕ) → IsNoAct (reading family (byte ∷ []))
short-none Route byte = one-byte (route_command (notation_for V4)) (route_act V4) byte (route-refused (notation_for V4) byte)
short-none Acl byte = one-byte (acl_command (notation_for V4)) acl_act byte (acl-refused (notation_for V4) byte)
short-none Route6 byte = one-byte (route_command (notation_for V6)) (route_act V6) byte (route-refused (notation_for V6) byte)
short-none Acl6 byte = one-byte (acl_command (notation_for V6)) acl_act byte (acl-refused (notation_for V6) byte)

empty-none : (family : Family) → IsNoAct (reading family [])
empty-none Route = tt
empty-none Acl = tt
empty-none Route6 = tt
empty-none Acl6 = tt

two-bytes : (family : Family) (text : List ℕ) (act : Act) → reading family text ≡ Ok (Some act) → 2 ≤ length text
two-bytes family [] act is = absurd (subst IsNoAct is (empty-none family))
two-bytes family (byte ∷ []) act is = absurd (subst IsNoAct is (short-none family byte))
two-bytes family (byte ∷ other ∷ rest) act is = omega arith

pub long-line : (family : Family) (line : Line) (act : Act) → reading family (numbered line).text ≡ Ok (Some act) → 2 ≤ line.len
long-line family line act is =
    let some = two-bytes family (take line.len line.bytes) act is in
    let size = length-take line.len line.bytes in
    let within = min-le_left line.len (length line.bytes) in
    omega (arith, some, size, within)
