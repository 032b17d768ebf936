-- What a line does, by its first word and one of the readers.
use Rattle.std.proofs.Common.{◌≡◌, ◌∙◌, ℕ, Bool, true, false, cond, inl, inr, List, ◌∷◌, codes, Some, None, Result, Ok, Err, refl, sym, ap}
use Rattle.std.specs.Prelude.{IsTrue}
use Rattle.std.specs.Str.{bytes_eq}
use Rattle.std.proofs.lemmas.Bool.{cases_Bool}
use Rattle.rule_model.specs.declared.IpVersion.{IpVersion}
use Rattle.line_words.specs.declared.WordFault.{WordFault}
use Rattle.line_words.specs.declared.WordFault.TheVariants.{UnknownCommand}
use Rattle.line_words.specs.Words.{◌>>=◌, words_of, is_skipped}
use Rattle.line_words.specs.Commands.{line_of}
use Rattle.line_words.specs.Notations.{notation_for}
use Rattle.route_reader.specs.Grammar.{route_command, route_line}
use Rattle.acl_reader.specs.Grammar.{acl_command, acl_line}
use Rattle.router.specs.declared.RouterAct.{RouterAct}
use Rattle.router_reader.specs.Readings.{acl_act, is_of_one_table, read_by, route_act, router_command}

-- a line that isn't skipped
pub unskipped : (words : List (List ℕ)) → (IsTrue (is_skipped words) → ⊥) → is_skipped words ≡ false
unskipped words none = elim (cases_Bool (is_skipped words)) [
  | inl is ↦ absurd (none is)
  | inr other ↦ other
]

-- what a reader's command does
joined : {C : Type 0} (act : C → Result RouterAct WordFault) (read : Result C WordFault)
    → read_by act (read >>= λ command. Ok (Some command)) ≡ ((read >>= λ command. act command) >>= λ found. Ok (Some found))
joined act (Ok command) = refl
joined act (Err fault) = refl

module _ (version : IpVersion) (words : List (List ℕ)) (first : List ℕ) (rest : List (List ℕ)) (are : words ≡ first ∷ rest) where
  -- the list's commands, and the others, of some words
  abbrev listed : List (List ℕ) → Result RouterAct WordFault
  listed some = acl_command (notation_for version) some >>= λ command. acl_act command

  abbrev routed : List (List ℕ) → Result RouterAct WordFault
  routed some = route_command (notation_for version) some >>= λ command. route_act version command

  command-list : is_of_one_table first ≡ false → bytes_eq first (codes "acl") ≡ true → router_command version words ≡ listed words
  command-list one acl =
      ap (router_command version) are
      ∙ ap (λ (b : Bool). cond b (Err UnknownCommand) (cond (bytes_eq first (codes "acl")) (listed (first ∷ rest)) (routed (first ∷ rest)))) one
      ∙ ap (λ (b : Bool). cond b (listed (first ∷ rest)) (routed (first ∷ rest))) acl
      ∙ sym (ap listed are)

  command-route : is_of_one_table first ≡ false → bytes_eq first (codes "acl") ≡ false → router_command version words ≡ routed words
  command-route one acl =
      ap (router_command version) are
      ∙ ap (λ (b : Bool). cond b (Err UnknownCommand) (cond (bytes_eq first (codes "acl")) (listed (first ∷ rest)) (routed (first ∷ rest)))) one
      ∙ ap (λ (b : Bool). cond b (listed (first ∷ rest)) (routed (first ∷ rest))) acl
      ∙ sym (ap routed are)

module _ (version : IpVersion) (text first : List ℕ) (rest : List (List ℕ)) (are : words_of text ≡ first ∷ rest) (solid : is_skipped (words_of text) ≡ false) where
  -- a line by what its words do
  by-words : (read : Result RouterAct WordFault) → router_command version (words_of text) ≡ read
      → (read >>= λ found. Ok (Some found)) ≡ line_of (router_command version) text
  by-words read is =
      ap (λ (r : Result RouterAct WordFault). r >>= λ found. Ok (Some found)) (sym is)
      ∙ sym (ap (λ (s : Bool). cond s (Ok None) (router_command version (words_of text) >>= λ found. Ok (Some found))) solid)

  pub list-line : is_of_one_table first ≡ false → bytes_eq first (codes "acl") ≡ true
      → read_by acl_act (acl_line (notation_for version) text) ≡ line_of (router_command version) text
  list-line one acl =
      ap (λ (s : Bool). read_by acl_act (cond s (Ok None) (acl_command (notation_for version) (words_of text) >>= λ command. Ok (Some command)))) solid
      ∙ joined acl_act (acl_command (notation_for version) (words_of text))
      ∙ by-words _ (command-list version (words_of text) first rest are one acl)

  pub route-line : is_of_one_table first ≡ false → bytes_eq first (codes "acl") ≡ false
      → read_by (route_act version) (route_line (notation_for version) text) ≡ line_of (router_command version) text
  route-line one acl =
      ap (λ (s : Bool). read_by (route_act version) (cond s (Ok None) (route_command (notation_for version) (words_of text) >>= λ command. Ok (Some command)))) solid
      ∙ joined (route_act version) (route_command (notation_for version) (words_of text))
      ∙ by-words _ (command-route version (words_of text) first rest are one acl)
